use Rattle.std.proofs.Common.{refl, ap}
use Rattle.ecam_spec.specs.History.{flags_with, comes_up}
use Rattle.book_model.specs.Sealed.{the_book}
use Rattle.fwc_pair.proofs.Fitting.{fail-fits}
use Rattle.fwc_pair.proofs.Pairs.{failed, fail-flags, quiet-up}
use Rattle.fwc_pair.proofs.VisitSteps.{fail-visits}
use Rattle.fwc_pair.proofs.pair.Pair.note_health.Goals as goal

pub returns-in-Fail-clause-flags : goal.returns-in-Fail-clause-flags
returns-in-Fail-clause-flags c = rw c.in-Fail.is (fail-flags c.in-Fail.computer c.args.self.now c.fail.new.self c.fail.ensures)

pub returns-in-Fail-clause-stands : goal.returns-in-Fail-clause-stands
returns-in-Fail-clause-stands c = λ h same up.
    rw c.in-Fail.is (failed (the_book c.args.book.now) h c.in-Fail.computer c.args.self.now c.fail.new.self c.fail.ensures up)

pub returns-in-Up-clause-flags : goal.returns-in-Up-clause-flags
unfolding flags_with
returns-in-Up-clause-flags c = rw c.in-Up.is c.wake.ensures.flags

pub returns-in-Word-clause-flags : goal.returns-in-Word-clause-flags
unfolding flags_with
returns-in-Word-clause-flags c = rw c.in-Word.is refl

pub returns-in-Word-clause-stands : goal.returns-in-Word-clause-stands
returns-in-Word-clause-stands c = λ h same up. quiet-up (the_book c.args.book.now) h c.args.event.now c.args.self.now (ap comes_up c.in-Word.is) up

pub returns-in-Tick-clause-flags : goal.returns-in-Tick-clause-flags
unfolding flags_with
returns-in-Tick-clause-flags c = rw c.in-Tick.is refl

pub returns-in-Tick-clause-stands : goal.returns-in-Tick-clause-stands
returns-in-Tick-clause-stands c = λ h same up. quiet-up (the_book c.args.book.now) h c.args.event.now c.args.self.now (ap comes_up c.in-Tick.is) up

pub returns-in-Press-clause-flags : goal.returns-in-Press-clause-flags
unfolding flags_with
returns-in-Press-clause-flags c = rw c.in-Press.is refl

pub returns-in-Press-clause-stands : goal.returns-in-Press-clause-stands
returns-in-Press-clause-stands c = λ h same up. quiet-up (the_book c.args.book.now) h c.args.event.now c.args.self.now (ap comes_up c.in-Press.is) up

pub returns-in-Release-clause-flags : goal.returns-in-Release-clause-flags
unfolding flags_with
returns-in-Release-clause-flags c = rw c.in-Release.is refl

pub returns-in-Release-clause-stands : goal.returns-in-Release-clause-stands
returns-in-Release-clause-stands c = λ h same up. quiet-up (the_book c.args.book.now) h c.args.event.now c.args.self.now (ap comes_up c.in-Release.is) up

pub returns-in-End-clause-flags : goal.returns-in-End-clause-flags
unfolding flags_with
returns-in-End-clause-flags c = rw c.in-End.is refl

pub returns-in-End-clause-stands : goal.returns-in-End-clause-stands
returns-in-End-clause-stands c = λ h same up. quiet-up (the_book c.args.book.now) h c.args.event.now c.args.self.now (ap comes_up c.in-End.is) up

pub returns-in-Fail-clause-unvisited : goal.returns-in-Fail-clause-unvisited
returns-in-Fail-clause-unvisited c = fail-visits c.in-Fail.computer c.args.self.now c.fail.new.self c.fail.ensures

pub returns-in-Fail-clause-fits : goal.returns-in-Fail-clause-fits
returns-in-Fail-clause-fits c = fail-fits (the_book c.args.book.now) c.in-Fail.computer c.args.self.now c.fail.new.self c.fail.ensures c.requires

pub returns-in-Up-clause-stands : goal.returns-in-Up-clause-stands
returns-in-Up-clause-stands c = λ h same up. rw c.in-Up.is (c.wake.ensures.stands h same up)
