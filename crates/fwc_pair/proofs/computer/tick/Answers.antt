use Rattle.std.proofs.Common.{◌+◌, ◌-◌, ◌^◌, min, cond, length, sym, ap, ◌∙◌}
use Rattle.ecam_spec.specs.declared.kinds.Event.TheVariants.{Tick}
use Rattle.ecam_spec.specs.History.{era_with}
use Rattle.ecam_spec.specs.Replay.{moment_of}
use Rattle.book_model.specs.Sealed.{the_book}
use Rattle.fwc_lane.specs.Visits.{visits}
use Rattle.fwc_pair.specs.PairVisits.{visited}
use Rattle.fwc_pair.proofs.computer.tick.Goals as goal

pub returns-then-up-clause-visits : goal.returns-then-up-clause-visits
returns-then-up-clause-visits c = λ e here stands.
    c.tick.ensures.visits e here (stands c.if-up.true)
    ∙ sym (ap (λ u. cond u (min (visited c.args.lane.now + visits (the_book c.args.book.now) (moment_of (era_with e Tick)) (length e.moments)) (2 ^ 64 - 1)) (visited c.args.lane.now)) c.if-up.true)

pub returns-else-up-clause-visits : goal.returns-else-up-clause-visits
returns-else-up-clause-visits c = λ e here stands.
    sym (ap (λ u. cond u (min (visited c.args.lane.now + visits (the_book c.args.book.now) (moment_of (era_with e Tick)) (length e.moments)) (2 ^ 64 - 1)) (visited c.args.lane.now)) c.if-up.false)

pub returns-then-up-clause-stands : goal.returns-then-up-clause-stands
returns-then-up-clause-stands c = λ e ups was on. c.tick.ensures.stands e ups (was on)
