use Rattle.std.proofs.Common.{◌≡◌, ◌+◌, ◌++◌, length, get_or, cond, take, refl, sym, ◌∙◌, ap, arith, append-nil, add_assoc}
use Rattle.view_spec.specs.declared.flight_report.TheConstants.{ENTRIES}
use Rattle.view_spec.specs.FlightReport.{entries_of}
use Rattle.flight_report.proofs.Entries.{comes, so_far, so_far-all, count-more, entries-more, one-at-most}
use Rattle.flight_report.proofs.flight.Flight.note.Goals as goal

pub loop-i-init : goal.loop-i-init
loop-i-init c = record {
  number = refl;
  from = refl;
  onsets = omega arith;
  few = omega arith;
  entries = λ es is. is ∙ sym (ap (take ENTRIES) (append-nil es));
}

pub add_if-requires : goal.add_if-requires
add_if-requires c = omega (arith, c.loop-i.invariant.few, c.loop-i-test.true, c.requires.room)

pub loop-i-preserved : goal.loop-i-preserved
loop-i-preserved c =
    let order = c.args.order.now in
    let was = c.args.was.now in
    let up = c.args.up.now in
    let here = c.loop-i.invariant in
    let added = c.add_if.ensures in
    record {
      number = added.number ∙ here.number;
      from = added.from ∙ here.from;
      onsets =
          added.onsets
          ∙ ap (λ n. n + cond (comes order was up (get_or order c.loop-i.i 0)) 1 0) here.onsets
          ∙ add_assoc c.args.self.now.onsets (length (so_far order was up c.loop-i.i)) (cond (comes order was up (get_or order c.loop-i.i 0)) 1 0)
          ∙ ap (λ n. c.args.self.now.onsets + n) (sym (count-more order was up c.loop-i.i c.loop-i-test.true));
      few = omega (arith, here.few, added.onsets, one-at-most (comes order was up (get_or order c.loop-i.i 0)));
      entries = λ es is.
          added.entries (es ++ entries_of c.args.tick c.args.phase.number (so_far order was up c.loop-i.i)) (here.entries es is)
          ∙ ap (take ENTRIES) (sym (entries-more order was up c.loop-i.i c.args.tick c.args.phase.number es c.loop-i-test.true));
    }

pub returns-clause-number : goal.returns-clause-number
returns-clause-number c = c.loop-i.invariant.number

pub returns-clause-from : goal.returns-clause-from
returns-clause-from c = c.loop-i.invariant.from

pub returns-clause-onsets : goal.returns-clause-onsets
returns-clause-onsets c =
    let all : c.loop-i.i ≡ length c.args.order.now = omega (arith, c.loop-i-test.false, c.loop-i.auto.i-end) in
    c.loop-i.invariant.onsets ∙ ap (λ xs. c.args.self.now.onsets + length xs) (so_far-all c.args.order.now c.args.was.now c.args.up.now c.loop-i.i all)

pub returns-clause-entries : goal.returns-clause-entries
returns-clause-entries c = λ es is.
    let all : c.loop-i.i ≡ length c.args.order.now = omega (arith, c.loop-i-test.false, c.loop-i.auto.i-end) in
    c.loop-i.invariant.entries es is
    ∙ ap (λ xs. take ENTRIES (es ++ entries_of c.args.tick c.args.phase.number xs)) (so_far-all c.args.order.now c.args.was.now c.args.up.now c.loop-i.i all)
