use Rattle.std.proofs.Common.{◌≡◌, ◌<◌, ◌==◌, ◌&&◌, length, get_or, ap, ◌∙◌, arith, inl, inr}
use Rattle.std.proofs.lemmas.Bool.{cases_lt}
use Rattle.std.proofs.lemmas.List.{get_or_default}
use Rattle.wakes.specs.Marks.{is_marked}
use Rattle.param_table.specs.declared.mailbox.Listener.{Listener}
use Rattle.param_table.specs.HeldValues.{is_ending, held_for, next_look}
use Rattle.param_table.proofs.Listeners.{any_marked}
use Rattle.param_table.proofs.Steps.{next_later, next_due}
use Rattle.param_table.proofs.held.mark_ending.Goals as goal

abbrev none : Listener
none = record { mask = 0; stale = 0; place = 0; param = 0; modes = 0 }

pub loop-i-preserved : goal.loop-i-preserved
loop-i-preserved c =
    let ls = c.args.listeners.now in
    let i = c.loop-i.i in
    let l = get_or ls i none in
    let clock = c.args.clock in
    let held = held_for c.args.mailbox l.stale in
    let less : i < length ls = omega arith in
    let ends : c.is_ending-ends.result ≡ is_ending clock held = c.is_ending-ends.ensures ∙ ap (is_ending clock) c.held_for-received.ensures in
    let next : c.next_look.result ≡ next_look clock held = c.next_look.ensures ∙ ap (next_look clock) c.held_for-received.ensures in
    record {
      room = c.mark_summed.ensures.room ∙ c.loop-i.invariant.room;
      marks = λ p.
          c.mark_summed.ensures.marks p
          ∙ any_marked (λ (x : Listener). p == x.param && is_ending clock (held_for c.args.mailbox x.stale)) ls i none (p == c.from.result && c.is_ending-ends.result) (is_marked c.loop-i.changed p) (is_marked c.args.changed.now p) less
          (ap (λ n. p == n && c.is_ending-ends.result) c.from.ensures ∙ ap (λ b. p == l.param && b) ends) (c.loop-i.invariant.marks p);
      summed = λ was. c.mark_summed.ensures.summed (c.loop-i.invariant.summed was);
      later = omega (arith, c.loop-i.invariant.later, next, next_later clock held c.ranges.clock.fits, c.min-next.ensures);
      due = λ k d below fresh. elim (cases_lt k i) [
        | inl before ↦ omega (arith, c.loop-i.invariant.due k d before fresh, c.min-next.ensures)
        | inr here ↦
            let at : get_or ls k d ≡ l = (let same : k ≡ i = omega (arith, below, here) in ap (λ n. get_or ls n d) same) ∙ get_or_default ls i d none less in
            let end : (held_for c.args.mailbox (get_or ls k d).stale).end ≡ held.end = ap (λ (x : Listener). (held_for c.args.mailbox x.stale).end) at in
            omega (arith, end, next, next_due clock held (omega (arith, fresh, end)), c.min-next.ensures)
      ];
    }
