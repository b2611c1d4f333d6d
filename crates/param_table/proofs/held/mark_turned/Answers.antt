use Rattle.std.proofs.Common.{◌<◌, ◌==◌, ◌&&◌, not, length, get_or, ap, ◌∙◌, arith}
use Rattle.wakes.specs.Marks.{is_marked}
use Rattle.param_table.specs.declared.mailbox.Listener.{Listener}
use Rattle.param_table.specs.HeldValues.{says_same}
use Rattle.param_table.proofs.Listeners.{any_marked}
use Rattle.param_table.proofs.held.mark_turned.Goals as goal

abbrev none : Listener
none = record { mask = 0; stale = 0; place = 0; param = 0; modes = 0 }

pub loop-i-preserved : goal.loop-i-preserved
loop-i-preserved c =
    let ls = c.args.listeners.now in
    let i = c.loop-i.i in
    let less : i < length ls = omega arith in
    record {
      room = c.mark_summed.ensures.room ∙ c.loop-i.invariant.room;
      marks = λ p.
          c.mark_summed.ensures.marks p
          ∙ any_marked (λ (x : Listener). p == x.param && not (says_same x c.args.old c.args.new)) ls i none (p == c.from.result && not c.says_same-turns.result) (is_marked c.loop-i.changed p) (is_marked c.args.changed.now p) less
          (ap (λ n. p == n && not c.says_same-turns.result) c.from.ensures ∙ ap (λ b. p == (get_or ls i none).param && not b) c.says_same-turns.ensures) (c.loop-i.invariant.marks p);
      summed = λ was. c.mark_summed.ensures.summed (c.loop-i.invariant.summed was);
    }
