use Rattle.std.proofs.Common.{◌≡◌, ◌<◌, ◌==◌, ◌&&◌, not, ltb, length, get_or, ap, ◌∙◌, arith}
use Rattle.wakes.specs.Marks.{is_marked}
use Rattle.param_table.specs.declared.mailbox.Listener.{Listener}
use Rattle.param_table.specs.declared.received.Received.{Received}
use Rattle.param_table.specs.HeldValues.{keeps_saying, held_for}
use Rattle.param_table.proofs.Listeners.{any_marked}
use Rattle.param_table.proofs.held.mark_begun.Goals as goal

abbrev none : Listener
none = record { mask = 0; stale = 0; place = 0; param = 0; modes = 0 }

pub loop-i-preserved : goal.loop-i-preserved
loop-i-preserved c =
    let ls = c.args.listeners.now in
    let i = c.loop-i.i in
    let l = get_or ls i none in
    let before = c.args.before in
    let less : i < length ls = omega arith in
    let fresh : c.is_fresh-fresh.result ≡ ltb c.args.clock (held_for before l.stale).end = c.is_fresh-fresh.ensures ∙ ap (λ (r : Received). ltb c.args.clock r.end) c.held_for.ensures in
    record {
      room = c.mark_summed.ensures.room ∙ c.loop-i.invariant.room;
      marks = λ p.
          c.mark_summed.ensures.marks p
          ∙ any_marked (λ (x : Listener). p == x.param && not (keeps_saying c.args.clock c.args.bits before x)) ls i none (p == c.from.result && not (c.is_fresh-fresh.result && c.says_same.result)) (is_marked c.loop-i.changed p) (is_marked c.args.changed.now p) less
          (ap (λ n. p == n && not (c.is_fresh-fresh.result && c.says_same.result)) c.from.ensures
          ∙ ap (λ b. p == l.param && not (b && c.says_same.result)) fresh
          ∙ ap (λ b. p == l.param && not (ltb c.args.clock (held_for before l.stale).end && b)) c.says_same.ensures) (c.loop-i.invariant.marks p);
      summed = λ was. c.mark_summed.ensures.summed (c.loop-i.invariant.summed was);
    }
