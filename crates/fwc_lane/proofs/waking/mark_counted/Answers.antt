use Rattle.std.proofs.Common.{◌≡◌, ◌+◌, ◌-◌, ◌^◌, min, if◌then◌else◌, sym, ap, ◌∙◌}
use Rattle.fwc_lane.proofs.Counting.{counted-put}
use Rattle.fwc_lane.proofs.waking.mark_counted.Goals.{then-is_new, else-is_new}
use Rattle.fwc_lane.proofs.waking.mark_counted.Goals as goal

pub returns-clause-counts : goal.returns-clause-counts
returns-clause-counts c = λ ps visited inside sizes.
    let count : c.if-is_new.count ≡ (if c.put-is_new.result then c.args.size else 0) = elim c.if-is_new.branch [
      | then-is_new w ↦ w.count-is ∙ sym (ap (λ b. if b then c.args.size else 0) w.if-is_new.true)
      | else-is_new w ↦ w.count-is ∙ sym (ap (λ b. if b then c.args.size else 0) w.if-is_new.false)
    ] in
    counted-put ps c.args.woken.now c.put-is_new.new.self c.args.term c.args.size visited c.args.cells.now.visits c.count.new.self.visits c.put-is_new.result inside sizes
    c.put-is_new.ensures.new c.put-is_new.ensures.marks (c.count.ensures.visits ∙ ap (λ n. min (c.args.cells.now.visits + n) (2 ^ 64 - 1)) count)
