use Rattle.std.proofs.Common.{◌<◌, ◌++◌, [], ◌∷◌, append-nil, append_assoc, length, refl, ap, ◌∙◌, sym, arith}
use Rattle.book_model.specs.Parts.{has_level}
use Rattle.book_model.proofs.LevelPlaces.{filter_below-none, filter_below-more, has_level-at}
use Rattle.book_model.proofs.parts.add_level.Goals as goal
use Rattle.book_model.proofs.parts.add_level.Goals.{then-is_level+in_ok-push, else-is_level}

pub loop-i-init : goal.loop-i-init
loop-i-init c = rw (filter_below-none (has_level c.args.alerts.now c.args.level), append-nil) refl

pub loop-i-preserved : goal.loop-i-preserved
loop-i-preserved c =
    let within : c.loop-i.i < length c.args.alerts.now = omega arith in
    let alert = c.index-alerts-i.result in
    let more = filter_below-more (has_level c.args.alerts.now c.args.level) c.loop-i.i in
    let level = has_level-at c.args.alerts.now c.args.level c.loop-i.i alert within c.index-alerts-i.is in
    elim c.if-is_level.branch [
      | then-is_level+in_ok-push w ↦
          let here = level ∙ sym w.if-is_level.ensures in
          rw (more, here) (ap (λ v. v.items) w.order-is ∙ w.in_ok-push.ensures.items
          ∙ ap (λ xs. xs ++ c.loop-i.i ∷ []) c.loop-i.invariant ∙ append_assoc c.args.order.now.items _ _)
      | else-is_level w ↦
          let here = level ∙ sym w.if-is_level.ensures in
          rw (more, here, append-nil) (ap (λ v. v.items) w.order-is ∙ c.loop-i.invariant)
    ]
