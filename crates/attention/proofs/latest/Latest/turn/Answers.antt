use Rattle.std.proofs.Common.{◌||◌, sym, ◌∙◌, ap, subst}
use Rattle.std.proofs.Math.Bool.{or-false}
use Rattle.attention.specs.Calling.{rings_in}
use Rattle.attention.specs.Latest.{Tells}
use Rattle.attention.proofs.Turning.{tells-same}
use Rattle.attention.proofs.latest.Latest.turn.Goals as goal
use Rattle.attention.proofs.latest.Latest.turn.Goals.{in-Some, in_default}

pub returns-in-Some-after : goal.returns-in-Some-after
returns-in-Some-after c = λ others ends tells.
    let left : Tells others c.match-before.self = elim c.match-before.branch [
      | in-Some w ↦
          subst (Tells others) (sym w.self-is)
          (w.leave.ensures others ends (subst (λ b. Tells (λ j. others j || rings_in j b) c.args.self.now) w.in-Some.is tells))
      | in_default w ↦
          subst (Tells others) (sym w.self-is)
          (tells-same _ _ _ (λ j. ap (λ b. others j || rings_in j b) w.in_default.is ∙ or-false (others j)) tells)
    ] in
    subst (λ b. Tells (λ j. others j || rings_in j b) c.come.new.self) (sym c.in-Some-after.is) (c.come.ensures others left)

pub returns-in_default-after : goal.returns-in_default-after
returns-in_default-after c = λ others ends tells.
    let left : Tells others c.match-before.self = elim c.match-before.branch [
      | in-Some w ↦
          subst (Tells others) (sym w.self-is)
          (w.leave.ensures others ends (subst (λ b. Tells (λ j. others j || rings_in j b) c.args.self.now) w.in-Some.is tells))
      | in_default w ↦
          subst (Tells others) (sym w.self-is)
          (tells-same _ _ _ (λ j. ap (λ b. others j || rings_in j b) w.in_default.is ∙ or-false (others j)) tells)
    ] in
    tells-same others _ _ (λ j. sym (ap (λ b. others j || rings_in j b) c.in_default-after.is ∙ or-false (others j))) left
