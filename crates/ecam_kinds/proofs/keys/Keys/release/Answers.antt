use Rattle.std.proofs.Common.{◌∙◌}
use Rattle.ecam_spec.specs.Keys.{same_key}
use Rattle.ecam_kinds.specs.KeyState.{is_pressed, is_held}
use Rattle.ecam_kinds.proofs.Strokes.{stroke_stands, or-up, cond-up}
use Rattle.ecam_kinds.proofs.keys.Keys.release.Goals as goal

pub returns-clause-stands : goal.returns-clause-stands
returns-clause-stands c = λ old new k on stands.
    let before = c.args.self.now in
    stroke_stands old new k _ before c.set_up.new.self on
    (λ q is. c.set_up.ensures.pressed q is ∙ or-up (same_key q c.args.key) (is_pressed before q))
    (λ q is. c.set_up.ensures.held q is ∙ cond-up (same_key q c.args.key) (is_held before q))
    stands
