use Rattle.std.proofs.Common.{◌∙◌, sym}
use Rattle.ecam_spec.specs.Keys.{key_number}
use Rattle.ecam_kinds.proofs.Strokes.{any-set, none-set}
use Rattle.ecam_kinds.proofs.keys.Keys.any_pressed.Goals as goal

pub returns-clause-value : goal.returns-clause-value
returns-clause-value c = c.contains.ensures.value ∙ any-set c.args.self.now.pressed

pub returns-clause-none : goal.returns-clause-none
returns-clause-none c = λ off key.
    none-set c.args.self.now.pressed (key_number key) (sym (c.contains.ensures.value ∙ any-set c.args.self.now.pressed) ∙ off)
