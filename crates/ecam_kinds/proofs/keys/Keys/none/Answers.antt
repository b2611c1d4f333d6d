use Rattle.ecam_spec.specs.Keys.{key_number}
use Rattle.ecam_kinds.proofs.Strokes.{none_true}
use Rattle.ecam_kinds.proofs.keys.Keys.none.Goals as goal

pub returns-clause-pressed : goal.returns-clause-pressed
returns-clause-pressed c = λ q is. none_true 25 (key_number q)

pub returns-clause-held : goal.returns-clause-held
returns-clause-held c = λ q is. none_true 25 (key_number q)
