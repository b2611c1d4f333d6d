use Rattle.ecam_kinds.proofs.Strokes.{none_stand}
use Rattle.ecam_kinds.proofs.keys.Keys.new.Goals as goal

pub returns-clause-stands : goal.returns-clause-stands
returns-clause-stands c = λ strokes none. none_stand strokes c.none.result none c.none.ensures.pressed c.none.ensures.held
