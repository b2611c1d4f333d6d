use Rattle.ecam_kinds.proofs.Strokes.{moment_stands}
use Rattle.ecam_kinds.proofs.keys.Keys.tick.Goals as goal

pub returns-clause-stands : goal.returns-clause-stands
returns-clause-stands c = λ strokes k none stands.
    moment_stands strokes k c.args.self.now c.forget_presses.new.self none c.forget_presses.ensures.pressed c.forget_presses.ensures.held stands
