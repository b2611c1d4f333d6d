use Rattle.std.proofs.Common.{refl, subst}
use Rattle.ecam_kinds.proofs.Strokes.{moment_stands}
use Rattle.fwc_lane.specs.Strokes.{NonePressed}
use Rattle.fwc_lane.proofs.strokes.Strokes.tick.Goals as goal

pub returns-else-self : goal.returns-else-self
returns-else-self c = λ strokes k none stands.
    moment_stands strokes k c.args.self.now c.args.self.now none (subst NonePressed c.self.view_is (c.self.invariant c.if-self.false)) (λ q is. refl) stands
