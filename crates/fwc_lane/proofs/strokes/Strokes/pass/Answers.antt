use Rattle.std.proofs.Common.{refl}
use Rattle.ecam_kinds.proofs.Strokes.{moment_stands}
use Rattle.fwc_lane.proofs.strokes.Strokes.pass.Goals as goal

pub returns : goal.returns
returns c = λ strokes k none stands. moment_stands strokes k c.args.self.now c.args.self.now none c.requires (λ q is. refl) stands
