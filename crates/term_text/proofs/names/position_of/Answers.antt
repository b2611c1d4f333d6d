use Rattle.std.proofs.Common.{refl}
use Rattle.term_text.proofs.names.position_of.Goals as goal

pub loop-i-init : goal.loop-i-init
loop-i-init c = refl
