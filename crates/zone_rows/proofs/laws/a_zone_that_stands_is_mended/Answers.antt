use Rattle.zone_rows.proofs.Mending.{mends_kept}
use Rattle.zone_rows.proofs.laws.a_zone_that_stands_is_mended.Goals as goal

pub returns : goal.returns
returns c = mends_kept
