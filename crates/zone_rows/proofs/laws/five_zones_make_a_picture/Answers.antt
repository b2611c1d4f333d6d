use Rattle.zone_rows.proofs.Zones.{five_zones}
use Rattle.zone_rows.proofs.laws.five_zones_make_a_picture.Goals as goal

pub returns : goal.returns
returns c = five_zones
