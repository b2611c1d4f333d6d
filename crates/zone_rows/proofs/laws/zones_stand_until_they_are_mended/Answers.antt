use Rattle.zone_rows.proofs.Zones.{zones_stand, stands_behind}
use Rattle.zone_rows.proofs.laws.zones_stand_until_they_are_mended.Goals as goal

pub returns-clause-stand : goal.returns-clause-stand
returns-clause-stand c = zones_stand

pub returns-clause-behind : goal.returns-clause-behind
returns-clause-behind c = stands_behind
