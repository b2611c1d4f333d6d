use Rattle.std.proofs.Common.{[], ◌∷◌}
use Rattle.std.specs.Prelude.{codes}
use Rattle.ecam_spec.specs.declared.kinds.Colour.TheVariants.{Amber}
use Rattle.ecam_spec.specs.Picture.{row, dead}
use Rattle.zone_rows.specs.Tracked.{tracked}
use Rattle.zone_rows.proofs.Filling.{fill-none}
use Rattle.zone_rows.proofs.Zones.{zone_long}
use Rattle.fwc_pair.proofs.Faces.{mended-all}
use Rattle.fwc_pair.proofs.face.mend_dead.Goals as goal

pub returns-clause-mended : goal.returns-clause-mended
unfolding dead
returns-clause-mended c =
    let start = tracked c.args.rows.now c.args.changed.now in
    let rows = row Amber (codes "FWS FWC 1+2 FAULT") ∷ [] in
    mended-all dead start _ c.requires.whole.rows (zone_long 36 rows)
    (c.blank_rest.ensures.zone rows start (c.put_next-count.ensures.put [] start (fill-none 0 36 start)))
