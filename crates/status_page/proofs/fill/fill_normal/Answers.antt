use Rattle.std.proofs.Common.{[], ◌∷◌}
use Rattle.std.specs.Prelude.{codes}
use Rattle.ecam_spec.specs.declared.kinds.Colour.TheVariants.{Green}
use Rattle.ecam_spec.specs.Picture.{row}
use Rattle.zone_rows.specs.Tracked.{tracked}
use Rattle.zone_rows.proofs.Filling.{fill-none}
use Rattle.status_page.proofs.fill.fill_normal.Goals as goal

pub returns-clause-rows : goal.returns-clause-rows
returns-clause-rows c =
    let start = tracked c.args.rows.now c.args.changed.now in
    c.blank_rest.ensures.zone (row Green (codes "NORMAL") ∷ []) start (c.put_next-count.ensures.put [] start (fill-none 15 18 start))
