use Rattle.std.proofs.Common.{[], ◌∷◌, cond, arith}
use Rattle.std.specs.Prelude.{codes}
use Rattle.ecam_spec.specs.declared.kinds.Colour.TheVariants.{Red, Amber}
use Rattle.ecam_spec.specs.Picture.{row, blank_row}
use Rattle.ecam_spec.specs.LampRows.{lamp_rows, sound_row}
use Rattle.zone_rows.proofs.Mending.{mends-both}
use Rattle.warning_display.proofs.lamps.fill_rows.Goals as goal

pub returns-clause-rows : goal.returns-clause-rows
unfolding lamp_rows
returns-clause-rows c =
    let warn = cond c.args.warn (row Red (codes "MASTER WARN")) blank_row in
    let caut = cond c.args.caut (row Amber (codes "MASTER CAUT")) blank_row in
    let lights = mends-both 33 (warn ∷ []) (caut ∷ []) _ _ _ (omega (arith, c.requires.whole.rows)) c.set_lamp.ensures.row c.set_lamp-2.ensures.row in
    mends-both 33 (warn ∷ caut ∷ []) (sound_row c.args.sound ∷ []) _ _ _ (omega (arith, c.requires.whole.rows)) lights c.set_sound.ensures.row
