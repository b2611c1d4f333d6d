-- The rows of the master lights and of the aural warning. Their words are this project's own.
use Rattle.std.specs.Prelude.{Bool, List, [], ◌∷◌, codes, if◌then◌else◌}
use Rattle.ecam_spec.specs.declared.kinds.Colour.TheVariants.{Red, Amber, White}
use Rattle.ecam_spec.specs.declared.kinds.Sound.{Sound}
use Rattle.ecam_spec.specs.declared.kinds.Sound.TheVariants.{Quiet, Chime, Repetitive, Cavalry, Cricket}
use Rattle.ecam_spec.specs.Picture.{Row, row, blank_row}

abbrev pub sound_row : Sound → Row
sound_row Quiet = blank_row
sound_row Chime = row White (codes "SC")
sound_row Repetitive = row White (codes "CRC")
sound_row Cavalry = row White (codes "CAV")
sound_row Cricket = row White (codes "CRI")

-- MW, MC and AU
unfoldable pub lamp_rows : Bool → Bool → Sound → List Row
lamp_rows warns cautions sound =
    (if warns then row Red (codes "MASTER WARN") else blank_row)
    ∷ (if cautions then row Amber (codes "MASTER CAUT") else blank_row)
    ∷ sound_row sound
    ∷ []
