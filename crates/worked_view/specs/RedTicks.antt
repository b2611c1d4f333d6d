-- What the view of red rows writes.
use Rattle.std.specs.Prelude.{ℕ, Bool, true, false, List, ◌++◌, codes, decimal}
use Rattle.std.specs.List.{list_any}
use Rattle.ecam_spec.specs.declared.kinds.Event.{Event}
use Rattle.ecam_spec.specs.declared.kinds.Colour.{Colour}
use Rattle.ecam_spec.specs.declared.kinds.Colour.TheVariants.{Red}
use Rattle.ecam_spec.specs.Book.{Text, Book}
use Rattle.ecam_spec.specs.Picture.{Picture}
use Rattle.ecam_spec.specs.Output.{line}
use Rattle.ecam_spec.specs.Replay.{picture_at}
use Rattle.view_spec.specs.Ticks.{count_ticks}

abbrev pub is_red : Colour → Bool
is_red Red = true
is_red _ = false

-- a row of the picture is red
abbrev pub has_red : Picture → Bool
has_red p = list_any (λ r. is_red r.colour) p

-- how many Ticks of a history have such a picture
abbrev pub red_ticks : Book → List Event → ℕ
red_ticks b h = count_ticks (λ g. has_red (picture_at b g)) h

-- the line that tells it
abbrev pub red_line : Book → List Event → Text
red_line b h = line (codes "RED " ++ decimal (red_ticks b h))
