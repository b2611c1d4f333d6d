-- The picture: 36 rows, each with a colour and a text, or blank. The zones are the A320's (DSC-31); the number
-- of their rows is this project's own.
use Rattle.std.specs.Prelude.{ℕ, Bool, ◌&&◌, List, [], ◌∷◌, ◌++◌, take, replicate, codes}
use Rattle.std.specs.Cmp.Lexicographic.{pointwise}
use Rattle.ecam_spec.specs.declared.kinds.Colour.{Colour}
use Rattle.ecam_spec.specs.declared.kinds.Colour.TheVariants.{Red, Amber, Green, White, Cyan, Magenta, Blank}
use Rattle.ecam_spec.specs.declared.limits.TheConstants.{PICTURE_ROWS}
use Rattle.ecam_spec.specs.Bytes.{same_text}
use Rattle.ecam_spec.specs.Book.{Text}

pub record Row : Type 0 where
  pub colour : Colour
  pub text : Text

abbrev pub row : Colour → Text → Row
row c t = record { colour = c; text = t }

abbrev pub blank_row : Row
blank_row = row Blank []

-- the rows in the picture's order: seven left, seven right, the flags, eighteen of the system display, the
-- two master lights, the aural warning
abbrev pub Picture : Type 0
Picture = List Row

unfoldable pub blank : Picture
blank = replicate PICTURE_ROWS blank_row

-- n rows of a zone: the first of these, and blank ones after them
unfoldable pub zone : ℕ → List Row → List Row
zone n rows = take n (rows ++ replicate n blank_row)

-- while no computer is up
unfoldable pub dead : Picture
dead = zone PICTURE_ROWS (row Amber (codes "FWS FWC 1+2 FAULT") ∷ [])

abbrev pub colour_letter : Colour → Text
colour_letter Red = codes "R"
colour_letter Amber = codes "A"
colour_letter Green = codes "G"
colour_letter White = codes "W"
colour_letter Cyan = codes "C"
colour_letter Magenta = codes "M"
colour_letter Blank = codes "-"

abbrev pub same_row : Row → Row → Bool
same_row a b = same_text (colour_letter a.colour) (colour_letter b.colour) && same_text a.text b.text

abbrev pub same_picture : Picture → Picture → Bool
same_picture = pointwise same_row
