-- The output: for each Tick whose picture differs from that of the Tick before, a block of the changed rows.
-- Its form is this project's own.
use Rattle.std.specs.Prelude.{ℕ, zero, suc, List, [], ◌∷◌, ◌++◌, codes, decimal, if◌then◌else◌}
use Rattle.ecam_spec.specs.declared.kinds.Colour.{Colour}
use Rattle.ecam_spec.specs.declared.kinds.Colour.TheVariants.{Blank}
use Rattle.ecam_spec.specs.Book.{Text}
use Rattle.ecam_spec.specs.Picture.{Row, Picture, blank, colour_letter, same_row, same_picture}

-- a line of the output is a text and a line feed
abbrev pub line : Text → Text
line t = t ++ 10 ∷ []

-- the names of the rows, in the picture's order
unfoldable pub row_names : List Text
row_names =
    codes "L1" ∷ codes "L2" ∷ codes "L3" ∷ codes "L4" ∷ codes "L5" ∷ codes "L6" ∷ codes "L7"
    ∷ codes "R1" ∷ codes "R2" ∷ codes "R3" ∷ codes "R4" ∷ codes "R5" ∷ codes "R6" ∷ codes "R7"
    ∷ codes "FL"
    ∷ codes "S01" ∷ codes "S02" ∷ codes "S03" ∷ codes "S04" ∷ codes "S05" ∷ codes "S06"
    ∷ codes "S07" ∷ codes "S08" ∷ codes "S09" ∷ codes "S10" ∷ codes "S11" ∷ codes "S12"
    ∷ codes "S13" ∷ codes "S14" ∷ codes "S15" ∷ codes "S16" ∷ codes "S17" ∷ codes "S18"
    ∷ codes "MW" ∷ codes "MC" ∷ codes "AU" ∷ []

-- a row's colour letter and its text; a blank row has a dash alone
abbrev pub row_text : Colour → Text → Text
row_text Blank t = colour_letter Blank
row_text c t = colour_letter c ++ 32 ∷ t

unfoldable pub row_line : Text → Row → Text
row_line name r = line (name ++ 32 ∷ row_text r.colour r.text)

-- the lines of the rows that changed
unfoldable pub changed_lines : List Text → Picture → Picture → Text
changed_lines (name ∷ names) (old ∷ olds) (new ∷ news) =
    (if same_row old new then [] else row_line name new) ++ changed_lines names olds news
changed_lines _ _ _ = []

-- the block of Tick number t
unfoldable pub block : ℕ → Picture → Picture → Text
block t old new =
    if same_picture old new then [] else line (64 ∷ decimal t) ++ changed_lines row_names old new

-- the picture before Tick number t, which is blank at first
abbrev pub picture_before : (ℕ → Picture) → ℕ → Picture
picture_before pictures zero = blank
picture_before pictures (suc t) = pictures t

-- the blocks of the first n Ticks, where `pictures` tells the picture of each
unfoldable pub blocks : (ℕ → Picture) → ℕ → Text
blocks pictures zero = []
blocks pictures (suc t) = blocks pictures t ++ block t (picture_before pictures t) (pictures t)

-- what ends an output of n Ticks
unfoldable pub end_line : ℕ → Text
end_line n = line (codes "END " ++ decimal n)
