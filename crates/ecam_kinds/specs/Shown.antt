-- What the rows and pictures of the program show, as the definitions speak of them.
use Rattle.std.specs.Prelude.{List, map}
use Rattle.ecam_spec.specs.Picture as spec
use Rattle.ecam_kinds.specs.declared.picture.Row.{Row}
use Rattle.ecam_kinds.specs.declared.picture.Picture.{Picture}

-- a row by its colour and the bytes of its text
abbrev pub row_of : Row → spec.Row
row_of r = record { colour = r.colour; text = r.text.items }

abbrev pub rows_of : List Row → List spec.Row
rows_of rs = map row_of rs

-- the 36 rows of a picture
abbrev pub picture_of : Picture → spec.Picture
picture_of p = rows_of p.rows
