-- A row as a picture has it: its text is empty exactly where its colour is Blank.
use Rattle.std.specs.Prelude.{◌≡◌, []}
use Rattle.ecam_spec.specs.declared.kinds.Colour.TheVariants.{Blank}
use Rattle.ecam_spec.specs.Picture.{Row}

pub record IsProper (r : Row) : Type 0 where
  pub empty : r.colour ≡ Blank → r.text ≡ []
  pub blank : r.text ≡ [] → r.colour ≡ Blank
