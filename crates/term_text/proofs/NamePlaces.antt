-- The place of a name along a list of names, as a loop goes through it.
use Rattle.std.proofs.Common.{ℕ, List, drop, Option}
use Rattle.std.specs.Str.{bytes_eq}
use Rattle.std.specs.List.{position_from}
use Rattle.arrayvec.specs.ArrayString.{ArrayString}
use Rattle.ecam_spec.specs.Book.{Text}
use Rattle.term_text.specs.Known.{texts_of}

module _ (names : List ArrayString) (i : ℕ) where
  -- where a name stands, from a place on
  abbrev pub place_from : Text → Option ℕ
  place_from name = position_from (bytes_eq name) i (texts_of (drop i names))
