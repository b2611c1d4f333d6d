-- Names in a map: the number that stands at each, and the places of some names.
use Rattle.std.specs.Prelude.{◌≡◌, ℕ, List, Option, Some, None, if◌then◌else◌}
use Rattle.std.specs.Option.{option_or}
use Rattle.std.specs.Borrow.{Bor}
use Rattle.std.specs.HashMap.{HashMap, get_by}
use Rattle.std.specs.Str.{bytes_eq}
use Rattle.ecam_spec.specs.Book.{Text}
use Rattle.ecam_spec.specs.Bytes.{same_text, place_of}

-- a map whose keys are texts, hashed by values of S
abbrev pub Numbers : Type 0 → Type 0
Numbers S = HashMap (Bor (List ℕ)) ℕ S

-- what the map has at a name
abbrev pub number_by : {S : Type 0} → Numbers S → Text → Option ℕ
number_by m name = get_by (λ k. bytes_eq name k.now) m

-- it has the place of each of these names, and no other
abbrev pub FindsPlaces : {S : Type 0} → List Text → Numbers S → Type 0
FindsPlaces names m = (name : Text) → number_by m name ≡ place_of names name

-- a name has a place from now on, where it had none
abbrev pub NotesPlace : {S : Type 0} → Numbers S → Numbers S → Text → ℕ → Type 0
NotesPlace old new name place =
    (q : Text) → number_by new q ≡ option_or (number_by old q) (if same_text q name then Some place else None)
