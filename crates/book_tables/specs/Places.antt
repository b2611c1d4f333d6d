-- How often each of some names stands, as a map keeps it.
use Rattle.std.specs.Prelude.{◌≡◌, ℕ, ◌+◌, ◌<◌, ◌^◌, List, length, codes, count_by, unwrap_or, if◌then◌else◌}
use Rattle.ecam_spec.specs.Bytes.{same_text}
use Rattle.ecam_spec.specs.Book.{Text}
use Rattle.book_model.specs.NamePlaces.{Numbers, number_by}
use Rattle.toml.specs.Data.{Members}
use Rattle.book_spec.specs.Rules.{list_in}

-- how often a name was counted
abbrev pub times : {S : Type 0} → Numbers S → Text → ℕ
times m name = unwrap_or (number_by m name) 0

-- it has how often each of these names stands
abbrev pub CountsNames : {S : Type 0} → List Text → Numbers S → Type 0
CountsNames names m = (name : Text) → times m name ≡ count_by (same_text name) names

-- a name stands once more
abbrev pub CountsOne : {S : Type 0} → Numbers S → Numbers S → Text → Type 0
CountsOne old new name = (q : Text) → times new q ≡ times old q + (if same_text q name then 1 else 0)

-- the items of each section of a table are numbered by 32 bits
pub record HasFewItems (top : Members) : Type 0 where
  pub systems : length (list_in (codes "systems") top) < 2 ^ 32
  pub pages : length (list_in (codes "page") top) < 2 ^ 32
  pub parameters : length (list_in (codes "param") top) < 2 ^ 32
  pub terms : length (list_in (codes "term") top) < 2 ^ 32
  pub alerts : length (list_in (codes "alert") top) < 2 ^ 32
  pub memos : length (list_in (codes "memo") top) < 2 ^ 32
