-- The places of a book's sources: three for each parameter, since it has no more sources.
use Rattle.std.specs.Prelude.{ℕ, zero, suc, ◌/◌, ◌%◌, Bool, true, false, ◌&&◌, ◌==◌, List, get_or, Option, Some, None}
use Rattle.std.specs.Option.{option_map_or}
use Rattle.std.specs.List.{slice_get}
use Rattle.ecam_spec.specs.Book.{Source, Parameter}
use Rattle.ecam_spec.specs.Situation.{no_parameter}

-- the parameter to which a place belongs
abbrev pub parameter_with : List Parameter → ℕ → Parameter
parameter_with params place = get_or params (place / 3) no_parameter

-- the source at a place: those of parameter p stand from 3p on, in order
abbrev pub source_at : List Parameter → ℕ → Option Source
source_at params place = slice_get (parameter_with params place).sources (place % 3)

-- there is a source at the place, and it passes
abbrev pub passes : (Source → Bool) → List Parameter → ℕ → Bool
passes p params place = option_map_or p (source_at params place) false

-- the source at a place listens to words with this label on this bus
abbrev pub listens : List Parameter → ℕ → ℕ → ℕ → Bool
listens params bus label = passes (λ s. bus == s.bus && label == s.label) params

-- the last number below n that passes
unfoldable pub last_below : (ℕ → Bool) → ℕ → Option ℕ
last_below p zero = None
last_below p (suc n) = elim (p n) [ true ↦ Some n | false ↦ last_below p n ]
