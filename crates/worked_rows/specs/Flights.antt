-- Flights for the worked rows of the phases: in each moment a word of the letters G, R, T, F, H and L, for the
-- inputs that hold: on ground, an engine runs, take-off power, fast, high, low.
use Rattle.std.specs.Prelude.{ℕ, ◌+◌, ◌-◌, Bool, ◌==◌, nat_lt, List, [], ◌∷◌, map, get_or, length, codes, if◌then◌else◌}
use Rattle.std.specs.List.{list_any}
use Rattle.ecam_spec.specs.Book.{Text}
use Rattle.ecam_spec.specs.Places.{below}
use Rattle.ecam_spec.specs.Phase.{Flight, phase}

-- the letter, by its code, stands in the moment's word
abbrev pub holds_in : (ℕ → Text) → ℕ → ℕ → Bool
holds_in words letter k = list_any (λ c. c == letter) (words k)

abbrev pub flight : (ℕ → Text) → Flight
flight words =
    record {
      gnd = holds_in words 71;
      run = holds_in words 82;
      tp = holds_in words 84;
      fast = holds_in words 70;
      high = holds_in words 72;
      low = holds_in words 76;
    }

-- some words, and then a word for so many moments, and then more words
abbrev pub then_long : List Text → Text → ℕ → List Text → ℕ → Text
then_long first word n later k =
    if nat_lt k (length first) then get_or first k []
    else (if nat_lt (k - length first) n then word
    else get_or later (k - (length first + n)) [])

-- the phases of the first n moments
abbrev pub phases_of : (ℕ → Text) → ℕ → List ℕ
phases_of words n = map (phase (flight words)) (below n)

-- a rejected start of take-off, a rejected take-off, a flight with a go-around, and a landing
abbrev pub five_flights : List Text
five_flights =
    codes "G" ∷ codes "GR" ∷ codes "GRT" ∷ codes "GR"
    ∷ codes "GRT" ∷ codes "GRTF" ∷ codes "GRF" ∷ codes "GR"
    ∷ codes "GRT" ∷ codes "GRTF" ∷ codes "TFL" ∷ codes "FH"
    ∷ codes "FL" ∷ codes "TFL" ∷ codes "FH" ∷ codes "F"
    ∷ codes "FL" ∷ codes "GRF" ∷ codes "GR"
    ∷ []

-- the same, then on ground with no engine running for 3001 moments, and then with one
abbrev pub five_flights_and_a_stay : ℕ → Text
five_flights_and_a_stay = then_long five_flights (codes "G") 3001 (codes "GR" ∷ [])
