-- The flight that a made record goes through again and again, 6000 moments long: which of the
-- flags of its phases are set in each moment. It is this project's own.
use Rattle.std.specs.Prelude.{ℕ, nat_le, List, [], ◌∷◌, find}
use Rattle.std.specs.Option.{option_map_or}

-- the flags, each by its bit of the word: on ground, engines run, takeoff power, fast, low, high
abbrev pub gnd : ℕ
gnd = 11

abbrev pub run : ℕ
run = 12

abbrev pub tp : ℕ
tp = 13

abbrev pub fast : ℕ
fast = 14

abbrev pub low : ℕ
low = 15

abbrev pub high : ℕ
high = 16

-- a stretch of moments: its last one, and the flags that are set in it
pub record Stretch : Type 0 where
  pub last : ℕ
  pub flags : List ℕ

abbrev pub to : ℕ → List ℕ → Stretch
to moment flags = record { last = moment; flags = flags }

-- the stretches in order, each from the end of the one before
unfoldable pub flight : List Stretch
flight =
    to 99 (gnd ∷ [])
    ∷ to 299 (gnd ∷ run ∷ [])
    ∷ to 399 (gnd ∷ run ∷ tp ∷ [])
    ∷ to 499 (gnd ∷ run ∷ tp ∷ fast ∷ [])
    ∷ to 599 (tp ∷ fast ∷ low ∷ [])
    ∷ to 699 (tp ∷ fast ∷ [])
    ∷ to 2199 (fast ∷ high ∷ [])
    ∷ to 2399 (fast ∷ [])
    ∷ to 2599 (fast ∷ low ∷ [])
    ∷ to 2699 (gnd ∷ run ∷ fast ∷ [])
    ∷ to 2899 (gnd ∷ run ∷ [])
    ∷ to 5999 (gnd ∷ [])
    ∷ []

-- the flags that are set in a moment of the flight
unfoldable pub flags_in : ℕ → List ℕ
flags_in moment = option_map_or (λ s. s.flags) (find (λ s. nat_le moment s.last) flight) []
