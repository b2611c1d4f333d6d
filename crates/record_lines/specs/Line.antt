-- The parts of a line's words.
use Rattle.std.specs.Prelude.{◌≡◌, ℕ, ◌+◌, ◌-◌, ◌^◌, ◌≤◌, ◌==◌, ◌&&◌, nat_le, false, List, [], ◌∷◌, take, find, position, Option, None, Some, option_map, if◌then◌else◌}
use Rattle.ecam_spec.specs.declared.kinds.Event.{Event}
use Rattle.ecam_spec.specs.declared.kinds.Key.{Key}
use Rattle.ecam_spec.specs.Bytes.{same_text}
use Rattle.ecam_spec.specs.RecordLine.{key_words, digit_of, event_of, is_end_event}

-- what a decimal digit is worth
abbrev pub digit_value : ℕ → Option ℕ
digit_value c = if nat_le 48 c && nat_le c 57 then Some (c - 48) else None

-- a number 0 to 19 in decimal without leading zeros
abbrev pub number_of : List ℕ → Option ℕ
number_of (d ∷ []) = digit_value d
number_of (t ∷ d ∷ []) = if t == 49 then option_map (λ n. n + 10) (digit_value d) else None
number_of _ = None

-- such a number where it is in this range
abbrev pub kept_within : ℕ → ℕ → Option ℕ → Option ℕ
kept_within low high (Some n) = if nat_le low n && nat_le n high then Some n else None
kept_within low high None = None

abbrev pub number_within : ℕ → ℕ → List ℕ → Option ℕ
number_within low high word = kept_within low high (number_of word)

-- a key that isn't a page's: one of the first eight
unfoldable pub named_key_of : List ℕ → Option Key
named_key_of word = option_map (λ k. k.1) (find (λ k. same_text word k.0) (take 8 key_words))

-- ---- the lines of which a record has most

-- what a hexadecimal digit is worth, and 2^32 for any other byte
unfoldable pub worth : ℕ → ℕ
worth c = if nat_le (digit_of c) 15 then digit_of c else 2 ^ 32

-- the line up to the first line feed, which stands at this place, says this event, and doesn't end the record
pub record IsCommon (bytes : List ℕ) (found : Event × ℕ) : Type 0 where
  pub feed : position (λ b. b == 10) bytes ≡ Some found.1
  pub event : event_of (take found.1 bytes) ≡ Some found.0
  pub other : is_end_event found.0 ≡ false
  pub few : found.1 ≤ 32
