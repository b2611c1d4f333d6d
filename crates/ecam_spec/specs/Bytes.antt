-- Texts as lists of bytes: their letters, when two are the same, and where a name stands among names.
use Rattle.std.specs.Prelude.{ℕ, Bool, ◌&&◌, ◌||◌, ◌==◌, nat_le, List, Option}
use Rattle.std.specs.Str.{bytes_eq}
use Rattle.std.specs.List.{position_from}

-- a number from low to high
abbrev pub is_between : ℕ → ℕ → ℕ → Bool
is_between low high n = nat_le low n && nat_le n high

-- a to z
abbrev pub is_small_letter : ℕ → Bool
is_small_letter = is_between 97 122

-- 0 to 9
abbrev pub is_digit : ℕ → Bool
is_digit = is_between 48 57

-- a to z, A to Z
abbrev pub is_letter : ℕ → Bool
is_letter b = is_small_letter b || is_between 65 90 b

-- what a name may have: a to z, 0 to 9 and `_`
abbrev pub is_name_byte : ℕ → Bool
is_name_byte b = is_small_letter b || (is_digit b || b == 95)

-- what a word may have: capital letters too
abbrev pub is_word_byte : ℕ → Bool
is_word_byte b = is_letter b || (is_digit b || b == 95)

-- the same bytes
abbrev pub same_text : List ℕ → List ℕ → Bool
same_text = bytes_eq

-- the place, from 0, of a name among names: the first
abbrev pub place_of : List (List ℕ) → List ℕ → Option ℕ
place_of names name = position_from (same_text name) 0 names
