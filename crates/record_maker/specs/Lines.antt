-- The lines of a made moment, without their line feeds.
use Rattle.std.specs.Prelude.{ℕ, ◌+◌, ◌-◌, ◌/◌, ◌%◌, ◌^◌, ◌==◌, nat_le, List, [], ◌∷◌, ◌++◌, map}
use Rattle.std.specs.Prelude.{get_or, if◌then◌else◌, codes, decimal}
use Rattle.ecam_spec.specs.declared.kinds.Key.TheVariants.{Clr}
use Rattle.ecam_spec.specs.Book.{Text}
use Rattle.ecam_spec.specs.Places.{below}
use Rattle.ecam_spec.specs.RecordLine.{key_words}
use Rattle.record_maker.specs.Draws.{draw, moved_right}
use Rattle.record_maker.specs.Words.{flags_word, drawn_word}

-- eight hexadecimal digits, highest first, in lower case
unfoldable pub word_digits : ℕ → Text
word_digits word =
    map (λ i. get_or (codes "0123456789abcdef") (word / 16 ^ (7 - i) % 16) 0) (below 8)

unfoldable pub word_line : ℕ → ℕ → Text
word_line bus word = codes "W " ++ decimal bus ++ 32 ∷ word_digits word

-- the word of the key with this number, from 0
unfoldable pub key_word : ℕ → Text
key_word n = (get_or key_words n ([], Clr)).0

-- one draw in 50 makes a key go down or up
unfoldable pub key_lines : ℕ → List Text
key_lines r =
    if r % 50 == 0
    then ((if moved_right r 32 % 2 == 0 then codes "P " else codes "R ")
    ++ key_word (r / 50 % 24)) ∷ []
    else []

-- of 400 draws one makes a computer fail, and eight make one come up
unfoldable pub computer_lines : ℕ → List Text
computer_lines r =
    if r % 400 == 0 then (codes "F " ++ decimal (1 + r / 400 % 2)) ∷ []
    else (if nat_le (r % 400) 8 then (codes "U " ++ decimal (1 + r / 400 % 2)) ∷ [] else [])

-- the lines of a moment with this number, by the three draws after this one
unfoldable pub moment_lines : ℕ → ℕ → List Text
moment_lines moment s =
    word_line 0 (flags_word moment)
    ∷ word_line (1 + draw s 1 % 3) (drawn_word (draw s 1))
    ∷ key_lines (draw s 2)
    ++ computer_lines (draw s 3)
    ++ codes "T" ∷ []
