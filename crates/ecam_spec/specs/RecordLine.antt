-- The forms of a record's line, and the event that each says: a letter, and after one blank what it speaks of.
-- The form is this project's own.
use Rattle.std.specs.Prelude.{ℕ, ◌+◌, ◌-◌, ◌*◌, Bool, true, false, ◌&&◌, ◌==◌, nat_le, List, ◌∷◌, ◌++◌, length, take, drop, find, map, fold, Option, Some, None, option_map, option_and_then, if◌then◌else◌, codes, decimal}
use Rattle.std.specs.List.{before_first, after_first, list_all}
use Rattle.ecam_spec.specs.declared.kinds.Event.{Event}
use Rattle.ecam_spec.specs.declared.kinds.Event.TheVariants.{Word, Tick, Press, Release, Fail, Up, End}
use Rattle.ecam_spec.specs.declared.kinds.Key.{Key}
use Rattle.ecam_spec.specs.declared.kinds.Key.TheVariants.{Clr, Rcl, Sts, All, Emer, ToCfg, Mw, Mc, Page}
use Rattle.ecam_spec.specs.declared.limits.TheConstants.{BUSES, PAGES}
use Rattle.ecam_spec.specs.Places.{below}
use Rattle.ecam_spec.specs.Bytes.{same_text}
use Rattle.ecam_spec.specs.Book.{Text}

-- a line begins with some text
abbrev pub begins_with : Text → Text → Bool
begins_with start line = same_text (take (length start) line) start

-- the keys and their words
unfoldable pub key_words : List (Text × Key)
key_words =
    (codes "CLR", Clr) ∷ (codes "RCL", Rcl) ∷ (codes "STS", Sts) ∷ (codes "ALL", All) ∷ (codes "EMER", Emer)
    ∷ (codes "TOCFG", ToCfg) ∷ (codes "MW", Mw) ∷ (codes "MC", Mc)
    ∷ map (λ i. (codes "PG" ++ decimal (i + 1), Page (i + 1))) (below PAGES)

unfoldable pub key_of : Text → Option Key
key_of word = option_map (λ k. k.1) (find (λ k. same_text word k.0) key_words)

-- a computer's number, 1 or 2
unfoldable pub computer_of : Text → Option ℕ
computer_of word = if same_text word (codes "1") then Some 1 else (if same_text word (codes "2") then Some 2 else None)

-- a bus's number, 0 to 15, without leading zeros
unfoldable pub bus_of : Text → Option ℕ
bus_of word = find (λ b. same_text word (decimal b)) (below BUSES)

-- what a hexadecimal digit is worth, and 16 for any other byte
unfoldable pub digit_of : ℕ → ℕ
digit_of c =
    if nat_le 48 c && nat_le c 57 then c - 48
    else (if nat_le 65 c && nat_le c 70 then c - 55
    else (if nat_le 97 c && nat_le c 102 then c - 87
    else 16))

-- the number of eight hexadecimal digits, highest first
unfoldable pub bits_of : Text → Option ℕ
bits_of word =
    if length word == 8 && list_all (λ c. nat_le (digit_of c) 15) word
    then Some (fold (λ n c. n * 16 + digit_of c) 0 word)
    else None

-- a bus, one blank, and the word's eight digits
unfoldable pub word_event : Text → Option Event
word_event words =
    option_and_then (λ b. option_map (λ w. Word b w) (bits_of (after_first (λ c. c == 32) words)))
    (bus_of (before_first (λ c. c == 32) words))

unfoldable pub is_end : Text → Bool
is_end line = same_text line (codes "E")

-- the event that a line says, without its line feed
unfoldable pub event_of : Text → Option Event
event_of line =
    if same_text line (codes "T") then Some Tick
    else (if is_end line then Some End
    else (if begins_with (codes "W ") line then word_event (drop 2 line)
    else (if begins_with (codes "P ") line then option_map Press (key_of (drop 2 line))
    else (if begins_with (codes "R ") line then option_map Release (key_of (drop 2 line))
    else (if begins_with (codes "F ") line then option_map Fail (computer_of (drop 2 line))
    else (if begins_with (codes "U ") line then option_map Up (computer_of (drop 2 line))
    else None))))))

abbrev pub is_end_event : Event → Bool
is_end_event End = true
is_end_event _ = false
