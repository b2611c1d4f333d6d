-- The words that the computers send of themselves: a status word, and a word for each group of 16 alerts. The fields
-- of a word are ARINC 429's (Part 1); the labels, what the data say and the repetition are this project's own.
use Rattle.std.specs.Prelude.{ℕ, zero, suc, ◌+◌, ◌-◌, ◌*◌, ◌/◌, ◌%◌, ◌^◌, Bool, not, ◌||◌, ◌==◌, List, [], ◌∷◌, ◌++◌, length, get_or, take, drop, map, flat_map, if◌then◌else◌, codes}
use Rattle.ecam_spec.specs.declared.kinds.Event.{Event}
use Rattle.ecam_spec.specs.declared.kinds.Sound.{Sound}
use Rattle.ecam_spec.specs.declared.kinds.Sound.TheVariants.{Quiet, Chime, Repetitive, Cavalry, Cricket}
use Rattle.ecam_spec.specs.Places.{below}
use Rattle.ecam_spec.specs.Book.{Text, Book}
use Rattle.ecam_spec.specs.History.{Moment, era}
use Rattle.ecam_spec.specs.Lamps.{warns, cautions, sound}
use Rattle.ecam_spec.specs.Output.{line}
use Rattle.ecam_spec.specs.Situation.{phase_in}
use Rattle.ecam_spec.specs.Screen.{alert_numbers, is_shown_in, attention}
use Rattle.ecam_spec.specs.Replay.{moment_of, through}
use Rattle.arinc_words.specs.Composed.{composed}
use Rattle.view_spec.specs.Ticks.{is_up, last_moment, each_tick}

-- ---- which words there are

-- as many groups as hold all alerts, the last of them perhaps smaller
unfoldable pub groups : Book → ℕ
groups b = (length b.alerts + 15) / 16

-- word 0 is the status word, and word g + 1 that of group g
unfoldable pub word_count : Book → ℕ
word_count b = 1 + groups b

unfoldable pub label_of : ℕ → ℕ
label_of zero = 0o100
label_of (suc g) = 0o101 + g / 4

unfoldable pub sdi_of : ℕ → ℕ
sdi_of zero = 0
sdi_of (suc g) = g % 4

-- ---- what their data say, from bit 11 on

-- the number whose bits are these, the least first
unfoldable pub number_of : List Bool → ℕ
number_of [] = 0
number_of (b ∷ bs) = (if b then 1 else 0) + 2 * number_of bs

abbrev pub sound_number : Sound → ℕ
sound_number Quiet = 0
sound_number Chime = 1
sound_number Repetitive = 2
sound_number Cavalry = 3
sound_number Cricket = 4

-- MASTER WARN in bit 11, MASTER CAUT in bit 12, the sound from bit 13 on, and the phase from bit 16 on
unfoldable pub status_data : Bool → Bool → Sound → ℕ → ℕ
status_data warn caut sound phase = number_of (warn ∷ caut ∷ []) + sound_number sound * 2 ^ 2 + phase * 2 ^ 5

-- of 16 alerts each has a bit, the first of them bit 11
unfoldable pub group_data : List Bool → ℕ → ℕ
group_data alerts g = number_of (take 16 (drop (16 * g) alerts))

-- by alert, in the book's order, whether it is shown
unfoldable pub shown_flags : Book → (ℕ → Moment) → ℕ → List Bool
shown_flags b moments k = map (λ a. is_shown_in b moments a k) (alert_numbers b)

-- the data of a word in moment k of an era
unfoldable pub data_in : Book → (ℕ → Moment) → ℕ → ℕ → ℕ
data_in b moments k zero =
    let a = attention b moments in
    status_data (warns a k) (cautions a k) (sound a k) (phase_in b moments k)
data_in b moments k (suc g) = group_data (shown_flags b moments k) g

-- ---- the words of a Tick

module _ (b : Book) where
  -- a word at the Tick that ends a history: in normal operation (SSM 00) with its data, and where no computer is up
  -- without any, as what isn't computed (SSM 01)
  unfoldable pub word_at : List Event → ℕ → ℕ
  word_at h n =
      if is_up h
      then composed (label_of n) (sdi_of n) (data_in b (moment_of (era h)) (last_moment (era h)) n) 0
      else composed (label_of n) (sdi_of n) 0 1

  -- a word at Tick t
  unfoldable pub word : List Event → ℕ → ℕ → ℕ
  word h t n = word_at (through (t + 1) h) n

  -- it is written at every hundredth Tick, which are ten seconds, and where it is another than at the Tick before
  unfoldable pub is_written : List Event → ℕ → ℕ → Bool
  is_written h t n = t % 100 == 0 || not (word h t n == word h (t - 1) n)

-- ---- and how they are written

-- eight hexadecimal digits, highest first, in lower case
unfoldable pub word_digits : ℕ → Text
word_digits w = map (λ i. get_or (codes "0123456789abcdef") (w / 16 ^ (7 - i) % 16) 0) (below 8)

-- the line of a word on bus 15
unfoldable pub word_line : ℕ → Text
word_line w = line (codes "W 15 " ++ word_digits w)

module _ (b : Book) where
  -- the lines of the words that are written at Tick t, and the line that ends its moment
  unfoldable pub tick_text : ℕ → List Event → Text
  tick_text t h =
      flat_map (λ n. if is_written b h t n then word_line (word b h t n) else []) (below (word_count b)) ++ line (codes "T")

  -- what is written of a history
  abbrev pub words_text : List Event → Text
  words_text h = each_tick tick_text h

-- what ends it
abbrev pub words_end : Text
words_end = line (codes "E")
