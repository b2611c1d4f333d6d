-- The value of a parameter: the reading of the first of its sources whose last word is fresh and gives one.
-- What is sound in a word is ARINC 429's (Part 1); the order of sources and the freshness are this project's own.
use Rattle.std.specs.Prelude.{ℕ, Bool, true, ◌&&◌, ◌==◌, ℤ, List, [], ◌∷◌, map, Option, Some, None, if◌then◌else◌}
use Rattle.std.specs.List.{list_any}
use Rattle.std.specs.Option.{option_or, option_and_then}
use Rattle.ecam_spec.specs.declared.kinds.Kind.{Kind}
use Rattle.ecam_spec.specs.declared.kinds.Kind.TheVariants.{Disc, Bnr, Bcd}
use Rattle.ecam_spec.specs.Past.{Signal, last, once_within}
use Rattle.ecam_spec.specs.Places.{first_of}
use Rattle.ecam_spec.specs.Word.{label, sdi, is_odd}
use Rattle.ecam_spec.specs.Reading.{discrete, binary, decimal}
use Rattle.ecam_spec.specs.Book.{Source, Parameter}

-- a word on a bus
pub record BusWord : Type 0 where
  pub bus : ℕ
  pub bits : ℕ

-- the word has the SDI that a source names, if it names one
abbrev pub has_sdi : Option ℕ → ℕ → Bool
has_sdi None word = true
has_sdi (Some s) word = sdi word == s

-- a source takes the words of odd parity on its bus, with its label and its SDI
unfoldable pub takes : Source → BusWord → Bool
takes s w = is_odd w.bits && w.bus == s.bus && label w.bits == s.label && has_sdi s.sdi w.bits

-- the last of some words in order that a source takes
unfoldable pub last_taken : Source → List BusWord → Option ℕ
last_taken s [] = None
last_taken s (w ∷ ws) = option_or (last_taken s ws) (if takes s w then Some w.bits else None)

-- in the moment there is a word that the source takes
abbrev pub arrives : Source → (ℕ → List BusWord) → Signal
arrives s words k = list_any (takes s) (words k)

-- the last word up to now that the source takes
unfoldable pub word_of : Source → (ℕ → List BusWord) → ℕ → Option ℕ
word_of s words k = option_and_then (λ m. last_taken s (words m)) (last (arrives s words) k)

-- that word came now or in one of so many moments before
unfoldable pub is_fresh : ℕ → Source → (ℕ → List BusWord) → Signal
is_fresh stale s words = once_within stale (arrives s words)

-- what a word says to a source
unfoldable pub reading : Kind → Source → ℕ → Option ℤ
reading Disc s word = discrete s.bit word
reading Bnr s word = binary s.low s.range word
reading Bcd s word = decimal word

-- what a source gives now
unfoldable pub source_value : Kind → ℕ → Source → (ℕ → List BusWord) → ℕ → Option ℤ
source_value kind stale s words k =
    if is_fresh stale s words k then option_and_then (reading kind s) (word_of s words k) else None

-- the value of a parameter now, where `words` tells the words of each moment in order
unfoldable pub value : Parameter → (ℕ → List BusWord) → ℕ → Option ℤ
value p words k = first_of (map (λ s. source_value p.kind p.stale s words k) p.sources)
