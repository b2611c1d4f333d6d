-- What a word says to a source, and which of its bits decide it.
use Rattle.std.specs.Prelude.{ℕ, ◌+◌, ◌-◌, ◌*◌, ◌/◌, ◌%◌, ◌^◌, ◌≤◌, ◌==◌, Bool, ℤ, Option}
use Rattle.ecam_spec.specs.declared.limits.TheConstants.{NUMBER}
use Rattle.ecam_spec.specs.declared.kinds.Kind.{Kind}
use Rattle.ecam_spec.specs.declared.kinds.Kind.TheVariants.{Disc, Bnr, Bcd}
use Rattle.ecam_spec.specs.Book.{Source}
use Rattle.ecam_spec.specs.Word.{ssm}
use Rattle.ecam_spec.specs.Reading.{discrete, binary, decimal}

-- the lowest bit of a source's data: the one that a discrete is, or a number's lowest, which is bit 11 for BCD
abbrev pub low_of : Kind → Source → ℕ
low_of Disc s = s.bit
low_of Bnr s = s.low
low_of Bcd s = 11

-- the highest that this bit may be
abbrev pub highest_low : Kind → ℕ
highest_low Disc = 29
highest_low Bnr = 28
highest_low Bcd = 11

-- what a word says, by the lowest bit of the data and the range
abbrev pub reads : Kind → ℕ → ℕ → ℕ → Option ℤ
reads Disc low range word = discrete low word
reads Bnr low range word = binary low range word
reads Bcd low range word = decimal word

-- the lowest bit and the range are such as a sound source has
pub record IsReadable (kind : Kind) (low range : ℕ) : Type 0 where
  pub least : 11 ≤ low
  pub most : low ≤ highest_low kind
  pub range_low : 1 ≤ range
  pub range_high : range ≤ NUMBER

-- the SSM, bits 30 and 31, and the data: one bit, those from the lowest up to bit 29, or bits 11 to 29
abbrev pub mask_of : Kind → ℕ → ℕ
mask_of Disc low = 2 ^ (low - 1) + 3 * 2 ^ 29
mask_of Bnr low = 2 ^ 31 - 2 ^ (low - 1)
mask_of Bcd low = 2 ^ 31 - 2 ^ 10

-- in which modes a word says something: bit m is set where it may with an SSM of m
abbrev pub modes_of : Kind → ℕ
modes_of Disc = 2 ^ 0
modes_of Bnr = 2 ^ 3
modes_of Bcd = 2 ^ 0 + 2 ^ 3

abbrev pub may_say : ℕ → ℕ → Bool
may_say modes bits = modes / 2 ^ ssm bits % 2 == 1
