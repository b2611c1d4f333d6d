-- What the data field of a word says, bits 11 to 29. Which words give no value is ARINC 429's (Part 1); the
-- rounding is this project's own.
use Rattle.std.specs.Prelude.{ℕ, ◌+◌, ◌-◌, ◌*◌, ◌^◌, Bool, ◌==◌, ◌&&◌, nat_le, ℤ, pos, ◌-ℤ◌, ◌*ℤ◌, neg_ℤ, Option, Some, None, if◌then◌else◌}
use Rattle.std.specs.Int.{int_div_euclid}
use Rattle.ecam_spec.specs.Word.{bit, sum_from, ssm}

-- a discrete is one bit, in a word of normal operation (SSM 00)
unfoldable pub discrete : ℕ → ℕ → Option ℤ
discrete b word = if ssm word == 0 then Some (pos (bit b word)) else None

-- the two's complement number of the bits from low up to the sign, bit 29
unfoldable pub raw : ℕ → ℕ → ℤ
raw low word =
    pos (sum_from low (29 - low) (λ i. bit i word * 2 ^ (i - low))) -ℤ pos (bit 29 word * 2 ^ (29 - low))

-- a number in binary, in a word of normal operation (SSM 11): its bit 28 is worth half the range, and what
-- is less than a whole number is rounded down
unfoldable pub binary : ℕ → ℕ → ℕ → Option ℤ
binary low range word =
    if ssm word == 3 then Some (int_div_euclid (raw low word *ℤ pos range) (pos (2 ^ (29 - low)))) else None

-- a decimal digit, of n bits from bit first on
abbrev pub digit : ℕ → ℕ → ℕ → ℕ
digit first n word = sum_from first n (λ i. bit i word * 2 ^ (i - first))

-- the five decimal digits, of bits 29-27, 26-23, 22-19, 18-15 and 14-11
abbrev pub decimal_number : ℕ → ℕ
decimal_number word =
    digit 27 3 word * 10000 + digit 23 4 word * 1000 + digit 19 4 word * 100 + digit 15 4 word * 10 + digit 11 4 word

-- no digit is above 9
abbrev pub has_digits : ℕ → Bool
has_digits word =
    nat_le (digit 23 4 word) 9 && nat_le (digit 19 4 word) 9 && nat_le (digit 15 4 word) 9 && nat_le (digit 11 4 word) 9

-- a number in decimal, plus with SSM 00 and minus with SSM 11
unfoldable pub decimal : ℕ → Option ℤ
decimal word =
    if has_digits word
    then (if ssm word == 0 then Some (pos (decimal_number word)) else (if ssm word == 3 then Some (neg_ℤ (pos (decimal_number word))) else None))
    else None
