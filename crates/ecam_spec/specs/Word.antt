-- The fields of an ARINC 429 word (Part 1): 32 bits, numbered from 1, of which the first eight are the label.
use Rattle.std.specs.Prelude.{ℕ, zero, suc, ◌+◌, ◌-◌, ◌*◌, ◌/◌, ◌%◌, ◌^◌, Bool, ◌==◌}

-- the sum of f i over n numbers i, from first on
abbrev pub sum_from : ℕ → ℕ → (ℕ → ℕ) → ℕ
sum_from first zero f = 0
sum_from first (suc n) f = f first + sum_from (suc first) n f

-- bit i of a word
abbrev pub bit : ℕ → ℕ → ℕ
bit i word = (word / 2 ^ (i - 1)) % 2

-- the label, whose most significant bit is bit 1
unfoldable pub label : ℕ → ℕ
label word = sum_from 1 8 (λ i. bit i word * 2 ^ (8 - i))

-- the source/destination identifier, bits 9 and 10
unfoldable pub sdi : ℕ → ℕ
sdi word = bit 9 word + 2 * bit 10 word

-- the sign/status matrix, bits 30 and 31
unfoldable pub ssm : ℕ → ℕ
ssm word = bit 30 word + 2 * bit 31 word

-- the parity is odd, as of each sound word
unfoldable pub is_odd : ℕ → Bool
is_odd word = sum_from 1 32 (λ i. bit i word) % 2 == 1
