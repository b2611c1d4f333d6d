-- A word put together of its fields (ARINC 429, Part 1).
use Rattle.std.specs.Prelude.{ℕ, ◌+◌, ◌-◌, ◌*◌, ◌^◌, if◌then◌else◌}
use Rattle.ecam_spec.specs.Word.{sum_from, bit, is_odd}

-- a label in bits 1 to 8, of which bit 1 is the most significant
unfoldable pub label_bits : ℕ → ℕ
label_bits label = sum_from 1 8 (λ i. bit (9 - i) label * 2 ^ (i - 1))

-- the fields side by side: label, SDI, data and SSM; bit 32 is 0
unfoldable pub joined : ℕ → ℕ → ℕ → ℕ → ℕ
joined label sdi field ssm = label_bits label + sdi * 2 ^ 8 + field * 2 ^ 10 + ssm * 2 ^ 29

-- bit 32 is set where it makes the parity odd
unfoldable pub made_odd : ℕ → ℕ
made_odd word = if is_odd word then word else word + 2 ^ 31

-- the sound word with this label, this SDI, this number in bits 11 to 29 and this SSM
unfoldable pub composed : ℕ → ℕ → ℕ → ℕ → ℕ
composed label sdi field ssm = made_odd (joined label sdi field ssm)
