-- The words of a made record, by the fields of ARINC 429 (Part 1). Which label has which data is
-- this project's own.
use Rattle.std.specs.Prelude.{ℕ, ◌+◌, ◌-◌, ◌*◌, ◌%◌, ◌^◌, ◌==◌, sum_by, if◌then◌else◌}
use Rattle.ecam_spec.specs.Word.{sum_from, bit, is_odd}
use Rattle.record_maker.specs.Draws.{moved_right}
use Rattle.record_maker.specs.Flight.{flags_in}

-- a label in bits 1 to 8 of a word, of which bit 1 is the most significant
unfoldable pub label_bits : ℕ → ℕ
label_bits label = sum_from 1 8 (λ i. bit (9 - i) label * 2 ^ (i - 1))

-- the word with this label, SDI 00, this number in bits 11 to 29 and this SSM in bits 30 and 31;
-- bit 32 is 0
unfoldable pub word_of : ℕ → ℕ → ℕ → ℕ
word_of label number ssm = label_bits label + number * 2 ^ 10 + ssm * 2 ^ 29

-- bit 32 is set where it makes the parity odd, or even
unfoldable pub odd : ℕ → ℕ
odd word = if is_odd word then word else word + 2 ^ 31

unfoldable pub even : ℕ → ℕ
even word = if is_odd word then word + 2 ^ 31 else word

-- the flags of a moment: label 350, SSM 00, odd
unfoldable pub flags_word : ℕ → ℕ
flags_word moment = odd (word_of 0o350 (sum_by (λ b. 2 ^ (b - 11)) (flags_in (moment % 6000))) 0)

-- the word of a draw: a label 300 to 307, any number; one in 64 has SSM 11, the others 00, and
-- one in 64 is even
unfoldable pub drawn_word : ℕ → ℕ
drawn_word r =
    let label = 0o300 + moved_right r 8 % 8 in
    let number = moved_right r 16 % 2 ^ 19 in
    let ssm = if moved_right r 40 % 64 == 0 then 3 else 0 in
    if moved_right r 48 % 64 == 0
    then even (word_of label number ssm)
    else odd (word_of label number ssm)
