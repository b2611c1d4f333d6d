-- A word put together of its fields.
use Rattle.std.proofs.Common.{◌≡◌, ℕ, ◌+◌, ◌*◌, ◌%◌, ◌^◌, ◌<◌, bit_or, ◌∙◌, ap, arith, w8}
use Rattle.std.proofs.lemmas.Nat.{or_shifted}
use Rattle.std.specs.Int.{reverse_bits, reverse_bits_onto}
use Rattle.record_maker.specs.Words.{label_bits, word_of}

-- eight bits turned round
turned : (n : ℕ) → n < 256 → reverse_bits_onto 8 n 0 ≡ label_bits n
unfolding label_bits reverse_bits_onto
turned n small = omega arith

-- what stands side by side doesn't overlap
side_by_side : (ssm number low : ℕ) → number < 2 ^ 19 → ssm < 4 → low < 256
    → bit_or (bit_or (ssm * 2 ^ 29 % 2 ^ 32) (number * 2 ^ 10 % 2 ^ 32)) low ≡ low + number * 2 ^ 10 + ssm * 2 ^ 29
side_by_side ssm number low few most small =
    let high : ssm * 2 ^ 29 % 2 ^ 32 ≡ ssm * 2 ^ 29 = omega arith in
    let middle : number * 2 ^ 10 % 2 ^ 32 ≡ number * 2 ^ 10 = omega arith in
    let upper : bit_or (ssm * 2 ^ 29) (number * 2 ^ 10) ≡ (ssm * 2 ^ 19 + number) * 2 ^ 10 = or_shifted ssm 29 (number * 2 ^ 10) (omega arith) ∙ omega arith in
    let whole : bit_or ((ssm * 2 ^ 19 + number) * 2 ^ 10) low ≡ (ssm * 2 ^ 19 + number) * 2 ^ 10 + low = or_shifted (ssm * 2 ^ 19 + number) 10 low (omega arith) in
    ap (λ n. bit_or (bit_or n (number * 2 ^ 10 % 2 ^ 32)) low) high
    ∙ ap (λ n. bit_or (bit_or (ssm * 2 ^ 29) n) low) middle
    ∙ ap (λ n. bit_or n low) upper
    ∙ whole ∙ omega arith

module _ (label number ssm low : ℕ) (byte : label < 256) (few : number < 2 ^ 19) (most : ssm < 4) (small : low < 256) (is : low ≡ reverse_bits w8 label) where
  pub word_of-joined : bit_or (bit_or (ssm * 2 ^ 29 % 2 ^ 32) (number * 2 ^ 10 % 2 ^ 32)) low ≡ word_of label number ssm
  unfolding word_of
  word_of-joined = side_by_side ssm number low few most small ∙ ap (λ n. n + number * 2 ^ 10 + ssm * 2 ^ 29) (is ∙ turned label byte)

  pub joined-small : bit_or (bit_or (ssm * 2 ^ 29 % 2 ^ 32) (number * 2 ^ 10 % 2 ^ 32)) low < 2 ^ 31
  joined-small = let e = side_by_side ssm number low few most small in omega arith
