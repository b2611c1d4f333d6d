-- A word put together of its fields has these fields, and is odd.
use Rattle.std.proofs.Common.{◌≡◌, ℕ, zero, suc, ◌+◌, ◌-◌, ◌*◌, ◌/◌, ◌%◌, ◌^◌, ◌<◌, ◌≤◌, Bool, true, false, cond, bit_or, refl, sym, ap, ◌∙◌, arith, w8}
use Rattle.std.proofs.lemmas.Nat.{or_shifted, and_mask, pow_pos, pow-add}
use Rattle.std.proofs.Math.Nat.{add-mul-div_left, pow-suc}
use Rattle.std.specs.Int.{reverse_bits, reverse_bits_onto}
use Rattle.std.specs.Prelude.{◌==◌}
use Rattle.ecam_spec.specs.Word.{sum_from, bit, label, sdi, ssm, is_odd}
use Rattle.ecam_spec.specs.Reading.{digit}
use Rattle.arinc_words.specs.Composed.{label_bits, joined, made_odd, composed}
use Rattle.arinc_words.proofs.Bits.{bit-suc}
use Rattle.arinc_words.proofs.Bits.{label_bits as low_label}
use Rattle.arinc_words.proofs.Fields.{bits_from}

-- eight bits turned round
turned : (n : ℕ) → n < 256 → reverse_bits_onto 8 n 0 ≡ label_bits n
unfolding label_bits reverse_bits_onto
turned n small = omega arith

pub label_bits-small : (n : ℕ) → label_bits n < 256
unfolding label_bits
label_bits-small n = omega arith

-- ---- shifts

module _ (label sdi field ssm : ℕ) (byte : label < 256) (one : sdi ≤ 3) (few : field < 2 ^ 19) (most : ssm ≤ 3) where
  -- what stands side by side doesn't overlap
  side_by_side : (low : ℕ) → low < 256
      → bit_or (bit_or (bit_or (ssm * 2 ^ 29 % 2 ^ 32) (field * 2 ^ 10 % 2 ^ 32)) (sdi * 2 ^ 8 % 2 ^ 32)) low ≡ low + sdi * 2 ^ 8 + field * 2 ^ 10 + ssm * 2 ^ 29
  side_by_side low small =
      let high : ssm * 2 ^ 29 % 2 ^ 32 ≡ ssm * 2 ^ 29 = omega arith in
      let middle : field * 2 ^ 10 % 2 ^ 32 ≡ field * 2 ^ 10 = omega arith in
      let third : sdi * 2 ^ 8 % 2 ^ 32 ≡ sdi * 2 ^ 8 = omega arith in
      let upper : bit_or (ssm * 2 ^ 29) (field * 2 ^ 10) ≡ (ssm * 2 ^ 19 + field) * 2 ^ 10 = or_shifted ssm 29 (field * 2 ^ 10) (omega arith) ∙ omega arith in
      let lower : bit_or ((ssm * 2 ^ 19 + field) * 2 ^ 10) (sdi * 2 ^ 8) ≡ ((ssm * 2 ^ 19 + field) * 4 + sdi) * 2 ^ 8 =
      or_shifted (ssm * 2 ^ 19 + field) 10 (sdi * 2 ^ 8) (omega arith) ∙ omega arith in
      let whole : bit_or (((ssm * 2 ^ 19 + field) * 4 + sdi) * 2 ^ 8) low ≡ ((ssm * 2 ^ 19 + field) * 4 + sdi) * 2 ^ 8 + low = or_shifted ((ssm * 2 ^ 19 + field) * 4 + sdi) 8 low small in
      ap (λ n. bit_or (bit_or (bit_or n (field * 2 ^ 10 % 2 ^ 32)) (sdi * 2 ^ 8 % 2 ^ 32)) low) high
      ∙ ap (λ n. bit_or (bit_or (bit_or (ssm * 2 ^ 29) n) (sdi * 2 ^ 8 % 2 ^ 32)) low) middle
      ∙ ap (λ n. bit_or (bit_or n (sdi * 2 ^ 8 % 2 ^ 32)) low) upper
      ∙ ap (λ n. bit_or (bit_or ((ssm * 2 ^ 19 + field) * 2 ^ 10) n) low) third
      ∙ ap (λ n. bit_or n low) lower
      ∙ whole ∙ omega arith

  pub joined_by_shifts : (low : ℕ) → low < 256 → low ≡ reverse_bits w8 label
      → bit_or (bit_or (bit_or (ssm * 2 ^ 29 % 2 ^ 32) (field * 2 ^ 10 % 2 ^ 32)) (sdi * 2 ^ 8 % 2 ^ 32)) low ≡ joined label sdi field ssm
  unfolding joined
  joined_by_shifts low small is =
      side_by_side low small ∙ ap (λ n. n + sdi * 2 ^ 8 + field * 2 ^ 10 + ssm * 2 ^ 29) (is ∙ turned label byte)

  pub joined-small : joined label sdi field ssm < 2 ^ 31
  unfolding joined
  joined-small = omega (arith, label_bits-small label)

-- ---- the bits below the parity

-- bit 32 is no part of the bits below it
bit-low : (j n : ℕ) → j < 31 → bit (suc j) (n + 2 ^ 31) ≡ bit (suc j) n
bit-low j n within =
    let e : 2 ^ 31 ≡ 2 ^ j * (2 * 2 ^ (30 - j)) = ap (λ x. 2 ^ x) (let s : 31 ≡ j + suc (30 - j) = omega arith in s) ∙ pow-add 2 j (suc (30 - j)) ∙ ap (λ x. 2 ^ j * x) (pow-suc 2 (30 - j) ∙ omega arith) in
    bit-suc j (n + 2 ^ 31)
    ∙ ap (λ x. (n + x) / 2 ^ j % 2) e
    ∙ ap (λ x. x % 2) (add-mul-div_left n (2 * 2 ^ (30 - j)) (pow_pos j))
    ∙ (let h : (n / 2 ^ j + 2 * 2 ^ (30 - j)) % 2 ≡ n / 2 ^ j % 2 = omega arith in h)
    ∙ sym (bit-suc j n)

sum-alike : (k first : ℕ) (f g : ℕ → ℕ) → ((i : ℕ) → first ≤ i → i < first + k → f i ≡ g i) → sum_from first k f ≡ sum_from first k g
sum-alike zero first f g same = refl
sum-alike (suc k) first f g same =
    let here : f first ≡ g first = same first (omega arith) (omega arith) in
    let rest : sum_from (suc first) k f ≡ sum_from (suc first) k g = sum-alike k (suc first) f g (λ i l u. same i (omega arith) (omega arith)) in
    rw (here, rest) refl

sum-last : (k first : ℕ) (f : ℕ → ℕ) → sum_from first (suc k) f ≡ sum_from first k f + f (first + k)
sum-last zero first f = let e : first + 0 ≡ first = omega arith in rw e (omega arith)
sum-last (suc k) first f =
    let rest : sum_from (suc first) (suc k) f ≡ sum_from (suc first) k f + f (suc first + k) = sum-last k (suc first) f in
    let e : first + suc k ≡ suc first + k = omega arith in
    ap (λ n. f first + n) rest ∙ rw e (omega arith)

-- a sum over bits 1 to 31 doesn't see bit 32
below-parity : (n : ℕ) → sum_from 1 31 (λ i. bit i (n + 2 ^ 31)) ≡ sum_from 1 31 (λ i. bit i n)
below-parity n = sum-alike 31 1 (λ i. bit i (n + 2 ^ 31)) (λ i. bit i n) same where
  same : (i : ℕ) → 1 ≤ i → i < 1 + 31 → bit i (n + 2 ^ 31) ≡ bit i n
  same zero low high = absurd (omega arith)
  same (suc j) low high = bit-low j n (omega arith)

module _ (n : ℕ) (open_parity : n < 2 ^ 31) where
  parity-set : sum_from 1 32 (λ i. bit i (n + 2 ^ 31)) ≡ sum_from 1 31 (λ i. bit i n) + 1
  parity-set = sum-last 31 1 (λ i. bit i (n + 2 ^ 31)) ∙ ap (λ s. s + bit 32 (n + 2 ^ 31)) (below-parity n) ∙ ap (λ s. sum_from 1 31 (λ i. bit i n) + s) (let e : bit 32 (n + 2 ^ 31) ≡ 1 = omega arith in e)

  parity-open : sum_from 1 32 (λ i. bit i n) ≡ sum_from 1 31 (λ i. bit i n)
  parity-open = sum-last 31 1 (λ i. bit i n) ∙ ap (λ s. sum_from 1 31 (λ i. bit i n) + s) (let e : bit 32 n ≡ 0 = omega arith in e) ∙ omega arith

  pub made_odd-is_odd : is_odd (made_odd n) ≡ true
  unfolding is_odd made_odd
  made_odd-is_odd = by (sum_from 1 32 (λ i. bit i n) % 2) refl where
    by : (parity : ℕ) → sum_from 1 32 (λ i. bit i n) % 2 ≡ parity
        → (sum_from 1 32 (λ i. bit i (cond (sum_from 1 32 (λ i. bit i n) % 2 == 1) n (n + 2 ^ 31))) % 2 == 1) ≡ true
    by zero is =
        ap (λ p. sum_from 1 32 (λ i. bit i (cond (p == 1) n (n + 2 ^ 31))) % 2 == 1) is
        ∙ ap (λ s. s % 2 == 1) parity-set
        ∙ ap (λ s. s == 1) (let e : (sum_from 1 31 (λ i. bit i n) + 1) % 2 ≡ 1 = let open_sum = parity-open in omega arith in e)
    by (suc zero) is = ap (λ p. sum_from 1 32 (λ i. bit i (cond (p == 1) n (n + 2 ^ 31))) % 2 == 1) is ∙ ap (λ p. p == 1) is
    by (suc (suc p)) is = absurd (omega arith)

-- the same bits, with bit 32 or without
pub made_odd-cases : (n : ℕ) → made_odd n ≡ n + cond (is_odd n) 0 1 * 2 ^ 31
unfolding made_odd
made_odd-cases n = by (is_odd n) where
  by : (odd : Bool) → cond odd n (n + 2 ^ 31) ≡ n + cond odd 0 1 * 2 ^ 31
  by true = omega arith
  by false = omega arith

-- ---- the fields of bits side by side

module _ (low s f m top : ℕ) (byte : low < 256) (one : s ≤ 3) (few : f < 2 ^ 19) (most : m ≤ 3) where
  abbrev whole : ℕ
  whole = low + s * 2 ^ 8 + f * 2 ^ 10 + m * 2 ^ 29 + top * 2 ^ 31

  sdi-of : sdi whole ≡ s
  unfolding sdi
  sdi-of = omega arith

  ssm-of : ssm whole ≡ m
  unfolding ssm
  ssm-of = omega arith

  data-of : digit 11 19 whole ≡ f
  data-of =
      bits_from 19 10 11 whole (omega arith) ∙ (let e : whole / 2 ^ 10 % 2 ^ 19 * 2 ^ (11 - 11) ≡ f = omega arith in e)

-- the label is in the lowest eight bits
label-low : (n rest : ℕ) → n < 256 → label (n + rest * 256) ≡ label n
label-low n rest small =
    sym (low_label (n + rest * 256))
    ∙ ap (reverse_bits w8) (and_mask (n + rest * 256) 8 ∙ (let e : (n + rest * 256) % 256 ≡ n % 256 = omega arith in e) ∙ sym (and_mask n 8))
    ∙ low_label n

-- turned round twice it is as it was
turned-back : (b0 b1 b2 b3 b4 b5 b6 b7 : ℕ) → b0 < 2 → b1 < 2 → b2 < 2 → b3 < 2 → b4 < 2 → b5 < 2 → b6 < 2 → b7 < 2
    → label (b7 + b6 * 2 + b5 * 4 + b4 * 8 + b3 * 16 + b2 * 32 + b1 * 64 + b0 * 128) ≡ b0 + b1 * 2 + b2 * 4 + b3 * 8 + b4 * 16 + b5 * 32 + b6 * 64 + b7 * 128
unfolding label
turned-back b0 b1 b2 b3 b4 b5 b6 b7 s0 s1 s2 s3 s4 s5 s6 s7 = omega arith

label-turned : (n : ℕ) → n < 256 → label (label_bits n) ≡ n
unfolding label_bits
label-turned n small =
    let b : ℕ → ℕ = λ i. n / 2 ^ i % 2 in
    ap label (let e : label_bits n ≡ b 7 + b 6 * 2 + b 5 * 4 + b 4 * 8 + b 3 * 16 + b 2 * 32 + b 1 * 64 + b 0 * 128 = omega arith in e)
    ∙ turned-back (b 0) (b 1) (b 2) (b 3) (b 4) (b 5) (b 6) (b 7) (omega arith) (omega arith) (omega arith) (omega arith) (omega arith) (omega arith) (omega arith) (omega arith)
    ∙ omega arith

module _ (l s f m : ℕ) (byte : l < 256) (one : s ≤ 3) (few : f < 2 ^ 19) (most : m ≤ 3) where
  composed-is : composed l s f m ≡ label_bits l + s * 2 ^ 8 + f * 2 ^ 10 + m * 2 ^ 29 + cond (is_odd (joined l s f m)) 0 1 * 2 ^ 31
  unfolding composed joined
  composed-is = made_odd-cases (joined l s f m)

  pub composed-label : label (composed l s f m) ≡ l
  composed-label =
      let top : ℕ = cond (is_odd (joined l s f m)) 0 1 in
      ap label (composed-is ∙ (let e : label_bits l + s * 2 ^ 8 + f * 2 ^ 10 + m * 2 ^ 29 + top * 2 ^ 31 ≡ label_bits l + (s + f * 4 + m * 2 ^ 21 + top * 2 ^ 23) * 256 = omega arith in e))
      ∙ label-low (label_bits l) (s + f * 4 + m * 2 ^ 21 + top * 2 ^ 23) (label_bits-small l) ∙ label-turned l byte

  pub composed-sdi : sdi (composed l s f m) ≡ s
  composed-sdi = ap sdi composed-is ∙ sdi-of (label_bits l) s f m _ (label_bits-small l) one few most

  pub composed-ssm : ssm (composed l s f m) ≡ m
  composed-ssm = ap ssm composed-is ∙ ssm-of (label_bits l) s f m _ (label_bits-small l) one few most

  pub composed-data : digit 11 19 (composed l s f m) ≡ f
  composed-data = ap (digit 11 19) composed-is ∙ data-of (label_bits l) s f m _ (label_bits-small l) one few most

  pub composed-odd : is_odd (composed l s f m) ≡ true
  unfolding composed
  composed-odd = made_odd-is_odd (joined l s f m) (joined-small l s f m byte one few most)
