-- A field of several bits, by a shift and a mask, against the sum of its bits.
use Rattle.std.proofs.Common.{◌≡◌, ℕ, zero, suc, ◌+◌, ◌-◌, ◌*◌, ◌/◌, ◌%◌, ◌^◌, ◌<◌, ◌≤◌, bit_and, sym, ap, ◌∙◌, arith, add-one}
use Rattle.std.proofs.Math.Nat.{pow-suc, mul-one, sub_self, mul_comm, pow-le-pow_right}
use Rattle.std.proofs.Math.Numerals.{sub-one}
use Rattle.std.proofs.lemmas.Nat.{and_mask, mod-pow-add, one_shl}
use Rattle.ecam_spec.specs.Word.{sum_from, bit}
use Rattle.ecam_spec.specs.Reading.{digit}
use Rattle.arinc_words.proofs.Bits.{half_shift, bit-suc}

-- the lowest bit of some, and the others
low_bit : (n k : ℕ) → n % 2 ^ suc k ≡ n % 2 + 2 * (n / 2 % 2 ^ k)
low_bit n k = ap (λ j. n % 2 ^ j) (sym (add-one k)) ∙ mod-pow-add n k 1 ∙ omega arith

-- the bits of a number from i on, k of them, where the first is worth 2 ^ (suc i - base)
pub bits_from : (k i base word : ℕ) → base ≤ suc i → sum_from (suc i) k (λ j. bit j word * 2 ^ (j - base)) ≡ word / 2 ^ i % 2 ^ k * 2 ^ (suc i - base)
bits_from zero i base word h = let none : word / 2 ^ i % 2 ^ 0 ≡ 0 = omega arith in rw none (omega arith)
bits_from (suc k) i base word h =
    let twice : 2 ^ (suc (suc i) - base) ≡ 2 * 2 ^ (suc i - base) = ap (λ e. 2 ^ e) (omega arith) ∙ pow-suc 2 (suc i - base) ∙ mul_comm (2 ^ (suc i - base)) 2 in
    let rest : sum_from (suc (suc i)) k (λ j. bit j word * 2 ^ (j - base)) ≡ word / 2 ^ suc i % 2 ^ k * 2 ^ (suc (suc i) - base) = bits_from k (suc i) base word (omega arith) in
    let half : word / 2 ^ i / 2 ≡ word / 2 ^ suc i = half_shift word i in
    let here : bit (suc i) word ≡ word / 2 ^ i % 2 = bit-suc i word in
    let whole : word / 2 ^ i % 2 ^ suc k ≡ word / 2 ^ i % 2 + 2 * (word / 2 ^ suc i % 2 ^ k) = low_bit (word / 2 ^ i) k ∙ ap (λ n. word / 2 ^ i % 2 + 2 * (n % 2 ^ k)) half in
    rw (rest, whole, here, twice) (omega arith)

pub field_bits : (first width word : ℕ) → 1 ≤ first → width < 32 → bit_and (word / 2 ^ (first - 1)) (1 * 2 ^ width % 2 ^ 32 - 1) ≡ digit first width word
field_bits zero width word h small = absurd (omega arith)
field_bits (suc i) width word h small =
    ap (λ n. bit_and (word / 2 ^ (suc i - 1)) (n - 1)) (one_shl width 32 small)
    ∙ and_mask (word / 2 ^ (suc i - 1)) width
    ∙ ap (λ j. word / 2 ^ j % 2 ^ width) (sub-one (suc i))
    ∙ sym (mul-one (word / 2 ^ i % 2 ^ width))
    ∙ ap (λ e. word / 2 ^ i % 2 ^ width * 2 ^ e) (sym (sub_self (suc i)))
    ∙ sym (bits_from width i (suc i) word (omega arith))

-- a width of at most 18 bits
pub pow_small : (n : ℕ) → n ≤ 18 → 2 ^ n ≤ 262144
pow_small n h = pow-le-pow_right (omega arith) h
