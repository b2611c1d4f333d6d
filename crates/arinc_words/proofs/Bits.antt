-- Shifts, masks and counts of a number against its bits one by one.
use Rattle.std.proofs.Common.{◌≡◌, ℕ, zero, suc, ◌+◌, ◌-◌, ◌*◌, ◌/◌, ◌%◌, ◌^◌, ◌<◌, bit_and, refl, sym, ap, ◌∙◌, arith, subst}
use Rattle.std.proofs.Math.Nat.{div-div-eq-div-mul, pow-suc}
use Rattle.std.proofs.lemmas.Nat.{and_mask}
use Rattle.std.proofs.Math.Numerals.{sub-one}
use lib.Count.{ones, ones_step}
use Rattle.std.specs.Int.RustNames.{count_ones}
use Rattle.std.specs.Int.{reverse_bits, reverse_bits_onto, w8}
use Rattle.std.specs.Prelude.{nat_eq}
use Rattle.std.proofs.Math.Nat.{div-one}
use Rattle.ecam_spec.specs.Word.{sum_from, bit, label, sdi, ssm, is_odd}

-- halving takes the next bit to the front
pub half_shift : (n i : ℕ) → n / 2 ^ i / 2 ≡ n / 2 ^ suc i
half_shift n i = div-div-eq-div-mul n (2 ^ i) 2 ∙ ap (λ d. n / d) (sym (pow-suc 2 i))

-- bit i + 1 stands behind i others
pub bit-suc : (i word : ℕ) → bit (suc i) word ≡ word / 2 ^ i % 2
bit-suc i word = ap (λ j. word / 2 ^ j % 2) (sub-one (suc i))

low_two : (n : ℕ) → n % 4 ≡ n % 2 + 2 * (n / 2 % 2)
low_two n = omega arith

-- two bits by a shift and a mask
pub two_bits : (k word : ℕ) → bit_and (word / 2 ^ k) 3 ≡ bit (suc k) word + 2 * bit (suc (suc k)) word
two_bits k word =
    and_mask (word / 2 ^ k) 2 ∙ low_two (word / 2 ^ k)
    ∙ ap (λ n. word / 2 ^ k % 2 + 2 * (n % 2)) (half_shift word k)
    ∙ ap (λ n. n + 2 * (word / 2 ^ suc k % 2)) (sym (bit-suc k word))
    ∙ ap (λ n. bit (suc k) word + 2 * n) (sym (bit-suc (suc k) word))

-- one bit by a shift and a mask
pub one_bit : (i word : ℕ) → bit_and (word / 2 ^ (i - 1)) 1 ≡ bit i word
one_bit i word = and_mask (word / 2 ^ (i - 1)) 1

-- a number of k bits has as many ones as the sum of its bits
pub ones_of_bits : (k i word : ℕ) → word / 2 ^ i < 2 ^ k → ones (word / 2 ^ i) ≡ sum_from (suc i) k (λ j. bit j word)
unfolding ones
ones_of_bits zero i word h = let none : word / 2 ^ i ≡ 0 = omega arith in ap ones none ∙ refl
ones_of_bits (suc k) i word h =
    let smaller : word / 2 ^ suc i < 2 ^ k = subst (λ n. n < 2 ^ k) (half_shift word i) (omega (arith, pow-suc 2 k)) in
    ones_step (word / 2 ^ i)
    ∙ ap (λ n. word / 2 ^ i % 2 + ones n) (half_shift word i)
    ∙ ap (λ n. word / 2 ^ i % 2 + n) (ones_of_bits k (suc i) word smaller)
    ∙ ap (λ n. n + sum_from (suc (suc i)) k (λ j. bit j word)) (sym (bit-suc i word))

-- the fields
pub sdi_bits : (word : ℕ) → bit_and (word / 2 ^ 8) 3 ≡ sdi word
unfolding sdi
sdi_bits word = two_bits 8 word

pub ssm_bits : (word : ℕ) → bit_and (word / 2 ^ 29) 3 ≡ ssm word
unfolding ssm
ssm_bits word = two_bits 29 word

pub odd_bits : (word : ℕ) → word < 2 ^ 32 → nat_eq (count_ones word % 2) 1 ≡ is_odd word
unfolding is_odd
odd_bits word h = ap (λ n. nat_eq (n % 2) 1) (ap ones (sym (div-one word)) ∙ ones_of_bits 32 0 word (rw div-one h))

-- eight bits turned round are the label
pub label_bits : (word : ℕ) → reverse_bits w8 (bit_and word 255) ≡ label word
unfolding label reverse_bits_onto
label_bits word = ap (reverse_bits w8) (and_mask word 8) ∙ turned word where
  turned : (word : ℕ) → reverse_bits_onto 8 (word % 256) 0 ≡ label word
  turned word = omega arith
