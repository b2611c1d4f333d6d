-- Words that agree in the bits of a source's mask say the same to it.
use Rattle.std.proofs.Common.{◌≡◌, ℕ, zero, suc, ◌+◌, ◌-◌, ◌*◌, ◌/◌, ◌%◌, ◌^◌, ◌<◌, ◌≤◌, Bool, true, false, ltb, ◌==◌, ◌&&◌, ◌||◌, bit_and, bit_xor, Option, None, refl, sym, ap, ◌∙◌, min, cond, ℤ, arith, inl, inr}
use Rattle.std.proofs.lemmas.Bool.{cases_lt, and_parts, eqb-true, false≢true}
use Rattle.std.proofs.lemmas.Bool.Decides.{nat_tests}
use Rattle.std.proofs.lemmas.Nat.Bits.{bit_at_and, bit_at_xor, bit_at-zero}
use Rattle.ecam_spec.specs.declared.kinds.Kind.{Kind}
use Rattle.ecam_spec.specs.declared.kinds.Kind.TheVariants.{Disc, Bnr, Bcd}
use Rattle.ecam_spec.specs.Book.{Source}
use Rattle.ecam_spec.specs.KeepsLimits.{IsSoundSource}
use Rattle.ecam_spec.specs.Value.{reading}
use Rattle.ecam_spec.specs.Word.{sum_from, bit, ssm}
use Rattle.ecam_spec.specs.Reading.{discrete, raw, binary, digit, has_digits, decimal}
use Rattle.param_table.specs.Words.{low_of, reads, IsReadable, mask_of, modes_of, may_say}

-- each number below n passes
abbrev below : (ℕ → Bool) → ℕ → Bool
below f zero = true
below f (suc n) = f n && below f n

each_below : (f : ℕ → Bool) (n : ℕ) → below f n ≡ true → (i : ℕ) → i < n → f i ≡ true
each_below f zero all i less = absurd (omega arith)
each_below f (suc n) all i less =
    let parts = and_parts (f n) (below f n) all in
    elim (cases_lt i n) [
      | inl before ↦ each_below f n parts.1 i before
      | inr last ↦ let at : i ≡ n = omega arith in ap f at ∙ parts.0
    ]

one_of_two : (n : ℕ) → n % 2 < 2
one_of_two n = omega arith

-- a bit of the difference, within a mask
differs : (a b m i : ℕ) → bit i (bit_and (bit_xor a b) m) ≡ min ((bit i a + bit i b) % 2) (bit i m)
differs a b m i = bit_at_and (bit_xor a b) m (i - 1) ∙ ap (λ n. min n (bit i m)) (bit_at_xor a b (i - 1))

agree : (a b m i : ℕ) → bit_and (bit_xor a b) m ≡ 0 → bit i m ≡ 1 → bit i a ≡ bit i b
agree a b m i none on =
    let zero_there : min ((bit i a + bit i b) % 2) (bit i m) ≡ 0 = sym (differs a b m i) ∙ ap (bit i) none ∙ bit_at-zero (i - 1) in
    both (bit i a) (bit i b) (bit i m) (one_of_two (a / 2 ^ (i - 1))) (one_of_two (b / 2 ^ (i - 1))) on zero_there where
      both : (x y n : ℕ) → x < 2 → y < 2 → n ≡ 1 → min ((x + y) % 2) n ≡ 0 → x ≡ y
      both x y n less small is zero_there = omega arith

-- ---- the bits of the masks

abbrev disc_mask : ℕ → ℕ
disc_mask b = 2 ^ (b - 1) + 3 * 2 ^ 29

abbrev wide_mask : ℕ → ℕ
wide_mask low = 2 ^ 31 - 2 ^ (low - 1)

abbrev disc_is : ℕ → Bool
disc_is b = ltb b 11 || (bit b (disc_mask b) == 1 && (bit 30 (disc_mask b) == 1 && bit 31 (disc_mask b) == 1))

abbrev wide_is : ℕ → Bool
wide_is low = ltb low 11 || below (λ i. ltb i low || bit i (wide_mask low) == 1) 32

disc_all : below disc_is 30 ≡ true
disc_all = refl

wide_all : below wide_is 29 ≡ true
wide_all = refl

behind : (b first : ℕ) (c : Bool) → first ≤ b → (ltb b first || c) ≡ true → c ≡ true
behind b first c least is = let not_less : ltb b first ≡ false = grind (arith, nat_tests) in sym (ap (λ t. t || c) not_less) ∙ is

record IsDiscMask (b : ℕ) : Type 0 where
  data_bit : bit b (disc_mask b) ≡ 1
  low_mode : bit 30 (disc_mask b) ≡ 1
  high_mode : bit 31 (disc_mask b) ≡ 1

is_disc_mask : (b : ℕ) → 11 ≤ b → b ≤ 29 → IsDiscMask b
is_disc_mask b least most =
    let m = disc_mask b in
    let one = and_parts (bit b m == 1) _ (behind b 11 _ least (each_below disc_is 30 disc_all b (omega arith))) in
    let two = and_parts (bit 30 m == 1) (bit 31 m == 1) one.1 in
    record { data_bit = eqb-true (bit b m) 1 one.0; low_mode = eqb-true (bit 30 m) 1 two.0; high_mode = eqb-true (bit 31 m) 1 two.1 }

wide_bits : (low : ℕ) → 11 ≤ low → low ≤ 28 → (i : ℕ) → low ≤ i → i < 32 → bit i (wide_mask low) ≡ 1
wide_bits low least most i from less =
    let all = behind low 11 _ least (each_below wide_is 29 wide_all low (omega arith)) in
    eqb-true (bit i (wide_mask low)) 1 (behind i low (bit i (wide_mask low) == 1) from (each_below (λ n. ltb n low || bit n (wide_mask low) == 1) 32 all i less))

-- ---- what words say

same_sum : (first n : ℕ) (f g : ℕ → ℕ) → ((i : ℕ) → first ≤ i → i < first + n → f i ≡ g i) → sum_from first n f ≡ sum_from first n g
same_sum first zero f g same = refl
same_sum first (suc n) f g same =
    ap (λ x. x + sum_from (suc first) n f) (same first (omega arith) (omega arith))
    ∙ ap (λ x. g first + x) (same_sum (suc first) n f g (λ i from less. same i (omega arith) (omega arith)))

same_mode : (a b : ℕ) → bit 30 a ≡ bit 30 b → bit 31 a ≡ bit 31 b → ssm a ≡ ssm b
unfolding ssm
same_mode a b one two = ap (λ n. n + 2 * bit 31 a) one ∙ ap (λ n. bit 30 b + 2 * n) two

-- words of the same bits from one on
module _ (a b low : ℕ) (least : low ≤ 28) (same : (i : ℕ) → low ≤ i → i < 32 → bit i a ≡ bit i b) where
  same_ssm : ssm a ≡ ssm b
  same_ssm = same_mode a b (same 30 (omega arith) (omega arith)) (same 31 (omega arith) (omega arith))

  same_digit : (first n : ℕ) → low ≤ first → first + n ≤ 32 → digit first n a ≡ digit first n b
  same_digit first n from most =
      same_sum first n (λ i. bit i a * 2 ^ (i - first)) (λ i. bit i b * 2 ^ (i - first)) (λ i at less. ap (λ n. n * 2 ^ (i - first)) (same i (omega arith) (omega arith)))

  same_raw : raw low a ≡ raw low b
  unfolding raw
  same_raw = rw (same_digit low (29 - low) (omega arith) (omega arith), same 29 (omega arith) (omega arith)) refl

  same_binary : (range : ℕ) → binary low range a ≡ binary low range b
  unfolding binary
  same_binary range = rw (same_ssm, same_raw) refl

  same_decimal : low ≤ 11 → decimal a ≡ decimal b
  unfolding decimal
  same_decimal few =
      rw (same_ssm, same_digit 27 3 (omega arith) (omega arith), same_digit 23 4 (omega arith) (omega arith), same_digit 19 4 (omega arith) (omega arith), same_digit 15 4 (omega arith) (omega arith), same_digit 11 4 (omega arith) (omega arith)) refl

-- what a source's word says, by the lowest bit of its data
pub reads-own : (kind : Kind) (s : Source) (bits : ℕ) → reads kind (low_of kind s) s.range bits ≡ reading kind s bits
unfolding reading
reads-own Disc s bits = refl
reads-own Bnr s bits = refl
reads-own Bcd s bits = refl

pub readable : (kind : Kind) (s : Source) → IsSoundSource s → IsReadable kind (low_of kind s) s.range
readable Disc s sound = record { least = sound.bit_low; most = sound.bit_high; range_low = sound.range_low; range_high = sound.range_high }
readable Bnr s sound = record { least = sound.low_low; most = sound.low_high; range_low = sound.range_low; range_high = sound.range_high }
readable Bcd s sound = record { least = omega arith; most = omega arith; range_low = sound.range_low; range_high = sound.range_high }

-- two words that differ in no bit of the mask say the same
pub reading-same : (kind : Kind) (s : Source) (a b : ℕ) → IsSoundSource s → bit_and (bit_xor a b) (mask_of kind (low_of kind s)) ≡ 0 → reading kind s a ≡ reading kind s b
unfolding reading discrete
reading-same Disc s a b sound none =
    let mask = is_disc_mask s.bit sound.bit_low sound.bit_high in
    let m = disc_mask s.bit in
    let mode : ssm a ≡ ssm b = same_mode a b (agree a b m 30 none mask.low_mode) (agree a b m 31 none mask.high_mode) in
    rw (mode, agree a b m s.bit none mask.data_bit) refl
reading-same Bnr s a b sound none =
    same_binary a b s.low sound.low_high (λ i from less. agree a b (wide_mask s.low) i none (wide_bits s.low sound.low_low sound.low_high i from less)) s.range
reading-same Bcd s a b sound none =
    same_decimal a b 11 (omega arith) (λ i from less. agree a b (wide_mask 11) i none (wide_bits 11 (omega arith) (omega arith) i from less)) (omega arith)

-- ---- words that say nothing

not-zero : (m : ℕ) → 2 ^ 0 / 2 ^ m % 2 == 1 ≡ false → m == 0 ≡ false
not-zero zero off = absurd (false≢true (sym off))
not-zero (suc m) off = grind (arith, nat_tests)

not-three : (m : ℕ) → 2 ^ 3 / 2 ^ m % 2 == 1 ≡ false → m == 3 ≡ false
not-three zero off = refl
not-three (suc zero) off = refl
not-three (suc (suc zero)) off = refl
not-three (suc (suc (suc zero))) off = absurd (false≢true (sym off))
not-three (suc (suc (suc (suc m)))) off = grind (arith, nat_tests)

not-either : (m : ℕ) → (2 ^ 0 + 2 ^ 3) / 2 ^ m % 2 == 1 ≡ false → (m == 0 ≡ false) × (m == 3 ≡ false)
not-either zero off = absurd (false≢true (sym off))
not-either (suc zero) off = (refl, refl)
not-either (suc (suc zero)) off = (refl, refl)
not-either (suc (suc (suc zero))) off = absurd (false≢true (sym off))
not-either (suc (suc (suc (suc m)))) off = (grind (arith, nat_tests), grind (arith, nat_tests))

either-way : (b : Bool) (x : Option ℤ) → cond b x x ≡ x
either-way true x = refl
either-way false x = refl

pub ssm-few : (word : ℕ) → ssm word ≤ 3
unfolding ssm
ssm-few word =
    let low = one_of_two (word / 2 ^ 29) in
    let high = one_of_two (word / 2 ^ 30) in
    omega arith

-- a word of a mode in which none says anything
pub says-nothing : (kind : Kind) (s : Source) (bits : ℕ) → may_say (modes_of kind) bits ≡ false → reading kind s bits ≡ None
unfolding reading discrete binary decimal
says-nothing Disc s bits off = rw (not-zero (ssm bits) off) refl
says-nothing Bnr s bits off = rw (not-three (ssm bits) off) refl
says-nothing Bcd s bits off = let modes = not-either (ssm bits) off in rw (modes.0, modes.1) (either-way (has_digits bits) None)
