-- What a composed word says: how large it is, and each bit of its data.
use Rattle.std.proofs.Common.{◌≡◌, ℕ, zero, suc, ◌+◌, ◌-◌, ◌*◌, ◌/◌, ◌%◌, ◌^◌, ◌<◌, ◌≤◌, Bool, true, false, List, [], ◌∷◌, get_or, cond, sym, ap, ◌∙◌, arith}
use Rattle.std.proofs.Math.Nat.{add-mul-div_left, div-div-eq-div-mul, pow-suc, zero-div, add-mul-mod_self_left}
use Rattle.std.proofs.lemmas.Nat.{pow_pos, pow-add}
use Rattle.ecam_spec.specs.Word.{bit, is_odd}
use Rattle.ecam_spec.specs.Phase.{Flight, trip, back_lately, climbed, high_last, phase, parked_phase, ground_phase, air_phase}
use Rattle.arinc_words.specs.Composed.{label_bits, joined, composed}
use Rattle.arinc_words.proofs.Composed.{label_bits-small, made_odd-cases}
use Rattle.view_spec.specs.OutputWords.{number_of}

apart : (a b c : ℕ) → a * (b * c) ≡ b * (c * a)
apart a b c = grind arith

-- what is even has no bearing on the last bit
twice : (n a b : ℕ) → (n + a * 2 * b) % 2 ≡ n % 2
twice n a b = ap (λ x. (n + x) % 2) (doubled a b) ∙ add-mul-mod_self_left n 2 (a * b) where
  doubled : (a b : ℕ) → a * 2 * b ≡ 2 * (a * b)
  doubled a b = grind arith

-- ---- a composed word

composed-parts : (l s f m : ℕ) → composed l s f m ≡ label_bits l + s * 2 ^ 8 + f * 2 ^ 10 + m * 2 ^ 29 + cond (is_odd (joined l s f m)) 0 1 * 2 ^ 31
unfolding composed joined
composed-parts l s f m = made_odd-cases (joined l s f m)

top_bit : (b : Bool) → cond b 0 1 ≤ 1
top_bit true = omega arith
top_bit false = omega arith

module _ (l s f m : ℕ) (one : s ≤ 3) (few : f < 2 ^ 19) (most : m ≤ 3) where
  pub composed-small : composed l s f m < 2 ^ 32
  composed-small = omega (arith, composed-parts l s f m, label_bits-small l, top_bit (is_odd (joined l s f m)))

  above_ten : composed l s f m / 2 ^ 10 ≡ f + (m + cond (is_odd (joined l s f m)) 0 1 * 4) * 2 ^ 19
  above_ten = omega (arith, composed-parts l s f m, label_bits-small l)

  -- a bit of the data, from bit 11 on
  pub composed-bit : (i : ℕ) → i < 19 → bit (11 + i) (composed l s f m) ≡ f / 2 ^ i % 2
  composed-bit i within =
      let w : ℕ = composed l s f m in
      let r : ℕ = m + cond (is_odd (joined l s f m)) 0 1 * 4 in
      let place : 2 ^ (11 + i - 1) ≡ 2 ^ 10 * 2 ^ i = ap (λ n. 2 ^ n) (let e : 11 + i - 1 ≡ 10 + i = omega arith in e) ∙ pow-add 2 10 i in
      let even : r * 2 ^ 19 ≡ 2 ^ i * (2 ^ (18 - i) * 2 * r) =
      ap (λ n. r * 2 ^ n) (let e : 19 ≡ i + suc (18 - i) = omega arith in e) ∙ ap (λ n. r * n) (pow-add 2 i (suc (18 - i)) ∙ ap (λ n. 2 ^ i * n) (pow-suc 2 (18 - i))) ∙ apart r (2 ^ i) (2 ^ (18 - i) * 2) in
      ap (λ d. w / d % 2) place
      ∙ ap (λ n. n % 2) (sym (div-div-eq-div-mul w (2 ^ 10) (2 ^ i)))
      ∙ ap (λ n. n / 2 ^ i % 2) (above_ten ∙ ap (λ n. f + n) even)
      ∙ ap (λ n. n % 2) (add-mul-div_left f (2 ^ (18 - i) * 2 * r) (pow_pos i))
      ∙ twice (f / 2 ^ i) (2 ^ (18 - i)) r

-- ---- a number by its bits

pub number_of-bit : (bs : List Bool) (i : ℕ) → number_of bs / 2 ^ i % 2 ≡ cond (get_or bs i false) 1 0
unfolding number_of
number_of-bit [] i = ap (λ n. n % 2) (zero-div (2 ^ i))
number_of-bit (b ∷ bs) zero =
    elim b as (λ x. (cond x 1 0 + 2 * number_of bs) / 2 ^ 0 % 2 ≡ cond x 1 0) [ true ↦ omega arith | false ↦ omega arith ]
number_of-bit (b ∷ bs) (suc i) =
    ap (λ d. (cond b 1 0 + 2 * number_of bs) / d % 2) (pow-suc 2 i ∙ flipped (2 ^ i))
    ∙ ap (λ n. n % 2) (sym (div-div-eq-div-mul (cond b 1 0 + 2 * number_of bs) 2 (2 ^ i)))
    ∙ ap (λ n. n / 2 ^ i % 2) (elim b as (λ x. (cond x 1 0 + 2 * number_of bs) / 2 ≡ number_of bs) [ true ↦ omega arith | false ↦ omega arith ])
    ∙ number_of-bit bs i where
      flipped : (n : ℕ) → n * 2 ≡ 2 * n
      flipped n = omega arith

-- ---- the phase is a small number

at_most : (b : Bool) (x y : ℕ) → x ≤ 10 → y ≤ 10 → cond b x y ≤ 10
at_most true x y p q = p
at_most false x y p q = q

pub phase-small : (f : Flight) (k : ℕ) → phase f k ≤ 10
unfolding phase parked_phase ground_phase air_phase
phase-small f k =
    at_most (f.gnd k) _ _
    (at_most (f.run k) _ _
    (at_most (f.tp k) _ _
    (at_most (f.fast k) 4 3 (omega arith) (omega arith))
    (at_most (f.fast k) 8 _ (omega arith) (at_most (trip f k) 9 2 (omega arith) (omega arith))))
    (at_most (back_lately f k) 10 1 (omega arith) (omega arith)))
    (at_most (climbed f k) _ 5 (at_most (high_last f k) 6 7 (omega arith) (omega arith)) (omega arith))
