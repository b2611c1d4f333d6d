-- Of some numbers from one on those that pass a test.
use Rattle.std.proofs.Common.{◌≡◌, ℕ, suc, ◌+◌, ◌-◌, ◌<◌, ◌≤◌, Bool, true, false, ◌&&◌, ◌||◌, leb, ltb, eqb, sym, ap, ◌∙◌, inl, inr, arith}
use Rattle.std.proofs.lemmas.Bool.{cases_lt, cases_eq, lt-ltb, le-ltb, le-leb, lt-leb, eq-eqb, ne_eqb}
use Rattle.std.proofs.Math.Bool.{and-false, and-true, or-false}
use Rattle.fwc_lane.specs.Waking.{ranged}

pub ranged-in : (from n : ℕ) (f : ℕ → Bool) (o : ℕ) → from ≤ o → o < from + n → ranged from n f o ≡ f (o - from)
unfolding ranged
ranged-in from n f o low high = ap (λ b. (b && ltb o (from + n)) && f (o - from)) (le-leb from o low) ∙ ap (λ b. b && f (o - from)) (lt-ltb o (from + n) high)

pub ranged-above : (from n : ℕ) (f : ℕ → Bool) (o : ℕ) → from + n ≤ o → ranged from n f o ≡ false
unfolding ranged
ranged-above from n f o above = ap (λ b. (leb from o && b) && f (o - from)) (le-ltb o (from + n) above) ∙ ap (λ b. b && f (o - from)) (and-false (leb from o))

pub ranged-below : (from n : ℕ) (f : ℕ → Bool) (o : ℕ) → o < from → ranged from n f o ≡ false
unfolding ranged
ranged-below from n f o below = ap (λ b. (b && ltb o (from + n)) && f (o - from)) (lt-leb from o below)

pub ranged-none : (from : ℕ) (f : ℕ → Bool) (o : ℕ) → ranged from 0 f o ≡ false
ranged-none from f o = elim (cases_lt o from) [
  | inl below ↦ ranged-below from 0 f o below
  | inr above ↦ ranged-above from 0 f o (omega arith)
]

-- where none passes the test
pub ranged-off : (from n o : ℕ) → ranged from n (λ i. false) o ≡ false
unfolding ranged
ranged-off from n o = and-false (leb from o && ltb o (from + n))

-- one number more
pub ranged-next : (from n : ℕ) (f : ℕ → Bool) (o : ℕ) → ranged from (suc n) f o ≡ (ranged from n f o || (f n && eqb o (from + n)))
ranged-next from n f o = elim (cases_lt o from) [
  | inl below ↦
      ranged-below from (suc n) f o below
      ∙ sym (ap (λ b. b || (f n && eqb o (from + n))) (ranged-below from n f o below) ∙ ap (λ b. f n && b) (ne_eqb o (from + n) (λ e. absurd (omega arith))) ∙ and-false (f n))
  | inr low ↦ elim (cases_lt o (from + n)) [
    | inl high ↦
        ranged-in from (suc n) f o low (omega arith)
        ∙ sym (ap (λ b. b || (f n && eqb o (from + n))) (ranged-in from n f o low high) ∙ ap (λ b. f (o - from) || (f n && b)) (ne_eqb o (from + n) (λ e. absurd (omega arith)))
        ∙ ap (λ b. f (o - from) || b) (and-false (f n)) ∙ or-false (f (o - from)))
    | inr above ↦ elim (cases_eq o (from + n)) [
      | inl e ↦
          ranged-in from (suc n) f o low (omega arith) ∙ ap f (let z : o - from ≡ n = omega arith in z)
          ∙ sym (ap (λ b. b || (f n && eqb o (from + n))) (ranged-above from n f o above) ∙ ap (λ b. f n && b) (eq-eqb o (from + n) e) ∙ and-true (f n))
      | inr ne ↦
          ranged-above from (suc n) f o (omega (arith, above, ne))
          ∙ sym (ap (λ b. b || (f n && eqb o (from + n))) (ranged-above from n f o above) ∙ ap (λ b. f n && b) (ne_eqb o (from + n) ne) ∙ and-false (f n))
    ]
  ]
]

-- what passes is one of them
pub ranged-within : (from n : ℕ) (f : ℕ → Bool) (o : ℕ) → ranged from n f o ≡ true → (from ≤ o) × (o < from + n)
ranged-within from n f o on = elim (cases_lt o from) [
  | inl below ↦ absurd (let w : ⊥ = (let clash : false ≡ true = sym (ranged-below from n f o below) ∙ on in cc) in w)
  | inr low ↦ elim (cases_lt o (from + n)) [
    | inl high ↦ (low, high)
    | inr above ↦ absurd (let w : ⊥ = (let clash : false ≡ true = sym (ranged-above from n f o above) ∙ on in cc) in w)
  ]
]
