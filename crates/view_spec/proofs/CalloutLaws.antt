-- What follows from the definition of the callouts.
use Rattle.std.proofs.Common.{◌≡◌, ℕ, zero, suc, ◌+◌, ◌<◌, ◌≤◌, Bool, true, false, not, ◌&&◌, ℤ, pos, int_lt, Option, Some, None, refl, ◌∙◌, ap, arith}
use Rattle.std.proofs.lemmas.Bool.{and_parts}
use Rattle.std.proofs.lemmas.Int.{ints}
use Rattle.std.proofs.Math.Bool.{and-false}
use Rattle.ecam_spec.specs.Past.{Signal, previous}
use Rattle.ecam_spec.proofs.PastLaws.{since-broken, since-none}
use Rattle.ecam_spec.proofs.Nowhere.{find-none}
use Rattle.view_spec.specs.Callouts.{heights, margin, is_above, is_at_most, armed, crossed, call}

-- no value is at most a height and above it by more than the margin
not-above : (h : ℕ) (value : Option ℤ) → is_at_most h value ≡ true → is_above (h + margin) value ≡ false
not-above h None low = refl
not-above h (Some v) low = by (int_lt (pos (h + margin)) v) refl where
  by : (b : Bool) → int_lt (pos (h + margin)) v ≡ b → b ≡ false
  by false e = refl
  by true e = absurd (let w : ⊥ = omega (arith, ints, low, e) in w)

module _ (values : ℕ → Option ℤ) where
  crossed-no : (h k : ℕ) → previous (armed values h) k ≡ false → crossed values h k ≡ false
  unfolding crossed
  crossed-no h k none = ap (λ b. is_at_most h (values k) && b) none ∙ and-false (is_at_most h (values k))

  crossed-low : (h j : ℕ) → crossed values h j ≡ true → is_at_most h (values j) ≡ true
  unfolding crossed
  crossed-low h j is = (and_parts (is_at_most h (values j)) (previous (armed values h) j) is).0

  disarmed : (h j k : ℕ) → is_at_most h (values j) ≡ true → j ≤ k
      → ((i : ℕ) → j < i → i ≤ k → is_above (h + margin) (values i) ≡ false) → armed values h k ≡ false
  unfolding armed
  disarmed h j k low within none =
      let above : Signal = λ i. is_above (h + margin) (values i) in
      let kept : Signal = λ i. not (is_at_most h (values i)) in
      since-none above kept j k within (since-broken above kept j (not-above h (values j) low) (ap not low)) none

  pub not_again : (h j k : ℕ) → crossed values h j ≡ true → j < k
      → ((i : ℕ) → j < i → i < k → is_above (h + margin) (values i) ≡ false) → crossed values h k ≡ false
  unfolding previous
  not_again h j zero is before none = absurd (let w : ⊥ = omega (arith, before) in w)
  not_again h j (suc k) is before none =
      crossed-no h (suc k) (disarmed h j k (crossed-low h j is) (omega (arith, before)) (λ i after within. none i after (omega (arith, within))))

  pub call_first : call values 0 ≡ None
  unfolding call previous
  call_first = find-none (λ h. crossed values h 0) (λ h. crossed-no h 0 refl) heights

  pub call_none : (k : ℕ) → values k ≡ None → call values k ≡ None
  unfolding call crossed
  call_none k missing = find-none (λ h. crossed values h k) (λ h. ap (λ v. is_at_most h v && previous (armed values h) k) missing) heights
