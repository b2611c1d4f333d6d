-- Operands that no condition names wake nothing.
use Rattle.std.proofs.Common.{◌≡◌, ℕ, ◌+◌, ◌<◌, ◌≤◌, Bool, true, false, ◌||◌, eqb, List, [], ◌∷◌, Some, slice_get, refl, sym, ap, ◌∙◌, inl, inr}
use Rattle.std.specs.List.{list_any}
use Rattle.std.specs.Option.{option_map_or}
use Rattle.std.proofs.lemmas.Bool.{cases_lt, eq-eqb}
use Rattle.ecam_spec.specs.Book.{Book}
use Rattle.ecam_spec.specs.TermSize.{Placed}
use Rattle.book_model.specs.Conditions.{places}
use Rattle.term_eval.specs.Woken.{Operand, operands}
use Rattle.term_eval.specs.declared.reading.Reading.{Reading}
use Rattle.watch_lists.specs.Naming.{operand_number, names, names_at}
use Rattle.fwc_lane.specs.declared.terms.Terms.{Terms}
use Rattle.fwc_lane.specs.Waking.{sizes_in, HasWoken, NamesNone, ranged}
use Rattle.fwc_lane.proofs.Awake.{awake-unheard}
use Rattle.fwc_lane.proofs.Ranges.{ranged-below, ranged-above}

-- ---- what isn't named passes no test of the operands that aren't

left-off : (a b : Bool) → (a || b) ≡ false → a ≡ false
left-off true b is = is
left-off false b is = refl

right-off : (a b : Bool) → (a || b) ≡ false → b ≡ false
right-off true b is = absurd (let bad : ⊥ = (let clash : true ≡ false = is in cc) in bad)
right-off false b is = is

module _ (number : Operand → ℕ) (from n : ℕ) (f : ℕ → Bool) where
  out : (x : Operand) → (from ≤ number x → number x < from + n → eqb (number x) (number x) ≡ false) → ranged from n f (number x) ≡ false
  out x off = elim (cases_lt (number x) from) [
    | inl below ↦ ranged-below from n f (number x) below
    | inr low ↦ elim (cases_lt (number x) (from + n)) [
      | inr above ↦ ranged-above from n f (number x) above
      | inl high ↦ absurd (let bad : ⊥ = (let clash : true ≡ false = sym (eq-eqb (number x) (number x) refl) ∙ off low high in cc) in bad)
    ]
  ]

  none-passes : (xs : List Operand) → ((o : ℕ) → from ≤ o → o < from + n → list_any (λ x. eqb (number x) o) xs ≡ false) → list_any (λ x. ranged from n f (number x)) xs ≡ false
  none-passes [] off = refl
  none-passes (x ∷ xs) off =
      ap (λ b. b || list_any (λ y. ranged from n f (number y)) xs)
      (out x (λ low high. left-off (eqb (number x) (number x)) (list_any (λ y. eqb (number y) (number x)) xs) (off (number x) low high)))
      ∙ none-passes xs (λ o low high. right-off (eqb (number x) o) (list_any (λ y. eqb (number y) o) xs) (off o low high))

-- ---- nothing is woken

module _ (b : Book) (from n : ℕ) (f : ℕ → Bool) (unnamed : NamesNone b from n) where
  none-woken : (j : ℕ) (p : Placed) → slice_get (places b) j ≡ Some p → list_any (λ x. ranged from n f (operand_number (sizes_in b) x)) (operands p.tree) ≡ false
  unfolding names_at
  none-woken j p is =
      none-passes (operand_number (sizes_in b)) from n f (operands p.tree)
      (λ o low high. sym (ap (λ found. option_map_or (λ (q : Placed). names (sizes_in b) q.tree o) found false) is) ∙ unnamed o j low high)

  pub awake-unnamed : (reads : ℕ → Reading) (t : Terms) → HasWoken b (ranged from n f) reads t t
  awake-unnamed reads t = awake-unheard b (ranged from n f) reads t none-woken
