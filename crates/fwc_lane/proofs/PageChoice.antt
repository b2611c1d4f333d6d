-- The page that the situation calls for, as a loop over the pages finds it.
use Rattle.std.proofs.Common.{◌≡◌, ℕ, zero, suc, ◌+◌, ◌<◌, Bool, true, false, List, [], ◌∷◌, length, drop, get_or, slice_get, Option, Some, None, cond, refl, sym, ap, ◌∙◌, arith, add-one, drop-cons}
use Rattle.std.specs.Prelude.{find}
use Rattle.std.specs.Option.{option_and_then, option_or}
use Rattle.ecam_spec.specs.Book.{Page}
use Rattle.ecam_spec.specs.Term.{in_set}
use Rattle.ecam_spec.specs.SystemDisplay.{Display, called_page}

module _ {X : Type 0} (p : X → Bool) where
  find-cons : (x : X) (xs : List X) (b : Bool) → p x ≡ b → find p (x ∷ xs) ≡ cond b (Some x) (find p xs)
  find-cons x xs b e = ap (λ c. cond c (Some x) (find p xs)) e

  -- past a member that doesn't pass
  pub find-past : (xs : List X) (i : ℕ) (x : X) → i < length xs → x ≡ get_or xs i x → p x ≡ false → find p (drop (i + 1) xs) ≡ find p (drop i xs)
  find-past xs i x lt here off =
      ap (λ n. find p (drop n xs)) (add-one i)
      ∙ sym (find-cons x (drop (suc i) xs) false off)
      ∙ ap (λ y. find p (y ∷ drop (suc i) xs)) here
      ∙ ap (find p) (sym (drop-cons xs i x lt))

  -- one that passes
  pub find-at : (xs : List X) (i : ℕ) (x : X) → i < length xs → x ≡ get_or xs i x → p x ≡ true → find p (drop i xs) ≡ Some x
  find-at xs i x lt here on =
      ap (find p) (drop-cons xs i x lt)
      ∙ ap (λ y. find p (y ∷ drop (suc i) xs)) (sym here)
      ∙ find-cons x (drop (suc i) xs) true on

-- what stands in the list is the first of two that may be there
pub first-there : {X : Type 0} (xs : List X) (i : ℕ) (rest : Option X) → i < length xs → option_or (slice_get xs i) rest ≡ slice_get xs i
first-there [] i rest lt = absurd (omega arith)
first-there (x ∷ xs) zero rest lt = refl
first-there (x ∷ xs) (suc i) rest lt = first-there xs i rest (omega arith)

-- the page of an alert that is shown, and the first of the phase where there is none
module _ (d : Display) (pages : List Page) (same : d.pages ≡ pages) where
  pub called-own : (i : ℕ) → d.alert_page ≡ Some i → i < length pages → slice_get pages i ≡ called_page d
  unfolding called_page
  called-own i own lt =
      sym (first-there pages i (find (λ (p : Page). in_set p.phases d.phase) d.pages) lt)
      ∙ ap (λ ps. option_or (slice_get ps i) (find (λ (p : Page). in_set p.phases d.phase) d.pages)) (sym same)
      ∙ ap (λ o. option_or (option_and_then (slice_get d.pages) o) (find (λ (p : Page). in_set p.phases d.phase) d.pages)) (sym own)

  pub called-phase : (n : ℕ) (o : Option ℕ) → d.phase ≡ n → d.alert_page ≡ None → option_and_then (slice_get pages) o ≡ find (λ (p : Page). in_set p.phases n) pages
      → option_and_then (slice_get pages) o ≡ called_page d
  unfolding called_page
  called-phase n o phase none found =
      found
      ∙ ap (λ ps. find (λ (p : Page). in_set p.phases n) ps) (sym same)
      ∙ ap (λ k. find (λ (p : Page). in_set p.phases k) d.pages) (sym phase)
      ∙ ap (λ q. option_or (option_and_then (slice_get d.pages) q) (find (λ (p : Page). in_set p.phases d.phase) d.pages)) (sym none)
