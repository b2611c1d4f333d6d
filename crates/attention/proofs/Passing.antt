-- The first of a list that passes, and whether one does: in a filtered list, and in the order of a book's alerts.
use Rattle.std.proofs.Common.{◌≡◌, ℕ, Bool, true, false, ◌&&◌, ◌||◌, List, [], ◌∷◌, Some, None, cond, refl, sym, ◌∙◌, ap}
use Rattle.std.specs.Prelude.{find, filter, is_some}
use Rattle.std.specs.List.{list_any}

pub find-agree : (p q : ℕ → Bool) → ((i : ℕ) → p i ≡ q i) → (xs : List ℕ) → find p xs ≡ find q xs
find-agree p q same [] = refl
find-agree p q same (x ∷ xs) = rw (same x, find-agree p q same xs) refl

pub find-none : (p : ℕ → Bool) → ((i : ℕ) → p i ≡ false) → (xs : List ℕ) → find p xs ≡ None
find-none p none [] = refl
find-none p none (x ∷ xs) = rw (none x) (find-none p none xs)

pub find-filter : (p q : ℕ → Bool) (xs : List ℕ) → find p (filter q xs) ≡ find (λ i. q i && p i) xs
find-filter p q [] = refl
find-filter p q (x ∷ xs) =
    elim (q x) as (λ b. find p (cond b (x ∷ filter q xs) (filter q xs)) ≡ cond (b && p x) (Some x) (find (λ i. q i && p i) xs))
    [ true ↦ ap (λ o. cond (p x) (Some x) o) (find-filter p q xs) | false ↦ find-filter p q xs ]

pub is_some-find : (p : ℕ → Bool) (xs : List ℕ) → is_some (find p xs) ≡ list_any p xs
is_some-find p [] = refl
is_some-find p (x ∷ xs) = elim (p x) as (λ b. is_some (cond b (Some x) (find p xs)) ≡ (b || list_any p xs)) [ true ↦ refl | false ↦ is_some-find p xs ]

pub any-agree : (p q : ℕ → Bool) → ((i : ℕ) → p i ≡ q i) → (xs : List ℕ) → list_any p xs ≡ list_any q xs
any-agree p q same xs = sym (is_some-find p xs) ∙ ap is_some (find-agree p q same xs) ∙ is_some-find q xs
