-- A walk over the words: the lines so far, and the words that are kept.
use Rattle.std.proofs.Common.{◌≡◌, ℕ, zero, suc, ◌+◌, ◌<◌, ◌≤◌, List, [], ◌∷◌, ◌++◌, length, get_or, refl, sym, ap, ◌∙◌, arith, add-one, inl, inr, set}
use Rattle.std.proofs.lemmas.Bool.{cases_eq}
use Rattle.std.proofs.lemmas.List.{append-nil, get_or-set_other}
use Rattle.std.proofs.lemmas.Grind.{get_or-set_at}
use Rattle.std.proofs.lemmas.List.Concat.{flat_map-append}
use Rattle.std.specs.Prelude.{flat_map}
use Rattle.ecam_spec.specs.Places.{below}

-- the lines of one number more
pub next_line : (f : ℕ → List ℕ) (n : ℕ) (old now more : List ℕ) → now ≡ old ++ more → old ≡ flat_map f (below n) → more ≡ f n → now ≡ flat_map f (below (n + 1))
unfolding below
next_line f n old now more grown before same =
    let next : flat_map f (below (suc n)) ≡ flat_map f (below n) ++ f n = flat_map-append f (below n) (n ∷ []) ∙ ap (λ l. flat_map f (below n) ++ l) (append-nil (f n)) in
    grown ∙ ap (λ l. l ++ more) before ∙ ap (λ l. flat_map f (below n) ++ l) same ∙ sym next ∙ ap (λ m. flat_map f (below m)) (sym (add-one n))

-- lines that agree on the numbers below n are the same
pub alike_below : (f g : ℕ → List ℕ) (n : ℕ) → ((i : ℕ) → i < n → f i ≡ g i) → flat_map f (below n) ≡ flat_map g (below n)
unfolding below
alike_below f g zero same = refl
alike_below f g (suc n) same =
    flat_map-append f (below n) (n ∷ [])
    ∙ ap (λ l. l ++ flat_map f (n ∷ [])) (alike_below f g n (λ i within. same i (omega arith)))
    ∙ ap (λ l. flat_map g (below n) ++ (l ++ [])) (same n (omega arith))
    ∙ sym (flat_map-append g (below n) (n ∷ []))

-- one word more is kept
pub told_next : (ws : List ℕ) (f : ℕ → ℕ) (i new : ℕ) → i < length ws → new ≡ f i → ((n : ℕ) → n < i → get_or ws n 0 ≡ f n) → (n : ℕ) → n < i + 1 → get_or (set ws i new) n 0 ≡ f n
told_next ws f i new within is before n below-next =
    elim (cases_eq n i) [
      | inl here ↦ get_or-set_at ws i n new 0 here within ∙ is ∙ ap f (sym here)
      | inr other ↦ get_or-set_other ws i n new 0 other ∙ before n (omega arith)
    ]

-- and the words behind it are left
pub left_next : (ws old : List ℕ) (i new : ℕ) → ((n : ℕ) → i ≤ n → get_or ws n 0 ≡ get_or old n 0) → (n : ℕ) → i + 1 ≤ n → get_or (set ws i new) n 0 ≡ get_or old n 0
left_next ws old i new before n behind = get_or-set_other ws i n new 0 (λ here. omega arith) ∙ before n (omega arith)
