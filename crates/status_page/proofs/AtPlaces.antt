-- The alerts at some places of a book, one place more; and that flags tell the places.
use Rattle.std.proofs.Common.{◌≡◌, ℕ, suc, ◌+◌, ◌<◌, Bool, true, false, List, [], ◌∷◌, ◌++◌, map, length, take, get_or, All, cond, refl, sym, ◌∙◌, ap, subst, arith}
use Rattle.std.specs.Prelude.{filter}
use Rattle.std.proofs.lemmas.List.{map-append, take_more}
use Rattle.std.proofs.lemmas.List.Elements.{filter_more, All-filter}
use Rattle.ecam_spec.specs.Book.{Book}
use Rattle.ecam_spec.specs.Situation.{alert_at}
use Rattle.ecam_spec.specs.StatusPage.{status_rows}
use Rattle.ecam_spec.specs.Screen.{alert_numbers}
use Rattle.ecam_spec.proofs.OrderLaws.{below-below}
use Rattle.book_model.specs.Told.{TellsBelow, flagged}
use Rattle.status_page.specs.StatusOf.{rows_at, status_of}

one-mapped : (b : Book) (p : Bool) (a : ℕ) → map (alert_at b) (cond p (a ∷ []) []) ≡ cond p (alert_at b a ∷ []) []
one-mapped b true a = refl
one-mapped b false a = refl

module _ (b : Book) (places : List ℕ) (i : ℕ) (within : i < length places) where
  pub alerts-more : map (alert_at b) (take (i + 1) places) ≡ map (alert_at b) (take i places) ++ alert_at b (get_or places i 0) ∷ []
  alerts-more = ap (map (alert_at b)) (take_more places i 0 within) ∙ map-append (alert_at b) (take i places) (get_or places i 0 ∷ [])

  pub passing-more : (test : ℕ → Bool) →
      map (alert_at b) (filter test (take (i + 1) places)) ≡ map (alert_at b) (filter test (take i places)) ++ cond (test (get_or places i 0)) (alert_at b (get_or places i 0) ∷ []) []
  passing-more test =
      ap (map (alert_at b)) (filter_more test places i 0 within)
      ∙ map-append (alert_at b) (filter test (take i places)) (cond (test (get_or places i 0)) (get_or places i 0 ∷ []) [])
      ∙ ap (λ xs. map (alert_at b) (filter test (take i places)) ++ xs) (one-mapped b (test (get_or places i 0)) (get_or places i 0))

-- tests that agree on the numbers below n keep the same of a list of such numbers
filter-told : (n : ℕ) (p q : ℕ → Bool) → ((a : ℕ) → a < n → p a ≡ q a) → (xs : List ℕ) → All (λ a. a < n) xs → filter p xs ≡ filter q xs
filter-told n p q agree [] within = refl
filter-told n p q agree (x ∷ xs) within =
    let rest = filter-told n p q agree xs (λ i d h. within (suc i) d (omega arith)) in
    ap (λ b. cond b (x ∷ filter p xs) (filter p xs)) (agree x (within 0 x (omega arith))) ∙ ap (λ ys. cond (q x) (x ∷ ys) ys) rest

-- the rows by the places that flags tell are those by the tests that they tell
pub rows-told : (b : Book) (n : ℕ) → n ≡ length b.alerts → (places : List ℕ) (active cancelled : List Bool) (is_active is_cancelled : ℕ → Bool)
    → places ≡ filter (flagged active) (alert_numbers b) → TellsBelow n active is_active → TellsBelow n cancelled is_cancelled
    → rows_at b places (flagged cancelled) ≡ status_of b is_active is_cancelled
unfolding status_of
rows-told b n same places active cancelled is_active is_cancelled gathered tells told =
    let numbers : All (λ a. a < n) (alert_numbers b) = subst (λ m. All (λ a. a < m) (alert_numbers b)) (sym same) (below-below (length b.alerts)) in
    let these : places ≡ filter is_active (alert_numbers b) = gathered ∙ filter-told n (flagged active) is_active tells (alert_numbers b) numbers in
    let within : All (λ a. a < n) (filter is_active (alert_numbers b)) = All-filter is_active (λ a. a < n) (alert_numbers b) numbers in
    ap (λ xs. rows_at b xs (flagged cancelled)) these
    ∙ ap (λ xs. status_rows (map (alert_at b) (filter is_active (alert_numbers b))) (map (alert_at b) xs))
    (filter-told n (flagged cancelled) is_cancelled told (filter is_active (alert_numbers b)) within)
