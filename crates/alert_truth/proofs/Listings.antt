-- The alerts that list an alert as secondary, and the first active one of them.
use Rattle.std.proofs.Common.{◌≡◌, ℕ, zero, suc, ◌<◌, Bool, true, false, ◌||◌, List, [], ◌∷◌, map, length, get_or, filter, Some, None, cond, eqb, refl, sym, ap, ◌∙◌, arith}
use Rattle.std.specs.Prelude.{find, is_some}
use Rattle.std.specs.List.{list_any}
use Rattle.std.specs.Option.{option_or}
use Rattle.std.proofs.lemmas.List.{length-map}
use Rattle.std.proofs.lemmas.List.Elements.{filter-append}
use Rattle.std.proofs.lemmas.List.Folds.{find-append}
use Rattle.ecam_spec.specs.Places.{below}
use Rattle.ecam_spec.specs.Book.{Book, Alert}
use Rattle.ecam_spec.specs.Alert.{primaries_in}
use Rattle.ecam_spec.specs.Situation.{primaries}

-- among the alerts below n, those that list alert a
unfoldable pub listing : List (List ℕ) → ℕ → ℕ → List ℕ
listing lists a n = filter (λ p. list_any (λ s. eqb s a) (get_or lists p [])) (below n)

find-one : (q : ℕ → Bool) (lists : Bool) (n : ℕ) → find q (cond lists (n ∷ []) []) ≡ cond lists (cond (q n) (Some n) None) None
find-one q true n = refl
find-one q false n = refl

pub find-none : (q : ℕ → Bool) (lists : List (List ℕ)) (a : ℕ) → find q (listing lists a 0) ≡ None
unfolding listing below
find-none q lists a = refl

pub find-more : (q : ℕ → Bool) (lists : List (List ℕ)) (a n : ℕ)
    → find q (listing lists a (suc n)) ≡ option_or (find q (listing lists a n)) (cond (list_any (λ s. eqb s a) (get_or lists n [])) (cond (q n) (Some n) None) None)
unfolding listing below
find-more q lists a n =
    let lists_it : ℕ → Bool = λ p. list_any (λ s. eqb s a) (get_or lists p []) in
    ap (find q) (filter-append lists_it (below n) (n ∷ []))
    ∙ find-append q (filter lists_it (below n)) (filter lists_it (n ∷ []))
    ∙ ap (λ o. option_or (find q (filter lists_it (below n))) o) (find-one q (lists_it n) n)

same-one : (lists_it x y : Bool) (n : ℕ) → (lists_it ≡ true → x ≡ y) → cond lists_it (cond x (Some n) None) None ≡ cond lists_it (cond y (Some n) None) None
same-one true x y n same = ap (λ t. cond t (Some n) None) (same refl)
same-one false x y n same = refl

-- the first that passes is told by the tests of these alerts
find-same : (q r : ℕ → Bool) (lists : List (List ℕ)) (a n : ℕ) → ((p : ℕ) → p < n → list_any (λ s. eqb s a) (get_or lists p []) ≡ true → q p ≡ r p)
    → find q (listing lists a n) ≡ find r (listing lists a n)
find-same q r lists a zero same = find-none q lists a ∙ sym (find-none r lists a)
find-same q r lists a (suc n) same =
    let lists_it : Bool = list_any (λ s. eqb s a) (get_or lists n []) in
    find-more q lists a n
    ∙ ap (λ o. option_or o (cond lists_it (cond (q n) (Some n) None) None)) (find-same q r lists a n (λ p h. same p (omega arith)))
    ∙ ap (λ o. option_or (find r (listing lists a n)) o) (same-one lists_it (q n) (r n) n (same n (omega arith)))
    ∙ sym (find-more r lists a n)

-- and is there where one passes
pub find-is_some : (q : ℕ → Bool) (xs : List ℕ) → is_some (find q xs) ≡ list_any q xs
find-is_some q [] = refl
find-is_some q (x ∷ xs) = elim (q x) as (λ b. is_some (cond b (Some x) (find q xs)) ≡ (b || list_any q xs)) [ true ↦ refl | false ↦ find-is_some q xs ]

abbrev pub secondaries_of : Book → List (List ℕ)
secondaries_of b = map (λ (p : Alert). p.secondary) b.alerts

-- all of them
pub primaries-listing : (b : Book) (a : ℕ) → primaries b a ≡ listing (secondaries_of b) a (length b.alerts)
unfolding primaries primaries_in listing
primaries-listing b a = ap (λ n. listing (secondaries_of b) a n) (length-map b.alerts (λ (p : Alert). p.secondary))

pub same-primary : (b : Book) (a : ℕ) (q r : ℕ → Bool) → ((p : ℕ) → p < length b.alerts → list_any (λ s. eqb s a) (get_or (secondaries_of b) p []) ≡ true → q p ≡ r p)
    → find q (primaries b a) ≡ find r (primaries b a)
same-primary b a q r same = ap (find q) (primaries-listing b a) ∙ find-same q r (secondaries_of b) a (length b.alerts) same ∙ ap (find r) (sym (primaries-listing b a))
