-- Lists of numbers without repetition, and counts over them.
use Rattle.std.proofs.Common.{◌≡◌, ℕ, zero, suc, ◌+◌, ◌≤◌, Bool, true, false, not, ◌&&◌, ◌||◌, ◌==◌, List, [], ◌∷◌, ◌++◌, length, Some, None, refl, sym, ◌∙◌, ap, cond, eqb, ltb, ◌≢◌, arith}
use Rattle.std.specs.Prelude.{filter, count_by, is_some, position}
use Rattle.std.specs.List.{list_any, position_or_len}
use Rattle.std.proofs.Math.Dec.{leb-suc-suc}
use Rattle.std.proofs.Math.Numerals.{one-add}
use Rattle.std.proofs.lemmas.Bool.{eqb-true, eq-eqb, lt-ltb, and_parts, true≢false, not-true, or_right, not_from_false, or_from}
use Rattle.std.proofs.lemmas.List.Sums.{sum_by-cons}
use Rattle.std.proofs.lemmas.List.Folds.{list_any-append}
use Rattle.std.proofs.lemmas.Map.Views.{any-filter_same}
use Rattle.std.proofs.Math.Bool.{and-false}
use Rattle.ecam_spec.specs.Places.{below}

-- a number is in a list
abbrev pub mem : ℕ → List ℕ → Bool
mem a xs = list_any (λ i. a == i) xs

-- no number stands twice
abbrev pub distinct : List ℕ → Bool
distinct [] = true
distinct (x ∷ xs) = not (mem x xs) && distinct xs

pub eqb-self : (n : ℕ) → eqb n n ≡ true
eqb-self n = eq-eqb n n refl

pub mem-filter : (p : ℕ → Bool) (a : ℕ) (xs : List ℕ) → mem a (filter p xs) ≡ (p a && mem a xs)
mem-filter p a xs = any-filter_same (λ i. a == i) p (p a) (λ i e. ap p (sym (eqb-true a i e))) xs

kept : (b m d : Bool) (rest : Bool) → (b ≡ true → m ≡ false) → rest ≡ true → (not (b && m) && rest) ≡ true
kept true m d rest f e = rw (f refl, e) refl
kept false m d rest f e = e

filter-cons : (b : Bool) (p : ℕ → Bool) (x : ℕ) (xs : List ℕ) → mem x (filter p xs) ≡ false → distinct (filter p xs) ≡ true → distinct (cond b (x ∷ filter p xs) (filter p xs)) ≡ true
filter-cons true p x xs e d = rw (e, d) refl
filter-cons false p x xs e d = d

pub distinct-filter : (p : ℕ → Bool) (xs : List ℕ) → distinct xs ≡ true → distinct (filter p xs) ≡ true
distinct-filter p [] d = refl
distinct-filter p (x ∷ xs) d =
    filter-cons (p x) p x xs
    (mem-filter p x xs ∙ ap (λ b. p x && b) (not-true (mem x xs) ((and_parts (not (mem x xs)) (distinct xs) d).0)) ∙ and-false (p x))
    (distinct-filter p xs ((and_parts (not (mem x xs)) (distinct xs) d).1))

pub mem-append : (a : ℕ) (xs ys : List ℕ) → mem a (xs ++ ys) ≡ (mem a xs || mem a ys)
mem-append a xs ys = list_any-append (λ i. a == i) xs ys

pub distinct-append : (xs ys : List ℕ) → distinct xs ≡ true → distinct ys ≡ true → ((a : ℕ) → mem a xs ≡ true → mem a ys ≡ false) → distinct (xs ++ ys) ≡ true
distinct-append [] ys d e apart = e
distinct-append (x ∷ xs) ys d e apart =
    let fresh : not (mem x (xs ++ ys)) ≡ true =
    ap not (mem-append x xs ys)
    ∙ not_from_false (mem x xs || mem x ys) (or_from (mem x xs) (mem x ys) (not-true (mem x xs) ((and_parts (not (mem x xs)) (distinct xs) d).0)) (apart x (ap (λ b. b || mem x xs) (eqb-self x)))) in
    let rest : distinct (xs ++ ys) ≡ true =
    distinct-append xs ys ((and_parts (not (mem x xs)) (distinct xs) d).1) e (λ a h. apart a (or_right (a == x) (mem a xs) h)) in
    rw (fresh, rest) refl

not-eq : (a n : ℕ) → a ≢ n → (a == n) ≡ false
not-eq a n h = elim (a == n) as (λ b. (a == n) ≡ b → b ≡ false) [ true ↦ λ e. absurd (h (eqb-true a n e)) | false ↦ λ e. refl ] refl

-- the numbers below n: each below it, and none twice
below-none : (n a : ℕ) → n ≤ a → mem a (below n) ≡ false
unfolding below
below-none zero a h = refl
below-none (suc n) a h =
    mem-append a (below n) (n ∷ [])
    ∙ ap (λ b. b || ((a == n) || false)) (below-none n a (omega arith))
    ∙ ap (λ b. b || false) (not-eq a n (omega arith))

below-differs : (a n : ℕ) → mem a (below n) ≡ true → a ≢ n
below-differs a n h e = true≢false (sym h ∙ below-none n a (omega arith))

pub distinct-below : (n : ℕ) → distinct (below n) ≡ true
unfolding below
distinct-below zero = refl
distinct-below (suc n) =
    distinct-append (below n) (n ∷ []) (distinct-below n) refl
    (λ a h. ap (λ b. b || false) (not-eq a n (below-differs a n h)))

pub count_by-cons : {X : Type 0} (p : X → Bool) (x : X) (xs : List X) → count_by p (x ∷ xs) ≡ cond (p x) 1 0 + count_by p xs
count_by-cons p x xs = sum_by-cons (λ y. cond (p y) 1 0) x xs

-- tests that agree on a list count alike
pub count_by-agree : (p q : ℕ → Bool) (xs : List ℕ) → ((a : ℕ) → mem a xs ≡ true → p a ≡ q a) → count_by p xs ≡ count_by q xs
count_by-agree p q [] same = refl
count_by-agree p q (x ∷ xs) same =
    let here : p x ≡ q x = same x (ap (λ b. b || mem x xs) (eqb-self x)) in
    let rest : count_by p xs ≡ count_by q xs = count_by-agree p q xs (λ a h. same a (or_right (a == x) (mem a xs) h)) in
    count_by-cons p x xs ∙ ap (λ b. cond b 1 0 + count_by p xs) here ∙ ap (λ n. cond (q x) 1 0 + n) rest ∙ sym (count_by-cons q x xs)

-- what passes a filter is counted with its test
pub count_by-filter : (p q : ℕ → Bool) (xs : List ℕ) → count_by p (filter q xs) ≡ count_by (λ a. q a && p a) xs
count_by-filter p q [] = refl
count_by-filter p q (x ∷ xs) =
    (elim (q x) as (λ b. count_by p (cond b (x ∷ filter q xs) (filter q xs)) ≡ cond (b && p x) 1 0 + count_by (λ a. q a && p a) xs) [
      | true ↦ count_by-cons p x (filter q xs) ∙ ap (λ n. cond (p x) 1 0 + n) (count_by-filter p q xs)
      | false ↦ count_by-filter p q xs ∙ omega arith
    ])
    ∙ sym (count_by-cons (λ a. q a && p a) x xs)

pub is_some-cond : (b : Bool) (n : ℕ) → is_some {T = ℕ} (cond b (Some n) None) ≡ b
is_some-cond true n = refl
is_some-cond false n = refl

pub within-any : {X : Type 0} (p : X → Bool) (xs : List X) → ltb (position_or_len p xs) (length xs) ≡ list_any p xs
within-any p [] = refl
within-any p (x ∷ xs) =
    elim (p x) as (λ b. ltb (cond (not b) (1 + position_or_len p xs) 0) (suc (length xs)) ≡ (b || list_any p xs)) [
      | true ↦ lt-ltb 0 (suc (length xs)) (omega arith)
      | false ↦ ap (λ n. ltb n (suc (length xs))) (one-add (position_or_len p xs)) ∙ leb-suc-suc (suc (position_or_len p xs)) (length xs) ∙ within-any p xs
    ]

-- the first place of a test is there where some element passes it
pub is_some-position : {X : Type 0} (p : X → Bool) (xs : List X) → is_some (position p xs) ≡ list_any p xs
is_some-position p xs = is_some-cond (ltb (position_or_len p xs) (length xs)) (position_or_len p xs) ∙ within-any p xs
