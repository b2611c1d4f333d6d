-- Lists told by flags, member by member.
use Rattle.std.proofs.Common.{◌≡◌, ℕ, zero, suc, ◌+◌, ◌<◌, Bool, true, false, ◌||◌, List, [], ◌∷◌, ◌++◌, map, take, drop, slice_get, get_or, Some, All, cond, refl, sym, ◌∙◌, ap, arith, add-one}
use Rattle.std.specs.Prelude.{filter}
use Rattle.std.specs.List.{list_any}
use Rattle.std.proofs.lemmas.List.{take_more, map-append, append-nil, take-append-drop, get_or-take, get_or-drop}
use Rattle.std.proofs.lemmas.List.Elements.{filter-append}
use Rattle.std.proofs.lemmas.Option.{slice_get_within, get_or_from_slice_get}
use Rattle.ecam_spec.specs.Picture.{Row}
use Rattle.ecam_spec.specs.Places.{below}
use Rattle.book_model.specs.Told.{flagged}
use Rattle.book_model.proofs.LevelPlaces.{filter_below-more}
use Rattle.zone_rows.specs.Tracked.{TrackedRows}
use Rattle.zone_rows.specs.Mended.{Appends}
use Rattle.zone_rows.proofs.Filling.{append-both}

one-passes : {X Y : Type 0} (f : X → Y) (b : Bool) (x : X) → map f (cond b (x ∷ []) []) ≡ cond b (f x ∷ []) []
one-passes f true x = refl
one-passes f false x = refl

-- one member more of a list that is filtered
pub filter-on : {X Y : Type 0} (f : X → Y) (test : X → Bool) (xs : List X) (x : X) → map f (filter test (xs ++ x ∷ [])) ≡ map f (filter test xs) ++ cond (test x) (f x ∷ []) []
filter-on f test xs x =
    ap (map f) (filter-append test xs (x ∷ []))
    ∙ map-append f (filter test xs) (cond (test x) (x ∷ []) [])
    ∙ ap (λ ys. map f (filter test xs) ++ ys) (one-passes f (test x) x)

-- a list that is filtered in two parts
pub filter-parts : {X : Type 0} (test : X → Bool) (n : ℕ) (xs : List X) → filter test xs ≡ filter test (take n xs) ++ filter test (drop n xs)
filter-parts test n xs = ap (filter test) (sym (take-append-drop n xs)) ∙ filter-append test (take n xs) (drop n xs)

-- the member at place i, where so many were taken
pub taken : {X : Type 0} (xs : List X) (i : ℕ) (x : X) → slice_get xs i ≡ Some x → take (i + 1) xs ≡ take i xs ++ x ∷ []
taken xs i x here =
    take_more xs i x (slice_get_within xs i x here)
    ∙ ap (λ y. take i xs ++ y ∷ []) (get_or_from_slice_get xs i x x here)

-- rows of the members that pass, one member more
pub appends-on : (first room : ℕ) {X : Type 0} (f : X → Row) (test : X → Bool) (xs : List X) (i : ℕ) (x : X) (told : Bool) → slice_get xs i ≡ Some x → told ≡ test x → (a b c : ℕ) (s t u : TrackedRows)
    → Appends first room (map f (filter test (take i xs))) a b s t → Appends first room (cond told (f x ∷ []) []) b c t u → Appends first room (map f (filter test (take (i + 1) xs))) a c s u
appends-on first room f test xs i x told here tells a b c s t u before next =
    let on : map f (filter test (take (i + 1) xs)) ≡ map f (filter test (take i xs)) ++ cond told (f x ∷ []) [] =
    ap (λ ys. map f (filter test ys)) (taken xs i x here)
    ∙ filter-on f test (take i xs) x
    ∙ ap (λ d. map f (filter test (take i xs)) ++ cond d (f x ∷ []) []) (sym tells) in
    rw on (append-both first room (map f (filter test (take i xs))) (cond told (f x ∷ []) []) a b c s t u before next)

-- tests that agree on the numbers below n keep the same of a list of such numbers, and find the same
pub filter_told : (n : ℕ) (p q : ℕ → Bool) → ((a : ℕ) → a < n → p a ≡ q a) → (xs : List ℕ) → All (λ a. a < n) xs → filter p xs ≡ filter q xs
filter_told n p q agree [] within = refl
filter_told n p q agree (x ∷ xs) within =
    let rest = filter_told n p q agree xs (λ i d h. within (suc i) d (omega arith)) in
    ap (λ b. cond b (x ∷ filter p xs) (filter p xs)) (agree x (within 0 x (omega arith))) ∙ ap (λ ys. cond (q x) (x ∷ ys) ys) rest

pub any_told : (n : ℕ) (p q : ℕ → Bool) → ((a : ℕ) → a < n → p a ≡ q a) → (xs : List ℕ) → All (λ a. a < n) xs → list_any p xs ≡ list_any q xs
any_told n p q agree [] within = refl
any_told n p q agree (x ∷ xs) within =
    let rest = any_told n p q agree xs (λ i d h. within (suc i) d (omega arith)) in
    ap (λ b. b || list_any p xs) (agree x (within 0 x (omega arith))) ∙ ap (λ b. q x || b) rest

-- the numbers below one more
pub below-more : (n : ℕ) → below (n + 1) ≡ below n ++ n ∷ []
unfolding below
below-more n = ap below (add-one n)

-- flags none of which is set bring no number
pub below-clear : (p : ℕ → Bool) (n d : ℕ) → ((i : ℕ) → i < d → p (n + i) ≡ false) → filter p (below (n + d)) ≡ filter p (below n)
below-clear p n zero none = let e : n + 0 ≡ n = omega arith in ap (λ k. filter p (below k)) e
below-clear p n (suc d) none =
    let e : n + suc d ≡ (n + d) + 1 = omega arith in
    ap (λ k. filter p (below k)) e ∙ filter_below-more p (n + d)
    ∙ ap (λ b. filter p (below (n + d)) ++ cond b ((n + d) ∷ []) []) (none d (omega arith)) ∙ append-nil (filter p (below (n + d)))
    ∙ below-clear p n d (λ i h. none i (omega arith))

pub block-clear : (flags part : List Bool) (n d : ℕ) → part ≡ take d (drop n flags) → ((i : ℕ) → get_or part i false ≡ false)
    → filter (flagged flags) (below (n + d)) ≡ filter (flagged flags) (below n)
block-clear flags part n d is none =
    below-clear (flagged flags) n d
    (λ i h. sym (ap (λ xs. get_or xs i false) is ∙ get_or-take d (drop n flags) i false h ∙ get_or-drop n flags i false) ∙ none i)
