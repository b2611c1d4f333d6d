-- The heights in their order: a search among them, and what is said of each.
use Rattle.std.proofs.Common.{◌≡◌, ℕ, zero, suc, ◌+◌, ◌<◌, Bool, false, List, [], ◌∷◌, length, drop, get_or, map, find, refl, sym, ◌∙◌, ap, arith, add-one}
use Rattle.std.proofs.lemmas.List.{ext_get_or, get_or-map}
use Rattle.view_spec.specs.Callouts.{heights}

pub heights-count : length heights ≡ 12
unfolding heights
heights-count = refl

-- a search from a place on goes past what doesn't pass
find-past : (p : ℕ → Bool) (xs : List ℕ) (i : ℕ) → i < length xs → p (get_or xs i 0) ≡ false → find p (drop (suc i) xs) ≡ find p (drop i xs)
find-past p [] i within fails = absurd (let w : ⊥ = omega (arith, within) in w)
find-past p (x ∷ xs) zero within fails = rw fails refl
find-past p (x ∷ xs) (suc i) within fails = find-past p xs i (omega (arith, within)) fails

pub find-next : (p : ℕ → Bool) (i : ℕ) → i < 12 → p (get_or heights i 0) ≡ false → find p (drop (i + 1) heights) ≡ find p (drop i heights)
find-next p i within fails =
    ap (λ n. find p (drop n heights)) (add-one i) ∙ find-past p heights i (omega (arith, within, heights-count)) fails

-- what is said of a height by its place
pub flag-at : (flags : List Bool) (f : ℕ → Bool) (i : ℕ) → i < 12 → flags ≡ map f heights → get_or flags i false ≡ f (get_or heights i 0)
flag-at flags f i within are =
    ap (λ fs. get_or fs i false) are ∙ get_or-map f heights i 0 false (omega (arith, within, heights-count))

-- and of all, by what is said of each
flags-count : (flags : List Bool) (f : ℕ → Bool) → flags ≡ map f heights → length flags ≡ 12
unfolding heights
flags-count flags f are = ap length are

pub flags-are : (old new : List Bool) (f g : ℕ → Bool) → old ≡ map f heights → length new ≡ length old
    → ((i : ℕ) → i < 12 → get_or new i false ≡ g (get_or heights i 0)) → new ≡ map g heights
flags-are old new f g are kept each =
    let count : length new ≡ 12 = kept ∙ flags-count old f are in
    let mapped : length (map g heights) ≡ 12 = flags-count (map g heights) g refl in
    ext_get_or false new (map g heights) (count ∙ sym mapped)
    (λ i within. each i (omega (arith, within, count)) ∙ sym (get_or-map g heights i 0 false (omega (arith, within, count, heights-count))))

pub map-agree : (f g : ℕ → Bool) (xs : List ℕ) → ((x : ℕ) → f x ≡ g x) → map f xs ≡ map g xs
map-agree f g [] same = refl
map-agree f g (x ∷ xs) same = rw (same x, map-agree f g xs same) refl
