-- What stands at a place of lists that are joined.
use Rattle.std.proofs.Common.{◌≡◌, ℕ, zero, suc, ◌+◌, List, [], ◌∷◌, ◌++◌, take, length, Some, refl, ap, ◌∙◌, arith, length-append}
use Rattle.std.specs.List.{slice_get, flat_map}

module _ {X : Type 0} where
  pub get-front : (xs ys : List X) (i : ℕ) (x : X) → slice_get xs i ≡ Some x → slice_get (xs ++ ys) i ≡ Some x
  get-front [] ys i x is = absurd (let w : ⊥ = cc in w)
  get-front (y ∷ xs) ys zero x is = is
  get-front (y ∷ xs) ys (suc i) x is = get-front xs ys i x is

  -- where so many stand before it
  pub get-behind : (xs ys : List X) (i k : ℕ) (x : X) → k ≡ length xs + i → slice_get ys i ≡ Some x → slice_get (xs ++ ys) k ≡ Some x
  get-behind [] ys i k x at is = let here : k ≡ i = omega arith in ap (slice_get ys) here ∙ is
  get-behind (y ∷ xs) ys i zero x at is = absurd (let w : ⊥ = omega arith in w)
  get-behind (y ∷ xs) ys i (suc k) x at is = get-behind xs ys i k x (omega arith) is

-- the j-th of the a-th piece stands behind the pieces before it
pub get-piece : {X Y : Type 0} (f : X → List Y) (xs : List X) (a j k : ℕ) (x : X) (y : Y) → k ≡ length (flat_map f (take a xs)) + j
    → slice_get xs a ≡ Some x → slice_get (f x) j ≡ Some y → slice_get (flat_map f xs) k ≡ Some y
get-piece f [] a j k x y at is own = absurd (let w : ⊥ = cc in w)
get-piece f (z ∷ xs) zero j k x y at is own =
    let same : z ≡ x = cc in
    let here : k ≡ j = omega arith in
    ap (slice_get (f z ++ flat_map f xs)) here ∙ get-front (f z) (flat_map f xs) j y (ap (λ w. slice_get (f w) j) same ∙ own)
get-piece f (z ∷ xs) (suc a) j k x y at is own =
    let before : length (f z ++ flat_map f (take a xs)) ≡ length (f z) + length (flat_map f (take a xs)) = length-append (f z) (flat_map f (take a xs)) in
    get-behind (f z) (flat_map f xs) (length (flat_map f (take a xs)) + j) k y (omega arith) (get-piece f xs a j (length (flat_map f (take a xs)) + j) x y refl is own)
