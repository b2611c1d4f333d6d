-- One flag of a list is set.
use Rattle.std.proofs.Common.{◌≡◌, ◌≢◌, ℕ, zero, suc, ◌<◌, Bool, true, false, ◌||◌, ◌&&◌, List, [], ◌∷◌, length, get_or, set, refl, ap, ◌∙◌, arith}
use Rattle.std.proofs.lemmas.List.{get_or-set_same, get_or-set_other, length-set}

module _ {X : Type 0} (old new : List X) (i : ℕ) (x d : X) (is : new ≡ set old i x) where
  pub set-own : i < length old → get_or new i d ≡ x
  set-own within = ap (λ ys. get_or ys i d) is ∙ get_or-set_same old i x d within

  pub set-other : (j : ℕ) → j < i → get_or new j d ≡ get_or old j d
  set-other j lt = let ne : j ≢ i = omega arith in ap (λ ys. get_or ys j d) is ∙ get_or-set_other old i j x d ne

  pub set-behind : (j : ℕ) → i < j → get_or new j d ≡ get_or old j d
  set-behind j lt = let ne : j ≢ i = omega arith in ap (λ ys. get_or ys j d) is ∙ get_or-set_other old i j x d ne

  pub set-length : length new ≡ length old
  set-length = ap length is ∙ length-set old i x

pub left-false : (a b : Bool) → (a || b) ≡ false → a ≡ false
left-false true b e = absurd (let w : ⊥ = cc in w)
left-false false b e = refl

pub right-false : (a b : Bool) → (a || b) ≡ false → b ≡ false
right-false true b e = absurd (let w : ⊥ = cc in w)
right-false false b e = e

pub left-true : (a b : Bool) → (a && b) ≡ true → a ≡ true
left-true true b e = refl
left-true false b e = absurd (let w : ⊥ = cc in w)

-- a place of a list has an item
pub with-item : {X P : Type 0} (xs : List X) (i : ℕ) → i < length xs → ((x : X) → x ≡ get_or xs i x → P) → P
with-item [] i lt go = absurd (omega arith)
with-item (x ∷ xs) zero lt go = go x refl
with-item (x ∷ xs) (suc i) lt go = with-item xs i (omega arith) go
