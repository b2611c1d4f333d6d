-- A signal that is so in no moment, and tests that nothing in a list passes, or everything.
use Rattle.std.proofs.Common.{◌≡◌, ℕ, zero, suc, Bool, true, false, List, [], ◌∷◌, length, get_or, map, Some, None, cond, refl, sym, ◌∙◌, ap}
use Rattle.std.specs.Prelude.{filter, find, count_by}
use Rattle.std.proofs.lemmas.List.Sums.{length-filter}
use Rattle.ecam_spec.specs.Past.{Signal, last}
use Rattle.ecam_spec.proofs.PastSteps.{last-none}

pub last-nowhere : (p : Signal) (k : ℕ) → ((i : ℕ) → p i ≡ false) → last p k ≡ None
last-nowhere p k none = last-none p k (λ i h. none i)

module _ {X : Type 0} (p : X → Bool) where
  pub filter-all : ((x : X) → p x ≡ true) → (xs : List X) → filter p xs ≡ xs
  filter-all all [] = refl
  filter-all all (x ∷ xs) = ap (λ b. cond b (x ∷ filter p xs) (filter p xs)) (all x) ∙ ap (λ ys. x ∷ ys) (filter-all all xs)

  pub find-none : ((x : X) → p x ≡ false) → (xs : List X) → find p xs ≡ None
  find-none none [] = refl
  find-none none (x ∷ xs) = ap (λ b. cond b (Some x) (find p xs)) (none x) ∙ find-none none xs

  pub count_by-all : ((x : X) → p x ≡ true) → (xs : List X) → count_by p xs ≡ length xs
  count_by-all all xs = sym (length-filter p xs) ∙ ap length (filter-all all xs)

-- past the end too, where the default is mapped with the list
pub get_or-mapped : {X Y : Type 0} (f : X → Y) (xs : List X) (i : ℕ) (d : X) → get_or (map f xs) i (f d) ≡ f (get_or xs i d)
get_or-mapped f [] i d = refl
get_or-mapped f (x ∷ xs) zero d = refl
get_or-mapped f (x ∷ xs) (suc i) d = get_or-mapped f xs i d
