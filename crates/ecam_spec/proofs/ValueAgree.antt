-- The value of a parameter depends on the words up to now alone.
use Rattle.std.proofs.Common.{◌≡◌, ℕ, zero, suc, ◌≤◌, Bool, true, false, List, ◌∷◌, [], map, Option, Some, None, cond, refl, ap, ◌∙◌, arith}
use Rattle.std.specs.Prelude.{option_and_then}
use Rattle.std.specs.List.{list_any}
use Rattle.std.specs.Option.{option_or}
use Rattle.ecam_spec.specs.declared.kinds.Kind.{Kind}
use Rattle.ecam_spec.specs.Past.{Signal, last}
use Rattle.ecam_spec.specs.Book.{Source, Parameter}
use Rattle.ecam_spec.specs.Value.{BusWord, takes, last_taken, arrives, word_of, is_fresh, reading, source_value, value}
use Rattle.ecam_spec.specs.Places.{first_of}
use Rattle.ecam_spec.proofs.PastSteps.{last-zero, last-suc}
use Rattle.ecam_spec.proofs.PastAgree.{once_within-below, last-below}

-- what is asked of the last moment with p is asked of none later
chosen : {X : Type 0} (f g : ℕ → Option X) (b : Bool) (k : ℕ) (o : Option ℕ) → f k ≡ g k → option_and_then f o ≡ option_and_then g o → option_and_then f (cond b (Some k) o) ≡ option_and_then g (cond b (Some k) o)
chosen f g b k o now before = elim b as (λ x. option_and_then f (cond x (Some k) o) ≡ option_and_then g (cond x (Some k) o)) [ true ↦ now | false ↦ before ]

pub at_last : {X : Type 0} (f g : ℕ → Option X) (p : Signal) (k : ℕ) → ((i : ℕ) → i ≤ k → f i ≡ g i) → option_and_then f (last p k) ≡ option_and_then g (last p k)
at_last f g p zero same = rw last-zero (chosen f g (p 0) 0 None (same 0 (omega arith)) refl)
at_last f g p (suc k) same = rw last-suc (chosen f g (p (suc k)) (suc k) (last p k) (same (suc k) (omega arith)) (at_last f g p k (λ i h. same i (omega arith))))

module _ (v w : ℕ → List BusWord) (k : ℕ) (same : (i : ℕ) → i ≤ k → v i ≡ w i) where
  pub word_of-below : (s : Source) → word_of s v k ≡ word_of s w k
  unfolding word_of
  word_of-below s =
      ap (option_and_then (λ m. last_taken s (v m))) (last-below (arrives s v) (arrives s w) k (λ i h. ap (list_any (takes s)) (same i h)))
      ∙ at_last (λ m. last_taken s (v m)) (λ m. last_taken s (w m)) (arrives s w) k (λ i h. ap (last_taken s) (same i h))

  is_fresh-below : (stale : ℕ) (s : Source) → is_fresh stale s v k ≡ is_fresh stale s w k
  unfolding is_fresh
  is_fresh-below stale s = once_within-below stale (arrives s v) (arrives s w) k (λ i h. ap (list_any (takes s)) (same i h))

  pub source_value-below : (kind : Kind) (stale : ℕ) (s : Source) → source_value kind stale s v k ≡ source_value kind stale s w k
  unfolding source_value
  source_value-below kind stale s =
      ap (λ b. cond b (option_and_then (reading kind s) (word_of s v k)) None) (is_fresh-below stale s)
      ∙ ap (λ o. cond (is_fresh stale s w k) (option_and_then (reading kind s) o) None) (word_of-below s)

  sources-below : (kind : Kind) (stale : ℕ) (ss : List Source) → first_of (map (λ s. source_value kind stale s v k) ss) ≡ first_of (map (λ s. source_value kind stale s w k) ss)
  sources-below kind stale [] = refl
  sources-below kind stale (s ∷ ss) =
      ap (λ o. option_or o (first_of (map (λ t. source_value kind stale t v k) ss))) (source_value-below kind stale s)
      ∙ ap (option_or (source_value kind stale s w k)) (sources-below kind stale ss)

  pub value-below : (p : Parameter) → value p v k ≡ value p w k
  unfolding value
  value-below p = sources-below p.kind p.stale p.sources
