-- A look at the alerts in the book's order finds the first of a level, and whether there is one, as a look at them in
-- their own order does.
use Rattle.std.proofs.Common.{◌≡◌, ℕ, ◌<◌, ◌==◌, Bool, true, false, ◌&&◌, ◌||◌, List, ◌++◌, length, Option, Some, None, refl, sym, ◌∙◌, ap}
use Rattle.std.specs.Prelude.{find, filter, is_some}
use Rattle.std.specs.List.{list_any}
use Rattle.std.specs.Option.{option_or}
use Rattle.std.proofs.lemmas.List.Folds.{find-append, list_any-append}
use Rattle.std.proofs.lemmas.Bool.{and_right, ne_eqb, eq-eqb}
use Rattle.std.proofs.Math.Bool.{and-true}
use Rattle.ecam_spec.specs.declared.kinds.Level.{Level}
use Rattle.ecam_spec.specs.declared.kinds.Level.TheVariants.{One, Two, Three}
use Rattle.ecam_spec.specs.Levels.{is_three, is_two, is_one}
use Rattle.ecam_spec.specs.Places.{below}
use Rattle.ecam_spec.specs.Book.{Book}
use Rattle.ecam_spec.specs.Situation.{alert_at}
use Rattle.ecam_spec.specs.Screen.{of_level, order}
use Rattle.attention.proofs.Passing.{find-agree, find-none, find-filter, is_some-find}
use Rattle.attention.proofs.Below.{any-one}

-- a test that passes alerts of one level alone
abbrev IsOfLevel : (Level → Bool) → (ℕ → Level) → (ℕ → Bool) → Type 0
IsOfLevel test level p = (i : ℕ) → (test (level i) && p i) ≡ p i

-- no level passes both
abbrev AreApart : (Level → Bool) → (Level → Bool) → Type 0
AreApart s t = (l : Level) → (s l && t l) ≡ false

two-three : AreApart is_two is_three
two-three Three = refl
two-three Two = refl
two-three One = refl

one-three : AreApart is_one is_three
one-three Three = refl
one-three Two = refl
one-three One = refl

three-two : AreApart is_three is_two
three-two Three = refl
three-two Two = refl
three-two One = refl

one-two : AreApart is_one is_two
one-two Three = refl
one-two Two = refl
one-two One = refl

apart-step : (s t p : Bool) → (s && t) ≡ false → (t && p) ≡ p → (s && p) ≡ false
apart-step true true p h e = cc
apart-step true false p h e = sym e
apart-step false t p h e = refl

first-alone : (o p q : Option ℕ) → p ≡ None → q ≡ None → option_or (option_or o p) q ≡ o
first-alone None p q h g = rw (h, g) refl
first-alone (Some x) p q h g = refl

second-alone : (o p q : Option ℕ) → o ≡ None → q ≡ None → option_or (option_or o p) q ≡ p
second-alone o None q h g = rw (h, g) refl
second-alone o (Some x) q h g = rw h refl

abbrev level_at : Book → ℕ → Level
level_at b i = (alert_at b i).level

module _ (b : Book) (p : ℕ → Bool) where
  find-level : (test : Level → Bool) → IsOfLevel test (level_at b) p → find p (of_level b test) ≡ find p (below (length b.alerts))
  find-level test own =
      find-filter p (λ i. test (level_at b i)) (below (length b.alerts)) ∙ find-agree (λ i. test (level_at b i) && p i) p own (below (length b.alerts))

  find-other : (other test : Level → Bool) → AreApart other test → IsOfLevel test (level_at b) p → find p (of_level b other) ≡ None
  find-other other test apart own =
      find-filter p (λ i. other (level_at b i)) (below (length b.alerts))
      ∙ find-none (λ i. other (level_at b i) && p i) (λ i. apart-step (other (level_at b i)) (test (level_at b i)) (p i) (apart (level_at b i)) (own i)) (below (length b.alerts))

  find-parts : find p (order b) ≡ option_or (option_or (find p (of_level b is_three)) (find p (of_level b is_two))) (find p (of_level b is_one))
  unfolding order
  find-parts =
      find-append p (of_level b is_three ++ of_level b is_two) (of_level b is_one)
      ∙ ap (λ o. option_or o (find p (of_level b is_one))) (find-append p (of_level b is_three) (of_level b is_two))

  find-warning : IsOfLevel is_three (level_at b) p → find p (order b) ≡ find p (below (length b.alerts))
  find-warning own =
      find-parts
      ∙ first-alone (find p (of_level b is_three)) (find p (of_level b is_two)) (find p (of_level b is_one)) (find-other is_two is_three two-three own) (find-other is_one is_three one-three own)
      ∙ find-level is_three own

  find-caution : IsOfLevel is_two (level_at b) p → find p (order b) ≡ find p (below (length b.alerts))
  find-caution own =
      find-parts
      ∙ second-alone (find p (of_level b is_three)) (find p (of_level b is_two)) (find p (of_level b is_one)) (find-other is_three is_two three-two own) (find-other is_one is_two one-two own)
      ∙ find-level is_two own

and-swap : (x y z : Bool) → (x && z) ≡ z → (x && (y && z)) ≡ (y && z)
and-swap true y z h = refl
and-swap false true z h = h
and-swap false false z h = refl

-- the same of those that are shown
module _ (b : Book) (shown p : ℕ → Bool) where
  pub warning-shown : IsOfLevel is_three (level_at b) p → find p (filter shown (order b)) ≡ find p (filter shown (below (length b.alerts)))
  warning-shown own =
      find-filter p shown (order b)
      ∙ find-warning b (λ i. shown i && p i) (λ i. and-swap (is_three (level_at b i)) (shown i) (p i) (own i))
      ∙ sym (find-filter p shown (below (length b.alerts)))

  pub caution-shown : IsOfLevel is_two (level_at b) p → list_any p (filter shown (order b)) ≡ list_any p (filter shown (below (length b.alerts)))
  caution-shown own =
      sym (is_some-find p (filter shown (order b)))
      ∙ ap is_some
      (find-filter p shown (order b)
      ∙ find-caution b (λ i. shown i && p i) (λ i. and-swap (is_two (level_at b i)) (shown i) (p i) (own i))
      ∙ sym (find-filter p shown (below (length b.alerts))))
      ∙ is_some-find p (filter shown (below (length b.alerts)))

-- what is shown of the alerts in their own order
three-levels : (l : Level) (s : Bool) → (((is_three l && s) || (is_two l && s)) || (is_one l && s)) ≡ s
three-levels Three true = refl
three-levels Three false = refl
three-levels Two true = refl
three-levels Two false = refl
three-levels One s = refl

pub any-filter : (p q : ℕ → Bool) (xs : List ℕ) → list_any q (filter p xs) ≡ list_any (λ i. p i && q i) xs
any-filter p q xs = sym (is_some-find q (filter p xs)) ∙ ap is_some (find-filter q p xs) ∙ is_some-find (λ i. p i && q i) xs

module _ (b : Book) (shown : ℕ → Bool) (i : ℕ) (within : i < length b.alerts) where
  abbrev here : ℕ → Bool
  here j = shown j && (j == i)

  of-level : (test : Level → Bool) → list_any here (of_level b test) ≡ (test (level_at b i) && shown i)
  of-level test =
      any-filter (λ j. test (level_at b j)) here (below (length b.alerts))
      ∙ any-one (λ j. test (level_at b j) && here j) (length b.alerts) i within
      (λ j apart. and_right (test (level_at b j)) (here j) (and_right (shown j) (j == i) (ne_eqb j i apart)))
      ∙ ap (λ x. test (level_at b i) && (shown i && x)) (eq-eqb i i refl)
      ∙ ap (λ x. test (level_at b i) && x) (and-true (shown i))

  pub shown-at : list_any (λ j. j == i) (filter shown (order b)) ≡ shown i
  unfolding order
  shown-at =
      any-filter shown (λ j. j == i) (order b)
      ∙ list_any-append here (of_level b is_three ++ of_level b is_two) (of_level b is_one)
      ∙ ap (λ x. x || list_any here (of_level b is_one)) (list_any-append here (of_level b is_three) (of_level b is_two))
      ∙ rw (of-level is_three, of-level is_two, of-level is_one) (three-levels (level_at b i) (shown i))
