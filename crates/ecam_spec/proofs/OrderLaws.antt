-- The order in which alerts are shown: each alert of the book, once.
use Rattle.std.proofs.Common.{◌≡◌, ℕ, zero, suc, ◌+◌, ◌<◌, Bool, true, false, ◌&&◌, ◌||◌, List, [], ◌∷◌, ◌++◌, length, length-append, All, refl, sym, ◌∙◌, ap, cond, arith}
use Rattle.std.specs.Prelude.{count_by}
use Rattle.std.proofs.lemmas.List.Elements.{All-append, All-filter, All-cons, All-nil, All-weaker}
use Rattle.std.proofs.lemmas.List.Sums.{sum_by-append}
use Rattle.std.proofs.lemmas.Bool.{and_parts, true≢false}
use Rattle.ecam_spec.specs.declared.kinds.Level.{Level}
use Rattle.ecam_spec.specs.declared.kinds.Level.TheVariants.{One, Two, Three}
use Rattle.ecam_spec.specs.Places.{below}
use Rattle.ecam_spec.specs.Levels.{is_three, is_two, is_one}
use Rattle.ecam_spec.specs.Book.{Book}
use Rattle.ecam_spec.specs.Situation.{alert_at}
use Rattle.ecam_spec.specs.Screen.{alert_numbers, of_level, order}
use Rattle.ecam_spec.proofs.Nowhere.{count_by-all}
use Rattle.ecam_spec.proofs.ListLaws.{mem, mem-append, distinct, mem-filter, distinct-filter, distinct-append, distinct-below, count_by-cons, count_by-filter}

apart-step : (p q m : Bool) → (p && q) ≡ false → p ≡ true → (q && m) ≡ false
apart-step true q m e h = ap (λ x. x && m) e
apart-step false q m e h = absurd (true≢false (sym h))

or-cases : (x y z : Bool) → (x ≡ true → z ≡ false) → (y ≡ true → z ≡ false) → (x || y) ≡ true → z ≡ false
or-cases true y z f g h = f refl
or-cases false y z f g h = g h

three-two : (l : Level) → (is_three l && is_two l) ≡ false
three-two Three = refl
three-two Two = refl
three-two One = refl

three-one : (l : Level) → (is_three l && is_one l) ≡ false
three-one Three = refl
three-one Two = refl
three-one One = refl

two-one : (l : Level) → (is_two l && is_one l) ≡ false
two-one Three = refl
two-one Two = refl
two-one One = refl

-- an alert has exactly one level
one-level : (l : Level) (p : Bool) → cond (is_three l && p) 1 0 + cond (is_two l && p) 1 0 + cond (is_one l && p) 1 0 ≡ cond p 1 0
one-level Three true = refl
one-level Three false = refl
one-level Two true = refl
one-level Two false = refl
one-level One true = refl
one-level One false = refl

-- the numbers below n are, and are n
pub below-below : (n : ℕ) → All (λ i. i < n) (below n)
unfolding below
below-below zero = All-nil (λ i. i < 0)
below-below (suc n) =
    All-append (λ i. i < suc n) (below n) (n ∷ [])
    (All-weaker (λ i. i < n) (λ i. i < suc n) (λ i h. omega arith) (below n) (below-below n))
    (All-cons (λ i. i < suc n) n [] (omega arith) (All-nil (λ i. i < suc n)))

pub length-below : (n : ℕ) → length (below n) ≡ n
unfolding below
length-below zero = refl
length-below (suc n) = omega (arith, length-append (below n) (n ∷ []), length-below n)

module _ (b : Book) where
  level-apart : (p q : Level → Bool) → ((l : Level) → (p l && q l) ≡ false) → (a : ℕ) → mem a (of_level b p) ≡ true → mem a (of_level b q) ≡ false
  level-apart p q apart a h =
      mem-filter (λ i. q (alert_at b i).level) a (alert_numbers b)
      ∙ apart-step (p (alert_at b a).level) (q (alert_at b a).level) (mem a (alert_numbers b)) (apart (alert_at b a).level)
      ((and_parts (p (alert_at b a).level) (mem a (alert_numbers b)) (sym (mem-filter (λ i. p (alert_at b i).level) a (alert_numbers b)) ∙ h)).0)

  -- no alert stands twice in the order
  pub distinct-order : distinct (order b) ≡ true
  unfolding order
  distinct-order =
      let numbers = distinct-below (length b.alerts) in
      let three = distinct-filter (λ i. is_three (alert_at b i).level) (alert_numbers b) numbers in
      let two = distinct-filter (λ i. is_two (alert_at b i).level) (alert_numbers b) numbers in
      let one = distinct-filter (λ i. is_one (alert_at b i).level) (alert_numbers b) numbers in
      distinct-append (of_level b is_three ++ of_level b is_two) (of_level b is_one)
      (distinct-append (of_level b is_three) (of_level b is_two) three two (level-apart is_three is_two three-two)) one
      (λ a h.
      or-cases (mem a (of_level b is_three)) (mem a (of_level b is_two)) (mem a (of_level b is_one))
      (level-apart is_three is_one three-one a) (level-apart is_two is_one two-one a)
      (sym (mem-append a (of_level b is_three) (of_level b is_two)) ∙ h))

  count-levels : (p : ℕ → Bool) (xs : List ℕ) →
      count_by (λ a. is_three (alert_at b a).level && p a) xs + count_by (λ a. is_two (alert_at b a).level && p a) xs + count_by (λ a. is_one (alert_at b a).level && p a) xs ≡ count_by p xs
  count-levels p [] = refl
  count-levels p (x ∷ xs) =
      let h3 = count_by-cons (λ a. is_three (alert_at b a).level && p a) x xs in
      let h2 = count_by-cons (λ a. is_two (alert_at b a).level && p a) x xs in
      let h1 = count_by-cons (λ a. is_one (alert_at b a).level && p a) x xs in
      let h = count_by-cons p x xs in
      let one = one-level (alert_at b x).level (p x) in
      let rest = count-levels p xs in
      omega arith

  -- in the order as many alerts pass a test as in the book
  pub count-order : (p : ℕ → Bool) → count_by p (order b) ≡ count_by p (alert_numbers b)
  unfolding order
  count-order p =
      sum_by-append (λ a. cond (p a) 1 0) (of_level b is_three ++ of_level b is_two) (of_level b is_one)
      ∙ ap (λ n. n + count_by p (of_level b is_one)) (sum_by-append (λ a. cond (p a) 1 0) (of_level b is_three) (of_level b is_two))
      ∙ ap (λ n. n + count_by p (of_level b is_two) + count_by p (of_level b is_one)) (count_by-filter p (λ a. is_three (alert_at b a).level) (alert_numbers b))
      ∙ ap (λ n. count_by (λ a. is_three (alert_at b a).level && p a) (alert_numbers b) + n + count_by p (of_level b is_one)) (count_by-filter p (λ a. is_two (alert_at b a).level) (alert_numbers b))
      ∙ ap (λ n. count_by (λ a. is_three (alert_at b a).level && p a) (alert_numbers b) + count_by (λ a. is_two (alert_at b a).level && p a) (alert_numbers b) + n) (count_by-filter p (λ a. is_one (alert_at b a).level) (alert_numbers b))
      ∙ count-levels p (alert_numbers b)

  -- each is the place of an alert
  pub order-below : All (λ a. a < length b.alerts) (order b)
  unfolding order
  order-below =
      let level = λ (test : Level → Bool). All-filter (λ a. test (alert_at b a).level) (λ a. a < length b.alerts) (alert_numbers b) (below-below (length b.alerts)) in
      All-append (λ a. a < length b.alerts) (of_level b is_three ++ of_level b is_two) (of_level b is_one)
      (All-append (λ a. a < length b.alerts) (of_level b is_three) (of_level b is_two) (level is_three) (level is_two)) (level is_one)

  -- as many as there are alerts
  pub length-order : length (order b) ≡ length b.alerts
  length-order =
      sym (count_by-all (λ a. true) (λ a. refl) (order b))
      ∙ count-order (λ a. true)
      ∙ count_by-all (λ a. true) (λ a. refl) (alert_numbers b)
      ∙ length-below (length b.alerts)
