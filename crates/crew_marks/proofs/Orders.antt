-- An alert is in the order exactly where the book has it.
use Rattle.std.proofs.Common.{◌≡◌, ℕ, zero, suc, ◌<◌, ◌≢◌, Bool, true, false, ◌&&◌, ◌||◌, ◌==◌, cond, Option, Some, List, [], ◌∷◌, ◌++◌, length, ltb, All, inl, inr, refl, sym, ◌∙◌, ap, arith}
use Rattle.std.specs.Option.{IfSome}
use Rattle.std.specs.List.{find}
use Rattle.std.proofs.lemmas.Bool.{lt-ltb, le-ltb, cases_lt, eqb-true}
use Rattle.std.proofs.lemmas.List.Elements.{All-head, All-tail}
use Rattle.ecam_spec.specs.declared.kinds.Level.{Level}
use Rattle.ecam_spec.specs.declared.kinds.Level.TheVariants.{One, Two, Three}
use Rattle.ecam_spec.specs.Levels.{is_three, is_two, is_one}
use Rattle.ecam_spec.specs.Places.{below}
use Rattle.ecam_spec.specs.Book.{Book}
use Rattle.ecam_spec.specs.Situation.{alert_at}
use Rattle.ecam_spec.specs.Screen.{alert_numbers, of_level, order}
use Rattle.ecam_spec.proofs.ListLaws.{mem, eqb-self, mem-filter, mem-append}
use Rattle.ecam_spec.proofs.OrderLaws.{order-below}

not-eq : (a n : ℕ) → a ≢ n → (a == n) ≡ false
not-eq a n h = elim (a == n) as (λ b. (a == n) ≡ b → b ≡ false) [ true ↦ λ e. absurd (h (eqb-true a n e)) | false ↦ λ e. refl ] refl

at-end : (a n : ℕ) (b : Bool) → b ≡ ltb a n → (b || ((a == n) || false)) ≡ ltb a (suc n)
at-end a n b e =
    elim (cases_lt a n) [
      | inl within ↦ let here : ltb a n ≡ true = lt-ltb a n within in let later : ltb a (suc n) ≡ true = lt-ltb a (suc n) (omega arith) in rw (e, here, later) refl
      | inr past ↦
          let none : ltb a n ≡ false = le-ltb a n past in
          elim (cases_lt n a) [
            | inl after ↦ let later : ltb a (suc n) ≡ false = le-ltb a (suc n) (omega arith) in rw (e, none, not-eq a n (omega arith), later) refl
            | inr upto ↦ let is : a ≡ n = omega arith in let later : ltb a (suc n) ≡ true = lt-ltb a (suc n) (omega arith) in rw (e, none, later, is, eqb-self n) refl
          ]
    ]

mem-below : (a n : ℕ) → mem a (below n) ≡ ltb a n
unfolding below
mem-below a zero = sym (le-ltb a 0 (omega arith))
mem-below a (suc n) = mem-append a (below n) (n ∷ []) ∙ at-end a n (mem a (below n)) (mem-below a n)

some-level : (l : Level) (b : Bool) → (((is_three l && b) || (is_two l && b)) || (is_one l && b)) ≡ b
some-level One true = refl
some-level One false = refl
some-level Two true = refl
some-level Two false = refl
some-level Three true = refl
some-level Three false = refl

found-or : (P : ℕ → Type 0) (b : Bool) (x : ℕ) (o : Option ℕ) → P x → IfSome o P → IfSome (cond b (Some x) o) P
found-or P true x o here rest = here
found-or P false x o here rest = rest

-- what is so of each is so of the one that is found
found-so : (P : ℕ → Type 0) (p : ℕ → Bool) (xs : List ℕ) → All P xs → IfSome (find p xs) P
found-so P p [] each = tt
found-so P p (x ∷ xs) each = found-or P (p x) x (find p xs) (All-head P x xs each) (found-so P p xs (All-tail P x xs each))

-- the one that is found passes
pub found-passes : (p : ℕ → Bool) (xs : List ℕ) → IfSome (find p xs) (λ a. p a ≡ true)
found-passes p [] = tt
found-passes p (x ∷ xs) =
    elim (p x) as (λ b. p x ≡ b → IfSome (cond b (Some x) (find p xs)) (λ a. p a ≡ true)) [ true ↦ λ e. e | false ↦ λ e. found-passes p xs ] refl

module _ (b : Book) where
  pub found-within : (p : ℕ → Bool) → IfSome (find p (order b)) (λ a. a < length b.alerts)
  found-within p = found-so (λ a. a < length b.alerts) p (order b) (order-below b)

  pub mem-order : (a : ℕ) → mem a (order b) ≡ ltb a (length b.alerts)
  unfolding order
  mem-order a =
      mem-append a (of_level b is_three ++ of_level b is_two) (of_level b is_one)
      ∙ ap (λ m. m || mem a (of_level b is_one)) (mem-append a (of_level b is_three) (of_level b is_two))
      ∙ ap (λ m. (m || mem a (of_level b is_two)) || mem a (of_level b is_one)) (mem-filter (λ i. is_three (alert_at b i).level) a (alert_numbers b))
      ∙ ap (λ m. ((is_three (alert_at b a).level && mem a (alert_numbers b)) || m) || mem a (of_level b is_one)) (mem-filter (λ i. is_two (alert_at b i).level) a (alert_numbers b))
      ∙ ap (λ m. ((is_three (alert_at b a).level && mem a (alert_numbers b)) || (is_two (alert_at b a).level && mem a (alert_numbers b))) || m) (mem-filter (λ i. is_one (alert_at b i).level) a (alert_numbers b))
      ∙ some-level (alert_at b a).level (mem a (alert_numbers b))
      ∙ mem-below a (length b.alerts)
