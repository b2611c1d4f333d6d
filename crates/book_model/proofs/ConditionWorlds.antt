-- The world in which each condition of a book is asked, by its number.
use Rattle.std.proofs.Common.{◌≡◌, ℕ, ◌+◌, ◌-◌, ◌<◌, ◌≤◌, length, cond, ap, ◌∙◌, arith}
use Rattle.std.proofs.lemmas.Bool.{lt-ltb, le-ltb}
use Rattle.ecam_spec.specs.Book.{Book}
use Rattle.ecam_spec.specs.Term.{World}
use Rattle.ecam_spec.specs.History.{Moment}
use Rattle.ecam_spec.specs.Situation.{flight_world, alert_world, known_below, world}
use Rattle.book_model.specs.Conditions.{alerts_from, lines_from, joined, world_of}

module _ {X : Type 0} (n : ℕ) (f g : ℕ → X) where
  pub joined-front : (j : ℕ) → j < n → joined n f g j ≡ f j
  unfolding joined
  joined-front j h = ap (λ b. cond b (f j) (g (j - n))) (lt-ltb j n h)

  pub joined-behind : (j : ℕ) → n ≤ j → joined n f g j ≡ g (j - n)
  unfolding joined
  joined-behind j h = ap (λ b. cond b (f j) (g (j - n))) (le-ltb j n h)

module _ (b : Book) (moments : ℕ → Moment) where
  rest : ℕ → World
  rest = joined (length b.alerts) (λ a. alert_world b moments (known_below b moments a)) (λ j. world b moments)

  pub phase-world : (i : ℕ) → i < alerts_from → world_of b moments i ≡ flight_world b moments
  unfolding world_of
  phase-world i h = joined-front alerts_from (λ j. flight_world b moments) _ i h

  pub own-world : (a : ℕ) → a < length b.alerts → world_of b moments (alerts_from + a) ≡ alert_world b moments (known_below b moments a)
  unfolding world_of rest
  own-world a h =
      let at : alerts_from + a - alerts_from ≡ a = omega arith in
      joined-behind alerts_from (λ j. flight_world b moments) rest (alerts_from + a) (omega arith)
      ∙ ap rest at
      ∙ joined-front (length b.alerts) (λ i. alert_world b moments (known_below b moments i)) (λ j. world b moments) a h

  pub rest-world : (i : ℕ) → lines_from b ≤ i → world_of b moments i ≡ world b moments
  unfolding world_of rest
  rest-world i h =
      joined-behind alerts_from (λ j. flight_world b moments) rest i (omega arith)
      ∙ joined-behind (length b.alerts) (λ a. alert_world b moments (known_below b moments a)) (λ j. world b moments) (i - alerts_from) (omega arith)
