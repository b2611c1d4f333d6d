-- The worlds of the conditions of a book, in which the values, the keys and the computers are those of all.
use Rattle.std.proofs.Common.{ℕ, ◌-◌, Bool, true, false, length, ltb, if◌then◌else◌}
use Rattle.ecam_spec.specs.Past.{Signal}
use Rattle.ecam_spec.specs.Book.{Book}
use Rattle.ecam_spec.specs.Term.{World}
use Rattle.ecam_spec.specs.History.{Moment}
use Rattle.ecam_spec.specs.Situation.{world_where, flight_world, alert_world, known_below, world, phase_in, active_in}
use Rattle.book_model.specs.Conditions.{alerts_from, joined, world_of}

joined-each : {X : Type 0} (P : X → Type 0) (n : ℕ) (f g : ℕ → X) → ((j : ℕ) → P (f j)) → ((j : ℕ) → P (g j)) → (j : ℕ) → P (joined n f g j)
unfolding joined
joined-each P n f g first rest j = by (ltb j n) where
  by : (below : Bool) → P (if below then f j else g (j - n))
  by true = first j
  by false = rest (j - n)

-- what holds whatever the phase and the alerts holds in the world of each condition
pub each-world : (b : Book) (m : ℕ → Moment) (P : World → Type 0) → ((phases : ℕ → ℕ) (alerts : ℕ → Signal) → P (world_where b m phases alerts)) → (j : ℕ) → P (world_of b m j)
unfolding world_of world
each-world b m P each =
    joined-each P alerts_from (λ j. flight_world b m) (joined (length b.alerts) (λ a. alert_world b m (known_below b m a)) (λ j. world b m)) (λ j. each _ _)
    (joined-each P (length b.alerts) (λ a. alert_world b m (known_below b m a)) (λ j. world b m) (λ a. each _ _) (λ j. each (phase_in b m) (active_in b m)))
