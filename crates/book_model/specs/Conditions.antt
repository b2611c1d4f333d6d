-- All conditions of a book in one list, in the order in which a moment steps them, by number from 0: the six inputs
-- of the phase, the alerts' own, each line's `when` and then its `done`, the memos'. Each has its place among the
-- slots, and the world in which it is asked.
use Rattle.std.specs.Prelude.{ℕ, ◌+◌, ◌-◌, ◌*◌, nat_lt, List, length, if◌then◌else◌}
use Rattle.ecam_spec.specs.Book.{Book}
use Rattle.ecam_spec.specs.BookTerms.{terms_of, lines_of}
use Rattle.ecam_spec.specs.TermSize.{Placed, trees, placed}
use Rattle.ecam_spec.specs.Term.{World}
use Rattle.ecam_spec.specs.History.{Moment}
use Rattle.ecam_spec.specs.Situation.{flight_world, alert_world, known_below, world}

-- the conditions with their places
abbrev pub places : Book → List Placed
places b = placed 0 (trees (terms_of b))

-- the numbers from which on stand those of the alerts, of the lines and of the memos
abbrev pub alerts_from : ℕ
alerts_from = 6

abbrev pub lines_from : Book → ℕ
lines_from b = alerts_from + length b.alerts

abbrev pub memos_from : Book → ℕ
memos_from b = lines_from b + 2 * length (lines_of b.alerts)

-- below n as f says, and from n on as g says, counted anew
unfoldable pub joined : {X : Type 0} → ℕ → (ℕ → X) → (ℕ → X) → ℕ → X
joined n f g j = if nat_lt j n then f j else g (j - n)

-- the world in which each is asked
unfoldable pub world_of : Book → (ℕ → Moment) → ℕ → World
world_of b moments =
    joined alerts_from (λ j. flight_world b moments)
    (joined (length b.alerts) (λ a. alert_world b moments (known_below b moments a)) (λ j. world b moments))
