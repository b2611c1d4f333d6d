-- Conditions over a few discretes, each told by the moments in which it is 1.
use Rattle.std.specs.Prelude.{ℕ, Bool, false, ◌==◌, pos, List, [], map, get_or, Some, if◌then◌else◌}
use Rattle.std.specs.List.{list_any}
use Rattle.ecam_spec.specs.Book.{Tree}
use Rattle.ecam_spec.specs.Places.{below}
use Rattle.ecam_spec.specs.Term.{World, holds}

-- the world in which discrete p is 1 in these moments, and 0 in all others
abbrev pub world_of : List (List ℕ) → World
world_of ones =
    record {
      values = λ p k. Some (if list_any (λ m. m == k) (get_or ones p []) then pos 1 else pos 0);
      phase = λ k. 1;
      active = λ a k. false;
      pressed = λ key k. false;
      up = λ n k. false;
    }

-- whether a condition holds in each of the first n moments
abbrev pub answers : List (List ℕ) → Tree → ℕ → List Bool
answers ones c n = map (holds (world_of ones) c) (below n)
