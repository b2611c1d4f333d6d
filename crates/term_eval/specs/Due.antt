-- When a condition turns by itself.
use Rattle.std.specs.Prelude.{ℕ, ◌<◌, ◌≡◌, ◌⊎◌, min, true, false}
use Rattle.ecam_spec.specs.Book.{Tree}
use Rattle.ecam_spec.specs.Term.{World}
use Rattle.term_eval.specs.CellWords.{never}
use Rattle.term_eval.specs.Woken.{turns}

-- the world in which everything stays as it is in moment k
unfoldable pub staying : World → ℕ → World
staying w k =
    record {
      values = λ p i. w.values p (min i k);
      phase = λ i. w.phase (min i k);
      active = λ a i. w.active a (min i k);
      pressed = λ x i. w.pressed x (min i k);
      up = λ n i. w.up n (min i k);
    }

-- moment m comes before a due moment
abbrev pub Before : ℕ → ℕ → Type 0
Before m due = (m < due) ⊎ (due ≡ never)

-- this is the first moment after k in which one of the condition's nodes turns, or there is none
pub record IsDue (w : World) (c : Tree) (k due : ℕ) : Type 0 where
  pub quiet : (m : ℕ) → k < m → Before m due → turns w c m ≡ false
  pub comes : (due ≡ never) ⊎ ((k < due) × (due < never) × (turns w c due ≡ true))
