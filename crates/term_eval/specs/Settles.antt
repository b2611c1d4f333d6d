-- How a condition goes on from a moment on while no operand moves: as it is, up to its due moment.
use Rattle.std.specs.Prelude.{ℕ, ◌<◌, ◌≤◌, ◌≡◌, ◌⊎◌, true, false}
use Rattle.ecam_spec.specs.declared.kinds.Key.{Key}
use Rattle.ecam_spec.specs.Book.{Tree, Trees}
use Rattle.ecam_spec.specs.Term.{World, holds, truths}
use Rattle.term_eval.specs.CellWords.{never}
use Rattle.term_eval.specs.Woken.{turns, turns_of}
use Rattle.term_eval.specs.Due.{Before}

-- from moment k on no operand moves
pub record Still (w : World) (k : ℕ) : Type 0 where
  pub values : (p m : ℕ) → k ≤ m → w.values p m ≡ w.values p k
  pub phase : (m : ℕ) → k ≤ m → w.phase m ≡ w.phase k
  pub active : (a m : ℕ) → k ≤ m → w.active a m ≡ w.active a k
  pub pressed : (x : Key) (m : ℕ) → k ≤ m → w.pressed x m ≡ w.pressed x k
  pub up : (n m : ℕ) → k ≤ m → w.up n m ≡ w.up n k

-- the condition keeps its truth before its due moment, and the first of its nodes that turns does so in it
pub record Settles (w : World) (c : Tree) (k due : ℕ) : Type 0 where
  pub steady : (m : ℕ) → k ≤ m → Before m due → holds w c m ≡ holds w c k
  pub quiet : (m : ℕ) → k < m → Before m due → turns w c m ≡ false
  pub comes : (due ≡ never) ⊎ ((k < due) × (due < never) × (turns w c due ≡ true))

-- the same of some conditions
pub record SettlesAll (w : World) (cs : Trees) (k due : ℕ) : Type 0 where
  pub steady : (m : ℕ) → k ≤ m → Before m due → truths w cs m ≡ truths w cs k
  pub quiet : (m : ℕ) → k < m → Before m due → turns_of w cs m ≡ false
  pub comes : (due ≡ never) ⊎ ((k < due) × (due < never) × (turns_of w cs due ≡ true))
