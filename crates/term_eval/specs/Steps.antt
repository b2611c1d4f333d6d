-- One step of a condition: what it answers, and what becomes of the cells.
use Rattle.std.specs.Prelude.{◌≡◌, ℕ, suc, ◌+◌, ◌<◌, ◌≤◌, Bool, List, count_by}
use Rattle.ecam_spec.specs.Book.{Tree, Trees}
use Rattle.ecam_spec.specs.Term.{World, holds, truths}
use Rattle.ecam_spec.specs.TermSize.{slots, slots_of}
use Rattle.term_eval.specs.declared.env.Env.{Env}
use Rattle.term_eval.specs.declared.memory.Cell.{Cell}
use Rattle.term_eval.specs.Shown.{Shows}
use Rattle.term_eval.specs.CellWords.{cell_at}
use Rattle.term_eval.specs.CellState.{Stand, StandAll}
use Rattle.term_eval.specs.Settles.{Still, Settles, SettlesAll}

-- In each world for which the cells stand and of which the environment shows moment k, the answer is the condition's
-- truth, the cells then stand for one more moment, and where nothing moves from then on the condition settles
-- until it is due. No slot but the condition's own changes.
pub record Steps (env : Env) (k : ℕ) (c : Tree) (at : ℕ) (old new : List Cell) (answer : Bool) (due : ℕ) : Type 0 where
  pub truth : (w : World) → Shows env w k → Stand w k c at old → answer ≡ holds w c k
  pub stands : (w : World) → Shows env w k → Stand w k c at old → Stand w (suc k) c at new
  pub settles : (w : World) → Shows env w k → Still w k → Stand w k c at old → Settles w c k due
  pub before : (i : ℕ) → i < at → cell_at new i ≡ cell_at old i
  pub behind : (i : ℕ) → at + slots c ≤ i → cell_at new i ≡ cell_at old i

-- the same of some conditions whose slots follow one another, with how many of them hold
pub record StepsAll (env : Env) (k : ℕ) (cs : Trees) (at : ℕ) (old new : List Cell) (count due : ℕ) : Type 0 where
  pub truth : (w : World) → Shows env w k → StandAll w k cs at old → count ≡ count_by (λ b. b) (truths w cs k)
  pub stands : (w : World) → Shows env w k → StandAll w k cs at old → StandAll w (suc k) cs at new
  pub settles : (w : World) → Shows env w k → Still w k → StandAll w k cs at old → SettlesAll w cs k due
  pub before : (i : ℕ) → i < at → cell_at new i ≡ cell_at old i
  pub behind : (i : ℕ) → at + slots_of cs ≤ i → cell_at new i ≡ cell_at old i
