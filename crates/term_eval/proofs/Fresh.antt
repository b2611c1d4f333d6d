-- Cells that are all off stand for no moment.
use Rattle.std.proofs.Common.{◌≡◌, ℕ, zero, suc, ◌+◌, List, replicate, refl}
use Rattle.ecam_spec.specs.Past.{previous}
use Rattle.ecam_spec.specs.Book.{Tree, Trees, constant, discrete, valid, compared, in_phase, alert, press, computer, negation, all, any, at_least, confirmed, held, risen, latched, none, more}
use Rattle.ecam_spec.specs.Term.{World}
use Rattle.ecam_spec.specs.TermSize.{slots}
use Rattle.term_eval.specs.declared.memory.Cell.{Cell}
use Rattle.term_eval.specs.declared.memory.Cell.TheVariants.{Off}
use Rattle.term_eval.specs.CellWords.{cell_at, stretch, lasted}
use Rattle.term_eval.specs.Slots.{cells_of, empty}
use Rattle.term_eval.specs.CellState.{Stand, StandAll, StandForNone}

mutual
  unfolding Stand stretch lasted previous

  pub blank-Stand : (w : World) (c : Tree) (at : ℕ) (cells : List Cell) → ((i : ℕ) → cell_at cells i ≡ Off) → Stand w 0 c at cells
  blank-Stand w (constant b) at cells blank = tt
  blank-Stand w (discrete p) at cells blank = tt
  blank-Stand w (valid p) at cells blank = tt
  blank-Stand w (compared p op x) at cells blank = tt
  blank-Stand w (in_phase set) at cells blank = tt
  blank-Stand w (alert a) at cells blank = tt
  blank-Stand w (press key) at cells blank = tt
  blank-Stand w (computer n) at cells blank = tt
  blank-Stand w (negation c) at cells blank = blank-Stand w c at cells blank
  blank-Stand w (all cs) at cells blank = blank-StandAll w cs at cells blank
  blank-Stand w (any cs) at cells blank = blank-StandAll w cs at cells blank
  blank-Stand w (at_least n cs) at cells blank = blank-StandAll w cs at cells blank
  blank-Stand w (confirmed c n) at cells blank = (blank at, blank-Stand w c (at + 1) cells blank)
  blank-Stand w (held c n) at cells blank = (blank at, blank-Stand w c (at + 1) cells blank)
  blank-Stand w (risen c) at cells blank = (blank at, blank-Stand w c (at + 1) cells blank)
  blank-Stand w (latched s r) at cells blank = (blank at, blank-Stand w s (at + 1) cells blank, blank-Stand w r (at + 1 + slots s) cells blank)

  pub blank-StandAll : (w : World) (cs : Trees) (at : ℕ) (cells : List Cell) → ((i : ℕ) → cell_at cells i ≡ Off) → StandAll w 0 cs at cells
  blank-StandAll w none at cells blank = tt
  blank-StandAll w (more c cs) at cells blank = (blank-Stand w c at cells blank, blank-StandAll w cs (at + slots c) cells blank)

-- so are those of slots that no node has yet
pub blank_at : (n i : ℕ) → cell_at (cells_of (replicate n empty)) i ≡ Off
blank_at zero i = refl
blank_at (suc n) zero = refl
blank_at (suc n) (suc i) = blank_at n i

pub blank-StandForNone : (cells : List Cell) → ((i : ℕ) → cell_at cells i ≡ Off) → StandForNone cells
blank-StandForNone cells blank w c at within = blank-Stand w c at cells blank
