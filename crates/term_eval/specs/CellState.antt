-- What the cells of a condition hold after some moments, slot by slot.
use Rattle.std.specs.Prelude.{◌≡◌, ℕ, ◌+◌, ◌≤◌, List, length}
use Rattle.ecam_spec.specs.Past.{previous}
use Rattle.ecam_spec.specs.Book.{Tree, Trees, constant, discrete, valid, compared, in_phase, alert, press, computer, negation, all, any, at_least, confirmed, held, risen, latched, none, more}
use Rattle.ecam_spec.specs.Term.{World, holds, latch}
use Rattle.ecam_spec.specs.TermSize.{slots}
use Rattle.term_eval.specs.declared.memory.Cell.{Cell}
use Rattle.term_eval.specs.CellWords.{cell_at, on_if, stretch, lasted}

-- The cells from a place on stand for the first k moments of a world: each temporal node of the condition
-- has in its slot what it needs of them.
--   confirmed c n: the start of the unbroken stretch of moments in which c has held, if it held in the last one
--   held c n: whether c held in the last moment, else the last moment in which it did
--   risen c: whether c held in the last moment
--   latched s r: whether it held in the last moment
unfoldable mutual
  pub Stand : World → ℕ → Tree → ℕ → List Cell → Type 0
  Stand w k (constant b) at cells = Unit {0}
  Stand w k (discrete p) at cells = Unit {0}
  Stand w k (valid p) at cells = Unit {0}
  Stand w k (compared p op x) at cells = Unit {0}
  Stand w k (in_phase set) at cells = Unit {0}
  Stand w k (alert a) at cells = Unit {0}
  Stand w k (press key) at cells = Unit {0}
  Stand w k (computer n) at cells = Unit {0}
  Stand w k (negation c) at cells = Stand w k c at cells
  Stand w k (all cs) at cells = StandAll w k cs at cells
  Stand w k (any cs) at cells = StandAll w k cs at cells
  Stand w k (at_least n cs) at cells = StandAll w k cs at cells
  Stand w k (confirmed c n) at cells = (cell_at cells at ≡ stretch (holds w c) k) × Stand w k c (at + 1) cells
  Stand w k (held c n) at cells = (cell_at cells at ≡ lasted (holds w c) k) × Stand w k c (at + 1) cells
  Stand w k (risen c) at cells = (cell_at cells at ≡ on_if (previous (holds w c) k)) × Stand w k c (at + 1) cells
  Stand w k (latched s r) at cells =
      (cell_at cells at ≡ on_if (previous (latch (holds w s) (holds w r)) k)) × Stand w k s (at + 1) cells
      × Stand w k r (at + 1 + slots s) cells

  pub StandAll : World → ℕ → Trees → ℕ → List Cell → Type 0
  StandAll w k none at cells = Unit {0}
  StandAll w k (more c cs) at cells = Stand w k c at cells × StandAll w k cs (at + slots c) cells

-- the cells stand for no moment, of whichever conditions and world
abbrev pub StandForNone : List Cell → Type 0
StandForNone cells = (w : World) (c : Tree) (at : ℕ) → at + slots c ≤ length cells → Stand w 0 c at cells
