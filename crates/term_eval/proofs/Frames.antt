-- Cells stand for what they stood for while the condition's own slots stay as they were.
use Rattle.std.proofs.Common.{◌≡◌, ℕ, ◌+◌, ◌<◌, ◌≤◌, List, ◌∙◌, arith}
use Rattle.ecam_spec.specs.Book.{Tree, Trees, constant, discrete, valid, compared, in_phase, alert, press, computer, negation, all, any, at_least, confirmed, held, risen, latched, none, more}
use Rattle.ecam_spec.specs.Term.{World}
use Rattle.ecam_spec.specs.TermSize.{slots, slots_of}
use Rattle.term_eval.specs.declared.memory.Cell.{Cell}
use Rattle.term_eval.specs.CellWords.{cell_at}
use Rattle.term_eval.specs.CellState.{Stand, StandAll}

-- two lists of cells agree from one slot up to another
pub record SameFrom (low high : ℕ) (old new : List Cell) : Type 0 where
  pub same : (i : ℕ) → low ≤ i → i < high → cell_at new i ≡ cell_at old i

narrower : (a b c d : ℕ) (old new : List Cell) → a ≤ c → d ≤ b → SameFrom a b old new → SameFrom c d old new
narrower a b c d old new low high same = record { same = λ i h k. same.same i (omega arith) (omega arith) }

mutual
  unfolding Stand slots

  pub Stand-same : (w : World) (k : ℕ) (c : Tree) (at : ℕ) (old new : List Cell) → SameFrom at (at + slots c) old new → Stand w k c at old → Stand w k c at new
  Stand-same w k (constant b) at old new same h = h
  Stand-same w k (discrete p) at old new same h = h
  Stand-same w k (valid p) at old new same h = h
  Stand-same w k (compared p op x) at old new same h = h
  Stand-same w k (in_phase set) at old new same h = h
  Stand-same w k (alert a) at old new same h = h
  Stand-same w k (press key) at old new same h = h
  Stand-same w k (computer n) at old new same h = h
  Stand-same w k (negation c) at old new same h = Stand-same w k c at old new same h
  Stand-same w k (all cs) at old new same h = StandAll-same w k cs at old new same h
  Stand-same w k (any cs) at old new same h = StandAll-same w k cs at old new same h
  Stand-same w k (at_least n cs) at old new same h = StandAll-same w k cs at old new same h
  Stand-same w k (confirmed c n) at old new same h = (
    same.same at (omega arith) (omega arith) ∙ h.0,
    Stand-same w k c (at + 1) old new (narrower at (at + (slots c + 1)) (at + 1) (at + 1 + slots c) old new (omega arith) (omega arith) same) h.1,
  )
  Stand-same w k (held c n) at old new same h = (
    same.same at (omega arith) (omega arith) ∙ h.0,
    Stand-same w k c (at + 1) old new (narrower at (at + (slots c + 1)) (at + 1) (at + 1 + slots c) old new (omega arith) (omega arith) same) h.1,
  )
  Stand-same w k (risen c) at old new same h = (
    same.same at (omega arith) (omega arith) ∙ h.0,
    Stand-same w k c (at + 1) old new (narrower at (at + (slots c + 1)) (at + 1) (at + 1 + slots c) old new (omega arith) (omega arith) same) h.1,
  )
  Stand-same w k (latched s r) at old new same h = (
    same.same at (omega arith) (omega arith) ∙ h.0,
    Stand-same w k s (at + 1) old new (narrower at (at + (slots s + slots r + 1)) (at + 1) (at + 1 + slots s) old new (omega arith) (omega arith) same) h.1,
    Stand-same w k r (at + 1 + slots s) old new (narrower at (at + (slots s + slots r + 1)) (at + 1 + slots s) (at + 1 + slots s + slots r) old new (omega arith) (omega arith) same) h.2,
  )

  pub StandAll-same : (w : World) (k : ℕ) (cs : Trees) (at : ℕ) (old new : List Cell) → SameFrom at (at + slots_of cs) old new → StandAll w k cs at old → StandAll w k cs at new
  StandAll-same w k none at old new same h = h
  StandAll-same w k (more c cs) at old new same h = (
    Stand-same w k c at old new (narrower at (at + (slots c + slots_of cs)) at (at + slots c) old new (omega arith) (omega arith) same) h.0,
    StandAll-same w k cs (at + slots c) old new (narrower at (at + (slots c + slots_of cs)) (at + slots c) (at + slots c + slots_of cs) old new (omega arith) (omega arith) same) h.1,
  )
