-- A node apart from its children: its own step and slot, and what stands of those right below it.
use Rattle.std.proofs.Common.{◌≡◌, ℕ, ◌+◌, List, ◌∷◌, ◌++◌, refl, sym, ap, arith, append-nil}
use Rattle.ecam_spec.specs.Past.{previous}
use Rattle.ecam_spec.specs.Book.{Tree, constant, discrete, valid, compared, in_phase, alert, press, computer, negation, all, any, at_least, confirmed, held, risen, latched}
use Rattle.ecam_spec.specs.Term.{World, holds, latch}
use Rattle.ecam_spec.specs.TermSize.{slots, slots_of, nodes, nodes_of, children}
use Rattle.term_eval.specs.declared.memory.Cell.{Cell}
use Rattle.term_eval.specs.declared.code.Node.{Node}
use Rattle.term_eval.specs.declared.code.Node.TheVariants.{Const, Disc, Valid, Cmp, InPhase, Alert, Press, Fwc, Not, All, Any, AtLeast, Conf, Hold, Rise, Latch}
use Rattle.term_eval.specs.CellWords.{cell_at, on_if, stretch, lasted}
use Rattle.term_eval.specs.CellState.{Stand, StandAll}
use Rattle.term_eval.specs.Code.{code, codes, step, many}

-- what a node's own step says, where its slots start, and where those of its children do
abbrev pub node_at : ℕ → Tree → Node
node_at at (constant b) = Const b
node_at at (discrete x) = Disc x
node_at at (valid x) = Valid x
node_at at (compared x op n) = Cmp x op n
node_at at (in_phase set) = InPhase (record { 0 = set })
node_at at (alert a) = Alert a
node_at at (press key) = Press key
node_at at (computer n) = Fwc n
node_at at (negation c) = Not
node_at at (all cs) = All (many cs)
node_at at (any cs) = Any
node_at at (at_least n cs) = AtLeast n
node_at at (confirmed c n) = Conf n at
node_at at (held c n) = Hold n at
node_at at (risen c) = Rise at
node_at at (latched s r) = Latch at

abbrev pub inside : ℕ → Tree → ℕ
inside at (constant b) = at
inside at (discrete x) = at
inside at (valid x) = at
inside at (compared x op n) = at
inside at (in_phase set) = at
inside at (alert a) = at
inside at (press key) = at
inside at (computer n) = at
inside at (negation c) = at
inside at (all cs) = at
inside at (any cs) = at
inside at (at_least n cs) = at
inside at (confirmed c n) = at + 1
inside at (held c n) = at + 1
inside at (risen c) = at + 1
inside at (latched s r) = at + 1

-- what a node's own slot stands for
abbrev pub OwnCell : World → ℕ → Tree → Cell → Type 0
OwnCell w k (constant b) cell = Unit {0}
OwnCell w k (discrete x) cell = Unit {0}
OwnCell w k (valid x) cell = Unit {0}
OwnCell w k (compared x op n) cell = Unit {0}
OwnCell w k (in_phase set) cell = Unit {0}
OwnCell w k (alert a) cell = Unit {0}
OwnCell w k (press key) cell = Unit {0}
OwnCell w k (computer n) cell = Unit {0}
OwnCell w k (negation c) cell = Unit {0}
OwnCell w k (all cs) cell = Unit {0}
OwnCell w k (any cs) cell = Unit {0}
OwnCell w k (at_least n cs) cell = Unit {0}
OwnCell w k (confirmed c n) cell = cell ≡ stretch (holds w c) k
OwnCell w k (held c n) cell = cell ≡ lasted (holds w c) k
OwnCell w k (risen c) cell = cell ≡ on_if (previous (holds w c) k)
OwnCell w k (latched s r) cell = cell ≡ on_if (previous (latch (holds w s) (holds w r)) k)

-- code is a node's own step, and the code of its children
pub code-is : (at up : ℕ) (c : Tree) → code at up c ≡ step (node_at at c) up ∷ codes (inside at c) 1 (children c)
unfolding code children
code-is at up (constant b) = refl
code-is at up (discrete x) = refl
code-is at up (valid x) = refl
code-is at up (compared x op n) = refl
code-is at up (in_phase set) = refl
code-is at up (alert a) = refl
code-is at up (press key) = refl
code-is at up (computer n) = refl
code-is at up (negation c) = ap (λ l. step (Not) up ∷ l) (sym (append-nil (code (at) 1 c)))
code-is at up (all cs) = refl
code-is at up (any cs) = refl
code-is at up (at_least n cs) = refl
code-is at up (confirmed c n) = ap (λ l. step (Conf n at) up ∷ l) (sym (append-nil (code (at + 1) 1 c)))
code-is at up (held c n) = ap (λ l. step (Hold n at) up ∷ l) (sym (append-nil (code (at + 1) 1 c)))
code-is at up (risen c) = ap (λ l. step (Rise at) up ∷ l) (sym (append-nil (code (at + 1) 1 c)))
code-is at up (latched s r) = ap (λ l. step (Latch at) up ∷ (code (at + 1) 1 s ++ l)) (sym (append-nil (code (at + 1 + slots s) (1 + nodes s) r)))

pub nodes-is : (c : Tree) → nodes c ≡ nodes_of (children c) + 1
unfolding nodes children
nodes-is (constant b) = refl
nodes-is (discrete x) = refl
nodes-is (valid x) = refl
nodes-is (compared x op n) = refl
nodes-is (in_phase set) = refl
nodes-is (alert a) = refl
nodes-is (press key) = refl
nodes-is (computer n) = refl
nodes-is (negation c) = omega arith
nodes-is (all cs) = refl
nodes-is (any cs) = refl
nodes-is (at_least n cs) = refl
nodes-is (confirmed c n) = omega arith
nodes-is (held c n) = omega arith
nodes-is (risen c) = omega arith
nodes-is (latched s r) = omega arith

pub slots-is : (at : ℕ) (c : Tree) → at + slots c ≡ inside at c + slots_of (children c)
unfolding slots children
slots-is at (constant b) = refl
slots-is at (discrete x) = refl
slots-is at (valid x) = refl
slots-is at (compared x op n) = refl
slots-is at (in_phase set) = refl
slots-is at (alert a) = refl
slots-is at (press key) = refl
slots-is at (computer n) = refl
slots-is at (negation c) = omega arith
slots-is at (all cs) = refl
slots-is at (any cs) = refl
slots-is at (at_least n cs) = refl
slots-is at (confirmed c n) = omega arith
slots-is at (held c n) = omega arith
slots-is at (risen c) = omega arith
slots-is at (latched s r) = omega arith

module _ (w : World) (k : ℕ) where
  pub open-cells : (c : Tree) (at : ℕ) (cells : List Cell) → Stand w k c at cells → OwnCell w k c (cell_at cells at) × StandAll w k (children c) (inside at c) cells
  unfolding Stand children
  open-cells (constant b) at cells h = (tt, tt)
  open-cells (discrete x) at cells h = (tt, tt)
  open-cells (valid x) at cells h = (tt, tt)
  open-cells (compared x op n) at cells h = (tt, tt)
  open-cells (in_phase set) at cells h = (tt, tt)
  open-cells (alert a) at cells h = (tt, tt)
  open-cells (press key) at cells h = (tt, tt)
  open-cells (computer n) at cells h = (tt, tt)
  open-cells (negation c) at cells h = (tt, (h, tt))
  open-cells (all cs) at cells h = (tt, h)
  open-cells (any cs) at cells h = (tt, h)
  open-cells (at_least n cs) at cells h = (tt, h)
  open-cells (confirmed c n) at cells h = (h.0, (h.1, tt))
  open-cells (held c n) at cells h = (h.0, (h.1, tt))
  open-cells (risen c) at cells h = (h.0, (h.1, tt))
  open-cells (latched s r) at cells h = (h.0, (h.1, (h.2, tt)))

  pub close-cells : (c : Tree) (at : ℕ) (cells : List Cell) → OwnCell w k c (cell_at cells at) → StandAll w k (children c) (inside at c) cells → Stand w k c at cells
  unfolding Stand children
  close-cells (constant b) at cells own h = tt
  close-cells (discrete x) at cells own h = tt
  close-cells (valid x) at cells own h = tt
  close-cells (compared x op n) at cells own h = tt
  close-cells (in_phase set) at cells own h = tt
  close-cells (alert a) at cells own h = tt
  close-cells (press key) at cells own h = tt
  close-cells (computer n) at cells own h = tt
  close-cells (negation c) at cells own h = h.0
  close-cells (all cs) at cells own h = h
  close-cells (any cs) at cells own h = h
  close-cells (at_least n cs) at cells own h = h
  close-cells (confirmed c n) at cells own h = (own, h.0)
  close-cells (held c n) at cells own h = (own, h.0)
  close-cells (risen c) at cells own h = (own, h.0)
  close-cells (latched s r) at cells own h = (own, h.0, h.1.0)
