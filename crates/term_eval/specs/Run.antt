-- How the temporal nodes of a condition are gone through: from the last to the first, with a look at each that may turn.
use Rattle.std.specs.Prelude.{◌≡◌, ℕ, suc, ◌+◌, ◌<◌, ◌&&◌, ◌||◌, not, min, nat_le, nat_lt, Bool, false, List, [], ◌∷◌, length, slice_get, slice_set, slice_index, Some, if◌then◌else◌}
use Rattle.term_eval.specs.declared.memory.Cell.{Cell}
use Rattle.term_eval.specs.declared.memory.Cell.TheVariants.{Off, On, At}
use Rattle.term_eval.specs.declared.nodes.NodeState.{NodeState}
use Rattle.term_eval.specs.declared.link.Link.{Link}
use Rattle.term_eval.specs.declared.owner.Owner.{Owner}
use Rattle.term_eval.specs.declared.owner.Timing.{Timing}
use Rattle.term_eval.specs.declared.owner.Timing.TheVariants.{Confirmed, Held, Risen, Latched}
use Rattle.term_eval.specs.declared.code.Node.{Node}
use Rattle.term_eval.specs.declared.code.Node.TheVariants.{Conf, Hold, Rise, Latch}
use Rattle.term_eval.specs.CellWords.{never, cell_at, on_if, is_on, at_last, start_by, last_by, end_of}
use Rattle.term_eval.specs.OwnDue.{confirmed_due, held_due, risen_due}
use Rattle.term_eval.specs.NodeState.{state_at}
use Rattle.term_eval.specs.Climb.{climb, CanClimb}

-- what is kept of the nodes, the cells, and the first of the due moments so far
pub record Run : Type 0 where
  pub states : List NodeState
  pub wakes : List ℕ
  pub cells : List Cell
  pub due : ℕ

-- of two conditions of which so many hold, and the first or not, the second holds
abbrev pub second : Bool → ℕ → Bool
second first count = if first then nat_lt 1 count else nat_lt 0 count

-- what a temporal node says of whose children so many hold, and the first or not
abbrev pub temporal_says : ℕ → List Cell → ℕ → Bool → Node → Bool
temporal_says k cells count first (Conf n i) = nat_lt 0 count && nat_le (min (start_by (cell_at cells i) k + n) never) k
temporal_says k cells count first (Hold n i) = nat_lt 0 count || nat_lt k (end_of (last_by (cell_at cells i) k) n)
temporal_says k cells count first (Rise i) = nat_lt 0 count && not (is_on (cell_at cells i))
temporal_says k cells count first (Latch i) = not (second first count) && (first || is_on (cell_at cells i))
temporal_says k cells count first _ = false

-- what becomes of the cells
abbrev pub cells_after : ℕ → List Cell → ℕ → Bool → Node → List Cell
cells_after k cells count first (Conf n i) = slice_set cells i (if nat_lt 0 count then At (start_by (cell_at cells i) k) else Off)
cells_after k cells count first (Hold n i) = slice_set cells i (if nat_lt 0 count then On else at_last (last_by (cell_at cells i) k))
cells_after k cells count first (Rise i) = slice_set cells i (on_if (nat_lt 0 count))
cells_after k cells count first (Latch i) = slice_set cells i (on_if (not (second first count) && (first || is_on (cell_at cells i))))
cells_after k cells count first _ = cells

-- when the node turns by itself
abbrev pub due_after : ℕ → List Cell → ℕ → Node → ℕ
due_after k cells count (Conf n i) = confirmed_due (nat_lt 0 count) (min (start_by (cell_at cells i) k + n) never) k
due_after k cells count (Hold n i) = held_due (nat_lt 0 count) (end_of (last_by (cell_at cells i) k) n) k
due_after k cells count (Rise i) = risen_due (nat_lt 0 count && not (is_on (cell_at cells i))) k
due_after k cells count _ = never

-- the node's slot, if it has one, is one of so many
abbrev pub SlotWithin : ℕ → Node → Type 0
SlotWithin slots (Conf n i) = i < slots
SlotWithin slots (Hold n i) = i < slots
SlotWithin slots (Rise i) = i < slots
SlotWithin slots (Latch i) = i < slots
SlotWithin slots _ = Unit {0}

-- a temporal node by its timing, its moments, and its slot
abbrev pub node_by : Timing → ℕ → ℕ → Node
node_by Confirmed n slot = Conf n slot
node_by Held n slot = Hold n slot
node_by Risen n slot = Rise slot
node_by Latched n slot = Latch slot

-- the node of which this is read, and which has this slot
abbrev pub owned : Owner → ℕ → Node
owned owner slot = node_by owner.timing owner.moments slot

-- a look at a temporal node of those from a place on, which has this slot
unfoldable pub look : ℕ → List Link → ℕ → Owner → ℕ → Run → Run
look k links first owner slot s =
    let own = state_at s.states (first + owner.node) in
    let first_child = (state_at s.states (first + owner.node + 1)).told in
    let node = owned owner slot in
    let due = due_after k s.cells own.count node in
    let says = temporal_says k s.cells own.count first_child node in
    let done = climb (suc owner.node) links first owner.node says s.states (slice_set s.wakes slot due) in
    record { states = done.states; wakes = done.wakes; cells = cells_after k s.cells own.count first_child node; due = min s.due due }

-- one that isn't to be looked at yet is left as it is
unfoldable pub look_or_leave : ℕ → List Link → ℕ → Owner → ℕ → Run → Run
look_or_leave k links first owner slot s =
    if nat_lt k (slice_index s.wakes slot)
    then (record { states = s.states; wakes = s.wakes; cells = s.cells; due = min s.due (slice_index s.wakes slot) })
    else look k links first owner slot s

-- some nodes, whose slots follow one another from a place on, the last of them first
unfoldable pub pass_over : ℕ → List Link → ℕ → List Owner → ℕ → Run → Run
pass_over k links first [] slot s = s
pass_over k links first (o ∷ os) slot s = look_or_leave k links first o slot (pass_over k links first os (suc slot) s)

-- what the look at a node asks for is there, of so many nodes, slots and cells: it stands before another, and has a link
pub record CanLook (links : List Link) (first nodes slots cells : ℕ) (owner : Owner) (slot : ℕ) : Type 0 where
  pub climb : CanClimb links first nodes slots
  pub within : suc owner.node < length links
  pub room : slot < slots
  pub has : slot < cells

-- the same of all
abbrev pub CanPass : List Link → ℕ → ℕ → ℕ → ℕ → List Owner → ℕ → Type 0
CanPass links first nodes slots cells owners at =
    (j : ℕ) (o : Owner) → slice_get owners j ≡ Some o → CanLook links first nodes slots cells o (at + j)
