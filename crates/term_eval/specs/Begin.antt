-- How each node of a condition is asked in the first moment: from the last to the first, so that children come before the
-- node that they stand in.
use Rattle.std.specs.Prelude.{ℕ, ◌+◌, ◌-◌, ◌^◌, ◌<◌, ◌≤◌, ◌==◌, min, nat_le, nat_lt, Bool, pos, is_some, List, [], ◌∷◌, ◌++◌, take, drop, replicate, length, slice_set, if◌then◌else◌}
use Rattle.std.specs.Ordering.{int_eq}
use Rattle.ecam_spec.specs.Keys.{IsKey}
use Rattle.ecam_spec.specs.Term.{in_set, is_so, stands}
use Rattle.ecam_kinds.specs.KeyState.{is_pressed}
use Rattle.term_eval.specs.declared.env.Env.{Env}
use Rattle.term_eval.specs.declared.memory.Cell.{Cell}
use Rattle.term_eval.specs.declared.nodes.NodeState.{NodeState}
use Rattle.term_eval.specs.declared.code.Step.{Step}
use Rattle.term_eval.specs.declared.code.Node.{Node}
use Rattle.term_eval.specs.declared.code.Node.TheVariants.{Const, Disc, Valid, Cmp, InPhase, Alert, Press, Fwc, Not, All, Any, AtLeast, Conf, Hold, Rise, Latch}
use Rattle.term_eval.specs.Shown.{value_of, is_active}
use Rattle.term_eval.specs.NodeState.{state_at, unasked}
use Rattle.term_eval.specs.Climb.{told_as, counted}
use Rattle.term_eval.specs.Run.{Run, temporal_says, cells_after, due_after, SlotWithin}

-- what a node says in moment 0 of whose children so many hold, and the first or not
abbrev pub answer : Env → List Cell → ℕ → Bool → Node → Bool
answer env cells count first (Const b) = b
answer env cells count first (Disc p) = is_so (int_eq (pos 1)) (value_of env p)
answer env cells count first (Valid p) = is_some (value_of env p)
answer env cells count first (Cmp p op x) = is_so (λ v. stands op v x) (value_of env p)
answer env cells count first (InPhase set) = in_set set.0 env.phase.number
answer env cells count first (Alert a) = is_active env a
answer env cells count first (Press key) = is_pressed env.keys.now key
answer env cells count first (Fwc n) = if n == 1 then env.one_up else env.two_up
answer env cells count first Not = count == 0
answer env cells count first (All m) = count == m
answer env cells count first Any = nat_lt 0 count
answer env cells count first (AtLeast n) = nat_le n count
answer env cells count first (Conf n i) = temporal_says 0 cells count first (Conf n i)
answer env cells count first (Hold n i) = temporal_says 0 cells count first (Hold n i)
answer env cells count first (Rise i) = temporal_says 0 cells count first (Rise i)
answer env cells count first (Latch i) = temporal_says 0 cells count first (Latch i)

-- what becomes of the wakes where a node turns by itself in this moment
abbrev pub wakes_after : Node → List ℕ → ℕ → List ℕ
wakes_after (Conf n i) wakes due = slice_set wakes i due
wakes_after (Hold n i) wakes due = slice_set wakes i due
wakes_after (Rise i) wakes due = slice_set wakes i due
wakes_after (Latch i) wakes due = slice_set wakes i due
wakes_after _ wakes due = wakes

-- one more child holds, or not
abbrev pub raised : Bool → NodeState → NodeState
raised holds s = if holds then counted (min (s.count + 1) (2 ^ 8 - 1)) s else s

-- the node that stands so far before node i counts it, if there is one
abbrev pub count_up : ℕ → ℕ → Bool → List NodeState → List NodeState
count_up i up holds states = if nat_lt 0 up then slice_set states (i - up) (raised holds (state_at states (i - up))) else states

-- so many nodes from a place on before they are asked
abbrev pub unasked_from : ℕ → ℕ → List NodeState → List NodeState
unasked_from first n states = take first states ++ (replicate n unasked ++ drop (first + n) states)

-- node i is asked
unfoldable pub ask : Env → ℕ → Step → Run → Run
ask env i x s =
    let own = state_at s.states i in
    let first = (state_at s.states (i + 1)).told in
    let holds = answer env s.cells own.count first x.node in
    let due = due_after 0 s.cells own.count x.node in
    record {
      states = count_up i x.up holds (slice_set s.states i (told_as holds own));
      wakes = wakes_after x.node s.wakes due;
      cells = cells_after 0 s.cells own.count first x.node;
      due = min s.due due;
    }

-- the nodes from i on, the last of them first
unfoldable pub ask_over : Env → ℕ → List Step → Run → Run
ask_over env i [] s = s
ask_over env i (x ∷ xs) s = ask env i x (ask_over env (i + 1) xs s)

-- what node i asks for is there, of so many cells
abbrev pub Has : Env → ℕ → Node → Type 0
Has env cells (Const b) = Unit {0}
Has env cells (Disc p) = p < length env.values.now
Has env cells (Valid p) = p < length env.values.now
Has env cells (Cmp p op x) = p < length env.values.now
Has env cells (InPhase set) = Unit {0}
Has env cells (Alert a) = a < length env.active.now
Has env cells (Press key) = IsKey key
Has env cells (Fwc n) = (1 ≤ n) × (n ≤ 2)
Has env cells Not = Unit {0}
Has env cells (All m) = Unit {0}
Has env cells Any = Unit {0}
Has env cells (AtLeast n) = Unit {0}
Has env cells (Conf n i) = SlotWithin cells (Conf n i)
Has env cells (Hold n i) = SlotWithin cells (Hold n i)
Has env cells (Rise i) = SlotWithin cells (Rise i)
Has env cells (Latch i) = SlotWithin cells (Latch i)

-- and its state and its slot, of so many, and what it stands in
pub record CanAsk (env : Env) (nodes slots cells i : ℕ) (x : Step) : Type 0 where
  pub within : i < nodes
  pub up : x.up ≤ i
  pub slot : SlotWithin slots x.node
  pub has : Has env cells x.node

-- the same of the nodes from i on
unfoldable pub AllCanAsk : Env → ℕ → ℕ → ℕ → ℕ → List Step → Type 0
AllCanAsk env nodes slots cells i [] = Unit {0}
AllCanAsk env nodes slots cells i (x ∷ xs) = CanAsk env nodes slots cells i x × AllCanAsk env nodes slots cells (i + 1) xs
