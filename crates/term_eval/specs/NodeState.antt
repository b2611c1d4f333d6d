-- What is kept of the nodes of a condition, node by node: between moments, and while a moment is told to them one by one.
use Rattle.std.specs.Prelude.{◌≡◌, ◌⊎◌, ℕ, zero, suc, ◌+◌, ◌==◌, ◌||◌, ◌<◌, ◌≤◌, min, nat_le, nat_lt, Bool, true, false, List, length, slice_index, slice_index_or, if◌then◌else◌}
use Rattle.ecam_spec.specs.Book.{Tree, Trees, constant, discrete, valid, compared, in_phase, alert, press, computer, negation, all, any, at_least, confirmed, held, risen, latched, none, more}
use Rattle.ecam_spec.specs.Term.{World, holds}
use Rattle.ecam_spec.specs.TermSize.{nodes, children}
use Rattle.term_eval.specs.declared.nodes.NodeState.{NodeState}
use Rattle.term_eval.specs.Memory.{NodeMemory}
use Rattle.term_eval.specs.CellWords.{never}
use Rattle.term_eval.specs.Code.{many}
use Rattle.term_eval.specs.OwnDue.{own_due}
use Rattle.term_eval.specs.Parts.{Part, Heads, is_temporal}

-- a node before the first moment
abbrev pub unasked : NodeState
unasked = record { count = 0; told = false }

-- the state of node i, as if all behind the last were new
abbrev pub state_at : List NodeState → ℕ → NodeState
state_at states i = slice_index_or states i unasked

-- true counts one
abbrev pub one_if : Bool → ℕ
one_if b = if b then 1 else 0

-- ---- what nodes say

-- an atom or a temporal node says what it said in moment h until it is updated in the next
abbrev pub own_says : World → ℕ → Bool → Tree → Bool
own_says w h was_updated c = if was_updated then holds w c (suc h) else holds w c h

unfoldable mutual
  -- what the first node of a condition says, of which some nodes have been updated in moment h + 1, by their numbers. A
  -- gate goes at once by what its children say
  pub says : World → ℕ → (ℕ → Bool) → Tree → ℕ → Bool
  says w h updated (constant b) p = own_says w h (updated p) (constant b)
  says w h updated (discrete x) p = own_says w h (updated p) (discrete x)
  says w h updated (valid x) p = own_says w h (updated p) (valid x)
  says w h updated (compared x op n) p = own_says w h (updated p) (compared x op n)
  says w h updated (in_phase set) p = own_says w h (updated p) (in_phase set)
  says w h updated (alert a) p = own_says w h (updated p) (alert a)
  says w h updated (press key) p = own_says w h (updated p) (press key)
  says w h updated (computer n) p = own_says w h (updated p) (computer n)
  says w h updated (negation c) p = one_if (says w h updated c (p + 1)) == 0
  says w h updated (all cs) p = said w h updated cs (p + 1) == many cs
  says w h updated (any cs) p = nat_lt 0 (said w h updated cs (p + 1))
  says w h updated (at_least n cs) p = nat_le n (said w h updated cs (p + 1))
  says w h updated (confirmed c n) p = own_says w h (updated p) (confirmed c n)
  says w h updated (held c n) p = own_says w h (updated p) (held c n)
  says w h updated (risen c) p = own_says w h (updated p) (risen c)
  says w h updated (latched s r) p = own_says w h (updated p) (latched s r)

  -- how many of some conditions say that they hold
  pub said : World → ℕ → (ℕ → Bool) → Trees → ℕ → ℕ
  said w h updated none p = 0
  said w h updated (more c cs) p = one_if (says w h updated c p) + said w h updated cs (p + nodes c)

-- each of some conditions says what it said in moment h
unfoldable pub SayTheSame : World → ℕ → (ℕ → Bool) → Trees → ℕ → Type 0
SayTheSame w h updated none p = Unit {0}
SayTheSame w h updated (more c cs) p = (says w h updated c p ≡ holds w c h) × SayTheSame w h updated cs (p + nodes c)

-- ---- what is kept of them

-- a temporal node that wasn't updated yet is to be looked at, or turns by itself in its own due moment, and then what it
-- stands over says what it said
pub record Rests (w : World) (h : ℕ) (updated : ℕ → Bool) (c : Tree) (p wake : ℕ) : Type 0 where
  pub due : wake ≡ own_due w c h
  pub same : SayTheSame w h updated (children c) (p + 1)

-- when a temporal node is looked at again: where it was updated, in its own due moment; else in the next, or as it rests
abbrev pub Wakes : World → ℕ → (ℕ → Bool) → Tree → ℕ → ℕ → Bool → Type 0
Wakes w h updated c p wake true = wake ≡ own_due w c (suc h)
Wakes w h updated c p wake false = (wake ≡ 0) ⊎ Rests w h updated c p wake

-- node i of a condition whose nodes start at a place, which heads this part, tells what it says, counts how many of its
-- children say that they hold, and is looked at again in time
pub record IsKept (w : World) (h : ℕ) (updated : ℕ → Bool) (x : Part) (first i : ℕ) (n : NodeMemory) : Type 0 where
  pub told : (state_at n.states (first + i)).told ≡ says w h updated x.tree i
  pub count : (state_at n.states (first + i)).count ≡ said w h updated (children x.tree) (i + 1)
  pub wake : is_temporal x.tree ≡ true → Wakes w h updated x.tree i (slice_index n.wakes x.at) (updated i)

-- each node of the condition is kept, while some of them have been updated in moment h + 1
abbrev pub NodesWait : World → ℕ → (ℕ → Bool) → Tree → ℕ → ℕ → NodeMemory → Type 0
NodesWait w h updated c at first n = (i : ℕ) (x : Part) → Heads c at i x → IsKept w h updated x first i n

-- each node of the condition is kept after moment h: none has been updated in the next
abbrev pub NodesStand : World → ℕ → Tree → ℕ → ℕ → NodeMemory → Type 0
NodesStand w h c at first n = NodesWait w h (λ i. false) c at first n

-- one node more has been updated
abbrev pub also : ℕ → (ℕ → Bool) → ℕ → Bool
also i updated j = (j == i) || updated j

-- the first moment in which one of n temporal nodes is to be looked at, whose slots start at a place
unfoldable pub first_wake : List ℕ → ℕ → ℕ → ℕ
first_wake wakes at zero = never
first_wake wakes at (suc n) = min (slice_index wakes at) (first_wake wakes (at + 1) n)

-- nothing of it changed but the nodes from one place up to another, and the slots from one up to another
pub record Within (first last at end : ℕ) (old new : NodeMemory) : Type 0 where
  pub nodes : length new.states ≡ length old.states
  pub slots : length new.wakes ≡ length old.wakes
  pub before : (i : ℕ) → i < first → state_at new.states i ≡ state_at old.states i
  pub behind : (i : ℕ) → last ≤ i → state_at new.states i ≡ state_at old.states i
  pub slots_before : (s : ℕ) → s < at → slice_index new.wakes s ≡ slice_index old.wakes s
  pub slots_behind : (s : ℕ) → end ≤ s → slice_index new.wakes s ≡ slice_index old.wakes s
