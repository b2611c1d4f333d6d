-- The code of a condition: its nodes one behind another, each before its children, with how far before it its parent stands.
use Rattle.std.specs.Prelude.{◌≡◌, ℕ, suc, ◌+◌, ◌<◌, ◌≤◌, ◌^◌, Bool, true, false, if◌then◌else◌, List, [], ◌∷◌, ◌++◌, length}
use Rattle.ecam_spec.specs.Book.{Tree, Trees, constant, discrete, valid, compared, in_phase, alert, press, computer, negation, all, any, at_least, confirmed, held, risen, latched, none, more}
use Rattle.ecam_spec.specs.TermSize.{slots, nodes}
use Rattle.ecam_spec.specs.declared.limits.TheConstants.{TERM_NODES}
use Rattle.term_eval.specs.declared.code.Step.{Step}
use Rattle.term_eval.specs.declared.code.Node.{Node}
use Rattle.term_eval.specs.declared.code.Node.TheVariants.{Const, Disc, Valid, Cmp, InPhase, Alert, Press, Fwc, Not, All, Any, AtLeast, Conf, Hold, Rise, Latch}
use Rattle.term_eval.specs.declared.owner.Owner.{Owner}
use Rattle.term_eval.specs.declared.owner.Timing.{Timing}
use Rattle.term_eval.specs.declared.owner.Timing.TheVariants.{Confirmed, Held, Risen, Latched}
use Rattle.term_eval.specs.Memory.{Memory, NodeMemory}

-- how many conditions there are
unfoldable pub many : Trees → ℕ
many none = 0
many (more c cs) = suc (many cs)

-- a node and how far before it its parent stands
abbrev pub step : Node → ℕ → Step
step node up = record { node = node; up = up }

unfoldable mutual
  -- the code of a condition whose slots start at a place, and whose parent stands so far before it, or at 0 has none
  pub code : ℕ → ℕ → Tree → List Step
  code at up (constant b) = step (Const b) up ∷ []
  code at up (discrete p) = step (Disc p) up ∷ []
  code at up (valid p) = step (Valid p) up ∷ []
  code at up (compared p op x) = step (Cmp p op x) up ∷ []
  code at up (in_phase set) = step (InPhase (record { 0 = set })) up ∷ []
  code at up (alert a) = step (Alert a) up ∷ []
  code at up (press key) = step (Press key) up ∷ []
  code at up (computer n) = step (Fwc n) up ∷ []
  code at up (negation c) = step Not up ∷ code at 1 c
  code at up (all cs) = step (All (many cs)) up ∷ codes at 1 cs
  code at up (any cs) = step Any up ∷ codes at 1 cs
  code at up (at_least n cs) = step (AtLeast n) up ∷ codes at 1 cs
  code at up (confirmed c n) = step (Conf n at) up ∷ code (at + 1) 1 c
  code at up (held c n) = step (Hold n at) up ∷ code (at + 1) 1 c
  code at up (risen c) = step (Rise at) up ∷ code (at + 1) 1 c
  code at up (latched s r) = step (Latch at) up ∷ (code (at + 1) 1 s ++ code (at + 1 + slots s) (1 + nodes s) r)

  -- the codes of the members of a list, whose slots follow one another: the list's own step stands so far before the first
  pub codes : ℕ → ℕ → Trees → List Step
  codes at up none = []
  codes at up (more c cs) = code at up c ++ codes (at + slots c) (up + nodes c) cs

unfoldable mutual
  -- each of its temporal nodes counts less than 2^32 moments
  pub IsShort : Tree → Type 0
  IsShort (negation c) = IsShort c
  IsShort (all cs) = AreShort cs
  IsShort (any cs) = AreShort cs
  IsShort (at_least n cs) = AreShort cs
  IsShort (confirmed c n) = (n < 2 ^ 32) × IsShort c
  IsShort (held c n) = (n < 2 ^ 32) × IsShort c
  IsShort (risen c) = IsShort c
  IsShort (latched s r) = IsShort s × IsShort r
  IsShort _ = Unit {0}

  pub AreShort : Trees → Type 0
  AreShort none = Unit {0}
  AreShort (more c cs) = IsShort c × AreShort cs

-- a step's node has a slot: it goes by moments before
abbrev pub has_slot : Node → Bool
has_slot (Conf n slot) = true
has_slot (Hold n slot) = true
has_slot (Rise slot) = true
has_slot (Latch slot) = true
has_slot _ = false

-- by how many moments it goes: 0 where it goes by no number
abbrev pub moments_of : Node → ℕ
moments_of (Conf n slot) = n
moments_of (Hold n slot) = n
moments_of _ = 0

-- how a node that has a slot goes by moments
abbrev pub timing_of : Node → Timing
timing_of (Conf n slot) = Confirmed
timing_of (Hold n slot) = Held
timing_of (Rise slot) = Risen
timing_of _ = Latched

-- what is read of a node that has a slot and this number, where it is looked at
abbrev pub owner_of : ℕ → Node → Owner
owner_of p node = record { moments = moments_of node; node = p; timing = timing_of node }

-- what is read of the temporal nodes of code, of which the first node has this number: slot by slot
unfoldable pub owners : ℕ → List Step → List Owner
owners p [] = []
owners p (s ∷ steps) = if has_slot s.node then owner_of p s.node ∷ owners (p + 1) steps else owners (p + 1) steps

-- the steps are the code of the condition, which keeps its limits
pub record IsCode (c : Tree) (at : ℕ) (steps : List Step) : Type 0 where
  pub is : steps ≡ code at 0 c
  pub short : IsShort c
  pub small : nodes c ≤ TERM_NODES

-- the steps are the code of the condition, and what is kept has room for its nodes and slots
pub record IsHeld (steps : List Step) (n : NodeMemory) (c : Tree) (at first : ℕ) : Type 0 where
  pub code : IsCode c at steps
  pub nodes : first + nodes c ≤ length n.states
  pub slots : at + slots c ≤ length n.wakes

-- and so have the cells
pub record IsReady (steps : List Step) (m : Memory) (c : Tree) (at first : ℕ) : Type 0 where
  pub held : IsHeld steps m.nodes c at first
  pub range : at + slots c ≤ length m.slots
