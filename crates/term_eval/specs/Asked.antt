-- What the nodes of a condition ask for, one by one in the order of its code: each before those that stand in it.
use Rattle.std.specs.Prelude.{◌≡◌, ℕ, Bool, true, false, List, [], ◌∷◌, ◌++◌, Option, Some, None, slice_get}
use Rattle.std.specs.Option.{option_map_or}
use Rattle.ecam_spec.specs.Book.{Tree, Trees, constant, discrete, valid, compared, in_phase, alert, press, computer, negation, all, any, at_least, confirmed, held, risen, latched, none, more}
use Rattle.term_eval.specs.Woken.{Operand}
use Rattle.term_eval.specs.Woken.Operand.{value, phase, activity, key, health}
use Rattle.term_eval.specs.declared.code.Node.{Node}
use Rattle.term_eval.specs.declared.code.Node.TheVariants.{Const, Disc, Valid, Cmp, InPhase, Alert, Press, Fwc, Not, All, Any, AtLeast, Conf, Hold, Rise, Latch}

unfoldable mutual
  -- the operand of each atom that has one, and none of any other node
  pub asked : Tree → List (Option Operand)
  asked (constant b) = None ∷ []
  asked (discrete p) = Some (value p) ∷ []
  asked (valid p) = Some (value p) ∷ []
  asked (compared p op x) = Some (value p) ∷ []
  asked (in_phase set) = Some phase ∷ []
  asked (alert a) = Some (activity a) ∷ []
  asked (press x) = Some (key x) ∷ []
  asked (computer n) = Some (health n) ∷ []
  asked (negation c) = None ∷ asked c
  asked (all cs) = None ∷ asked_of cs
  asked (any cs) = None ∷ asked_of cs
  asked (at_least n cs) = None ∷ asked_of cs
  asked (confirmed c n) = None ∷ asked c
  asked (held c n) = None ∷ asked c
  asked (risen c) = None ∷ asked c
  asked (latched s r) = None ∷ (asked s ++ asked r)

  pub asked_of : Trees → List (Option Operand)
  asked_of none = []
  asked_of (more c cs) = asked c ++ asked_of cs

-- node i of the condition is an atom, which asks for the operand
abbrev pub Asks : Tree → ℕ → Operand → Type 0
Asks c i x = slice_get (asked c) i ≡ Some (Some x)

-- each of these nodes is an atom of the condition, which asks for an operand
abbrev pub AreAtoms : Tree → (ℕ → Bool) → Type 0
AreAtoms c updated = (i : ℕ) → updated i ≡ true → (x : Operand) × Asks c i x

-- the nodes that ask for an operand which passes a test
abbrev pub heard : (Operand → Bool) → Tree → ℕ → Bool
heard hit c i = option_map_or (λ (asks : Option Operand). option_map_or hit asks false) (slice_get (asked c) i) false

-- what a node of code asks for, if it is an atom with an operand
abbrev pub node_asks : Node → Option Operand
node_asks (Const b) = None
node_asks (Disc p) = Some (value p)
node_asks (Valid p) = Some (value p)
node_asks (Cmp p op x) = Some (value p)
node_asks (InPhase set) = Some phase
node_asks (Alert a) = Some (activity a)
node_asks (Press x) = Some (key x)
node_asks (Fwc n) = Some (health n)
node_asks Not = None
node_asks (All members) = None
node_asks Any = None
node_asks (AtLeast least) = None
node_asks (Conf n slot) = None
node_asks (Hold n slot) = None
node_asks (Rise slot) = None
node_asks (Latch slot) = None
