-- What makes a condition turn: an operand that moves, or a temporal node that turns by itself.
use Rattle.std.specs.Prelude.{ℕ, ◌-◌, Bool, true, false, not, ◌||◌, ◌==◌, List, [], ◌∷◌, ◌++◌}
use Rattle.std.specs.List.{list_any}
use Rattle.std.specs.Option.{option_eq}
use Rattle.std.specs.Ordering.{int_eq}
use Rattle.ecam_spec.specs.declared.kinds.Key.{Key}
use Rattle.ecam_spec.specs.Past.{Signal}
use Rattle.ecam_spec.specs.Book.{Tree, Trees, constant, discrete, valid, compared, in_phase, alert, press, computer, negation, all, any, at_least, confirmed, held, risen, latched, none, more}
use Rattle.ecam_spec.specs.Term.{World, holds}

-- what an atom of a condition asks after
pub data Operand : Type 0 where
  value : ℕ → Operand
  phase : Operand
  activity : ℕ → Operand
  key : Key → Operand
  health : ℕ → Operand

unfoldable mutual
  -- the operands of a condition's atoms
  pub operands : Tree → List Operand
  operands (constant b) = []
  operands (discrete p) = value p ∷ []
  operands (valid p) = value p ∷ []
  operands (compared p op x) = value p ∷ []
  operands (in_phase set) = phase ∷ []
  operands (alert a) = activity a ∷ []
  operands (press k) = key k ∷ []
  operands (computer n) = health n ∷ []
  operands (negation c) = operands c
  operands (all cs) = operands_of cs
  operands (any cs) = operands_of cs
  operands (at_least n cs) = operands_of cs
  operands (confirmed c n) = operands c
  operands (held c n) = operands c
  operands (risen c) = operands c
  operands (latched s r) = operands s ++ operands r

  pub operands_of : Trees → List Operand
  operands_of none = []
  operands_of (more c cs) = operands c ++ operands_of cs

-- they are not the same
abbrev pub differ : Bool → Bool → Bool
differ true b = not b
differ false b = b

-- p has another truth than in the moment before; in moment 0 it has not
abbrev pub turned : Signal → ℕ → Bool
turned p k = differ (p k) (p (k - 1))

-- an operand is another than in the moment before
unfoldable pub moved : World → ℕ → Operand → Bool
moved w k (value p) = not (option_eq int_eq (w.values p k) (w.values p (k - 1)))
moved w k phase = not (w.phase k == w.phase (k - 1))
moved w k (activity a) = turned (w.active a) k
moved w k (key x) = turned (w.pressed x) k
moved w k (health n) = turned (w.up n) k

unfoldable mutual
  -- some node of the condition that counts moments has another truth than in the moment before
  pub turns : World → Tree → ℕ → Bool
  turns w (constant b) k = false
  turns w (discrete p) k = false
  turns w (valid p) k = false
  turns w (compared p op x) k = false
  turns w (in_phase set) k = false
  turns w (alert a) k = false
  turns w (press x) k = false
  turns w (computer n) k = false
  turns w (negation c) k = turns w c k
  turns w (all cs) k = turns_of w cs k
  turns w (any cs) k = turns_of w cs k
  turns w (at_least n cs) k = turns_of w cs k
  turns w (confirmed c n) k = turned (holds w (confirmed c n)) k || turns w c k
  turns w (held c n) k = turned (holds w (held c n)) k || turns w c k
  turns w (risen c) k = turned (holds w (risen c)) k || turns w c k
  turns w (latched s r) k = turns w s k || turns w r k

  pub turns_of : World → Trees → ℕ → Bool
  turns_of w none k = false
  turns_of w (more c cs) k = turns w c k || turns_of w cs k

-- the condition has to be asked again: in moment 0, where an operand moves, and where one of its nodes turns
abbrev pub woken : World → Tree → ℕ → Bool
woken w c k = (k == 0) || (list_any (moved w k) (operands c) || turns w c k)
