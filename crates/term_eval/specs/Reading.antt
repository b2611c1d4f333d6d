-- What an operand reads in a moment, and what an atom that asks for it says by that.
use Rattle.std.specs.Prelude.{◌≡◌, ◌≤◌, ℕ, Bool, false, ℤ, pos, Option, is_some}
use Rattle.std.specs.Ordering.{int_eq}
use Rattle.ecam_spec.specs.Term.{World, in_set, is_so, stands}
use Rattle.term_eval.specs.Woken.{Operand}
use Rattle.term_eval.specs.Woken.Operand.{value, phase, activity, key, health}
use Rattle.term_eval.specs.declared.reading.Reading.{Reading}
use Rattle.term_eval.specs.declared.reading.Reading.TheVariants.{Value, InPhase, Flag}
use Rattle.term_eval.specs.declared.reading.Test.{Test}
use Rattle.term_eval.specs.declared.reading.Test.TheVariants.{HasValue, IsSet, OfNode}
use Rattle.term_eval.specs.declared.code.Node.{Node}
use Rattle.term_eval.specs.declared.code.Node.TheVariants as node

-- the operand reads so in moment k
abbrev pub Reads : World → ℕ → Operand → Reading → Type 0
Reads w k (value p) r = r ≡ Value (w.values p k)
Reads w k phase r = r ≡ InPhase (record { number = w.phase k })
Reads w k (activity a) r = r ≡ Flag (w.active a k)
Reads w k (key x) r = r ≡ Flag (w.pressed x k)
Reads w k (health n) r = r ≡ Flag (w.up n k)

-- what a test of a parameter's value says; where no value is read, false
abbrev pub value_read : Reading → (Option ℤ → Bool) → Bool
value_read (Value v) test = test v
value_read (InPhase p) test = false
value_read (Flag b) test = false

-- what a test of the phase's number says; where no phase is read, false
abbrev pub phase_read : Reading → (ℕ → Bool) → Bool
phase_read (Value v) test = false
phase_read (InPhase p) test = test p.number
phase_read (Flag b) test = false

-- whether what is read is set: a value that is 1, or a flag that holds; a phase is not
abbrev pub set_read : Reading → Bool
set_read (Value v) = is_so (int_eq (pos 1)) v
set_read (InPhase p) = false
set_read (Flag b) = b

-- what an atom says by what its operand reads
abbrev pub atom_says : Node → Reading → Bool
atom_says (node.Disc p) r = set_read r
atom_says (node.Valid p) r = value_read r is_some
atom_says (node.Cmp p op x) r = value_read r (is_so (λ v. stands op v x))
atom_says (node.InPhase set) r = phase_read r (in_set set.0)
atom_says (node.Alert a) r = set_read r
atom_says (node.Press k) r = set_read r
atom_says (node.Fwc n) r = set_read r
atom_says _ r = false

-- the test that an atom makes
abbrev pub test_of : Node → Test
test_of (node.Disc p) = IsSet
test_of (node.Valid p) = HasValue
test_of (node.Alert a) = IsSet
test_of (node.Press k) = IsSet
test_of (node.Fwc n) = IsSet
test_of _ = OfNode

-- a phase that is read is one of the ten
abbrev pub IsReading : Reading → Type 0
IsReading (Value v) = Unit {0}
IsReading (InPhase p) = (1 ≤ p.number) × (p.number ≤ 10)
IsReading (Flag b) = Unit {0}
