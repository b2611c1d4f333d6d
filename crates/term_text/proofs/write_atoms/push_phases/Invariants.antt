use Rattle.std.proofs.Common.{◌≡◌, ◌-◌, ◌++◌, string_bytes}
use Rattle.std.specs.Prelude.{filter}
use Rattle.ecam_spec.specs.Term.{in_set}
use Rattle.term_text.specs.Written.{numbers_from, numbers_after, listed_numbers, phases_of}
use Rattle.term_text.proofs.write_atoms.push_phases.Given as goal

-- what was written, and what is left of the phases, make the whole
abbrev pub invariant-loop-number : goal.invariant-loop-number
invariant-loop-number l =
    string_bytes l.text ++ numbers_after l.is_first (filter (in_set l.phases.0) (numbers_from (11 - l.number) l.number))
    ≡ string_bytes l.initial.text ++ listed_numbers (phases_of l.phases.0)
