use Rattle.std.proofs.Common.{◌≡◌, drop}
use Rattle.term_text.specs.Known.{first_named}
use Rattle.term_text.proofs.names.first_of.Given as goal

-- it isn't among those before
abbrev pub invariant-loop-term : goal.invariant-loop-term
invariant-loop-term l = first_named l.terms l.name ≡ first_named (drop l.term-index l.terms) l.name
