use Rattle.std.proofs.Common.{◌≡◌, ◌-◌, List, Some}
use Rattle.ecam_spec.specs.Book.{Text}
use Rattle.ecam_spec.specs.Grammar.{Form, no_more}
use Rattle.ecam_spec.specs.TermText.{TermNames}
use Rattle.term_text.specs.Parts.{StandFor, parts}
use Rattle.term_text.proofs.Taken.{Gathered, gather, SoFar}
use Rattle.term_text.proofs.parts.Parts.take.Given as goal

abbrev pub invariant-loop : goal.invariant-loop
invariant-loop l = (names : TermNames) (text : Text) (forms : List Form) (all : Gathered) → StandFor names text (parts l.fn.self) forms → gather l.end no_more forms ≡ Some all
    → SoFar names text l.members (parts l.self) (l.end - l.counter) all
