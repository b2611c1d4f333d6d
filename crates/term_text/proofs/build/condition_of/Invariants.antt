use Rattle.std.proofs.Common.{◌≡◌, List, [], Some, drop}
use Rattle.ecam_spec.specs.Grammar.{Form}
use Rattle.ecam_spec.proofs.TermReading.{after_all}
use Rattle.term_text.specs.Parts.{parts}
use Rattle.term_text.proofs.AllSteps.{Reaches}
use Rattle.term_text.proofs.build.condition_of.Given as goal

abbrev pub invariant-loop-step : goal.invariant-loop-step
invariant-loop-step g l = (last : List Form) → after_all l.steps [] ≡ Some last → Reaches (g.D.Dictionary.known l.names) l.text (parts l.read) l.name (drop l.step-index l.steps) last
