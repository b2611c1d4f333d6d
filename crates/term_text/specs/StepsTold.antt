-- How the steps that the program reads stand to those of the definitions.
use Rattle.std.specs.Prelude.{◌≡◌, ⊤, ℕ, List, Vec, Result, Ok, Err}
use Rattle.std.specs.declared.alloc.Global.{Global}
use Rattle.ecam_spec.specs.declared.term_steps.Step.{Step}
use Rattle.term_text.specs.declared.error.TermError.{TermError}
use Rattle.term_text.specs.declared.error.TermError.TheVariants.{Syntax, Memory}

-- the steps, or the place of the first token that fits nowhere; an answer for want of memory tells nothing
abbrev pub TellsSteps : Result (List Step) ℕ → Result (Vec Step Global) TermError → Type 0
TellsSteps r (Ok steps) = r ≡ Ok steps.items
TellsSteps r (Err (Syntax at)) = r ≡ Err at
TellsSteps r (Err Memory) = ⊤
TellsSteps r (Err _) = ⊥
