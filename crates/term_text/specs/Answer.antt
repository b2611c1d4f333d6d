-- What the reader of a condition's text answers.
use Rattle.std.specs.Prelude.{◌≡◌, ⊤, Result, Ok, Err}
use Rattle.ecam_spec.specs.Book.{Text}
use Rattle.ecam_spec.specs.TermText.{TermNames, Outcome, syntax_error, unknown, number_error, too_deep, too_large, means}
use Rattle.ecam_spec.specs.TermVerdict.{IsVerdict}
use Rattle.term_tree.specs.declared.cond.Cond.{Cond}
use Rattle.term_tree.specs.View.{tree_of}
use Rattle.term_text.specs.declared.error.TermError.{TermError}
use Rattle.term_text.specs.declared.error.TermError.TheVariants.{Syntax, UnknownName, Number, TooDeep, TooLarge, Memory}

-- the outcome that an answer tells is this one; an answer for want of memory tells nothing
abbrev pub Tells : Outcome → Result Cond TermError → Type 0
Tells o (Ok cond) = o ≡ means (tree_of cond)
Tells o (Err (Syntax at)) = o ≡ syntax_error at
Tells o (Err (UnknownName at)) = o ≡ unknown at
Tells o (Err (Number at)) = o ≡ number_error at
Tells o (Err TooDeep) = o ≡ too_deep
Tells o (Err TooLarge) = o ≡ too_large
Tells o (Err Memory) = ⊤

-- it tells the verdict on a text
abbrev pub TellsVerdict : TermNames → Text → Result Cond TermError → Type 0
TellsVerdict names text answer = (outcome : Outcome) × IsVerdict names text outcome × Tells outcome answer
