-- What sealing tells of a draft that it refuses.
use Rattle.std.specs.Prelude.{◌≡◌, Some}
use Rattle.ecam_spec.specs.Draft as plain
use Rattle.ecam_spec.specs.DraftFaults.{draft_fault}
use Rattle.book_model.specs.declared.error.LoadError.{LoadError}
use Rattle.book_model.specs.declared.error.LoadError.TheVariants.{Fault, Memory}

-- a fault that is told is the draft's, and want of memory tells nothing of the draft
abbrev pub Refuses : plain.Draft → LoadError → Type 0
Refuses d (Fault f) = draft_fault d ≡ Some f
Refuses d Memory = Unit {0}
