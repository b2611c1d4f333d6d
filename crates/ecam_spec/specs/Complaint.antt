-- What is written on standard error, a line each. Its words are this project's own.
use Rattle.std.specs.Prelude.{ℕ, ◌∷◌, ◌++◌, nat_lt, codes, decimal, if◌then◌else◌}
use Rattle.ecam_spec.specs.declared.kinds.FaultKind.{FaultKind}
use Rattle.ecam_spec.specs.declared.kinds.FaultKind.TheVariants.{Long, Form, Cut, NoEnd, AfterEnd, Limit}
use Rattle.ecam_spec.specs.declared.kinds.RecordFault.{RecordFault}
use Rattle.ecam_spec.specs.declared.kinds.Section.{Section}
use Rattle.ecam_spec.specs.declared.kinds.Section.TheVariants as sections
use Rattle.ecam_spec.specs.declared.kinds.BookFault.{BookFault}
use Rattle.ecam_spec.specs.Book.{Text}

abbrev pub section_word : Section → Text
section_word sections.Top = codes "top"
section_word sections.System = codes "system"
section_word sections.Page = codes "page"
section_word sections.Param = codes "param"
section_word sections.Term = codes "term"
section_word sections.Phase = codes "phase"
section_word sections.Alert = codes "alert"
section_word sections.Memo = codes "memo"

-- a code has two digits
abbrev pub code_text : ℕ → Text
code_text code = if nat_lt code 10 then 48 ∷ decimal code else decimal code

abbrev pub book_complaint : BookFault → Text
book_complaint f = codes "book: F" ++ code_text f.code ++ codes " " ++ section_word f.section ++ codes " " ++ decimal f.item

abbrev pub kind_word : FaultKind → Text
kind_word Long = codes "Long"
kind_word Form = codes "Form"
kind_word Cut = codes "Cut"
kind_word NoEnd = codes "NoEnd"
kind_word AfterEnd = codes "AfterEnd"
kind_word Limit = codes "Limit"

abbrev pub record_complaint : RecordFault → Text
record_complaint f = codes "record: " ++ kind_word f.kind ++ codes " line " ++ decimal f.line
