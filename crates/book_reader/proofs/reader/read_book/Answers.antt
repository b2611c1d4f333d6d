use Rattle.std.proofs.Common.{◌≡◌, Some, None, Ok, Err, IfOk, Result, List, ℕ, ◌≤◌, length, ◌∙◌, sym, ap, arith}
use Rattle.std.proofs.lemmas.Result.{err_from_is_err_and}
use Rattle.ecam_spec.specs.declared.limits.TheConstants.{BOOK_BYTES}
use Rattle.toml.specs.View.{table_view}
use Rattle.toml.specs.Data.{Members}
use Rattle.ecam_spec.specs.KeepsLimits.{IsSound}
use Rattle.book_model.specs.View.{draft_of}
use Rattle.book_model.specs.declared.draft.Draft.{Draft}
use Rattle.book_model.specs.declared.error.LoadError.{LoadError}
use Rattle.book_model.specs.declared.error.LoadError.TheVariants.{Fault}
use Rattle.book_spec.specs.BookBytes.{table_of_text, draft_of_bytes}
use Rattle.book_spec.specs.Document.{table_fault}
use Rattle.book_spec.specs.DraftOf as spec
use Rattle.book_spec.proofs.BytesSound.{draft_of_bytes_sound}
use Rattle.book_reader.proofs.BookText.{too_long, no_document, faulty, faultless}
use Rattle.book_reader.proofs.reader.read_book.Goals as goal

pub returns-then-bytes-gt-LONGEST-clause-fault : goal.returns-then-bytes-gt-LONGEST-clause-fault
returns-then-bytes-gt-LONGEST-clause-fault c f told =
    let long = too_long c.args.bytes.now (omega arith) in
    let same : c.top_fault.result ≡ Fault f = cc in
    cc

pub returns-in_err-table-clause-fault : goal.returns-in_err-table-clause-fault
returns-in_err-table-clause-fault c f told =
    let p = err_from_is_err_and c.from_residual.result c.from_residual.ensures.1 in
    let err : c.in_err-table.field-0.0 ≡ Fault f = cc (p.1, p.2, told) in
    let g = c.in_err-table.ensures.fault f (ap Err err) in
    no_document c.args.bytes.now (omega arith) g.1 ∙ ap Some (sym g.0)

module _ (bytes : List ℕ) (short : length bytes ≤ BOOK_BYTES) (table : Members) (is : table_of_text bytes ≡ Some table) where
  -- the draft that was read is that of the bytes
  drafted : (result : Result Draft LoadError) → IfOk result (λ d. draft_of d ≡ spec.draft_of table) → IfOk result (λ d. table_fault table ≡ None)
      → IfOk result (λ d. draft_of_bytes bytes ≡ Some (draft_of d))
  drafted (Ok d) same none = faultless bytes short table is none ∙ ap Some (sym same)
  drafted (Err e) same none = same

sounds : (bytes : List ℕ) (result : Result Draft LoadError) → IfOk result (λ d. draft_of_bytes bytes ≡ Some (draft_of d)) → IfOk result (λ d. IsSound (draft_of d))
sounds bytes (Ok d) read = draft_of_bytes_sound bytes (draft_of d) read
sounds bytes (Err e) read = read

pub returns-clause-draft : goal.returns-clause-draft
returns-clause-draft c =
    drafted c.args.bytes.now (omega arith) (table_view c.in_ok-table.table) c.in_ok-table.ensures.table c.draft_in.result c.draft_in.ensures.draft c.draft_in.ensures.faultless

pub returns-clause-sound : goal.returns-clause-sound
returns-clause-sound c =
    sounds c.args.bytes.now c.draft_in.result
    (drafted c.args.bytes.now (omega arith) (table_view c.in_ok-table.table) c.in_ok-table.ensures.table c.draft_in.result c.draft_in.ensures.draft c.draft_in.ensures.faultless)

pub returns-clause-fault : goal.returns-clause-fault
returns-clause-fault c f told =
    faulty c.args.bytes.now (omega arith) (table_view c.in_ok-table.table) c.in_ok-table.ensures.table f (c.draft_in.ensures.fault f told)
