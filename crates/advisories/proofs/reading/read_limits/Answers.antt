use Rattle.std.proofs.Common.{◌≡◌, Some, None, Ok, Err, IfOk, Result, List, ℕ, ◌≤◌, length, ◌∙◌, sym, ap, arith}
use Rattle.std.proofs.lemmas.Result.{err_from_is_err_and}
use Rattle.toml.specs.View.{table_view}
use Rattle.toml.specs.Data.{Members}
use Rattle.ecam_spec.specs.Book.{Book}
use Rattle.book_model.specs.Sealed.{the_book}
use Rattle.book_spec.specs.BookBytes.{table_of_text}
use Rattle.view_spec.specs.Advisories.{Fit}
use Rattle.limits_spec.specs.declared.form.TheConstants.{LIMITS_BYTES}
use Rattle.limits_spec.specs.Document.{table_fault}
use Rattle.limits_spec.specs.LimitsOf as plain
use Rattle.limits_spec.specs.LimitsBytes.{limits}
use Rattle.limits_spec.proofs.Fitting.{limits_fit}
use Rattle.advisories.specs.View.{limits_of}
use Rattle.advisories.specs.declared.limits.Limits.{Limits}
use Rattle.advisories.specs.declared.limits.LimitsError.{LimitsError}
use Rattle.advisories.specs.declared.limits.LimitsError.TheVariants.{Fault}
use Rattle.advisories.proofs.FileText.{too_long, no_document, faulty, faultless}
use Rattle.advisories.proofs.reading.read_limits.Goals as goal

pub returns-then-bytes-gt-LONGEST-clause-fault : goal.returns-then-bytes-gt-LONGEST-clause-fault
returns-then-bytes-gt-LONGEST-clause-fault c f told =
    let long = too_long (the_book c.args.book.now) c.args.bytes.now (omega arith) in
    let same : c.top_fault.result ≡ Fault f = cc in
    cc

pub returns-in_err-table-clause-fault : goal.returns-in_err-table-clause-fault
returns-in_err-table-clause-fault c f told =
    let p = err_from_is_err_and c.from_residual.result c.from_residual.ensures.1 in
    let err : c.in_err-table.field-0.0 ≡ Fault f = cc (p.1, p.2, told) in
    let g = c.in_err-table.ensures.fault f (ap Err err) in
    no_document (the_book c.args.book.now) c.args.bytes.now (omega arith) g.1 ∙ ap Some (sym g.0)

module _ (b : Book) (bytes : List ℕ) (short : length bytes ≤ LIMITS_BYTES) (top : Members) (is : table_of_text bytes ≡ Some top) where
  -- the limits that were read are those of the bytes
  read : (result : Result Limits LimitsError) → IfOk result (λ l. limits_of l ≡ plain.limits_of b top) → IfOk result (λ l. table_fault b top ≡ None)
      → IfOk result (λ l. limits b bytes ≡ Some (limits_of l))
  read (Ok l) same none = faultless b bytes short top is none ∙ ap Some (sym same)
  read (Err e) same none = same

fit : (b : Book) (bytes : List ℕ) (result : Result Limits LimitsError) → IfOk result (λ l. limits b bytes ≡ Some (limits_of l)) → IfOk result (λ l. Fit b (limits_of l))
fit b bytes (Ok l) are = limits_fit b bytes (limits_of l) are
fit b bytes (Err e) are = are

pub returns-clause-limits : goal.returns-clause-limits
returns-clause-limits c =
    read (the_book c.args.book.now) c.args.bytes.now (omega arith) (table_view c.in_ok-table.table) c.in_ok-table.ensures.table c.read_table.result
    c.read_table.ensures.limits c.read_table.ensures.faultless

pub returns-clause-fit : goal.returns-clause-fit
returns-clause-fit c =
    fit (the_book c.args.book.now) c.args.bytes.now c.read_table.result
    (read (the_book c.args.book.now) c.args.bytes.now (omega arith) (table_view c.in_ok-table.table) c.in_ok-table.ensures.table c.read_table.result
    c.read_table.ensures.limits c.read_table.ensures.faultless)

pub returns-clause-fault : goal.returns-clause-fault
returns-clause-fault c f told =
    faulty (the_book c.args.book.now) c.args.bytes.now (omega arith) (table_view c.in_ok-table.table) c.in_ok-table.ensures.table f (c.read_table.ensures.fault f told)
