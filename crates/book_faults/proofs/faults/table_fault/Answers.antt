use Rattle.std.proofs.Common.{◌≡◌, false, is_some, Ok, Err, Result, sym, ◌∙◌, ap}
use Rattle.std.specs.Result.{IfOk}
use Rattle.book_spec.specs.Document.{table_fault}
use Rattle.book_tables.specs.Catalogue.{table_in}
use Rattle.book_faults.specs.FaultParts.{top_fault, ordered_fault}
use Rattle.book_faults.proofs.FaultOrder.{fault_parts, or_some, or_other}
use Rattle.book_faults.proofs.faults.table_fault.Goals as goal

pub returns-then-is_some : goal.returns-then-is_some
returns-then-is_some c =
    let top = table_in c.args.names.now in
    let told = c.top_fault-fault.ensures in
    told ∙ sym (fault_parts top ∙ or_some (top_fault top) (ordered_fault top) (ap is_some (sym told) ∙ sym c.is_some.ensures ∙ c.if-is_some.true))

-- what is told of one thing is told of an equal one
moved : {A E : Type 0} (result : Result A E) (x y : A) → x ≡ y → IfOk result (λ r. r ≡ x) → IfOk result (λ r. r ≡ y)
moved (Ok r) x y same h = h ∙ same
moved (Err e) x y same h = h

pub returns : goal.returns
returns c =
    let top = table_in c.args.names.now in
    let none : is_some (top_fault top) ≡ false = ap is_some (sym c.top_fault-fault.ensures) ∙ sym c.is_some.ensures ∙ c.if-is_some.false in
    moved c.ordered_fault.result (ordered_fault top) (table_fault top)
    (sym (fault_parts top ∙ or_other (top_fault top) (ordered_fault top) none)) c.ordered_fault.ensures
