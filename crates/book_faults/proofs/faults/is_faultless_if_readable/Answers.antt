use Rattle.std.proofs.Common.{◌≡◌, true, false, is_some, sym, ◌∙◌, ap}
use Rattle.std.specs.Prelude.{is_none, None}
use Rattle.std.proofs.lemmas.Result.{IfOk-weaker}
use Rattle.book_spec.specs.Document.{repeated_fault, table_fault}
use Rattle.book_tables.specs.Catalogue.{table_in}
use Rattle.book_faults.specs.Readable.{AreReadable}
use Rattle.book_faults.specs.FaultParts.{top_fault, ordered_fault}
use Rattle.book_faults.proofs.FaultOrder.{fault_parts, or_other}
use Rattle.book_faults.proofs.NoFault.{nothing, names_alone}
use Rattle.book_faults.proofs.faults.is_faultless_if_readable.Goals as goal

pub returns-then-branch : goal.returns-then-branch
returns-then-branch c =
    let top = table_in c.args.names.now in
    let none : is_some (top_fault top) ≡ false = ap is_some (sym c.top_fault.ensures) ∙ sym c.is_some.ensures ∙ c.if-is_some.false in
    let kept = c.in_ok-keeps_rules.ensures.kept c.if-branch.true in
    let meant = c.in_ok-keeps_rules.ensures.meant c.if-branch.true in
    IfOk-weaker c.has_distinct_names.result (λ b. b ≡ is_none (repeated_fault top)) (λ b. b ≡ true → AreReadable top → table_fault top ≡ None)
    (λ b is faultless readable.
    fault_parts top ∙ or_other (top_fault top) (ordered_fault top) none ∙ names_alone top kept meant readable ∙ nothing (repeated_fault top) (sym is ∙ faultless))
    c.has_distinct_names.ensures
