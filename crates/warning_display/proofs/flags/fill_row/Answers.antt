use Rattle.std.proofs.Common.{◌<◌, length, sym, ◌∙◌, arith}
use Rattle.std.proofs.lemmas.Bool.{eqb-true, eqb-false}
use Rattle.warning_display.proofs.Joining.{row-none, row-some, mends-row}
use Rattle.warning_display.proofs.flags.fill_row.Goals as goal

pub returns-then-is_empty-clause-row : goal.returns-then-is_empty-clause-row
returns-then-is_empty-clause-row c = λ flags is.
    let none = eqb-true (length c.args.text.now) 0 (sym c.is_empty.ensures ∙ c.if-is_empty.true) in
    mends-row _ _ _ _ (row-none flags c.args.text.now none is) c.set_row.ensures.row

pub returns-else-is_empty-clause-row : goal.returns-else-is_empty-clause-row
returns-else-is_empty-clause-row c = λ flags is.
    let some = eqb-false (length c.args.text.now) 0 (sym c.is_empty.ensures ∙ c.if-is_empty.false) in
    let long : 0 < length c.args.text.now = omega (arith, some) in
    mends-row _ _ _ _ (row-some flags c.args.text.now long is) c.set_row-else-is_empty.ensures.row
