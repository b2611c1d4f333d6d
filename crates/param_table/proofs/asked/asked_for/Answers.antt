use Rattle.std.proofs.Common.{◌≡◌, All, map, length, sym, ap, subst, ◌∙◌, arith}
use Rattle.ecam_spec.specs.KeepsLimits.{IsSoundRow}
use Rattle.book_model.specs.View.{row_of}
use Rattle.book_model.proofs.BookLimits.{rows-sound}
use Rattle.book_model.proofs.BookLists.{many-parameters}
use Rattle.param_table.proofs.AskedFor.{pages_asked}
use Rattle.param_table.proofs.asked.asked_for.Goals as goal

pub add_shown-requires : goal.add_shown-requires
add_shown-requires c =
    let d = c.args.book.now in
    let many : length d.params.items ≡ length c.deref_mut.result.now = sym (ap length c.deref_mut.ensures.value ∙ c.loop-page.invariant.count ∙ many-parameters d) in
    subst (λ n. All (IsSoundRow n) (map row_of c.page-item.result.rows.items)) many
    (rows-sound d c.pages-page-items.ensures.sealed c.pages-page-items.result.now c.loop-page.page-index c.page-item.result c.pages-page-items.ensures.value (omega arith) c.page-item.is)

pub returns-clause-asked : goal.returns-clause-asked
returns-clause-asked c = λ p lt.
    pages_asked c.args.book.now p c.pages-page-items.result.now c.loop-page.page-index _ c.pages-page-items.ensures.value (omega arith) (c.loop-page.invariant.asked p lt)
