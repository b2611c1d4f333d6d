use Rattle.std.proofs.Common.{◌≡◌, length, ltb, false, ap, ◌∙◌, arith}
use Rattle.std.proofs.lemmas.Bool.{not-true}
use Rattle.std.proofs.lemmas.Bool.Decides.{nat_tests}
use Rattle.book_model.specs.Sealed.{the_book}
use Rattle.book_model.specs.Told.{flagged}
use Rattle.book_model.proofs.BookLists.{many-alerts}
use Rattle.status_page.specs.StatusOf.{TellsStatusLines, status_of}
use Rattle.status_page.proofs.Counting.{none-below, any-told}
use Rattle.status_page.proofs.count.is_surely_bare.Goals as goal

pub returns : goal.returns
unfolding TellsStatusLines
returns c = λ bare active cancelled tells told.
    let b = the_book c.args._book.now in
    let unset = c.has_any.ensures (not-true c.has_any.result bare) in
    let none = none-below b (flagged c.args.cancelled.now) (flagged c.args._active.now) (length b.alerts)
    (λ a h. (ap length (c.requires.lines.0 c.if-has_status_lines.false a h), unset a)) in
    let any : ltb 0 (length (status_of b active cancelled)) ≡ false
    = any-told b c.args._active.now c.args.cancelled.now active cancelled _ (many-alerts c.args._book.now) tells told ∙ ap (ltb 0) none in
    grind (arith, nat_tests)
