use Rattle.std.proofs.Common.{length, ap, subst, arith}
use Rattle.book_model.specs.Sealed.{the_book}
use Rattle.book_model.specs.Conditions.{places}
use Rattle.watch_lists.specs.Listed.{items_of, ListsBelow}
use Rattle.watch_lists.proofs.Lines.{first-line, last-line}
use Rattle.watch_lists.proofs.book.add_procedures.Goals as goal

pub returns-clause-listed : goal.returns-clause-listed
returns-clause-listed c below =
    let d = c.args.book.now in
    subst (λ m. ListsBelow c.args.sizes (places (the_book d)) m (items_of c.loop-alert.lists.items))
    (last-line d c.loop-alert.alert (omega (arith, c.loop-alert-test.false, ap length c.alerts-alert-end.ensures.value)))
    (c.loop-alert.invariant.listed (subst (λ m. ListsBelow c.args.sizes (places (the_book d)) m (items_of c.args.lists.now.items)) (first-line d) below))
