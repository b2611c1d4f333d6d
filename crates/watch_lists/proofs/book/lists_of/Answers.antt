use Rattle.std.proofs.Common.{length, ap, subst, arith}
use Rattle.book_model.specs.Sealed.{the_book}
use Rattle.book_model.specs.Conditions.{places}
use Rattle.watch_lists.specs.Listed.{items_of, ListsAll}
use Rattle.watch_lists.proofs.Listing.{below-none, below-all}
use Rattle.watch_lists.proofs.Lines.{sizes-are}
use Rattle.watch_lists.proofs.book.lists_of.Goals as goal

pub returns-clause-lists : goal.returns-clause-lists
returns-clause-lists c =
    let ps = places (the_book c.args.book.now) in
    let same = sizes-are c.args.book.now _ _ (ap length c.params.ensures.value) (ap length c.alerts.ensures.value) in
    subst (λ n. ListsAll n ps (items_of c.add_memos.new.lists.items)) same
    (below-all _ ps (length ps) _ (omega arith)
    (c.in_ok-add_memos.ensures.listed
    (c.in_ok-add_procedures.ensures.listed (c.in_ok-add_alerts.ensures.listed (c.in_ok-add_phase.ensures.listed (below-none _ ps _ c.in_ok-lists.ensures.none))))))
