use Rattle.watch_lists.specs.Listed.{items_of}
use Rattle.watch_lists.proofs.Adding.{on-ok}
use Rattle.watch_lists.proofs.Listing.{below-next}
use Rattle.watch_lists.proofs.book.add_term.Goals as goal

pub returns-clause-listed : goal.returns-clause-listed
returns-clause-listed c =
    on-ok c.add_operands.result _ _ (λ adds ps here. below-next c.args.sizes ps c.args.number _ here (items_of c.args.lists.now.items) (items_of c.add_operands.new.lists.items) adds) c.add_operands.ensures.listed
