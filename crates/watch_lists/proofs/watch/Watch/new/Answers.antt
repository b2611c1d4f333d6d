use Rattle.std.proofs.Common.{subst, ◌∙◌}
use Rattle.std.proofs.lemmas.List.{length-map}
use Rattle.watch_lists.specs.Listed.{items_of}
use Rattle.watch_lists.specs.Flat.{IsFlat}
use Rattle.watch_lists.proofs.Watches.{watch-of}
use Rattle.watch_lists.proofs.watch.Watch.new.Goals as goal

pub returns : goal.returns
returns c =
    watch-of c.args.book.now _ (items_of c.in_ok-lists.lists.items) (length-map c.in_ok-lists.lists.items (λ v. v.items) ∙ c.in_ok-lists.ensures.count) c.in_ok-lists.ensures.lists
    (subst (λ ls. IsFlat (items_of ls) c.in_ok-starts.starts.items.items c.in_ok-starts.terms.items.items) c.deref.ensures.value c.in_ok-starts.ensures)
