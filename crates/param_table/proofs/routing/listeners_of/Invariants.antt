use Rattle.std.proofs.Common.{suc}
use Rattle.std.specs.Option.{option_map_or}
use Rattle.book_model.specs.Sealed.{the_book}
use Rattle.param_table.specs.Asked.{is_asked_at}
use Rattle.param_table.proofs.RoutingListeners.{Looks}
use Rattle.param_table.proofs.routing.listeners_of.Given as goal

abbrev pub invariant-loop-next : goal.invariant-loop-next
invariant-loop-next l = Looks (is_asked_at (the_book l.book)) (the_book l.book).parameters l.numbered.rules.items l.mailbox l.next l.listeners.items

abbrev pub decreases-loop-next : goal.decreases-loop-next
decreases-loop-next l = option_map_or (λ h. suc h) l.next 0
