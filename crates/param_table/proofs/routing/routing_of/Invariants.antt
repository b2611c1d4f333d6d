use Rattle.std.proofs.Common.{◌≡◌, ◌<◌, ℕ, length, get_or}
use Rattle.book_model.specs.Sealed.{the_book}
use Rattle.param_table.specs.Asked.{is_asked_at}
use Rattle.param_table.specs.HeldValues.{unused}
use Rattle.param_table.specs.Routes.{Tells}
use Rattle.param_table.proofs.routing.routing_of.Given as goal

abbrev pub invariant-loop-mailbox : goal.invariant-loop-mailbox
invariant-loop-mailbox l = record {
  count : length l.mailboxes.items ≡ l.mailbox;
  tells : (m : ℕ) → m < l.mailbox → Tells (is_asked_at (the_book l.book)) l.numbered.rules.items l.listeners.items m (get_or l.mailboxes.items m unused);
  none : (m : ℕ) → (get_or l.mailboxes.items m unused).after ≡ 0;
}
