use Rattle.std.proofs.Common.{◌≡◌, ℕ, ◌/◌, ◌≤◌, true, false, length}
use Rattle.wakes.specs.Marks.{is_marked, room}
use Rattle.book_model.specs.Sealed.{the_book}
use Rattle.param_table.specs.Asked.{is_asked_at}
use Rattle.param_table.specs.HeldValues.{due_at, is_ending, received_at}
use Rattle.param_table.specs.HeldState.{AreDue, AreSummed, WillLook}
use Rattle.param_table.proofs.Steps.{come_by}
use Rattle.param_table.proofs.held.Held.look_at_due.Given as goal

abbrev pub invariant-loop-mailbox : goal.invariant-loop-mailbox
invariant-loop-mailbox l =
    let is_asked = is_asked_at (the_book l._book) in
    let rules = l.routing.rules.items.items in
    let x = received_at rules l.initial.self.mailboxes.items.items in
    record {
      mailboxes : l.self.mailboxes ≡ l.initial.self.mailboxes;
      room : room l.self.changed ≡ room l.initial.self.changed;
      summed : AreSummed l.self.changed l.self.busy;
      count : length l.self.dues ≡ length l.initial.self.dues;
      due : WillLook is_asked l.clock x (due_at rules l.initial.self.dues) → AreDue is_asked l.clock x (due_at rules l.self.dues);
      ending : WillLook is_asked l.clock x (due_at rules l.initial.self.dues) → (q : ℕ) → is_asked q ≡ true → is_marked l.self.changed (q / 3) ≡ false
          → is_ending l.clock (x q) ≡ true → due_at rules l.self.dues q ≤ l.clock;
      others : (p : ℕ) → is_marked l.initial.self.changed p ≡ false
          → ((q : ℕ) → q / 3 ≡ p → is_ending l.clock (x q) ≡ false) → is_marked l.self.changed p ≡ false;
    }

abbrev pub decreases-loop-mailbox : goal.decreases-loop-mailbox
decreases-loop-mailbox l = come_by l.clock l.self.dues
