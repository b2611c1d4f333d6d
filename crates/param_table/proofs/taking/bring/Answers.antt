use Rattle.std.proofs.Common.{◌≡◌, ℕ, ◌==◌, ◌&&◌, ◌||◌, not, get_or, sym, subst, arith}
use Rattle.std.specs.List.{list_any}
use Rattle.ecam_spec.specs.Book.{Book}
use Rattle.wakes.specs.Marks.{is_marked, room}
use Rattle.book_model.specs.Sealed.{the_book}
use Rattle.param_table.specs.declared.mailbox.Mailbox.{Mailbox}
use Rattle.param_table.specs.declared.mailbox.Listener.{Listener}
use Rattle.param_table.specs.HeldValues.{hearers_of, keeps_saying, unused}
use Rattle.param_table.specs.HeldState.{AreListed}
use Rattle.param_table.proofs.Hearers.{are_listed}
use Rattle.param_table.proofs.Delivery.{delivered_fits, delivered_renews, delivered_came, came_none}
use Rattle.param_table.proofs.taking.bring.Goals as goal
use Rattle.param_table.proofs.taking.bring.Goals.{After-deliver}

pub deliver-requires-clause-listed : goal.deliver-requires-clause-listed
deliver-requires-clause-listed c =
    let boxes = c.args.held.now.mailboxes.items.items in
    subst (λ ls. AreListed ls (room c.args.held.now.changed) (get_or boxes c.args.mailbox unused)) (sym c.deref.ensures.value)
    (are_listed (the_book c.args._book.now) c.args.routing.now boxes c.args.mailbox c.requires.routed c.requires.mailbox (room c.args.held.now.changed) (omega (arith, c.requires.fits.room)))

pub deliver-requires-clause-dues : goal.deliver-requires-clause-dues
deliver-requires-clause-dues c = omega (arith, c.requires.mailbox, c.requires.fits.dues)

module _ (c : After-deliver) where
  abbrev book : Book
  book = the_book c.args._book.now

  abbrev before : Mailbox
  before = get_or c.args.held.now.mailboxes.items.items c.args.mailbox unused

  marks : (p : ℕ) → is_marked c.deliver.new.self.changed p
      ≡ (list_any (λ (l : Listener). p == l.param && not (keeps_saying c.args.clock c.args.bits before l)) (hearers_of c.args.routing.now.listeners.items.items before) || is_marked c.args.held.now.changed p)
  marks p = subst (λ ls. is_marked c.deliver.new.self.changed p
      ≡ (list_any (λ (l : Listener). p == l.param && not (keeps_saying c.args.clock c.args.bits before l)) (hearers_of ls before) || is_marked c.args.held.now.changed p))
      c.deref.ensures.value (c.deliver.ensures.marks p)

pub returns-then-mailbox-ne0-clause-fits : goal.returns-then-mailbox-ne0-clause-fits
returns-then-mailbox-ne0-clause-fits c =
    delivered_fits (book c) c.args.routing.now c.args.clock c.args.mailbox c.args.bits c.args.held.now c.deliver.new.self c.requires.sound c.requires.routed c.requires.fits c.requires.mailbox
    c.deliver.ensures.mailboxes c.deliver.ensures.room (marks c) c.deliver.ensures.dues c.deliver.ensures.summed

pub returns-then-mailbox-ne0-clause-renews : goal.returns-then-mailbox-ne0-clause-renews
returns-then-mailbox-ne0-clause-renews c =
    delivered_renews (book c) c.args.routing.now c.args.clock c.args.mailbox c.args.bits c.args.held.now c.deliver.new.self c.requires.sound c.requires.routed c.requires.fits c.requires.mailbox
    c.deliver.ensures.mailboxes c.deliver.ensures.room (marks c) c.deliver.ensures.dues c.deliver.ensures.summed

pub returns-then-mailbox-ne0-clause-came : goal.returns-then-mailbox-ne0-clause-came
returns-then-mailbox-ne0-clause-came c =
    delivered_came (book c) c.args.routing.now c.args.clock c.args.mailbox c.args.bits c.args.held.now c.deliver.new.self c.requires.sound c.requires.routed c.requires.fits c.requires.mailbox
    c.deliver.ensures.mailboxes c.deliver.ensures.room (marks c) c.deliver.ensures.dues c.deliver.ensures.summed

pub returns-else-mailbox-ne0-clause-came : goal.returns-else-mailbox-ne0-clause-came
returns-else-mailbox-ne0-clause-came c =
    came_none (the_book c.args._book.now) c.args.routing.now c.args.held.now.mailboxes.items.items c.requires.routed c.args.clock c.args.mailbox c.args.bits c.args.held.now c.if-mailbox-ne0.false
