use Rattle.std.proofs.Common.{◌≡◌, ◌+◌, ◌*◌, ◌<◌, length, get_or, List, sym, subst, ◌∙◌, ap, arith}
use Rattle.std.proofs.lemmas.Bool.{false≢true}
use Rattle.ecam_spec.specs.Book.{Book}
use Rattle.ecam_spec.specs.Word.{sdi}
use Rattle.ecam_spec.specs.Value.{BusWord}
use Rattle.book_model.specs.Sealed.{the_book}
use Rattle.param_table.specs.declared.mailbox.Mailbox.{Mailbox}
use Rattle.param_table.specs.Asked.{is_asked_at}
use Rattle.param_table.specs.HeldValues.{received_at}
use Rattle.param_table.proofs.Steps.{renews_both}
use Rattle.param_table.proofs.Receiving.{any_read, named_read, any_within, named_within, any_takes, named_takes, routes_there, received_twice, sdi-few}
use Rattle.param_table.proofs.taking.receive.Goals as goal
use Rattle.param_table.proofs.taking.receive.Goals.{After-from-named}

pub index-requires : goal.index-requires
index-requires c =
    let there = routes_there (the_book c.args._book.now) c.args.routing.now c.args.held.now.mailboxes.items.items c.requires.routed (record { bus = c.args._bus; bits = c.args.bits }) c.requires.odd c.args.last c.requires.last in
    omega (arith, there, c.from-slots.ensures)

pub index-requires-2 : goal.index-requires-2
index-requires-2 c =
    let there = routes_there (the_book c.args._book.now) c.args.routing.now c.args.held.now.mailboxes.items.items c.requires.routed (record { bus = c.args._bus; bits = c.args.bits }) c.requires.odd c.args.last c.requires.last in
    omega (arith, there, c.from-slots.ensures, sdi-few c.args.bits, c.from.ensures, c.sdi.ensures, ap sdi c.new.ensures)

module _ (c : After-from-named) where
  abbrev book : Book
  book = the_book c.args._book.now

  abbrev boxes : List Mailbox
  boxes = c.args.held.now.mailboxes.items.items

  abbrev word : BusWord
  word = record { bus = c.args._bus; bits = c.args.bits }

  -- the two mailboxes of the route, 0 where no source has one
  any-is : c.from-any.result ≡ get_or c.args.routing.now.routes.items.items (5 * c.args.last + 0) 0
  any-is = c.from-any.ensures ∙ any_read book c.args.routing.now boxes c.requires.routed word c.requires.odd c.args.last c.requires.last c.from-slots.result c.index.result.now c.from-slots.ensures c.index.ensures

  named-is : c.from-named.result ≡ get_or c.args.routing.now.routes.items.items (5 * c.args.last + (1 + sdi c.args.bits)) 0
  named-is =
      c.from-named.ensures
      ∙ named_read book c.args.routing.now boxes c.requires.routed word c.requires.odd c.args.last c.requires.last c.from-slots.result c.from.result c.index-2.result.now c.from-slots.ensures
      (c.from.ensures ∙ c.sdi.ensures ∙ ap sdi c.new.ensures) c.index-2.ensures

  any-there : c.from-any.result < length boxes
  any-there = subst (λ m. m < length boxes) (sym any-is) (any_within book c.args.routing.now boxes c.requires.routed word c.requires.odd c.args.last c.requires.last)

  named-there : c.from-named.result < length boxes
  named-there = subst (λ m. m < length boxes) (sym named-is) (named_within book c.args.routing.now boxes c.requires.routed word c.requires.odd c.args.last c.requires.last)

pub bring-requires-clause-mailbox : goal.bring-requires-clause-mailbox
bring-requires-clause-mailbox c = any-there c.before

pub bring-requires-2-clause-mailbox : goal.bring-requires-2-clause-mailbox
bring-requires-2-clause-mailbox c = omega (arith, named-there c.before.before.before, c.requires.routed.count, c.bring.ensures.routed.count)

pub returns-clause-renews : goal.returns-clause-renews
returns-clause-renews c =
    renews_both (is_asked_at (the_book c.args._book.now)) (the_book c.args._book.now).parameters c.args.routing.now.rules.items.items c.args.clock c.args.held.now c.bring.new.held c.bring-2.new.held c.bring.ensures.renews c.bring-2.ensures.renews

pub returns-clause-others : goal.returns-clause-others
returns-clause-others c = λ p none.
    let b : After-from-named = c.before.before.before.before in
    c.bring-2.ensures.came.marks p
    (λ q r row is own. false≢true (sym (none q row) ∙ named_takes (book b) c.args.routing.now (boxes b) c.requires.routed (word b) c.requires.odd c.args.last c.requires.last q r is (own ∙ named-is b)))
    ∙ c.bring.ensures.came.marks p
    (λ q r row is own. false≢true (sym (none q row) ∙ any_takes (book b) c.args.routing.now (boxes b) c.requires.routed (word b) c.requires.odd c.args.last c.requires.last q r is (own ∙ any-is b)))

pub returns-clause-received : goal.returns-clause-received
returns-clause-received c =
    let b : After-from-named = c.before.before.before.before in
    let rules = c.args.routing.now.rules.items.items in
    let one = c.bring.ensures.came in
    let two = c.bring-2.ensures.came in
    received_twice (book b) c.args.routing.now (boxes b) c.requires.routed (word b) c.requires.odd c.args.last c.requires.last c.args.clock
    (received_at rules (boxes b)) (received_at rules c.bring.new.held.mailboxes.items.items) (received_at rules c.bring-2.new.held.mailboxes.items.items)
    (λ q r is ne. one.other q r is (λ own. ne (own ∙ any-is b)))
    (λ q r is own. one.own q r is (own ∙ sym (any-is b)))
    one.none
    (λ q r is ne. two.other q r is (λ own. ne (own ∙ named-is b)))
    (λ q r is own. two.own q r is (own ∙ sym (named-is b)))
    two.none
