use Rattle.std.proofs.Common.{◌≡◌, ◌+◌, ◌++◌, [], ◌∷◌, length, get_or, sym, ap, ◌∙◌, subst}
use Rattle.std.proofs.lemmas.List.{length-append}
use Rattle.param_table.specs.declared.mailbox.Mailbox.{Mailbox}
use Rattle.book_model.specs.Sealed.{the_book}
use Rattle.param_table.specs.Asked.{is_asked_at}
use Rattle.param_table.specs.HeldValues.{unused}
use Rattle.param_table.specs.Routes.{AreListeners, Tells}
use Rattle.param_table.proofs.RoutingTells.{one_behind, more_tells, more_empty}
use Rattle.param_table.proofs.routing.routing_of.Goals as goal

pub loop-mailbox-preserved : goal.loop-mailbox-preserved
loop-mailbox-preserved c =
    let is_asked = is_asked_at (the_book c.args.book.now) in
    let rules = c.in_ok-numbered.numbered.rules.items in
    let n = c.loop-mailbox.mailbox in
    let boxes = c.loop-mailbox.mailboxes.items in
    let ls = c.loop-mailbox.listeners.items in
    let hs = c.deref.result.now in
    let are : AreListeners is_asked rules n hs = subst (AreListeners is_asked rules n) (sym c.deref.ensures.value) c.in_ok-hearers.ensures in
    let listeners : c.add_mailbox.new.listeners.items ≡ ls ++ hs = c.in_ok-add_mailbox.ensures.listeners in
    let told = c.in_ok-add_mailbox.ensures.mailboxes in
    let one : Mailbox = one_behind ls hs told.0 in
    let mailboxes : c.add_mailbox.new.mailboxes.items ≡ boxes ++ one ∷ [] = told.2 in
    record {
      count = ap length mailboxes ∙ length-append boxes (one ∷ []) ∙ ap (λ k. k + 1) c.loop-mailbox.invariant.count;
      tells = λ m less. subst (λ l. Tells is_asked rules l m (get_or c.add_mailbox.new.mailboxes.items m unused)) (sym listeners)
          (subst (λ b. Tells is_asked rules (ls ++ hs) m (get_or b m unused)) (sym mailboxes) (more_tells is_asked rules n boxes ls hs told.0 c.loop-mailbox.invariant.count c.loop-mailbox.invariant.tells are told.1 m less));
      none = λ m. ap (λ b. (get_or b m unused).after) mailboxes ∙ more_empty n boxes one.hearers c.loop-mailbox.invariant.count c.loop-mailbox.invariant.none m;
    }
