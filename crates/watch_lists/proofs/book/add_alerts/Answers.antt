use Rattle.std.proofs.Common.{◌≡◌, suc, ◌+◌, ◌<◌, length, get_or, ap, subst, ◌∙◌, arith}
use Rattle.book_model.specs.Sealed.{the_book}
use Rattle.book_model.specs.Conditions.{places, alerts_from, lines_from}
use Rattle.book_model.proofs.BookLists.{many-alerts}
use Rattle.book_model.proofs.BookLimits.{alert-sound}
use Rattle.book_model.proofs.ConditionPlaces.{own-place}
use Rattle.watch_lists.specs.Listed.{items_of, ListsBelow}
use Rattle.watch_lists.proofs.Naming.{few-operands, own-within}
use Rattle.watch_lists.proofs.book.add_alerts.Goals as goal

pub add_term-requires-clause-few : goal.add_term-requires-clause-few
add_term-requires-clause-few c = few-operands c.args.book.now c.alerts.ensures.sealed c.args.sizes c.requires.sizes

pub add_term-requires-clause-within : goal.add_term-requires-clause-within
add_term-requires-clause-within c =
    let xs = c.alerts.result.now in
    let lt : c.loop-alert.alert < length xs = omega (arith, c.loop-alert-test.true, ap length c.alerts.ensures.value, ap length c.alerts-alert-end.ensures.value) in
    own-within c.args.book.now c.alerts.ensures.sealed c.args.sizes c.requires.sizes _
    (alert-sound c.args.book.now c.alerts.ensures.sealed xs c.loop-alert.alert (get_or xs c.loop-alert.alert c.index-alerts-alert.result) c.alerts.ensures.value lt (ap (get_or xs c.loop-alert.alert) c.index-alerts-alert.is)).when.within

pub loop-alert-preserved : goal.loop-alert-preserved
loop-alert-preserved c = record {
  long = c.in_ok-add_term.ensures.len ∙ c.loop-alert.invariant.long;
  listed = λ below.
      let xs = c.alerts.result.now in
      let lt : c.loop-alert.alert < length xs = omega (arith, c.loop-alert-test.true, ap length c.alerts.ensures.value, ap length c.alerts-alert-end.ensures.value) in
      let place = own-place c.args.book.now c.alerts.ensures.sealed xs c.loop-alert.alert (get_or xs c.loop-alert.alert c.index-alerts-alert.result) c.alerts.ensures.value lt (ap (get_or xs c.loop-alert.alert) c.index-alerts-alert.is) in
      subst (λ n. ListsBelow c.args.sizes (places (the_book c.args.book.now)) n (items_of c.add_term.new.lists.items))
      (let e : suc (alerts_from + c.loop-alert.alert) ≡ alerts_from + (c.loop-alert.alert + 1) = omega arith in e)
      (c.in_ok-add_term.ensures.listed (places (the_book c.args.book.now)) place (c.loop-alert.invariant.listed below));
}

pub returns-clause-listed : goal.returns-clause-listed
returns-clause-listed c below =
    subst (λ n. ListsBelow c.args.sizes (places (the_book c.args.book.now)) n (items_of c.loop-alert.lists.items))
    (let e : alerts_from + c.loop-alert.alert ≡ lines_from (the_book c.args.book.now)
    = omega (arith, c.loop-alert-test.false, c.loop-alert.auto.alert-end, ap length c.alerts-alert-end.ensures.value, many-alerts c.args.book.now) in e)
    (c.loop-alert.invariant.listed below)
