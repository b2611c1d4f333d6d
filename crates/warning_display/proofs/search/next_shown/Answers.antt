use Rattle.std.proofs.Common.{◌≡◌, ◌+◌, ◌-◌, take, sym, ap, subst, ◌∙◌, arith}
use Rattle.std.specs.Prelude.{filter, IfSome}
use Rattle.book_model.specs.Told.{flagged}
use Rattle.warning_display.specs.ShownPlaces.{HasPlaces}
use Rattle.warning_display.proofs.Places.{none-between}
use Rattle.warning_display.proofs.search.next_shown.Goals as goal

pub returns-in-Some-clause-none : goal.returns-in-Some-clause-none
returns-in-Some-clause-none c =
    let order = c.args.order.now in
    let shown = c.args.shown.now in
    let found = c.next_or.ensures in
    let places = subst (λ o. IfSome o (λ set. HasPlaces order shown set.now)) c.in-Some.is c.requires.ranked in
    let upto : c.args.from + (c.next_or.result - c.args.from) ≡ c.next_or.result = omega (arith, found.from) in
    ap (λ n. filter (flagged shown) (take n order)) (sym upto)
    ∙ none-between order shown c.in-Some.ranked.now places c.args.from (c.next_or.result - c.args.from) (omega (arith, found.from, found.end))
    (λ r low high. found.none r low (omega (arith, high, found.from)))
