use Rattle.std.proofs.Common.{length, subst, arith}
use Rattle.std.specs.Prelude.{IfSome}
use Rattle.warning_display.specs.ShownPlaces.{HasPlaces}
use Rattle.warning_display.proofs.Places.{few-below, counts-behind}
use Rattle.warning_display.proofs.search.count_shown.Goals as goal

pub overflow_cast-result : goal.overflow_cast-result
overflow_cast-result c = omega (arith, c.count_from.ensures, few-below c.in-Some.ranked.now (length c.args.order.now), c.requires.few)

pub returns-in-Some : goal.returns-in-Some
returns-in-Some c =
    let order = c.args.order.now in
    let shown = c.args.shown.now in
    let places = subst (λ o. IfSome o (λ set. HasPlaces order shown set.now)) c.in-Some.is c.requires.ranked in
    counts-behind order shown c.in-Some.ranked.now places c.args.from c.count_from.result c.requires.from c.count_from.ensures
