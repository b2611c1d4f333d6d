use Rattle.std.proofs.Common.{◌≡◌, ℕ, ◌+◌, ◌<◌, Bool, false, List, Some, length, get_or, sym, ap, ◌∙◌, arith}
use Rattle.std.proofs.lemmas.List.{take_all}
use Rattle.std.proofs.lemmas.Option.{slice_get-get_or}
use Rattle.std.specs.Prelude.{filter}
use Rattle.std.specs.List.{list_any}
use Rattle.ecam_spec.specs.Screen.{order}
use Rattle.ecam_spec.specs.LeftZone.{LeftRow, title_row}
use Rattle.book_model.specs.Sealed.{the_book}
use Rattle.warning_display.specs.LeftRows.{blocks}
use Rattle.fwc_pair.specs.TitlePlaces.{in_zone}
use Rattle.fwc_pair.proofs.Titles.{is_of, rows_below, hidden-next, absent-next, counted-next, found-next, beyond-zone, title-none}
use Rattle.fwc_pair.proofs.title.title_row.Goals as goal

pub returns-then-other-alert : goal.returns-then-other-alert
returns-then-other-alert c = λ stands tells.
    let b = the_book c.args.book.now in
    let xs = c.order-order.result.now in
    let shown : ℕ → Bool = λ a. get_or c.args.shown.now a false in
    let place = slice_get-get_or xs c.loop-i.i 0 c.loop-i-test.true in
    let before : length (rows_below b stands shown xs c.loop-i.i) ≡ c.loop-i.count = sym (c.loop-i.invariant.count stands tells) in
    let few : length (rows_below b stands shown xs c.loop-i.i) < 7 = omega (arith, c.loop-i.invariant.few) in
    sym
    (ap (λ os. in_zone (title_row c.args.alert (blocks b stands (filter shown os)))) (sym c.order-order.ensures.value)
    ∙ found-next b stands shown xs c.args.alert c.loop-i.i (place ∙ ap Some c.if-other-alert.true) (ap shown (sym c.if-other-alert.true) ∙ c.if-not-shown-other.false) (c.loop-i.invariant.absent stands) few
    ∙ ap (λ n. Some (n + 1)) before)

pub returns-then-count-ge-ZONE : goal.returns-then-count-ge-ZONE
returns-then-count-ge-ZONE c = λ stands tells.
    let b = the_book c.args.book.now in
    let xs = c.order-order.result.now in
    let shown : ℕ → Bool = λ a. get_or c.args.shown.now a false in
    let other = get_or xs c.loop-i.i 0 in
    let place = slice_get-get_or xs c.loop-i.i 0 c.loop-i-test.true in
    let long = counted-next b stands shown xs c.loop-i.i other c.loop-i.count c.rows_of-count.result place c.if-not-shown-other.false (c.loop-i.invariant.count stands tells) (c.rows_of-count.ensures.count stands tells) in
    sym
    (ap (λ os. in_zone (title_row c.args.alert (blocks b stands (filter shown os)))) (sym c.order-order.ensures.value)
    ∙ beyond-zone b stands shown xs c.args.alert (c.loop-i.i + 1)
    (absent-next b stands shown xs c.args.alert c.loop-i.i other place c.if-not-shown-other.false (λ e. c.if-other-alert.false (sym e)) (c.loop-i.invariant.absent stands))
    (omega (arith, long, c.if-count-ge-ZONE.true)))

pub returns : goal.returns
returns c = λ stands tells.
    let b = the_book c.args.book.now in
    let xs = c.order-order.result.now in
    let shown : ℕ → Bool = λ a. get_or c.args.shown.now a false in
    let all = take_all c.loop-i.i xs c.loop-i-test.false ∙ c.order-order.ensures.value in
    sym (title-none c.args.alert (blocks b stands (filter shown (order b))) (ap (λ os. list_any (is_of c.args.alert) (blocks b stands (filter shown os))) (sym all) ∙ c.loop-i.invariant.absent stands))

pub loop-i-preserved-then-not-shown-other : goal.loop-i-preserved-then-not-shown-other
loop-i-preserved-then-not-shown-other c =
    let b = the_book c.args.book.now in
    let xs = c.order-order.result.now in
    let shown : ℕ → Bool = λ a. get_or c.args.shown.now a false in
    let other = get_or xs c.loop-i.i 0 in
    let place = slice_get-get_or xs c.loop-i.i 0 c.loop-i-test.true in
    record {
      few = c.loop-i.invariant.few;
      count = λ stands tells. c.loop-i.invariant.count stands tells ∙ ap (λ (rs : List LeftRow). length rs) (sym (hidden-next b stands shown xs c.loop-i.i other place c.if-not-shown-other.true));
      absent = λ stands. ap (list_any (is_of c.args.alert)) (hidden-next b stands shown xs c.loop-i.i other place c.if-not-shown-other.true) ∙ c.loop-i.invariant.absent stands;
    }

pub loop-i-preserved : goal.loop-i-preserved
loop-i-preserved c =
    let b = the_book c.args.book.now in
    let xs = c.order-order.result.now in
    let shown : ℕ → Bool = λ a. get_or c.args.shown.now a false in
    let other = get_or xs c.loop-i.i 0 in
    let place = slice_get-get_or xs c.loop-i.i 0 c.loop-i-test.true in
    record {
      few = omega (arith, c.if-count-ge-ZONE.false);
      count = λ stands tells. counted-next b stands shown xs c.loop-i.i other c.loop-i.count c.rows_of-count.result place c.if-not-shown-other.false (c.loop-i.invariant.count stands tells) (c.rows_of-count.ensures.count stands tells);
      absent = λ stands. absent-next b stands shown xs c.args.alert c.loop-i.i other place c.if-not-shown-other.false (λ e. c.if-other-alert.false (sym e)) (c.loop-i.invariant.absent stands);
    }
