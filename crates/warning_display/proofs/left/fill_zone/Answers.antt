use Rattle.std.proofs.Common.{◌≡◌, false, true, [], map, length, get_or, sym, ap, ◌∙◌, subst, arith}
use Rattle.std.specs.Prelude.{filter}
use Rattle.ecam_spec.specs.Screen.{order}
use Rattle.ecam_spec.specs.LeftZone.{left_rows}
use Rattle.book_model.specs.View.{memo_of}
use Rattle.book_model.specs.Sealed.{the_book}
use Rattle.book_model.proofs.BookLists.{book-memos}
use Rattle.book_model.proofs.BookLimits.{sizes}
use Rattle.zone_rows.specs.Tracked.{tracked}
use Rattle.zone_rows.specs.Mended.{IsFilled}
use Rattle.zone_rows.proofs.Filling.{fill-none}
use Rattle.book_model.specs.Told.{TellsOf}
use Rattle.warning_display.specs.Memos.{memo_rows}
use Rattle.warning_display.specs.LeftRows.{rows_in, blocks, left_of}
use Rattle.warning_display.proofs.Titles.{fills-left}
use Rattle.warning_display.proofs.left.fill_zone.Goals as goal

pub put_calm-count-requires-clause-few : goal.put_calm-count-requires-clause-few
put_calm-count-requires-clause-few c = omega (arith, ap length c.memos.ensures.value, (sizes c.args.book.now c.memos.ensures.sealed).memos)

pub returns-clause-rows : goal.returns-clause-rows
unfolding left_of
returns-clause-rows c = λ stands holds tells told.
    let d = c.args.book.now in
    let b = the_book d in
    let start = tracked c.args.rows.now c.args.changed.now in
    let shown = filter (λ a. get_or c.args.shown.now a false) (order b) in
    let left = blocks b stands shown in
    let memos : map memo_of c.memos.result.now ≡ b.memos = ap (map memo_of) c.memos.ensures.value ∙ sym (book-memos d) in
    let here = subst (λ ms. TellsOf c.args.memos.now ms holds) (sym memos) told in
    let titled = c.put_alerts-titled.ensures.rows stands tells [] start (fill-none 0 7 start) in
    let calm = c.put_calm-count.ensures.rows holds here left start titled in
    let filled = subst (λ ms. IsFilled 0 7 (rows_in (left_rows left c.args.normal (memo_rows true holds ms))) c.put_calm-count.result start (tracked c.put_calm-count.new.rows c.put_calm-count.new.changed)) memos calm in
    fills-left left c.args.normal (memo_rows true holds b.memos) c.put_alerts-titled.result.1 c.put_calm-count.result start _ _
    (c.put_alerts-titled.ensures.titles stands tells) filled
    (c.blank_rest.ensures.zone (rows_in (left_rows left c.args.normal (memo_rows true holds b.memos))) start filled)
