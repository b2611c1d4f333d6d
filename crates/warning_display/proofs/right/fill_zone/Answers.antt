use Rattle.std.proofs.Common.{◌≡◌, ℕ, Bool, ◌≤◌, false, map, length, get_or, sym, ap, ◌∙◌, subst, arith}
use Rattle.book_model.specs.View.{bytes_of, memo_of}
use Rattle.book_model.specs.Sealed.{the_book}
use Rattle.book_model.proofs.BookLists.{book-systems, book-memos, many-systems}
use Rattle.book_model.proofs.BookLimits.{sizes}
use Rattle.zone_rows.specs.Tracked.{tracked}
use Rattle.book_model.specs.Told.{TellsOf}
use Rattle.warning_display.specs.RightRows.{right_of}
use Rattle.warning_display.proofs.Marks.{right-all, filled-right, fills-right, none-marked}
use Rattle.warning_display.proofs.right.fill_zone.Goals as goal

pub mark_systems-requires-clause-clear : goal.mark_systems-requires-clause-clear
mark_systems-requires-clause-clear c = none-marked 64

pub put_systems-systems-requires-clause-few : goal.put_systems-systems-requires-clause-few
put_systems-systems-requires-clause-few c = omega (arith, ap length c.systems.ensures.value, (sizes c.args.book.now c.systems.ensures.sealed).systems)

pub overflow_cast-result : goal.overflow_cast-result
overflow_cast-result c =
    omega (
      arith,
      c.put_memos-total.ensures.few,
      c.put_systems-systems.ensures.few,
      ap length c.memos.ensures.value,
      (sizes c.args.book.now c.memos.ensures.sealed).memos,
      c.saturating_sub.ensures,
    )

pub returns-clause-rows : goal.returns-clause-rows
returns-clause-rows c = λ holds told.
    let d = c.args.book.now in
    let b = the_book d in
    let starred : ℕ → Bool = λ a. get_or c.args.starred.now a false in
    let start = tracked c.args.rows.now c.args.changed.now in
    let names : map bytes_of c.systems.result.now ≡ b.systems = ap (map bytes_of) c.systems.ensures.value ∙ sym (book-systems d) in
    let memos : map memo_of c.memos.result.now ≡ b.memos = ap (map memo_of) c.memos.ensures.value ∙ sym (book-memos d) in
    let many : length c.systems.result.now ≡ length b.systems = ap length c.systems.ensures.value ∙ sym (many-systems d) in
    let few : length b.systems ≤ 64 = omega (arith, many-systems d, (sizes d c.systems.ensures.sealed).systems) in
    let here = subst (λ ms. TellsOf c.args.memos.now ms holds) (sym memos) told in
    let added =
    right-all b c.mark_systems.new.marks starred holds (map bytes_of c.systems.result.now) (map memo_of c.memos.result.now) (length c.systems.result.now)
    c.put_systems-systems.result c.put_memos-total.result start _ _ names memos many few c.mark_systems.ensures.marked c.put_systems-systems.ensures.rows
    (c.put_memos-total.ensures.rows holds here) in
    let filled = filled-right (right_of b starred holds) c.put_memos-total.result start _ added in
    fills-right (right_of b starred holds) c.put_memos-total.result _ start _ _ added
    (c.blank_rest.ensures.zone (right_of b starred holds) start (rw c.min.ensures filled)) c.saturating_sub.ensures
