use Rattle.std.proofs.Common.{◌&&◌, false, map, get_or, ap, arith}
use Rattle.std.proofs.lemmas.List.{take_all, length-map}
use Rattle.book_model.proofs.BookReads.{view-get}
use Rattle.book_model.specs.View.{memo_of}
use Rattle.warning_display.specs.Memos.{is_of, memo_row}
use Rattle.warning_display.proofs.Adding.{adds-on, adds-few}
use Rattle.warning_display.proofs.memos.put_memos.Goals as goal

pub loop-i-preserved : goal.loop-i-preserved
loop-i-preserved c =
    let memo = memo_of c.index-memos-i.result in
    let told = get_or c.args.holds.now c.loop-i.i false in
    record {
      whole = c.put_memo-total.ensures.whole;
      few = omega (arith, c.loop-i.invariant.few, adds-few c.args.first (is_of c.args.left memo && told) (memo_row memo) c.loop-i.total c.put_memo-total.result _ _ c.put_memo-total.ensures.row);
      rows = λ test tells.
          let here = view-get memo_of c.args.memos.now c.loop-i.i c.index-memos-i.result c.loop-i-test.true c.index-memos-i.is in
          adds-on c.args.first memo_row (λ m. is_of c.args.left m && test m) (map memo_of c.args.memos.now) c.loop-i.i memo (is_of c.args.left memo && told) here
          (ap (λ h. is_of c.args.left memo && h) (tells c.loop-i.i memo here)) c.args.total c.loop-i.total c.put_memo-total.result _ _ _
          (c.loop-i.invariant.rows test tells) c.put_memo-total.ensures.row;
    }

pub returns-clause-rows : goal.returns-clause-rows
returns-clause-rows c = λ test tells.
    let all = take_all c.loop-i.i (map memo_of c.args.memos.now) (omega (arith, length-map c.args.memos.now memo_of, c.loop-i-test.false)) in
    rw all at c.loop-i.invariant.rows test tells
