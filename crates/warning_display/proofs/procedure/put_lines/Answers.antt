use Rattle.std.proofs.Common.{false, map, get_or, arith}
use Rattle.std.proofs.lemmas.List.{take_all, length-map}
use Rattle.book_model.proofs.BookReads.{view-get}
use Rattle.book_model.specs.View.{line_of}
use Rattle.warning_display.specs.LeftRows.{line_row}
use Rattle.warning_display.proofs.Passing.{appends-on}
use Rattle.warning_display.proofs.procedure.put_lines.Goals as goal

pub loop-i-preserved : goal.loop-i-preserved
loop-i-preserved c = record {
  whole = c.put_line-count.ensures.whole;
  rows = λ test tells.
      let line = line_of c.index-lines-i.result in
      let here = view-get line_of c.args.lines.now c.loop-i.i c.index-lines-i.result c.loop-i-test.true c.index-lines-i.is in
      appends-on 0 7 line_row test (map line_of c.args.lines.now) c.loop-i.i line (get_or c.args.stands.now c.loop-i.i false) here (tells c.loop-i.i line here)
      c.args.count c.loop-i.count c.put_line-count.result _ _ _ (c.loop-i.invariant.rows test tells) c.put_line-count.ensures.row;
}

pub returns-clause-rows : goal.returns-clause-rows
returns-clause-rows c = λ test tells.
    let all = take_all c.loop-i.i (map line_of c.args.lines.now) (omega (arith, length-map c.args.lines.now line_of, c.loop-i-test.false)) in
    rw all at c.loop-i.invariant.rows test tells
