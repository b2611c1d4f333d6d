use Rattle.std.proofs.Common.{◌<◌, length, ◌∙◌, arith}
use Rattle.std.proofs.Math.Seq.{map-set_same}
use Rattle.book_model.specs.View.{line_of}
use Rattle.book_model.proofs.Placing.{placing-more, placing-all, written-items}
use Rattle.book_model.proofs.slots.place_lines.Goals as goal

pub loop-line-preserved : goal.loop-line-preserved
loop-line-preserved c =
    let items = c.loop-line.line-items in
    let i = c.loop-line.line-index in
    let within : i < length items = omega arith in
    record {
      same = map-set_same line_of items i c.place_line-next.new.line c.line-item.result c.place_line-next.ensures.same ∙ c.loop-line.invariant.same;
      placing = placing-more c.loop-line.invariant.placing c.line-item.result c.place_line-next.new.line _ within c.place_line-next.ensures.placed c.place_line-next.ensures.next;
    }

pub returns-clause-placed : goal.returns-clause-placed
returns-clause-placed c =
    let items = c.loop-line.line-items in
    rw (written-items c.args.lines.now.len items c.args.lines.now.items (omega arith) (omega arith))
    (placing-all c.loop-line.invariant.placing (omega arith))
