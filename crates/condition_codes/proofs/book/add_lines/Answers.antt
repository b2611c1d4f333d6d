use Rattle.std.proofs.Common.{[], ◌∷◌}
use Rattle.book_model.specs.View.{placed_of}
use Rattle.book_model.specs.Slots.{line_places}
use Rattle.condition_codes.proofs.Walking.{line-fits, adds-both, adds-more}
use Rattle.condition_codes.proofs.book.add_lines.Goals as goal

pub add-requires : goal.add-requires
add-requires c =
    (line-fits c.args.book.now c.sealed.ensures c.requires.0 c.args.alert.now c.requires.1 c.requires.2 c.as_slice-lines.result.now c.loop-line.line-index c.line-item.result
    c.as_slice-lines.ensures.value c.loop-line-test.true c.line-item.is).0

pub add-requires-in-loop-line : goal.add-requires-in-loop-line
add-requires-in-loop-line c =
    (line-fits c.args.book.now c.sealed.ensures c.requires.0 c.args.alert.now c.requires.1 c.requires.2 c.as_slice-lines.result.now c.loop-line.line-index c.line-item.result
    c.as_slice-lines.ensures.value c.loop-line-test.true c.line-item.is).1

pub loop-line-preserved : goal.loop-line-preserved
loop-line-preserved c =
    let line = c.line-item.result in
    record {
      added = adds-more c.args.pieces.now c.loop-line.pieces c.add-in-loop-line.new.self c.as_slice-lines.result.now c.loop-line.line-index line c.loop-line-test.true c.line-item.is line_places
          c.loop-line.invariant.added
          (adds-both c.loop-line.pieces c.add.new.self c.add-in-loop-line.new.self (placed_of line.when ∷ []) (placed_of line.done ∷ []) c.in_ok-add.ensures c.in_ok-add-2.ensures);
    }
