-- What is left past the first bytes is a part of what was left.
use Rattle.std.proofs.Common.{ap, ◌∙◌, arith, drop, length}
use Rattle.record_lines.proofs.Pieces.{slice_range-past}
use Rattle.record_lines.proofs.piece.Piece.skip.Goals as goal

pub returns : goal.returns
returns c =
    let is = c.self.view_is in
    let len = ap length is in
    slice_range-past c.self.inside.buffer c.self.inside.start c.self.inside.end c.args.count (omega arith) (omega arith) ∙ ap (drop c.args.count) is
