-- Where no bytes came the source was at its end.
use Rattle.std.proofs.Common.{arith, ◌≡◌}
use Rattle.record_lines.proofs.Pieces.{slice_range-empty, IsSpent-end}
use Rattle.record_lines.proofs.piece.Piece.read.Goals as goal

pub returns-clause-end : goal.returns-clause-end
returns-clause-end g c = λ none.
    let bound = c.in_ok-self-inside.ensures.bound in
    let count : c.in_ok-self-inside.field-0 ≡ 0 = slice_range-empty c.read.new.into c.in_ok-self-inside.field-0 (omega arith) none in
    IsSpent-end (g.S.Source.left c.args.source.now) (g.S.Source.left c.read.new.self) (c.in_ok-self-inside.ensures.end count)
