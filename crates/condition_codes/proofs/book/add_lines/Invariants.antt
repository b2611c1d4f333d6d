use Rattle.std.proofs.Common.{take}
use Rattle.std.specs.List.{flat_map}
use Rattle.book_model.specs.Slots.{line_places}
use Rattle.condition_codes.specs.Pieces.{AddsCodes}
use Rattle.condition_codes.proofs.book.add_lines.Given as goal

abbrev pub invariant-loop-line : goal.invariant-loop-line
invariant-loop-line l = record { added : AddsCodes (flat_map line_places (take l.line-index l.lines)) l.initial.pieces l.pieces }
