use Rattle.std.proofs.Common.{map, take}
use Rattle.book_model.specs.Slots.{memo_place}
use Rattle.condition_codes.specs.Pieces.{AddsCodes}
use Rattle.condition_codes.proofs.book.add_memos.Given as goal

abbrev pub invariant-loop-memo : goal.invariant-loop-memo
invariant-loop-memo l = record { added : AddsCodes (map memo_place (take l.memo-index l.memos)) l.initial.pieces l.pieces }
