use Rattle.std.proofs.Common.{take}
use Rattle.std.specs.List.{flat_map}
use Rattle.book_model.specs.Slots.{lines_places}
use Rattle.condition_codes.specs.Pieces.{AddsCodes}
use Rattle.condition_codes.proofs.book.add_procedures.Given as goal

abbrev pub invariant-loop-alert : goal.invariant-loop-alert
invariant-loop-alert l = record { added : AddsCodes (flat_map lines_places (take l.alert-index l.alerts)) l.initial.pieces l.pieces }
