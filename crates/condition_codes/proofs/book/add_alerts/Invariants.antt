use Rattle.std.proofs.Common.{map, take}
use Rattle.book_model.specs.Slots.{when_place}
use Rattle.condition_codes.specs.Pieces.{AddsCodes}
use Rattle.condition_codes.proofs.book.add_alerts.Given as goal

abbrev pub invariant-loop-alert : goal.invariant-loop-alert
invariant-loop-alert l = record { added : AddsCodes (map when_place (take l.alert-index l.alerts)) l.initial.pieces l.pieces }
