use Rattle.std.proofs.Common.{◌≡◌, map, take}
use Rattle.book_model.specs.View.{name_of}
use Rattle.book_model.specs.Parts.{secondaries_by}
use Rattle.book_model.proofs.parts.secondaries_of.Given as goal

abbrev pub invariant-loop-alert : goal.invariant-loop-alert
invariant-loop-alert l = map (λ s. s.items) l.secondaries.items ≡ map (secondaries_by (map name_of l.alerts)) (take l.alert-index l.alerts)
