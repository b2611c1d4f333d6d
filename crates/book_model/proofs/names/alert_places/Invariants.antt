use Rattle.std.proofs.Common.{map, take}
use Rattle.book_model.specs.View.{name_of}
use Rattle.book_model.specs.NamePlaces.{FindsPlaces}
use Rattle.book_model.proofs.names.alert_places.Given as goal

abbrev pub invariant-loop-i : goal.invariant-loop-i
invariant-loop-i l = FindsPlaces (map name_of (take l.i l.alerts)) l.places
