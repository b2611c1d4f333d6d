use Rattle.std.proofs.Common.{take}
use Rattle.book_tables.specs.Reading.{texts_of}
use Rattle.book_model.specs.NamePlaces.{FindsPlaces}
use Rattle.book_tables.proofs.places.places_of.Given as goal

abbrev pub invariant-loop-i : goal.invariant-loop-i
invariant-loop-i l = FindsPlaces (texts_of (take l.i l.names)) l.places
