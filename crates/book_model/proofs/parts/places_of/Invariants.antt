use Rattle.std.proofs.Common.{◌≡◌, map, take}
use Rattle.std.specs.List.{filter_map}
use Rattle.book_model.specs.View.{bytes_of}
use Rattle.book_model.specs.NamePlaces.{number_by}
use Rattle.book_model.proofs.parts.places_of.Given as goal

abbrev pub invariant-loop-name : goal.invariant-loop-name
invariant-loop-name l = l.found.items ≡ filter_map (number_by l.places) (map bytes_of (take l.name-index l.names))
