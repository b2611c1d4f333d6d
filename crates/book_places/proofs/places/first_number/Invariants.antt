use Rattle.std.proofs.Common.{◌≡◌, map}
use Rattle.std.specs.List.{position_from}
use Rattle.book_model.specs.View.{parameter_of}
use Rattle.view_spec.specs.Places.{is_number}
use Rattle.book_places.proofs.FirstPlaces.{place_after}
use Rattle.book_places.proofs.places.first_number.Given as goal

abbrev pub invariant-loop-i : goal.invariant-loop-i
invariant-loop-i l = position_from (is_number l.name) 0 (map parameter_of l.params) ≡ place_after parameter_of (is_number l.name) l.params l.i
