use Rattle.std.proofs.Common.{◌≡◌, map}
use Rattle.std.specs.List.{position_from}
use Rattle.ecam_spec.specs.Bytes.{same_text}
use Rattle.book_model.specs.View.{page_of}
use Rattle.book_places.proofs.FirstPlaces.{place_after}
use Rattle.book_places.proofs.places.first_page.Given as goal

abbrev pub invariant-loop-i : goal.invariant-loop-i
invariant-loop-i l = position_from (λ p. same_text l.name p.name) 0 (map page_of l.pages) ≡ place_after page_of (λ p. same_text l.name p.name) l.pages l.i
