use Rattle.std.proofs.Common.{◌≡◌}
use Rattle.ecam_spec.specs.Faults.{first_item}
use Rattle.book_tables.specs.Catalogue.{names_in}
use Rattle.book_faults.specs.FaultParts.{is_taken_among}
use Rattle.book_tables.specs.Reading.{texts_of}
use Rattle.book_faults.proofs.FirstItems.{first_after}
use Rattle.book_faults.proofs.searches.first_taken_of.Given as goal

abbrev pub invariant-loop-i : goal.invariant-loop-i
invariant-loop-i l = first_item (λ i n. is_taken_among (texts_of l.names) (names_in l.known).of_terms.parameters n) (texts_of l.names) ≡ first_after (λ s. s.now) (λ i n. is_taken_among (texts_of l.names) (names_in l.known).of_terms.parameters n) l.names l.i
