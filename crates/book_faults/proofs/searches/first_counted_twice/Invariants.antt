use Rattle.std.proofs.Common.{◌≡◌}
use Rattle.ecam_spec.specs.Faults.{first_item}
use Rattle.ecam_spec.specs.KeepsLimits.{is_repeated}
use Rattle.book_tables.specs.Reading.{texts_of}
use Rattle.book_faults.proofs.FirstItems.{first_after}
use Rattle.book_faults.proofs.searches.first_counted_twice.Given as goal

abbrev pub invariant-loop-i : goal.invariant-loop-i
invariant-loop-i l = first_item (λ i n. is_repeated (texts_of l.names) n) (texts_of l.names) ≡ first_after (λ s. s.now) (λ i n. is_repeated (texts_of l.names) n) l.names l.i
