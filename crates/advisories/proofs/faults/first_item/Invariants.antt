use Rattle.std.proofs.Common.{◌≡◌}
use Rattle.toml.specs.View.{view}
use Rattle.ecam_spec.specs.Faults.{first_item}
use Rattle.book_tables.specs.Reading.{views}
use Rattle.book_faults.proofs.FirstItems.{first_after}
use Rattle.limits_spec.specs.Rules.{item_breaks}
use Rattle.advisories.specs.Document.{book_in, listed_names}
use Rattle.advisories.proofs.faults.first_item.Given as goal

abbrev pub invariant-loop-i : goal.invariant-loop-i
invariant-loop-i l =
    first_item (λ i d. item_breaks (book_in l.document) (listed_names l.document) l.rule d) (views l.values)
    ≡ first_after view (λ i d. item_breaks (book_in l.document) (listed_names l.document) l.rule d) l.values l.i
