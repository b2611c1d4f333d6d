use Rattle.std.proofs.Common.{◌≡◌}
use Rattle.ecam_spec.specs.DraftFaults.{has_atom}
use Rattle.term_tree.specs.View.{named_term}
use Rattle.book_checker.specs.Flaws.{is_flawed}
use Rattle.book_checker.proofs.Searching.{from_place}
use Rattle.book_checker.proofs.searches.named_fault.Given as goal

-- none of the named conditions so far has the flaw
abbrev pub invariant-loop-place : goal.invariant-loop-place
invariant-loop-place l =
    from_place named_term (λ i t. has_atom (is_flawed l.flaw) t.tree) l.terms 0
    ≡ from_place named_term (λ i t. has_atom (is_flawed l.flaw) t.tree) l.terms l.place
