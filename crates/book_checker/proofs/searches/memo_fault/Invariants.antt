use Rattle.std.proofs.Common.{◌≡◌}
use Rattle.ecam_spec.specs.DraftFaults.{has_atom}
use Rattle.book_model.specs.View.{memo_of}
use Rattle.book_checker.specs.Flaws.{is_flawed}
use Rattle.book_checker.proofs.Searching.{from_place}
use Rattle.book_checker.proofs.searches.memo_fault.Given as goal

-- none of the memos so far has the flaw
abbrev pub invariant-loop-place : goal.invariant-loop-place
invariant-loop-place l =
    from_place memo_of (λ i m. has_atom (is_flawed l.flaw) m.when) l.memos 0
    ≡ from_place memo_of (λ i m. has_atom (is_flawed l.flaw) m.when) l.memos l.place
