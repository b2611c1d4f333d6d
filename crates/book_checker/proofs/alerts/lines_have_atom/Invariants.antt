use Rattle.std.proofs.Common.{◌≡◌}
use Rattle.ecam_spec.specs.DraftFaults.{has_atom}
use Rattle.book_checker.specs.Flaws.{is_flawed}
use Rattle.book_checker.proofs.Walking.{lines_from}
use Rattle.book_checker.proofs.alerts.lines_have_atom.Given as goal

-- none of the lines so far has such an atom
abbrev pub invariant-loop-line : goal.invariant-loop-line
invariant-loop-line l =
    lines_from (has_atom (is_flawed l.flaw)) l.lines 0 ≡ lines_from (has_atom (is_flawed l.flaw)) l.lines l.line-index
