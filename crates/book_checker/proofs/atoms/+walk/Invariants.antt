use Rattle.std.proofs.Common.{◌≡◌, drop}
use Rattle.ecam_spec.specs.DraftFaults.{have_atom}
use Rattle.term_tree.specs.View.{trees_of}
use Rattle.book_checker.specs.Flaws.{is_flawed}
use Rattle.book_checker.proofs.atoms.+walk.Given as goal

-- none of the members so far has such an atom
abbrev pub invariant-have_atom-loop-member : goal.invariant-have_atom-loop-member
invariant-have_atom-loop-member l =
    have_atom (is_flawed l.flaw) (trees_of l.members) ≡ have_atom (is_flawed l.flaw) (trees_of (drop l.member-index l.members))
