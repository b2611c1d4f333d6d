-- The atoms of the conditions of a list and of the lines of a procedure, one by one.
use Rattle.std.proofs.Common.{◌≡◌, ℕ, ◌+◌, ◌<◌, ◌≤◌, Bool, false, ◌||◌, List, length, map, get_or, drop, ap}
use Rattle.std.specs.List.{list_any}
use Rattle.ecam_spec.specs.Book.{Tree}
use Rattle.ecam_spec.specs.BookTerms.{line_terms}
use Rattle.ecam_spec.specs.DraftFaults.{has_atom, have_atom}
use Rattle.term_tree.specs.declared.cond.Cond.{Cond}
use Rattle.term_tree.specs.View.{tree_of, trees_of}
use Rattle.term_tree.proofs.Members.{trees_of-end, trees_of-next}
use Rattle.book_model.specs.View.{line_of}
use Rattle.book_model.specs.declared.draft.Line.{Line}

module _ (is_so : Tree → Bool) (cs : List Cond) (i : ℕ) where
  pub none_left : length cs ≤ i → have_atom is_so (trees_of (drop i cs)) ≡ false
  unfolding has_atom
  none_left after = ap (have_atom is_so) (trees_of-end cs i after)

  pub this_or_later : (c : Cond) → i < length cs → c ≡ get_or cs i c
      → have_atom is_so (trees_of (drop i cs)) ≡ (has_atom is_so (tree_of c) || have_atom is_so (trees_of (drop (i + 1) cs)))
  unfolding has_atom
  this_or_later c within is = ap (have_atom is_so) (trees_of-next cs i c within is)

-- whether a condition of the lines from a place on is so
abbrev pub lines_from : (Tree → Bool) → List Line → ℕ → Bool
lines_from is_so lines i = list_any is_so (line_terms (map line_of (drop i lines)))
