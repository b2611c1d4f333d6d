-- The slots of the conditions of a book: ranges from 0 up to their number, no two of which overlap.
use Rattle.std.proofs.Common.{◌≡◌, ℕ, ◌+◌, ◌≤◌, List, [], ◌∷◌, Some, All, AllPairs, slice_get, refl, subst, arith, zero-add}
use Rattle.std.proofs.lemmas.Option.{slice_get_within, get_or_from_slice_get}
use Rattle.ecam_spec.specs.Book.{Tree, Book}
use Rattle.ecam_spec.specs.BookTerms.{terms_of, slots_in}
use Rattle.ecam_spec.specs.TermSize.{Placed, EndsBefore, LiesIn, slots, slots_of, trees}
use Rattle.term_tree.proofs.Ranges.{placed-LiesIn, placed-EndsBefore}
use Rattle.book_model.specs.Conditions.{places}

slots_in-is : (cs : List Tree) → slots_of (trees cs) ≡ slots_in cs
unfolding slots_of
slots_in-is [] = refl
slots_in-is (c ∷ cs) = omega (arith, slots_in-is cs)

module _ (b : Book) where
  pub ranges-within : All (LiesIn 0 (slots_in (terms_of b))) (places b)
  ranges-within = rw (← slots_in-is (terms_of b), ← zero-add (slots_of (trees (terms_of b)))) (placed-LiesIn 0 (trees (terms_of b)))

  pub ranges-apart : AllPairs EndsBefore (places b)
  ranges-apart = placed-EndsBefore 0 (trees (terms_of b))

  -- of one of them
  pub range : (i : ℕ) (p : Placed) → slice_get (places b) i ≡ Some p → p.at + slots p.tree ≤ slots_in (terms_of b)
  range i p is =
      let lies : LiesIn 0 (slots_in (terms_of b)) p =
      subst (LiesIn 0 (slots_in (terms_of b))) (get_or_from_slice_get (places b) i p p is) (ranges-within i p (slice_get_within (places b) i p is)) in
      lies.1
