-- What stands at a name stands in the book.
use Rattle.std.proofs.Common.{◌≡◌, ℕ, ◌+◌, ◌<◌, Bool, true, false, List, [], ◌∷◌, length, Some, refl, sym, ◌∙◌, inl, inr, arith}
use Rattle.std.proofs.lemmas.Bool.{cases_Bool}
use Rattle.std.specs.List.{position_from}
use Rattle.ecam_spec.specs.Book.{Text, Book}
use Rattle.view_spec.specs.Places.{number_place, page_place}

place_within : {X : Type 0} (test : X → Bool) (i : ℕ) (xs : List X) (p : ℕ) → position_from test i xs ≡ Some p → p < i + length xs
place_within test i [] p h = absurd (cc)
place_within test i (x ∷ xs) p h =
    elim (cases_Bool (test x)) [
      | inl pass ↦ let e : Some i ≡ Some p = sym (rw pass refl) ∙ h in let same : i ≡ p = cc in omega arith
      | inr fail ↦ let e : position_from test (i + 1) xs ≡ Some p = sym (rw fail refl) ∙ h in omega (arith, place_within test (i + 1) xs p e)
    ]

pub number_within : (b : Book) (name : Text) (p : ℕ) → number_place b name ≡ Some p → p < length b.parameters
unfolding number_place
number_within b name p h = omega (arith, place_within _ 0 b.parameters p h)

pub page_within : (b : Book) (name : Text) (p : ℕ) → page_place b name ≡ Some p → p < length b.pages
unfolding page_place
page_within b name p h = omega (arith, place_within _ 0 b.pages p h)
