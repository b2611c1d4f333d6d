-- Places and counts by name, as names are noted one after another.
use Rattle.std.proofs.Common.{◌≡◌, ℕ, ◌+◌, ◌<◌, ◌≤◌, Bool, true, false, cond, leb, List, [], ◌∷◌, ◌++◌, length, take, get_or, Option, Some, None, unwrap_or, is_none, not, refl, ap, sym, ◌∙◌, arith, inl, inr, length-take, zero-add}
use Rattle.std.proofs.lemmas.Bool.{cases_Bool}
use Rattle.std.proofs.lemmas.List.{length-map, take_more, map-append}
use Rattle.std.specs.Option.{option_or}
use Rattle.std.specs.List.{position_from, count_by, list_any}
use Rattle.std.proofs.lemmas.Bool.Decides.{nat_tests}
use Rattle.std.proofs.lemmas.List.Sums.{sum_by-append}
use Rattle.ecam_spec.specs.TermText.{name_place}
use Rattle.std.specs.Borrow.{Bor}
use Rattle.ecam_spec.specs.Book.{Text}
use Rattle.ecam_spec.specs.Bytes.{same_text, place_of}
use Rattle.book_model.proofs.NamesNoted.{position_from-push}
use Rattle.book_spec.specs.Rules.{is_among}
use Rattle.book_tables.specs.Reading.{texts_of}

module _ (names : List (Bor (List ℕ))) (i : ℕ) (d : Bor (List ℕ)) (within : i < length names) where
  pub texts_more : texts_of (take (i + 1) names) ≡ texts_of (take i names) ++ (get_or names i d).now ∷ []
  texts_more = rw (take_more names i d within) (map-append (λ (s : Bor (List ℕ)). s.now) (take i names) (get_or names i d ∷ []))

  -- the place of a name among one more
  pub place_of-more : (q : Text) → place_of (texts_of (take (i + 1) names)) q ≡ option_or (place_of (texts_of (take i names)) q) (cond (same_text q (get_or names i d).now) (Some i) None)
  place_of-more q =
      let count : 0 + length (texts_of (take i names)) ≡ i = omega (arith, length-map (take i names) (λ (s : Bor (List ℕ)). s.now), length-take i names) in
      rw texts_more (position_from-push (same_text q) 0 (texts_of (take i names)) (get_or names i d).now
      ∙ ap (λ k. option_or (place_of (texts_of (take i names)) q) (cond (same_text q (get_or names i d).now) (Some k) None)) count)

  -- how often a name stands among one more
  pub count_of-more : (q : Text) → count_by (same_text q) (texts_of (take (i + 1) names)) ≡ count_by (same_text q) (texts_of (take i names)) + cond (same_text q (get_or names i d).now) 1 0
  count_of-more q =
      rw texts_more (sum_by-append (λ t. cond (same_text q t) 1 0) (texts_of (take i names)) ((get_or names i d).now ∷ [])
      ∙ ap (λ n. count_by (same_text q) (texts_of (take i names)) + n) (zero-add (cond (same_text q (get_or names i d).now) 1 0)))

-- a map's count at a name after another name was counted once more
pub counted : (o : Option ℕ) (same : Bool) (n : ℕ) → (same ≡ true → unwrap_or o 0 ≡ n) → unwrap_or (cond same (Some (n + 1)) o) 0 ≡ unwrap_or o 0 + cond same 1 0
counted o true n h = ap (λ k. k + 1) (sym (h refl))
counted o false n h = omega arith

-- a name that isn't too long has the same place either way
pub short_name_place : (names : List Text) (name : Text) → length name ≤ 24 → name_place names name ≡ place_of names name
unfolding name_place
short_name_place names name h = let fits : leb (length name) 24 ≡ true = grind (arith, nat_tests) in rw (fits, name_place) refl

pub long_name_place : (names : List Text) (name : Text) → 24 < length name → name_place names name ≡ None
unfolding name_place
long_name_place names name h = let long : leb (length name) 24 ≡ false = grind (arith, nat_tests) in rw (long, name_place) refl

-- a name has no place exactly where it isn't among the names
no_place_from : (t : Text → Bool) (n : ℕ) (names : List Text) → is_none (position_from t n names) ≡ not (list_any t names)
no_place_from t n [] = refl
no_place_from t n (x ∷ xs) = elim (cases_Bool (t x)) [ inl here ↦ rw here refl | inr other ↦ rw other (no_place_from t (n + 1) xs) ]

pub no_place : (names : List Text) (name : Text) → is_none (place_of names name) ≡ not (is_among names name)
no_place names name = no_place_from (same_text name) 0 names
