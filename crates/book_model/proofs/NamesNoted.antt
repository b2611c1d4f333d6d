-- Places by name, as names are noted one after another.
use Rattle.std.proofs.Common.{◌≡◌, ℕ, ◌+◌, ◌<◌, Bool, true, false, cond, List, [], ◌∷◌, ◌++◌, map, length, take, get_or, Option, Some, None, refl, ap, ◌∙◌, arith, inl, inr, length-take}
use Rattle.std.proofs.lemmas.Bool.{cases_Bool}
use Rattle.std.proofs.lemmas.List.{length-map, take_more, map-append}
use Rattle.std.specs.Option.{option_or}
use Rattle.std.specs.List.{position_from}
use Rattle.ecam_spec.specs.Book.{Text}
use Rattle.book_model.specs.View.{name_of}
use Rattle.book_model.specs.declared.draft.Alert.{Alert}
use Rattle.ecam_spec.specs.Bytes.{same_text, place_of}

-- the place after one more at the end
pub position_from-push : {X : Type 0} (p : X → Bool) (n : ℕ) (xs : List X) (y : X)
    → position_from p n (xs ++ y ∷ []) ≡ option_or (position_from p n xs) (cond (p y) (Some (n + length xs)) None)
position_from-push p n [] y = elim (cases_Bool (p y)) [ inl same ↦ rw same (ap Some (omega arith)) | inr other ↦ rw other refl ]
position_from-push p n (x ∷ xs) y =
    elim (cases_Bool (p x)) [
      | inl same ↦ rw same refl
      | inr other ↦ rw other (position_from-push p (n + 1) xs y ∙ ap (λ k. option_or (position_from p (n + 1) xs) (cond (p y) (Some k) None)) (omega arith))
    ]

-- a map's place at a name after another name, at which it had none, is noted
pub noted : (o : Option ℕ) (same : Bool) (place : ℕ) → (same ≡ true → o ≡ None) → cond same (Some place) o ≡ option_or o (cond same (Some place) None)
noted None true place h = refl
noted None false place h = refl
noted (Some x) true place h = absurd (let w : Some x ≡ None = h refl in cc)
noted (Some x) false place h = refl

module _ (alerts : List Alert) (i : ℕ) (a : Alert) (within : i < length alerts) (here : a ≡ get_or alerts i a) where
  names_more : map name_of (take (i + 1) alerts) ≡ map name_of (take i alerts) ++ name_of a ∷ []
  names_more = rw (take_more alerts i a within, ← here) (map-append name_of (take i alerts) (a ∷ []))

  -- the place of a name among the names of one more alert
  pub place_of-more : (q : Text) → place_of (map name_of (take (i + 1) alerts)) q ≡ option_or (place_of (map name_of (take i alerts)) q) (cond (same_text q (name_of a)) (Some i) None)
  place_of-more q =
      let count : 0 + length (map name_of (take i alerts)) ≡ i = omega (arith, length-map (take i alerts) name_of, length-take i alerts) in
      rw names_more (position_from-push (same_text q) 0 (map name_of (take i alerts)) (name_of a)
      ∙ ap (λ k. option_or (place_of (map name_of (take i alerts)) q) (cond (same_text q (name_of a)) (Some k) None)) count)
