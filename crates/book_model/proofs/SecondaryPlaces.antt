-- The secondaries of a book's alerts are alerts of the book.
use Rattle.std.proofs.Common.{◌≡◌, ℕ, zero, suc, ◌+◌, ◌<◌, Bool, true, false, cond, List, [], ◌∷◌, map, length, slice_get, Option, Some, None, All, refl, sym, ap, ◌∙◌, subst, arith}
use Rattle.std.specs.List.{filter_map, position_from, cons_option}
use Rattle.std.proofs.lemmas.List.{length-map}
use Rattle.std.proofs.lemmas.List.Elements.{All-cons, All-nil}
use Rattle.ecam_spec.specs.Book.{Text, Alert as PlainAlert}
use Rattle.ecam_spec.specs.Draft.{alert_names}
use Rattle.ecam_spec.specs.Bytes.{place_of}
use Rattle.book_model.specs.View.{alert_of}
use Rattle.book_model.specs.Sealed.{the_book, alert_in}
use Rattle.book_model.specs.declared.draft.Alert.{Alert}
use Rattle.book_model.specs.declared.draft.Draft.{Draft}
use Rattle.book_model.proofs.BookLists.{book-alerts}

place-within : {X : Type 0} (p : X → Bool) (n : ℕ) (xs : List X) (i : ℕ) → position_from p n xs ≡ Some i → i < n + length xs
place-within p n [] i is = absurd (let w : ⊥ = cc in w)
place-within p n (x ∷ xs) i is =
    (elim (p x) as (λ b. cond b (Some n) (position_from p (n + 1) xs) ≡ Some i → i < n + suc (length xs)) [
      | true ↦ λ is. let here : n ≡ i = cc in omega arith
      | false ↦ λ is. let rest = place-within p (n + 1) xs i is in omega arith
    ])
    is

-- the places of names among names
module _ (names : List Text) where
  one-more : (o : Option ℕ) (places : List ℕ) → ((i : ℕ) → o ≡ Some i → i < length names) → All (λ i. i < length names) places → All (λ i. i < length names) (cons_option o places)
  one-more None places here rest = rest
  one-more (Some i) places here rest = All-cons (λ i. i < length names) i places (here i refl) rest

  pub places-below : (wanted : List Text) → All (λ i. i < length names) (filter_map (place_of names) wanted)
  places-below [] = All-nil (λ i. i < length names)
  places-below (w ∷ ws) =
      one-more (place_of names w) (filter_map (place_of names) ws)
      (λ i is. let within = place-within _ 0 names i is in omega arith) (places-below ws)

-- the secondaries of each alert of a book
secondaries-of : (f : Alert → PlainAlert) (n : ℕ) (xs : List Alert) (a : ℕ) (s : List ℕ) → ((x : Alert) → All (λ i. i < n) (f x).secondary)
    → slice_get (map (λ (p : PlainAlert). p.secondary) (map f xs)) a ≡ Some s → All (λ i. i < n) s
secondaries-of f n [] a s each is = absurd (let w : ⊥ = cc in w)
secondaries-of f n (x ∷ xs) zero s each is = let same : (f x).secondary ≡ s = cc in subst (All (λ i. i < n)) same (each x)
secondaries-of f n (x ∷ xs) (suc a) s each is = secondaries-of f n xs a s each is

pub secondaries-below : (d : Draft) (a : ℕ) (s : List ℕ) → slice_get (map (λ p. p.secondary) (the_book d).alerts) a ≡ Some s → All (λ i. i < length d.alerts.items) s
secondaries-below d a s is =
    let names = alert_names (map alert_of d.alerts.items) in
    let many : length names ≡ length d.alerts.items = length-map (map alert_of d.alerts.items) _ ∙ length-map d.alerts.items alert_of in
    secondaries-of (alert_in d) (length d.alerts.items) d.alerts.items a s
    (λ x. subst (λ n. All (λ i. i < n) (alert_in d x).secondary) many (places-below names (map _ x.secondary.items)))
    (ap (λ as'. slice_get (map (λ (p : PlainAlert). p.secondary) as') a) (sym (book-alerts d)) ∙ is)
