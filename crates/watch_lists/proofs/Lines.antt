-- The lines of an alert, and the numbers of their conditions.
use Rattle.std.proofs.Common.{◌≡◌, ℕ, suc, ◌+◌, ◌*◌, ◌<◌, ◌≤◌, List, [], ◌∷◌, ◌++◌, map, length, take, get_or, slice_get, Some, refl, sym, ap, ◌∙◌, subst, arith, add-one, length-append}
use Rattle.std.proofs.lemmas.List.{length-map, take_more, take_all}
use Rattle.std.proofs.lemmas.Grind.{flat_map-append}
use Rattle.std.proofs.lemmas.Option.{slice_get_within, get_or_from_slice_get}
use Rattle.ecam_spec.specs.Book as plain
use Rattle.ecam_spec.specs.BookTerms.{lines_of}
use Rattle.book_model.specs.View.{placed_of, line_of}
use Rattle.book_model.specs.Sealed.{the_book, alert_in, IsSealed}
use Rattle.book_model.specs.Conditions.{places, lines_from, memos_from}
use Rattle.book_model.specs.declared.draft.Line.{Line}
use Rattle.book_model.specs.declared.draft.Alert.{Alert}
use Rattle.book_model.specs.declared.draft.Draft.{Draft}
use Rattle.book_model.proofs.BookLists.{many-alerts}
use Rattle.book_model.proofs.BookLines.{lines-fit, few-lines-in-all}
use Rattle.book_model.proofs.BookReads.{alert-get}
use Rattle.book_model.proofs.ConditionPlaces.{line-when, line-done}
use Rattle.watch_lists.specs.declared.number.Sizes.{Sizes}
use Rattle.watch_lists.specs.Naming.{sizes_of, line_number}
use Rattle.watch_lists.specs.Listed.{NextListed, ListsBelow}

pub sizes-are : (d : Draft) (p a : ℕ) → p ≡ length d.params.items → a ≡ length d.alerts.items → (let n : Sizes = record { params = p; alerts = a } in n) ≡ sizes_of d
sizes-are d p a params alerts = ap (λ m. let n : Sizes = record { params = m; alerts = a } in n) params ∙ ap (λ m. let n : Sizes = record { params = length d.params.items; alerts = m } in n) alerts

pub alerts-are : (d : Draft) (n : Sizes) → n ≡ sizes_of d → n.alerts ≡ length (the_book d).alerts
alerts-are d n is = ap (λ (s : Sizes). s.alerts) is ∙ sym (many-alerts d)

module _ (d : Draft) (sealed : IsSealed d) (n : Sizes) (is : n ≡ sizes_of d) (xs : List Alert) (a : ℕ) (x : Alert) (same : xs ≡ d.alerts.items) (within : a < length xs) (here : x ≡ get_or xs a x) where
  -- behind the lines of the alerts before it
  pub line-within : (first i : ℕ) → first ≡ length (lines_of (take a (the_book d).alerts)) → i < length x.lines.items → first + i < 32768
  line-within first i at inside = omega (arith, at, lines-fit d xs a x same within here, few-lines-in-all d sealed)

  pub behind-own : (i : ℕ) → i ≡ length x.lines.items → line_number d a i ≡ line_number d (a + 1) 0
  behind-own i all =
      let got : get_or (the_book d).alerts a (alert_in d x) ≡ alert_in d x = get_or_from_slice_get (the_book d).alerts a (alert_in d x) (alert_in d x) (alert-get d xs a x same within here) in
      let more = take_more (the_book d).alerts a (alert_in d x) (slice_get_within (the_book d).alerts a (alert_in d x) (alert-get d xs a x same within here)) ∙ ap (λ y. take a (the_book d).alerts ++ y ∷ []) got in
      let many : length (lines_of (take (a + 1) (the_book d).alerts)) ≡ length (lines_of (take a (the_book d).alerts)) + length x.lines.items =
      ap (λ as'. length (lines_of as')) more
      ∙ ap length (flat_map-append (λ (p : plain.Alert). p.lines) (take a (the_book d).alerts) (alert_in d x ∷ []))
      ∙ omega (
        arith,
        length-append (lines_of (take a (the_book d).alerts)) (map line_of x.lines.items ++ []),
        length-append (map line_of x.lines.items) [],
        length-map x.lines.items line_of,
      ) in
      omega (arith, many, all)

  module _ (i : ℕ) (l : Line) (inside : i < length x.lines.items) (at : l ≡ get_or x.lines.items i l) (first number : ℕ) (starts : first ≡ length (lines_of (take a (the_book d).alerts)))
      (numbered : number ≡ 6 + n.alerts + 2 * (first + i)) where
    number-is : number ≡ line_number d a i
    number-is = omega (arith, numbered, starts, alerts-are d n is)

    pub when-here : slice_get (places (the_book d)) number ≡ Some (placed_of l.when)
    when-here = ap (slice_get (places (the_book d))) number-is ∙ line-when d sealed xs a x same within here x.lines.items i l refl inside at

    pub done-here : slice_get (places (the_book d)) (suc number) ≡ Some (placed_of l.done)
    done-here =
        ap (λ m. slice_get (places (the_book d)) (suc m)) number-is ∙ ap (slice_get (places (the_book d))) (sym (add-one (line_number d a i)))
        ∙ line-done d sealed xs a x same within here x.lines.items i l refl inside at

    pub line-next : (old mid new : List (List ℕ)) → NextListed n (places (the_book d)) number (suc (suc number)) mid new → NextListed n (places (the_book d)) (line_number d a 0) (line_number d a i) old mid
        → NextListed n (places (the_book d)) (line_number d a 0) (line_number d a (i + 1)) old new
    line-next old mid new next before below =
        subst (λ m. ListsBelow n (places (the_book d)) m new) (let e : suc (suc number) ≡ line_number d a (i + 1) = omega (arith, number-is) in e)
        (next (subst (λ m. ListsBelow n (places (the_book d)) m mid) (sym number-is) (before below)))

-- before the first line of the first alert, and behind the last of the last
pub first-line : (d : Draft) → lines_from (the_book d) ≡ line_number d 0 0
first-line d = omega arith

pub last-line : (d : Draft) (i : ℕ) → length d.alerts.items ≤ i → line_number d i 0 ≡ memos_from (the_book d)
last-line d i all = omega (arith, ap (λ as'. length (lines_of as')) (take_all i (the_book d).alerts (omega (arith, many-alerts d))))
