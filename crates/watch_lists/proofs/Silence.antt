-- Operands that no condition names: their lists are empty, and so they start where the first of them does.
use Rattle.std.proofs.Common.{◌≡◌, ℕ, zero, suc, ◌-◌, ◌<◌, ◌≤◌, eqb, true, false, List, length, take, drop, get_or, slice_index, refl, sym, ap, ◌∙◌, inl, inr, arith}
use Rattle.std.proofs.lemmas.Bool.{cases_lt, eq-eqb}
use Rattle.std.proofs.lemmas.List.{length-take, length-drop}
use Rattle.std.proofs.lemmas.List.Folds.{list_any_at}
use Rattle.book_model.specs.Sealed.{the_book}
use Rattle.book_model.specs.Conditions.{places}
use Rattle.book_model.specs.declared.draft.Draft.{Draft}
use Rattle.watch_lists.specs.declared.watch.Watch.{Watch}
use Rattle.watch_lists.specs.Naming.{sizes_of, operand_count, names_at}
use Rattle.watch_lists.specs.Listed.{has_term}
use Rattle.watch_lists.specs.Flat.{piece}
use Rattle.watch_lists.specs.Watching.{IsWatch, NoneNamed}

module _ (d : Draft) (w : Watch) (is : IsWatch d w) where
  rises : (from to : ℕ) → from ≤ to → to ≤ operand_count (sizes_of d) → slice_index w.starts.items.items from ≤ slice_index w.starts.items.items to
  rises from zero le few = let e : from ≡ 0 = omega arith in omega (arith, ap (slice_index w.starts.items.items) e)
  rises from (suc t) le few = elim (cases_lt from (suc t)) [
    | inl before ↦ omega (arith, rises from t (omega arith) (omega arith), is.ordered t (omega arith))
    | inr after ↦ let e : from ≡ suc t = omega arith in omega (arith, ap (slice_index w.starts.items.items) e)
  ]

  pub silent : (from to : ℕ) → to ≤ operand_count (sizes_of d) → slice_index w.starts.items.items from ≡ slice_index w.starts.items.items to → NoneNamed d from to
  silent from to few same o j low high =
      let none : slice_index w.starts.items.items (suc o) - slice_index w.starts.items.items o ≡ 0
      = omega (arith, same, rises from o low (omega arith), rises (suc o) to (omega arith) few) in
      sym (is.lists o j (omega arith)) ∙ ap (λ n. has_term (take n (drop (slice_index w.starts.items.items o) w.terms.items.items)) j) none

  -- a list with an item has that item
  unnamed-empty : (o : ℕ) → o < operand_count (sizes_of d) → ((j : ℕ) → names_at (sizes_of d) (places (the_book d)) j o ≡ false)
      → slice_index w.starts.items.items (suc o) ≤ slice_index w.starts.items.items o
  unnamed-empty o few none = elim (cases_lt (slice_index w.starts.items.items o) (slice_index w.starts.items.items (suc o))) [
    | inr after ↦ after
    | inl before ↦
        let own : List ℕ = piece w.starts.items.items w.terms.items.items o in
        let some : 0 < length own =
        omega (
          arith,
          before,
          is.within (suc o) few,
          length-take (slice_index w.starts.items.items (suc o) - slice_index w.starts.items.items o) (drop (slice_index w.starts.items.items o) w.terms.items.items),
          length-drop (slice_index w.starts.items.items o) w.terms.items.items,
        ) in
        let j = get_or own 0 0 in
        let has : has_term own j ≡ true = list_any_at (λ t. eqb t j) own 0 0 some (eq-eqb j j refl) in
        absurd (let bad : ⊥ = (let clash : true ≡ false = sym has ∙ is.lists o j few ∙ none j in cc) in bad)
  ]

  pub none-named : (from to : ℕ) → from ≤ to → to ≤ operand_count (sizes_of d) → NoneNamed d from to → slice_index w.starts.items.items from ≡ slice_index w.starts.items.items to
  none-named from zero le few none = let e : from ≡ 0 = omega arith in ap (slice_index w.starts.items.items) e
  none-named from (suc t) le few none = elim (cases_lt from (suc t)) [
    | inl before ↦
        omega (
          arith,
          none-named from t (omega arith) (omega arith) (λ o j low high. none o j low (omega arith)),
          is.ordered t (omega arith),
          unnamed-empty t (omega arith) (λ j. none t j (omega arith) (omega arith)),
        )
    | inr after ↦ let e : from ≡ suc t = omega arith in ap (slice_index w.starts.items.items) e
  ]
