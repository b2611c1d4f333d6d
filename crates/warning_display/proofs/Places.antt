-- The shown alerts by their places in the order.
use Rattle.std.proofs.Common.{◌≡◌, ℕ, zero, suc, ◌+◌, ◌<◌, ◌≤◌, Bool, true, false, List, [], ◌∷◌, ◌++◌, length, take, drop, get_or, All, cond, refl, sym, ap, subst, ◌∙◌, arith}
use Rattle.std.specs.Prelude.{filter}
use Rattle.std.specs.Int.{from_bool}
use Rattle.std.proofs.lemmas.List.{take_all, take_more, append-nil, length-append}
use Rattle.std.proofs.lemmas.List.Elements.{filter-append}
use Rattle.ecam_spec.specs.Screen.{order}
use Rattle.ecam_spec.proofs.OrderLaws.{order-below}
use Rattle.wakes.specs.Marks.{is_marked, marked_below}
use Rattle.book_model.specs.Sealed.{the_book}
use Rattle.book_model.specs.Told.{flagged, TellsBelow}
use Rattle.book_model.specs.declared.draft.Draft.{Draft}
use Rattle.book_model.proofs.BookLists.{many-alerts}
use Rattle.warning_display.specs.LeftRows.{in_order}
use Rattle.warning_display.specs.ShownPlaces.{HasPlaces}
use Rattle.warning_display.proofs.Passing.{filter-parts, filter_told}

bit-few : (b : Bool) → from_bool b ≤ 1
bit-few true = omega arith
bit-few false = omega arith

pub few-below : (set : List ℕ) (n : ℕ) → marked_below set n ≤ n
unfolding marked_below
few-below set zero = omega arith
few-below set (suc n) = omega (arith, few-below set n, bit-few (is_marked set n))

module _ (order : List ℕ) (shown : List Bool) (set : List ℕ) (places : HasPlaces order shown set) where
  abbrev before : ℕ → List ℕ
  before n = filter (flagged shown) (take n order)

  -- one place more
  more : (r : ℕ) → r < length order → before (suc r) ≡ before r ++ cond (is_marked set r) (get_or order r 0 ∷ []) []
  more r lt =
      let one : suc r ≡ r + 1 = omega arith in
      ap before one
      ∙ ap (filter (flagged shown)) (take_more order r 0 lt)
      ∙ filter-append (flagged shown) (take r order) (get_or order r 0 ∷ [])
      ∙ ap (λ b. before r ++ cond b (get_or order r 0 ∷ []) []) (sym (places r lt))

  -- over places that aren't in the set
  pub none-between : (from d : ℕ) → from + d ≤ length order → ((r : ℕ) → from ≤ r → r < from + d → is_marked set r ≡ false) → before (from + d) ≡ before from
  none-between from zero le none = let same : from + 0 ≡ from = omega arith in ap before same
  none-between from (suc d) le none =
      let on : from + suc d ≡ suc (from + d) = omega arith in
      ap before on
      ∙ more (from + d) (omega (arith, le))
      ∙ ap (λ b. before (from + d) ++ cond b (get_or order (from + d) 0 ∷ []) []) (none (from + d) (omega arith) (omega arith))
      ∙ append-nil (before (from + d))
      ∙ none-between from d (omega (arith, le)) (λ r low high. none r low (omega (arith, high)))

  long : (b : Bool) (a : ℕ) → length (cond b (a ∷ []) []) ≡ from_bool b
  long true a = refl
  long false a = refl

  -- the set has as many places as alerts are shown there
  pub counts-before : (n : ℕ) → n ≤ length order → marked_below set n ≡ length (before n)
  unfolding marked_below
  counts-before zero le = refl
  counts-before (suc n) le =
      let member = cond (is_marked set n) (get_or order n 0 ∷ []) [] in
      let sum : marked_below set n + from_bool (is_marked set n) ≡ length (before n ++ member) =
      omega (arith, counts-before n (omega (arith, le)), long (is_marked set n) (get_or order n 0), length-append (before n) member) in
      sum ∙ sym (ap length (more n (omega (arith, le))))

  pub counts-behind : (from count : ℕ) → from ≤ length order → marked_below set from + count ≡ marked_below set (length order) → count ≡ length (filter (flagged shown) (drop from order))
  counts-behind from count le is =
      let all = ap (λ xs. length (filter (flagged shown) xs)) (take_all (length order) order (omega arith)) in
      let parts = ap length (filter-parts (flagged shown) from order) in
      let sum = length-append (before from) (filter (flagged shown) (drop from order)) in
      omega (arith, is, counts-before from le, counts-before (length order) (omega arith), all, parts, sum)

-- flags that tell a test keep the same alerts of the book's order
pub order-told : (d : Draft) (shown : List Bool) (is_shown : ℕ → Bool) → TellsBelow (length d.alerts.items) shown is_shown
    → in_order (the_book d) (flagged shown) ≡ in_order (the_book d) is_shown
order-told d shown is_shown tells =
    let below = subst (λ n. All (λ a. a < n) (order (the_book d))) (many-alerts d) (order-below (the_book d)) in
    filter_told (length d.alerts.items) (flagged shown) is_shown tells (order (the_book d)) below
