-- A row is gone through by its groups.
use Rattle.std.proofs.Common.{◌≡◌, ℕ, ◌+◌, ◌-◌, ◌*◌, ◌/◌, ◌%◌, ◌^◌, ◌<◌, ◌≤◌, true, false, ◌==◌, length, slice_index, refl, sym, ap, ◌∙◌, inl, inr, suc-ne-zero, arith}
use Rattle.std.proofs.Math.Nat.{mul-le-mul_right, lt-div-mul-add}
use Rattle.std.proofs.lemmas.Bool.{cases_eq, cases_lt, false_from_ne_true, true≢false, eqb-true}
use Rattle.std.proofs.lemmas.Nat.{pow_pos, div_below, le-div, shr-shr}
use Rattle.std.proofs.lemmas.Nat.Bits.{bit_at-zero, bit_at-trailing_zeros}
use Rattle.std.specs.Box.{boxed_slice_items}
use Rattle.std.specs.Int.{w64, bit_at, trailing_zeros}
use Rattle.wakes.specs.Marks.{is_marked, IsNext}
use Rattle.wakes.specs.Turning.{IsRows, waits_in}
use Rattle.wakes.proofs.Bits.{none-here, lowest-next, fits as word-fits}
use Rattle.wakes.proofs.Places.{whole-groups, small-end, fits, place-within}
use Rattle.wakes.specs.declared.rows.Rows.{Rows}

-- the bits behind one
pub behind : (busy group later g : ℕ) → later ≡ busy / 2 ^ group / 2 ^ 1 → group < g → bit_at busy g ≡ bit_at later (g - (group + 1))
behind busy group later g is lt =
    let at : group + (1 + (g - (group + 1))) ≡ g = omega (arith, lt) in
    ap (bit_at busy) (sym at) ∙ ap (λ x. x % 2) (sym (shr-shr busy group (1 + (g - (group + 1))))) ∙ ap (λ x. x % 2) (sym (shr-shr (busy / 2 ^ group) 1 (g - (group + 1))))
    ∙ ap (λ x. bit_at x (g - (group + 1))) (sym is)

module _ (rows : Rows) (is : IsRows rows) where
  -- a group's numbers end with a word
  pub group-end : (g : ℕ) → g ≤ rows.count / 2 ^ rows.shift → (g + 1) * 2 ^ rows.shift % 2 ^ 64 ≡ (g + 1) * 2 ^ rows.shift
  group-end g le = omega (arith, small-end rows is g le)

  pub group-start : (g : ℕ) → g ≤ rows.count / 2 ^ rows.shift → g * 2 ^ rows.shift % 2 ^ 64 ≡ g * 2 ^ rows.shift
  group-start g le = omega (arith, small-end rows is g le)

  pub word-within : (i : ℕ) → i / 64 * 64 + 64 ≤ (i / 2 ^ rows.shift + 1) * 2 ^ rows.shift
  word-within i = omega (arith, lt-div-mul-add {a = i} {b = 2 ^ rows.shift} (pow_pos rows.shift), whole-groups rows.shift (i / 2 ^ rows.shift + 1) is.grouped.whole)

module _ (rows : Rows) (is : IsRows rows) (r : ℕ) (low : r < 64) where
  -- there is room for a row's groups
  pub room-for : (g : ℕ) → g ≤ rows.count / 2 ^ rows.shift → (g + 1) * 2 ^ rows.shift ≤ length (boxed_slice_items rows.words)
  room-for g le =
      let fits : (g + 1) * 2 ^ rows.shift ≤ (rows.count / 2 ^ rows.shift + 1) * 2 ^ rows.shift = mul-le-mul_right (2 ^ rows.shift) (omega (arith, le)) in
      omega (arith, fits, is.room)

  -- none waits in words that are 0
  pub none-empty : (i : ℕ) → slice_index (boxed_slice_items rows.words) (i / 64 * 64 + r) ≡ 0 → waits_in rows r i ≡ false
  none-empty i zero = ap (λ w. bit_at w (i % 64) == 1) zero ∙ ap (λ n. n == 1) (bit_at-zero (i % 64))

  pub none-scanned : (from start next : ℕ) → ((i : ℕ) → from ≤ i → i < start → waits_in rows r i ≡ false)
      → ((i : ℕ) → start ≤ i → i < next → slice_index (boxed_slice_items rows.words) (i / 64 * 64 + r) ≡ 0) → (i : ℕ) → from ≤ i → i < next → waits_in rows r i ≡ false
  none-scanned from start next before empty i le lt = elim (cases_lt i start) [
    | inl early ↦ before i le early
    | inr late ↦ none-empty i (empty i late lt)
  ]

  -- nor in groups that are not busy
  pub none-quiet : (a b : ℕ) → ((g : ℕ) → a ≤ g → g < b → bit_at (slice_index rows.busy r) g ≡ 0)
      → (i : ℕ) → a * 2 ^ rows.shift ≤ i → i < b * 2 ^ rows.shift → i < length (boxed_slice_items rows.words) → waits_in rows r i ≡ false
  none-quiet a b quiet i le lt within = false_from_ne_true _ (λ on.
      let size = 2 ^ rows.shift in
      let none = quiet (i / size) (le-div a i size (pow_pos rows.shift) le) (div_below i size b (pow_pos rows.shift) lt) in
      let busy : bit_at (slice_index rows.busy r) (i / size) ≡ 1 = eqb-true _ _ (is.busy r i low (is.within r i low within on) on) in
      suc-ne-zero 0 (sym busy ∙ none))

  pub none-behind : (from g b : ℕ) → ((i : ℕ) → from ≤ i → i < (g + 1) * 2 ^ rows.shift → waits_in rows r i ≡ false)
      → ((h : ℕ) → g < h → h < b → bit_at (slice_index rows.busy r) h ≡ 0)
      → (i : ℕ) → from ≤ i → i < b * 2 ^ rows.shift → i < length (boxed_slice_items rows.words) → waits_in rows r i ≡ false
  none-behind from g b before quiet i le lt within = elim (cases_lt i ((g + 1) * 2 ^ rows.shift)) [
    | inl early ↦ before i le early
    | inr late ↦ none-quiet (g + 1) b (λ h more. quiet h (omega (arith, more))) i late lt within
  ]

  -- the lowest bit of a word is the first number that waits in it
  module _ (start bit : ℕ) (begins : start % 64 ≡ 0) (small : bit < 64) where
    pub found-waits : bit_at (slice_index (boxed_slice_items rows.words) (start + r)) bit ≡ 1 → waits_in rows r (start + bit) ≡ true
    found-waits there =
        let word : (start + bit) / 64 * 64 + r ≡ start + r = omega (arith, begins, small) in
        let place : (start + bit) % 64 ≡ bit = omega (arith, begins, small) in
        ap (λ w. bit_at (slice_index (boxed_slice_items rows.words) w) ((start + bit) % 64) == 1) word
        ∙ ap (λ b. bit_at (slice_index (boxed_slice_items rows.words) (start + r)) b == 1) place ∙ ap (λ n. n == 1) there

    pub found-first : ((b : ℕ) → b < bit → bit_at (slice_index (boxed_slice_items rows.words) (start + r)) b ≡ 0)
        → (i : ℕ) → start ≤ i → i < start + bit → waits_in rows r i ≡ false
    found-first lowest i le lt =
        let word : i / 64 * 64 + r ≡ start + r = omega (arith, begins, small, le, lt) in
        ap (λ w. bit_at (slice_index (boxed_slice_items rows.words) w) (i % 64) == 1) word ∙ ap (λ n. n == 1) (lowest (i % 64) (omega (arith, begins, small, le, lt)))

  -- a word in which none waits is 0
  pub empty-word : (item word : ℕ) → item < rows.count → slice_index (boxed_slice_items rows.words) (item / 64 * 64 + r) ≡ word → word < 2 ^ 64
      → ((i : ℕ) → i < rows.count → i / 64 ≡ item / 64 → waits_in rows r i ≡ false) → word ≡ 0
  empty-word item word lt here below none = elim (cases_eq word 0) [
    | inl zero ↦ zero
    | inr some ↦
        let bit = trailing_zeros w64 word in
        let lowest = bit_at-trailing_zeros w64 word (omega (arith, some)) below in
        let on = found-waits (item / 64 * 64) bit (omega arith) lowest.0 (ap (λ w. bit_at w bit) here ∙ lowest.1) in
        let room : item / 64 * 64 + 64 ≤ length (boxed_slice_items rows.words) = omega (arith, place-within rows is 63 item (omega arith) (omega (arith, lt, fits rows is))) in
        let inside = is.within r (item / 64 * 64 + bit) low (omega (arith, room, lowest.0)) on in
        absurd (true≢false (sym on ∙ none (item / 64 * 64 + bit) inside (omega (arith, lowest.0))))
  ]

  -- the bits of a number's word from the number on
  module _ (from v rest : ℕ) (le : from ≤ rows.count) (here : slice_index (boxed_slice_items rows.words) (from / 64 * 64 + r) ≡ v) (is-rest : rest ≡ v / 2 ^ (from % 64)) where
    at : (i : ℕ) → i / 64 ≡ from / 64 → waits_in rows r i ≡ is_marked (boxed_slice_items rows.words) (64 * (from / 64 * 64 + r) + i % 64)
    at i same =
        let word : i / 64 * 64 + r ≡ (64 * (from / 64 * 64 + r) + i % 64) / 64 = omega (arith, same) in
        let bit : i % 64 ≡ (64 * (from / 64 * 64 + r) + i % 64) % 64 = omega arith in
        ap (λ w. bit_at (slice_index (boxed_slice_items rows.words) w) (i % 64) == 1) word
        ∙ ap (λ b. bit_at (slice_index (boxed_slice_items rows.words) ((64 * (from / 64 * 64 + r) + i % 64) / 64)) b == 1) bit

    pub rest-none : rest ≡ 0 → (i : ℕ) → from ≤ i → i < from / 64 * 64 + 64 → waits_in rows r i ≡ false
    rest-none zero i behind lt =
        at i (omega (arith, behind, lt))
        ∙ none-here (boxed_slice_items rows.words) (64 * (from / 64 * 64 + r) + from % 64) (from / 64 * 64 + r) (from % 64) v refl here (sym is-rest ∙ zero)
        (64 * (from / 64 * 64 + r) + i % 64) (omega (arith, behind, lt)) (omega arith)

    module _ (bit : ℕ) (small : v < 2 ^ 64) (there : bit_at rest bit ≡ 1) (lowest : (i : ℕ) → i < bit → bit_at rest i ≡ 0) where
      inside : from / 64 * 64 + r < length (boxed_slice_items rows.words)
      inside = place-within rows is r from low (omega (arith, le, fits rows is))

      there-too : bit_at (v / 2 ^ (from % 64)) bit ≡ 1
      there-too = ap (λ x. bit_at x bit) (sym is-rest) ∙ there

      lowest-too : (i : ℕ) → i < bit → bit_at (v / 2 ^ (from % 64)) i ≡ 0
      lowest-too i lt = ap (λ x. bit_at x i) (sym is-rest) ∙ lowest i lt

      next : IsNext (boxed_slice_items rows.words) (64 * (from / 64 * 64 + r) + from % 64) (64 * (from / 64 * 64 + r) + from % 64 + bit)
      next = lowest-next (boxed_slice_items rows.words) (64 * (from / 64 * 64 + r) + from % 64) (from / 64 * 64 + r) (from % 64) v refl here bit inside small there-too lowest-too

      within-word : from % 64 + bit < 64
      within-word = word-fits (boxed_slice_items rows.words) (64 * (from / 64 * 64 + r) + from % 64) (from / 64 * 64 + r) (from % 64) v refl here bit inside small there-too lowest-too

      rest-waits : waits_in rows r (from + bit) ≡ true
      rest-waits =
          let place : 64 * (from / 64 * 64 + r) + (from + bit) % 64 ≡ 64 * (from / 64 * 64 + r) + from % 64 + bit = omega (arith, within-word) in
          at (from + bit) (omega (arith, within-word)) ∙ ap (is_marked (boxed_slice_items rows.words)) place ∙ next.is

      pub rest-end : from + bit < rows.count
      rest-end =
          let room : from / 64 * 64 + 64 ≤ length (boxed_slice_items rows.words) = omega (arith, place-within rows is 63 from (omega arith) (omega (arith, le, fits rows is))) in
          is.within r (from + bit) low (omega (arith, within-word, room)) rest-waits

      pub rest-first : (i : ℕ) → from ≤ i → i < from + bit → waits_in rows r i ≡ false
      rest-first i behind lt =
          at i (omega (arith, within-word, behind, lt)) ∙ next.first (64 * (from / 64 * 64 + r) + i % 64) (omega (arith, within-word, behind, lt)) (omega (arith, within-word, behind, lt))
