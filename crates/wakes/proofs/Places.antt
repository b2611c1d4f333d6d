-- Numbers are put into rows and taken out of them.
use Rattle.std.proofs.Common.{◌≡◌, ◌≢◌, ℕ, zero, suc, max, Global, refl, replicate, ◌+◌, ◌-◌, ◌*◌, ◌/◌, ◌%◌, ◌^◌, ◌<◌, ◌≤◌, Bool, true, false, not, ◌&&◌, ◌||◌, ◌==◌, List, length, get_or, set, slice_index, bit_or, bit_and, sym, ap, ◌∙◌, inl, inr, arith}
use lib.Pow.{pow_mono}
use Rattle.std.proofs.Math.Nat.{lt-div-mul-add, div-mul-le_self, mul-le-mul_right}
use Rattle.std.proofs.lemmas.Bool.{cases_eq, cases_lt, eq-eqb, ne_eqb, eqb-true, or_cases, or_left, or_right, and_from, and_right, and_parts, true≢false}
use Rattle.std.proofs.lemmas.List.{get_or-set_same, get_or-set_other, get_or_default, with_items_is}
use Rattle.std.proofs.lemmas.Nat.{pow-add, pow_pos, div_below, le-div}
use Rattle.std.proofs.lemmas.Nat.Bits.{bit_at_set_same, bit_at_set_other, bit_at_clear_same, bit_at_clear_other, bit_at-zero, bit_at_and, bit_at-lt}
use Rattle.std.specs.Box.{boxed_slice_items, boxed_slice_with_items}
use Rattle.std.specs.declared.boxed.BoxedSlice.{BoxedSlice}
use Rattle.std.specs.Int.{w64, bit_at}
use Rattle.wakes.specs.Turning.{IsGrouped, AreRows, IsRows, waits_at, waits_in, is_busy}
use Rattle.wakes.specs.declared.rows.Rows.{Rows}

-- whether a bit of some words is set
abbrev pub has-bit : List ℕ → ℕ → ℕ → Bool
has-bit words w b = bit_at (slice_index words w) b == 1

-- two numbers are two others
which : (r m i item : ℕ) → (r == m && i == item) ≡ true → (r ≡ m) × (i ≡ item)
which r m i item on = (eqb-true r m (and_parts (r == m) (i == item) on).0, eqb-true i item (and_parts (r == m) (i == item) on).1)

both : (r m i item : ℕ) → r ≡ m → i ≡ item → (r == m && i == item) ≡ true
both r m i item e f = and_from (r == m) (i == item) (eq-eqb r m e) (eq-eqb i item f)

-- a word becomes another
module _ (words new : List ℕ) (w v x : ℕ) (within : w < length words) (here : v ≡ get_or words w v) (is : new ≡ set words w x) where
  own : (r g : ℕ) → r ≡ w → has-bit new r g ≡ (bit_at x g == 1)
  own r g e = ap (λ n. has-bit new n g) e ∙ ap (λ ws. bit_at (get_or ws w 0) g == 1) is ∙ ap (λ n. bit_at n g == 1) (get_or-set_same words w x 0 within)

  was : (r g : ℕ) → r ≡ w → (bit_at v g == 1) ≡ has-bit words r g
  was r g e = ap (λ n. bit_at n g == 1) (here ∙ sym (get_or_default words w 0 v within)) ∙ ap (λ n. has-bit words n g) (sym e)

  other : (r g : ℕ) → (r ≡ w → ⊥) → has-bit new r g ≡ has-bit words r g
  other r g ne = ap (λ ws. bit_at (get_or ws r 0) g == 1) is ∙ ap (λ n. bit_at n g == 1) (get_or-set_other words w r x 0 ne)

-- a bit is set or cleared
module _ (words new : List ℕ) (w b v : ℕ) (within : w < length words) (low : b < 64) (here : v ≡ get_or words w v) where
  pub bit-set : new ≡ set words w (bit_or v (1 * 2 ^ b % 2 ^ 64)) → (r g : ℕ) → has-bit new r g ≡ ((r == w && g == b) || has-bit words r g)
  bit-set is r g = elim (cases_eq r w) [
    | inl e ↦
        elim (cases_eq g b) [
          | inl f ↦
              own words new w v _ within here is r g e ∙ ap (λ n. bit_at (bit_or v (1 * 2 ^ b % 2 ^ 64)) n == 1) f ∙ ap (λ n. n == 1) (bit_at_set_same w64 v b low)
              ∙ sym (or_left (r == w && g == b) (has-bit words r g) (both r w g b e f))
          | inr ne ↦
              own words new w v _ within here is r g e ∙ ap (λ n. n == 1) (bit_at_set_other w64 v b low g ne) ∙ was words new w v _ within here is r g e
              ∙ sym (ap (λ c. c || has-bit words r g) (and_right (r == w) (g == b) (ne_eqb g b ne)))
        ]
    | inr ne ↦ other words new w v _ within here is r g ne ∙ sym (ap (λ c. (c && g == b) || has-bit words r g) (ne_eqb r w ne))
  ]

  pub bit-cleared : new ≡ set words w (bit_and v (18446744073709551615 - 1 * 2 ^ b % 2 ^ 64)) → (r g : ℕ) → g < 64 → has-bit new r g ≡ (not (r == w && g == b) && has-bit words r g)
  bit-cleared is r g small = elim (cases_eq r w) [
    | inl e ↦
        elim (cases_eq g b) [
          | inl f ↦
              own words new w v _ within here is r g e ∙ ap (λ n. bit_at (bit_and v (18446744073709551615 - 1 * 2 ^ b % 2 ^ 64)) n == 1) f ∙ ap (λ n. n == 1) (bit_at_clear_same w64 v b low)
              ∙ sym (ap (λ c. not c && has-bit words r g) (both r w g b e f))
          | inr ne ↦
              own words new w v _ within here is r g e ∙ ap (λ n. n == 1) (bit_at_clear_other w64 v b low g small ne) ∙ was words new w v _ within here is r g e
              ∙ sym (ap (λ c. not c && has-bit words r g) (and_right (r == w) (g == b) (ne_eqb g b ne)))
        ]
    | inr ne ↦ other words new w v _ within here is r g ne ∙ sym (ap (λ c. not (c && g == b) && has-bit words r g) (ne_eqb r w ne))
  ]

-- a bit is that of one number in one row
not-both : (w v b c : ℕ) → (w ≡ v → b ≡ c → ⊥) → (w == v && b == c) ≡ false
not-both w v b c apart = elim (cases_eq b c) [
  | inl bits ↦ ap (λ t. t && b == c) (ne_eqb w v (λ words. apart words bits))
  | inr ne ↦ and_right (w == v) (b == c) (ne_eqb b c ne)
]

pub one-place : (r s i j : ℕ) → r < 64 → s < 64 → (i / 64 * 64 + r == j / 64 * 64 + s && i % 64 == j % 64) ≡ (r == s && i == j)
one-place r s i j low low' = elim (cases_eq r s) [
  | inl e ↦
      elim (cases_eq i j) [
        | inl f ↦
            both (i / 64 * 64 + r) (j / 64 * 64 + s) (i % 64) (j % 64) (omega (arith, e, f)) (ap (λ n. n % 64) f) ∙ sym (both r s i j e f)
        | inr ne ↦ not-both (i / 64 * 64 + r) (j / 64 * 64 + s) (i % 64) (j % 64) (λ words bits. ne (omega (arith, e, low, words, bits))) ∙ sym (and_right (r == s) (i == j) (ne_eqb i j ne))
      ]
  | inr ne ↦ not-both (i / 64 * 64 + r) (j / 64 * 64 + s) (i % 64) (j % 64) (λ words bits. ne (omega (arith, low, low', words, bits))) ∙ sym (ap (λ c. c && i == j) (ne_eqb r s ne))
]

-- a group is of whole words
whole : (shift : ℕ) → 6 ≤ shift → 2 ^ shift ≡ 64 * 2 ^ (shift - 6)
whole shift le =
    let parts : 6 + (shift - 6) ≡ shift = omega (arith, le) in
    ap (λ n. 2 ^ n) (sym parts) ∙ pow-add 2 6 (shift - 6)

pub whole-groups : (shift n : ℕ) → 6 ≤ shift → n * 2 ^ shift % 64 ≡ 0
whole-groups shift n le =
    let words : n * 2 ^ shift ≡ 64 * (n * 2 ^ (shift - 6)) = ap (λ k. n * k) (whole shift le) ∙ omega arith in
    omega (arith, words)

module _ (count shift : ℕ) (few : count ≤ 2 ^ 32) (is : IsGrouped count shift) where
  small-size : 2 ^ shift ≤ 2 ^ 32
  small-size = elim (cases_eq shift 6) [
    | inl least ↦ omega (arith, ap (λ n. 2 ^ n) least)
    | inr more ↦ omega (arith, few, is.fewest more)
  ]

  pub shift-below : shift < 64
  shift-below = elim (cases_lt shift 64) [
    | inl lt ↦ lt
    | inr le ↦ absurd (let large : 2 ^ 64 ≤ 2 ^ shift = pow_mono le in let w : ⊥ = omega (arith, large, small-size) in w)
  ]

  -- where a group ends, there are few numbers
  pub end-below : (g : ℕ) → g ≤ count / 2 ^ shift → g * 2 ^ shift + 2 ^ shift < 2 ^ 64
  end-below g le =
      let w : g * 2 ^ shift ≤ count / 2 ^ shift * 2 ^ shift = mul-le-mul_right (2 ^ shift) le in
      omega (arith, w, small-size, few, div-mul-le_self count (2 ^ shift))

-- the size of the groups is that of the highest bit
pub grouped-by : (count more k : ℕ) → more ≡ max count 2048 → 2 ^ k ≤ more → more < 2 * 2 ^ k → IsGrouped count (k - 5)
grouped-by count more k is low high =
    let least : 11 ≤ k = elim (cases_lt k 11) [
      | inl lt ↦ absurd (let below : k ≤ 10 = omega (arith, lt) in let small : 2 ^ k ≤ 2 ^ 10 = pow_mono below in let w : ⊥ = omega (arith, small, is, high) in w)
      | inr le ↦ le
    ] in
    let parts : 5 + (k - 5) ≡ k = omega (arith, least) in
    let size : 2 ^ k ≡ 32 * 2 ^ (k - 5) = ap (λ n. 2 ^ n) (sym parts) ∙ pow-add 2 5 (k - 5) in
    record {
      whole = omega (arith, least);
      few = omega (arith, size, is, high);
      fewest = λ more-than.
          let above : 12 ≤ k = omega (arith, least, more-than) in
          let large : 2 ^ 12 ≤ 2 ^ k = pow_mono above in
          omega (arith, size, is, low, large);
    }

-- and is one alone
one-less : (count a b : ℕ) → IsGrouped count a → IsGrouped count b → a < b → ⊥
one-less count a b is other lt =
    let above : a + 1 ≤ b = omega (arith, lt) in
    let twice : 2 ^ (a + 1) ≤ 2 ^ b = pow_mono above in
    omega (arith, twice, pow-add 2 a 1, is.few, other.fewest (omega (arith, lt, is.whole)))

pub one-shift : (count a b : ℕ) → IsGrouped count a → IsGrouped count b → a ≡ b
one-shift count a b is other = elim (cases_eq a b) [
  | inl e ↦ e
  | inr ne ↦
      elim (cases_lt a b) [
        | inl lt ↦ absurd (one-less count a b is other lt)
        | inr le ↦ absurd (one-less count b a other is (omega (arith, ne, le)))
      ]
]

-- rows in which none waits
pub empty-rows : (words busy : List ℕ) (count shift : ℕ) → count ≤ 2 ^ 32 → IsGrouped count shift → length words ≡ (count / 2 ^ shift + 1) * 2 ^ shift
    → (n : ℕ) → words ≡ replicate n 0 → (m : ℕ) → busy ≡ replicate m 0 → AreRows words busy count shift
empty-rows words busy count shift few grouped room n none m quiet = record {
  few = few;
  grouped = grouped;
  room = room;
  within = λ r i low lt on. absurd (empty words n none (i / 64 * 64 + r) (i % 64) on);
  busy = λ r i low lt on. absurd (empty words n none (i / 64 * 64 + r) (i % 64) on);
  groups = λ r g low on. absurd (empty busy m quiet r g on);
}
  where
    read : (n i : ℕ) → slice_index (replicate n 0) i ≡ 0
    read zero i = refl
    read (suc n) zero = refl
    read (suc n) (suc i) = read n i

    empty : (ws : List ℕ) (n : ℕ) → ws ≡ replicate n 0 → (w b : ℕ) → has-bit ws w b ≡ true → ⊥
    empty ws n is w b on =
        let bit : has-bit ws w b ≡ false = ap (λ l. bit_at (slice_index l w) b == 1) is ∙ ap (λ x. bit_at x b == 1) (read n w) ∙ ap (λ x. x == 1) (bit_at-zero b) in
        true≢false (sym on ∙ bit)

-- a list in a box is written over whole
pub written-over : (x : BoxedSlice ℕ Global) (ws : List ℕ) → length ws ≡ length (boxed_slice_items x) → boxed_slice_items (boxed_slice_with_items x ws) ≡ ws
written-over x ws long = with_items_is x.items ws (long ∙ sym x.items.ok.0)

module _ (old : Rows) (is : IsRows old) where
  some : 0 < 2 ^ old.shift
  some = pow_pos old.shift

  pub small-shift : old.shift < 64
  small-shift = shift-below old.count old.shift is.few is.grouped

  pub small-end : (g : ℕ) → g ≤ old.count / 2 ^ old.shift → g * 2 ^ old.shift + 2 ^ old.shift < 2 ^ 64
  small-end = end-below old.count old.shift is.few is.grouped

  -- each number has room
  pub fits : old.count < length (boxed_slice_items old.words)
  fits = omega (arith, is.room, lt-div-mul-add {a = old.count} {b = 2 ^ old.shift} some)

  pub place-within : (r i : ℕ) → r < 64 → i < length (boxed_slice_items old.words) → i / 64 * 64 + r < length (boxed_slice_items old.words)
  place-within r i low lt =
      let words : length (boxed_slice_items old.words) % 64 ≡ 0 = ap (λ n. n % 64) is.room ∙ whole-groups old.shift (old.count / 2 ^ old.shift + 1) is.grouped.whole in
      omega (arith, low, lt, words)

  -- and a group of its row
  pub in-group : (i : ℕ) → i ≤ old.count → i / 2 ^ old.shift ≤ old.count / 2 ^ old.shift
  in-group i le = le-div (i / 2 ^ old.shift) old.count (2 ^ old.shift) some (omega (arith, le, div-mul-le_self i (2 ^ old.shift)))

  pub few-groups : old.count / 2 ^ old.shift < 64
  few-groups = div_below old.count (2 ^ old.shift) 64 some is.grouped.few

  pub place-inside : (m item place : ℕ) → item ≤ old.count → place ≡ item / 64 * 64 + m % 64 → place < length (boxed_slice_items old.words)
  place-inside m item place within at = omega (arith, at, place-within (m % 64) item (omega arith) (omega (arith, within, fits)))

  -- one number more waits, or less
  module _ (new : List ℕ) (m item place v : ℕ) (within : item < old.count) (at : place ≡ item / 64 * 64 + m % 64) (here : v ≡ get_or (boxed_slice_items old.words) place v) where
    pub put-waits : new ≡ set (boxed_slice_items old.words) place (bit_or v (1 * 2 ^ (item % 64) % 2 ^ 64))
        → (r i : ℕ) → r < 64 → waits_at new r i ≡ ((r == m % 64 && i == item) || waits_in old r i)
    put-waits is r i low =
        bit-set (boxed_slice_items old.words) new place (item % 64) v (place-inside m item place (omega (arith, within)) at) (omega arith) here is (i / 64 * 64 + r) (i % 64)
        ∙ ap (λ w. (i / 64 * 64 + r == w && i % 64 == item % 64) || waits_in old r i) at ∙ ap (λ b. b || waits_in old r i) (one-place r (m % 64) i item low (omega arith))

    pub take-waits : new ≡ set (boxed_slice_items old.words) place (bit_and v (18446744073709551615 - 1 * 2 ^ (item % 64) % 2 ^ 64))
        → (r i : ℕ) → r < 64 → waits_at new r i ≡ (not (r == m % 64 && i == item) && waits_in old r i)
    take-waits is r i low =
        bit-cleared (boxed_slice_items old.words) new place (item % 64) v (place-inside m item place (omega (arith, within)) at) (omega arith) here is (i / 64 * 64 + r) (i % 64) (omega arith)
        ∙ ap (λ w. not (i / 64 * 64 + r == w && i % 64 == item % 64) && waits_in old r i) at ∙ ap (λ b. not b && waits_in old r i) (one-place r (m % 64) i item low (omega arith))

  -- rows in which one number more waits
  module _ (new busy' : List ℕ) (m item : ℕ) (within : item < old.count)
      (waits : (r i : ℕ) → r < 64 → waits_at new r i ≡ ((r == m % 64 && i == item) || waits_in old r i))
      (busy : (r g : ℕ) → is_busy busy' r g ≡ ((r == m % 64 && g == item / 2 ^ old.shift) || is_busy old.busy r g)) where
    pub put-within : (r i : ℕ) → r < 64 → i < length (boxed_slice_items old.words) → waits_at new r i ≡ true → i < old.count
    put-within r i low lt on = elim (or_cases (r == m % 64 && i == item) (waits_in old r i) (sym (waits r i low) ∙ on)) [
      | inl at ↦ omega (arith, within, (which r (m % 64) i item at).1)
      | inr before ↦ is.within r i low lt before
    ]

    pub put-busy : (r i : ℕ) → r < 64 → i < old.count → waits_at new r i ≡ true → is_busy busy' r (i / 2 ^ old.shift) ≡ true
    put-busy r i low lt on =
        busy r (i / 2 ^ old.shift)
        ∙ elim (or_cases (r == m % 64 && i == item) (waits_in old r i) (sym (waits r i low) ∙ on)) [
          | inl at ↦
              let is-one = which r (m % 64) i item at in
              or_left (r == m % 64 && i / 2 ^ old.shift == item / 2 ^ old.shift) (is_busy old.busy r (i / 2 ^ old.shift))
              (both r (m % 64) (i / 2 ^ old.shift) (item / 2 ^ old.shift) is-one.0 (ap (λ n. n / 2 ^ old.shift) is-one.1))
          | inr before ↦ or_right (r == m % 64 && i / 2 ^ old.shift == item / 2 ^ old.shift) (is_busy old.busy r (i / 2 ^ old.shift)) (is.busy r i low lt before)
        ]

    pub put-groups : (r g : ℕ) → r < 64 → is_busy busy' r g ≡ true → g ≤ old.count / 2 ^ old.shift
    put-groups r g low on = elim (or_cases (r == m % 64 && g == item / 2 ^ old.shift) (is_busy old.busy r g) (sym (busy r g) ∙ on)) [
      | inl at ↦ omega (arith, (which r (m % 64) g (item / 2 ^ old.shift) at).1, in-group item (omega (arith, within)))
      | inr before ↦ is.groups r g low before
    ]

  -- rows in which groups of one row may be busy no more
  module _ (busy' : List ℕ) (s v mask : ℕ) (row : s < length old.busy) (here : v ≡ get_or old.busy s v) (new : busy' ≡ set old.busy s (bit_and v mask)) where
    pub was-busy : (r g : ℕ) → is_busy busy' r g ≡ true → is_busy old.busy r g ≡ true
    was-busy r g on = elim (cases_eq r s) [
      | inl e ↦
          let bit : bit_at (bit_and v mask) g ≡ 1 = eqb-true _ 1 (sym (own old.busy busy' s v _ row here new r g e) ∙ on) in
          let old-bit : bit_at v g ≡ 1 = omega (arith, bit, bit_at_and v mask g, bit_at-lt v g) in
          sym (was old.busy busy' s v _ row here new r g e) ∙ ap (λ n. n == 1) old-bit
      | inr ne ↦ sym (other old.busy busy' s v _ row here new r g ne) ∙ on
    ]

    still : (r g : ℕ) → bit_at mask g ≡ 1 → is_busy busy' r g ≡ is_busy old.busy r g
    still r g kept = elim (cases_eq r s) [
      | inl e ↦
          let same : bit_at (bit_and v mask) g ≡ bit_at v g = omega (arith, kept, bit_at_and v mask g, bit_at-lt v g) in
          own old.busy busy' s v _ row here new r g e ∙ ap (λ n. n == 1) same ∙ was old.busy busy' s v _ row here new r g e
      | inr ne ↦ other old.busy busy' s v _ row here new r g ne
    ]

    pub still-busy : ((g : ℕ) → g < 64 → bit_at mask g ≡ 1) → (r i : ℕ) → r < 64 → i < old.count → waits_in old r i ≡ true → is_busy busy' r (i / 2 ^ old.shift) ≡ true
    still-busy kept r i low lt on = still r (i / 2 ^ old.shift) (kept (i / 2 ^ old.shift) (omega (arith, in-group i (omega (arith, lt)), few-groups))) ∙ is.busy r i low lt on

  -- rows in which a group is busy no more
  module _ (busy' : List ℕ) (s group v : ℕ) (row : s < length old.busy) (few : group < 64) (here : v ≡ get_or old.busy s v)
      (new : busy' ≡ set old.busy s (bit_and v (18446744073709551615 - 1 * 2 ^ group % 2 ^ 64))) where
    pub rest-busy : ((i : ℕ) → i < old.count → i / 2 ^ old.shift ≡ group → waits_in old s i ≡ false)
        → (r i : ℕ) → r < 64 → i < old.count → waits_in old r i ≡ true → is_busy busy' r (i / 2 ^ old.shift) ≡ true
    rest-busy none r i low lt on =
        bit-cleared old.busy busy' s group v row few here new r (i / 2 ^ old.shift) (omega (arith, in-group i (omega (arith, lt)), few-groups))
        ∙ ap (λ b. not b && is_busy old.busy r (i / 2 ^ old.shift)) (not-both r s (i / 2 ^ old.shift) group (λ e f. true≢false (sym on ∙ ap (λ n. waits_in old n i) e ∙ none i lt f)))
        ∙ is.busy r i low lt on

    pub other-busy : (g : ℕ) → is_busy busy' s g ≡ true → g ≢ group
    other-busy g on e =
        let bit : is_busy busy' s group ≡ false =
        own old.busy busy' s v _ row here new s group refl ∙ ap (λ n. n == 1) (bit_at_clear_same w64 v group few) in
        true≢false (sym on ∙ ap (is_busy busy' s) e ∙ bit)
