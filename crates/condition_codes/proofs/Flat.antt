-- One list more is put behind the others.
use Rattle.std.proofs.Common.{◌≡◌, ℕ, zero, suc, ◌+◌, ◌-◌, ◌<◌, ◌≤◌, List, [], ◌∷◌, ◌++◌, length, take, drop, slice_get, slice_index, slice_index_or, Some, refl, sym, ap, ◌∙◌, inl, inr, arith}
use Rattle.std.proofs.lemmas.Bool.{cases_lt}
use Rattle.std.proofs.lemmas.List.{get_or_append_left, get_or_push, get_or-take, get_or-drop, length-append, length-take, length-drop, take_all, drop_all, take-append-le, drop-append-le}
use Rattle.std.proofs.lemmas.Option.{slice_get_within, slice_get-get_or, get_or_from_slice_get}
use Rattle.condition_codes.specs.Flat.{piece, ArePieces}

-- there is none
pub pieces-none : {X : Type 0} → ArePieces {X = X} 0 (0 ∷ []) []
pieces-none = record {
  count = refl;
  first = refl;
  ends = refl;
  ordered = λ j less. absurd (omega arith);
  within = λ j le. let e : j ≡ 0 = omega arith in omega (arith, ap (slice_index (0 ∷ [])) e);
}

-- what was put behind the items is what stands behind them
pub rest-is : {X : Type 0} (items own : List X) → take (length (items ++ own) - length items) (drop (length items) (items ++ own)) ≡ own
rest-is items own =
    ap (take (length (items ++ own) - length items)) (drop-append-le (length items) items own (omega arith) ∙ ap (λ l. l ++ own) (drop_all (length items) items (omega arith)))
    ∙ take_all (length (items ++ own) - length items) own (omega (arith, length-append items own))

module _ {X : Type 0} (n : ℕ) (starts : List ℕ) (items own : List X) (old : ArePieces n starts items) where
  abbrev starts' : List ℕ
  starts' = starts ++ length (items ++ own) ∷ []

  longer : length (items ++ own) ≡ length items + length own
  longer = length-append items own

  pub start-old : (j : ℕ) → j ≤ n → slice_index starts' j ≡ slice_index starts j
  start-old j le = get_or_append_left starts (length (items ++ own) ∷ []) 0 j (omega (arith, old.count))

  start-last : slice_index starts' n ≡ length items
  start-last = start-old n (omega arith) ∙ old.ends

  pub start-new : slice_index starts' (suc n) ≡ length (items ++ own)
  start-new = get_or_push starts (length (items ++ own)) 0 (suc n) old.count

  -- those before stand where they stood
  pub piece-old : (j : ℕ) → j < n → piece starts' (items ++ own) j ≡ piece starts items j
  piece-old j less =
      let a = slice_index starts j in
      let b = slice_index starts (suc j) in
      let low : a ≤ length items = old.within j (omega arith) in
      let high : b ≤ length items = old.within (suc j) less in
      ap (λ m. take (slice_index starts' (suc j) - m) (drop m (items ++ own))) (start-old j (omega arith))
      ∙ ap (λ m. take (m - a) (drop a (items ++ own))) (start-old (suc j) less)
      ∙ ap (take (b - a)) (drop-append-le a items own low)
      ∙ take-append-le (b - a) (drop a items) own (omega (arith, length-drop a items, high))

  pub piece-new : piece starts' (items ++ own) n ≡ own
  piece-new =
      ap (λ m. take (slice_index starts' (suc n) - m) (drop m (items ++ own))) start-last
      ∙ ap (λ m. take (m - length items) (drop (length items) (items ++ own))) start-new
      ∙ rest-is items own

  pub pieces-next : ArePieces (suc n) starts' (items ++ own)
  pieces-next = record {
    count = omega (arith, length-append starts (length (items ++ own) ∷ []), old.count);
    first = start-old 0 (omega arith) ∙ old.first;
    ends = start-new;
    ordered = λ j less. elim (cases_lt j n) [
      | inl before ↦ omega (arith, start-old j (omega arith), start-old (suc j) before, old.ordered j before)
      | inr after ↦ let e : j ≡ n = omega arith in omega (arith, ap (slice_index starts') e, ap (λ m. slice_index starts' (suc m)) e, start-last, start-new, longer)
    ];
    within = λ j le. elim (cases_lt n j) [
      | inl after ↦ let e : j ≡ suc n = omega arith in omega (arith, ap (slice_index starts') e, start-new)
      | inr before ↦ omega (arith, start-old j before, old.within j before, longer)
    ];
  }

-- a piece is as long as the next one starts behind it
pub piece-long : {X : Type 0} (n : ℕ) (starts : List ℕ) (items : List X) → ArePieces n starts items → (j : ℕ) → j < n
    → length (piece starts items j) ≡ slice_index starts (suc j) - slice_index starts j
piece-long n starts items are j less =
    let a = slice_index starts j in
    let b = slice_index starts (suc j) in
    omega (arith, length-take (b - a) (drop a items), length-drop a items, are.within (suc j) less, are.ordered j less)

-- what a piece has stands among all items
pub piece-get : {X : Type 0} (starts : List ℕ) (items : List X) (j i : ℕ) (x : X) → slice_get (piece starts items j) i ≡ Some x → slice_get items (slice_index starts j + i) ≡ Some x
piece-get starts items j i x is =
    let a = slice_index starts j in
    let b = slice_index starts (suc j) in
    let lt : i < length (piece starts items j) = slice_get_within (piece starts items j) i x is in
    let own : i < b - a = omega (arith, length-take (b - a) (drop a items)) in
    let inside : a + i < length items = omega (arith, length-take (b - a) (drop a items), length-drop a items) in
    slice_get-get_or items (a + i) x inside
    ∙ ap Some (sym (get_or-drop a items i x) ∙ sym (get_or-take (b - a) (drop a items) i x own) ∙ get_or_from_slice_get (piece starts items j) i x x is)

-- and does so before the next piece starts
pub piece-within : {X : Type 0} (starts : List ℕ) (items : List X) (j i : ℕ) (x : X) → slice_get (piece starts items j) i ≡ Some x → slice_index starts j + i < slice_index starts (suc j)
piece-within starts items j i x is =
    let a = slice_index starts j in
    let b = slice_index starts (suc j) in
    omega (arith, slice_get_within (piece starts items j) i x is, length-take (b - a) (drop a items))

-- where the piece goes so far, the same is read in it and among all items
pub piece-at : {X : Type 0} (starts : List ℕ) (items : List X) (j i : ℕ) (d : X) → slice_index starts j + i < slice_index starts (suc j)
    → slice_index_or (piece starts items j) i d ≡ slice_index_or items (slice_index starts j + i) d
piece-at starts items j i d less =
    let a = slice_index starts j in
    let b = slice_index starts (suc j) in
    get_or-take (b - a) (drop a items) i d (omega arith) ∙ get_or-drop a items i d

-- what stands there among all items the piece has
pub piece-has : {X : Type 0} (starts : List ℕ) (items : List X) (j i : ℕ) (x : X) → slice_index starts j + i < slice_index starts (suc j) → slice_get items (slice_index starts j + i) ≡ Some x
    → slice_get (piece starts items j) i ≡ Some x
piece-has starts items j i x less is =
    let a = slice_index starts j in
    let b = slice_index starts (suc j) in
    let inside : a + i < length items = slice_get_within items (a + i) x is in
    let own : i < b - a = omega arith in
    let lt : i < length (piece starts items j) = omega (arith, length-take (b - a) (drop a items), length-drop a items) in
    slice_get-get_or (piece starts items j) i x lt
    ∙ ap Some (piece-at starts items j i x less ∙ get_or_from_slice_get items (a + i) x x is)

-- a place among all items is one in one of n pieces
pub record InPiece (n : ℕ) (starts : List ℕ) (m : ℕ) : Type 0 where
  pub number : ℕ
  pub within : ℕ
  pub low : number < n
  pub is : slice_index starts number + within ≡ m
  pub high : slice_index starts number + within < slice_index starts (suc number)

pub in-piece : (starts : List ℕ) → slice_index starts 0 ≡ 0 → (n m : ℕ) → m < slice_index starts n → InPiece n starts m
in-piece starts first zero m lt = absurd (omega (arith, first))
in-piece starts first (suc n) m lt = elim (cases_lt m (slice_index starts n)) [
  | inl before ↦
      let here = in-piece starts first n m before in
      record { number = here.number; within = here.within; low = omega (arith, here.low); is = here.is; high = here.high }
  | inr after ↦ record { number = n; within = m - slice_index starts n; low = omega arith; is = omega arith; high = omega arith }
]
