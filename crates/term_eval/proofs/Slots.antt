-- What is written into a slot, as it stands in the lists that the slots are seen as.
use Rattle.std.proofs.Common.{◌≡◌, ◌≢◌, ℕ, zero, suc, ◌<◌, ◌≤◌, List, [], ◌∷◌, Some, length, refl, ◌∙◌, ap, arith}
use Rattle.std.specs.Prelude.{slice_set, slice_index, slice_index_or}
use Rattle.std.specs.List.{slice_get}
use Rattle.std.proofs.lemmas.List.{length-map, map-set, get_or-map, get_or-set_other}
use Rattle.std.proofs.lemmas.Grind.{get_or-set_at}
use Rattle.term_eval.specs.declared.slot.Slot.{Slot}
use Rattle.term_eval.specs.declared.memory.Cell.{Cell}
use Rattle.term_eval.specs.declared.memory.Cell.TheVariants.{Off}
use Rattle.term_eval.specs.CellWords.{cell_at}
use Rattle.term_eval.specs.Slots.{wakes_of, cells_of, owners_of, owner_at, empty}

-- another slot is another of each list
pub wake-set : (slots : List Slot) (i : ℕ) (s : Slot) → wakes_of (slice_set slots i s) ≡ slice_set (wakes_of slots) i s.wake
wake-set = map-set (λ s. s.wake)

pub cell-set : (slots : List Slot) (i : ℕ) (s : Slot) → cells_of (slice_set slots i s) ≡ slice_set (cells_of slots) i s.cell
cell-set = map-set (λ s. s.cell)

pub owner-set : (slots : List Slot) (i : ℕ) (s : Slot) → owners_of (slice_set slots i s) ≡ slice_set (owners_of slots) i s.owner
owner-set = map-set (λ s. s.owner)

-- where another item is written, and where it is not
pub get-same : {X : Type 0} (xs : List X) (i : ℕ) (x : X) → i < length xs → slice_get (slice_set xs i x) i ≡ Some x
get-same [] i x within = absurd (omega (arith, within))
get-same (y ∷ ys) zero x within = refl
get-same (y ∷ ys) (suc i) x within = get-same ys i x (omega (arith, within))

pub get-other : {X : Type 0} (xs : List X) (i j : ℕ) (x : X) → j ≢ i → slice_get (slice_set xs i x) j ≡ slice_get xs j
get-other [] i j x other = refl
get-other (y ∷ ys) zero zero x other = absurd (other refl)
get-other (y ∷ ys) zero (suc j) x other = refl
get-other (y ∷ ys) (suc i) zero x other = refl
get-other (y ∷ ys) (suc i) (suc j) x other = get-other ys i j x (λ e. other (ap suc e))

-- the node of a slot that is written, and of another
pub owner-same : (slots : List Slot) (i j : ℕ) (s : Slot) → j ≡ i → i < length slots → slice_get (owners_of (slice_set slots i s)) j ≡ Some s.owner
owner-same slots i j s is within =
    ap (slice_get (owners_of (slice_set slots i s))) is
    ∙ ap (λ l. slice_get l i) (owner-set slots i s)
    ∙ get-same (owners_of slots) i s.owner (let e = length-map slots (λ (s : Slot). s.owner) in omega (arith, e, within))

pub owner-other : (slots : List Slot) (i j : ℕ) (s : Slot) → j ≢ i → slice_get (owners_of (slice_set slots i s)) j ≡ slice_get (owners_of slots) j
owner-other slots i j s other = ap (λ l. slice_get l j) (owner-set slots i s) ∙ get-other (owners_of slots) i j s.owner other

-- the cell of a slot that is written, and of another
pub cell-same : (slots : List Slot) (i j : ℕ) (s : Slot) → j ≡ i → i < length slots → cell_at (cells_of (slice_set slots i s)) j ≡ s.cell
cell-same slots i j s is within =
    ap (λ l. cell_at l j) (cell-set slots i s)
    ∙ get_or-set_at (cells_of slots) i j s.cell Off is (let e = length-map slots (λ (s : Slot). s.cell) in omega (arith, e, within))

pub cell-other : (slots : List Slot) (i j : ℕ) (s : Slot) → j ≢ i → cell_at (cells_of (slice_set slots i s)) j ≡ cell_at (cells_of slots) j
cell-other slots i j s other = ap (λ l. cell_at l j) (cell-set slots i s) ∙ get_or-set_other (cells_of slots) i j s.cell Off other

-- behind the last of them all is off
pub cell-past : (slots : List Slot) (i : ℕ) → length slots ≤ i → cell_at (cells_of slots) i ≡ Off
cell-past [] i past = refl
cell-past (s ∷ slots) zero past = absurd (omega (arith, past))
cell-past (s ∷ slots) (suc i) past = cell-past slots i (omega (arith, past))

-- what a slot says is what its lists say
pub wake-at : (slots : List Slot) (i : ℕ) → i < length slots → slice_index (wakes_of slots) i ≡ (slice_index_or slots i empty).wake
wake-at slots i within =
    get_or-map (λ (s : Slot). s.wake) slots i empty 0 within

pub cell-at : (slots : List Slot) (i : ℕ) → i < length slots → cell_at (cells_of slots) i ≡ (slice_index_or slots i empty).cell
cell-at slots i within = get_or-map (λ (s : Slot). s.cell) slots i empty Off within

pub owner-at : (slots : List Slot) (i : ℕ) → i < length slots → owner_at (owners_of slots) i ≡ (slice_index_or slots i empty).owner
owner-at slots i within = get_or-map (λ (s : Slot). s.owner) slots i empty empty.owner within
