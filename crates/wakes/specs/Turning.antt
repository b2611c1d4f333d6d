-- Numbers wait in rows, one for each of 64 moments that come round.
use Rattle.std.specs.Prelude.{◌≡◌, ◌≢◌, ℕ, ◌+◌, ◌-◌, ◌*◌, ◌/◌, ◌%◌, ◌^◌, ◌<◌, ◌≤◌, ◌==◌, min, Bool, true, List, length, slice_index, Option, MatchOption}
use Rattle.std.specs.Box.{boxed_slice_items}
use Rattle.std.specs.Int.{bit_at}
use Rattle.wakes.specs.Due.{never}
use Rattle.wakes.specs.declared.rows.Rows.{Rows}
use Rattle.wakes.specs.declared.wheel.Wheel.{Wheel}

-- number i waits in row r of these words
abbrev pub waits_at : List ℕ → ℕ → ℕ → Bool
waits_at words r i = bit_at (slice_index words (i / 64 * 64 + r)) (i % 64) == 1

abbrev pub waits_in : Rows → ℕ → ℕ → Bool
waits_in rows r i = waits_at (boxed_slice_items rows.words) r i

-- group g of row r is busy
abbrev pub is_busy : List ℕ → ℕ → ℕ → Bool
is_busy busy r g = bit_at (slice_index busy r) g == 1

-- the first group behind one whose bit is set, or there is none
abbrev pub FindsGroup : ℕ → ℕ → Option ℕ → Type 0
FindsGroup busy group found =
    MatchOption found ((g : ℕ) → group < g → bit_at busy g ≡ 0)
    (λ next. (group < next) × (bit_at busy next ≡ 1) × ((g : ℕ) → group < g → g < next → bit_at busy g ≡ 0))

-- a row's numbers are in at most 64 groups of 2 ^ shift, each of whole words, and of the fewest that do
pub record IsGrouped (count shift : ℕ) : Type 0 where
  pub whole : 6 ≤ shift
  pub few : count < 64 * 2 ^ shift
  pub fewest : shift ≢ 6 → 32 * 2 ^ shift ≤ count

-- there is room, and each group in which a number waits is busy
pub record AreRows (words summary : List ℕ) (count shift : ℕ) : Type 0 where
  pub few : count ≤ 2 ^ 32
  pub grouped : IsGrouped count shift
  pub room : length words ≡ (count / 2 ^ shift + 1) * 2 ^ shift
  pub within : (r i : ℕ) → r < 64 → i < length words → waits_at words r i ≡ true → i < count
  pub busy : (r i : ℕ) → r < 64 → i < count → waits_at words r i ≡ true → is_busy summary r (i / 2 ^ shift) ≡ true
  pub groups : (r g : ℕ) → r < 64 → is_busy summary r g ≡ true → g ≤ count / 2 ^ shift

abbrev pub IsRows : Rows → Type 0
IsRows rows = AreRows (boxed_slice_items rows.words) rows.busy rows.count rows.shift

-- when a key is looked at, of the moments from `time` on: when it comes, but within 64 moments
abbrev pub look_at : ℕ → ℕ → ℕ
look_at time key = time + min (key - time) 63

-- from `time` on number i is looked at within 64 moments, and no later than its key comes
abbrev pub WillLook : Rows → ℕ → ℕ → ℕ → Type 0
WillLook rows time i key = (d : ℕ) × (d ≤ min (key - time) 63) × (waits_in rows ((time + d) % 64) i ≡ true)

-- each number with a key will be looked at
pub record AllLook (keys : List ℕ) (waiting : Rows) (time : ℕ) : Type 0 where
  pub count : waiting.count ≡ length keys
  pub rows : IsRows waiting
  pub looks : (i : ℕ) → i < length keys → slice_index keys i ≢ never → WillLook waiting time i (slice_index keys i)

abbrev pub keys_of : Wheel → List ℕ
keys_of wheel = boxed_slice_items wheel.keys

abbrev pub Turns : Wheel → Type 0
Turns wheel = AllLook (keys_of wheel) wheel.rows wheel.time
