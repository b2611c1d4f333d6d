-- What the truths of a book's alerts say of the moments so far.
use Rattle.std.specs.Prelude.{◌≡◌, ◌↔◌, ℕ, suc, ◌<◌, ◌≤◌, ◌+◌, ◌*◌, ◌/◌, ◌^◌, Bool, true, false, not, ◌&&◌, List, length, get_or, slice_index, None, is_some}
use Rattle.ecam_spec.specs.Past.{Signal, previous, running_since, previously}
use Rattle.ecam_spec.specs.Book.{Book}
use Rattle.ecam_spec.specs.Situation.{alert_at}
use Rattle.wakes.specs.Marks.{is_marked, room}
use Rattle.wakes.specs.Due.{never}
use Rattle.alert_truth.specs.Alerts.{present, active, waiting, starred, starred_by, up}
use Rattle.alert_truth.specs.Stars.{StarsFit, StarsStand}
use Rattle.alert_truth.specs.Confirming.{confirmed_at}
use Rattle.alert_truth.specs.declared.truths.Truths.{Truths}

-- the number of the moment can grow: there are 2 ^ 63 moments of 100 ms in 29 thousand million years
abbrev pub CanGoOn : Truths → Type 0
CanGoOn t = t.moments < 2 ^ 63

-- alert a can change without its condition: that held in the moment before, and the alert isn't active
abbrev pub is_restless : Truths → ℕ → Bool
is_restless t a = is_some (get_or t.since.items a None) && not (get_or t.active.items a false)

-- an alert of which something is told is near
pub record AreNear (t : Truths) : Type 0 where
  pub present : (a : ℕ) → get_or t.present.items a false ≡ true → is_marked t.near a ≡ true
  pub active : (a : ℕ) → get_or t.active.items a false ≡ true → is_marked t.near a ≡ true
  pub waiting : (a : ℕ) → get_or t.waiting.items a false ≡ true → is_marked t.near a ≡ true
  pub starred : (a : ℕ) → get_or t.stars.starred.items a false ≡ true → is_marked t.near a ≡ true
  pub up : (a : ℕ) → get_or t.stars.up.items a false ≡ true → is_marked t.near a ≡ true
  pub primaries : (a : ℕ) → is_some (get_or t.stars.primaries.items a None) ≡ true → is_marked t.near a ≡ true

-- the truths were made for the book, and the restless and the near alerts are known
pub record TruthsFit (b : Book) (t : Truths) : Type 0 where
  pub since : length t.since.items ≡ length b.alerts
  pub present : length t.present.items ≡ length b.alerts
  pub active : length t.active.items ≡ length b.alerts
  pub waiting : length t.waiting.items ≡ length b.alerts
  pub near_room : room t.near ≡ 64 * (length b.alerts / 64 + 1)
  pub due_room : room t.due ≡ 64 * (length b.alerts / 64 + 1)
  pub turned_room : room t.turned ≡ 64 * (length b.alerts / 64 + 1)
  pub room : room t.restless ≡ 64 * (length b.alerts / 64 + 1)
  pub dues : length t.dues ≡ length b.alerts
  pub restless : (a : ℕ) → a < length b.alerts → is_marked t.restless a ≡ is_restless t a
  pub near : AreNear t
  pub stars : StarsFit b t.stars

-- alert a is due in the moment in which its confirmation is complete
abbrev pub completes : Book → Truths → ℕ → ℕ
completes b t a = confirmed_at (alert_at b a).confirm (get_or t.since.items a None) (get_or t.present.items a false)

abbrev pub IsKeyed : Book → Truths → ℕ → Type 0
IsKeyed b t a = slice_index t.dues a ≡ completes b t a

-- it is, or was until the moment was gathered in which it is due
pub record WasKeyed (b : Book) (t : Truths) (a : ℕ) : Type 0 where
  pub key : is_marked t.due a ≡ false → IsKeyed b t a
  pub none : completes b t a ≡ never → slice_index t.dues a ≡ never

-- over any truths of the conditions, and any phases
module _ (b : Book) (conditions : ℕ → Signal) (phases : ℕ → ℕ) where
  -- in moment k an alert is as present and as active as in the moment before
  pub record IsStill (k a : ℕ) : Type 0 where
    pub present : present b conditions phases a k ≡ previous (present b conditions phases a) k
    pub active : active b conditions phases a k ≡ previous (active b conditions phases a) k

  -- in moment k all that is told of an alert is as in the moment before; before moment 0 no alert is present
  pub record StaysAt (k a : ℕ) : Type 0 where
    pub present : present b conditions phases a k ≡ previous (present b conditions phases a) k
    pub active : active b conditions phases a k ≡ previous (active b conditions phases a) k
    pub waiting : waiting b conditions phases a k ≡ previous (waiting b conditions phases a) k
    pub starred : starred b conditions phases a k ≡ previous (starred b conditions phases a) k
    pub starred_by : starred_by b conditions phases a k ≡ previously (starred_by b conditions phases a) k
    pub up : up b conditions phases a k ≡ previous (up b conditions phases a) k

  -- in moment k an alert that isn't in the set is as it was, where its condition holds where it held
  abbrev pub OthersStay : ℕ → List ℕ → Type 0
  OthersStay k due = (h a : ℕ) → k ≡ suc h → a < length b.alerts → is_marked due a ≡ false → conditions a k ≡ conditions a h → IsStill k a

  -- in moment k all is as in the moment before; before moment 0 no alert is present
  pub record Unchanged (k : ℕ) : Type 0 where
    pub present : (a : ℕ) → a < length b.alerts → present b conditions phases a k ≡ previous (present b conditions phases a) k
    pub active : (a : ℕ) → a < length b.alerts → active b conditions phases a k ≡ previous (active b conditions phases a) k
    pub waiting : (a : ℕ) → a < length b.alerts → waiting b conditions phases a k ≡ previous (waiting b conditions phases a) k
    pub starred : (a : ℕ) → a < length b.alerts → starred b conditions phases a k ≡ previous (starred b conditions phases a) k
    pub starred_by : (a : ℕ) → a < length b.alerts → starred_by b conditions phases a k ≡ previously (starred_by b conditions phases a) k
    pub up : (a : ℕ) → a < length b.alerts → up b conditions phases a k ≡ previous (up b conditions phases a) k

  -- in moment k the starred alerts are those of the moment before; before moment 0 none is starred
  pub record StarsStay (k : ℕ) : Type 0 where
    pub starred : (a : ℕ) → a < length b.alerts → starred b conditions phases a k ≡ previous (starred b conditions phases a) k

  -- alert a has been stepped by k moments
  pub record IsStepped (k a : ℕ) (t : Truths) : Type 0 where
    pub since : get_or t.since.items a None ≡ running_since (conditions a) k
    pub present : get_or t.present.items a false ≡ previous (present b conditions phases a) k
    pub active : get_or t.active.items a false ≡ previous (active b conditions phases a) k
    pub waiting : get_or t.waiting.items a false ≡ previous (waiting b conditions phases a) k

  -- in moment k, which hasn't ended, the alerts below i have been stepped, and the others haven't. Of stars, and of
  -- what changed, the moment before is told
  pub record HalfStand (k i : ℕ) (t : Truths) : Type 0 where
    pub fits : TruthsFit b t
    pub moments : t.moments ≡ k
    pub stepped : (a : ℕ) → a < i → IsStepped (suc k) a t
    pub left : (a : ℕ) → i ≤ a → a < length b.alerts → IsStepped k a t
    pub keys : (a : ℕ) → a < i → a < length b.alerts → IsKeyed b t a
    pub left_keys : (a : ℕ) → i ≤ a → a < length b.alerts → WasKeyed b t a
    pub stars : StarsStand b (active b conditions phases) k t.stars
    pub changing : (t.changing ≡ false) ↔ ((a : ℕ) → a < i → IsStill k a)
    pub turned : (a : ℕ) → a < i → is_marked t.turned a ≡ false → IsStill k a
    pub changed : (j : ℕ) → k ≡ suc j → (t.changed ≡ false) ↔ Unchanged j
    pub stars_turned : (j : ℕ) → k ≡ suc j → (t.stars.turned ≡ false) ↔ StarsStay j

  -- the truths stand for k moments
  pub record TruthsStand (k : ℕ) (t : Truths) : Type 0 where
    pub fits : TruthsFit b t
    pub moments : t.moments ≡ k
    pub each : (a : ℕ) → a < length b.alerts → IsStepped k a t
    pub keys : (a : ℕ) → a < length b.alerts → IsKeyed b t a
    pub stars : StarsStand b (active b conditions phases) k t.stars
    pub changing : t.changing ≡ false
    pub turned : (j a : ℕ) → k ≡ suc j → a < length b.alerts → is_marked t.turned a ≡ false → StaysAt j a
    pub changed : (j : ℕ) → k ≡ suc j → (t.changed ≡ false) ↔ Unchanged j
    pub stars_turned : (j : ℕ) → k ≡ suc j → (t.stars.turned ≡ false) ↔ StarsStay j
