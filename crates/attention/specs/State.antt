-- What is kept after some moments, by the signals.
use Rattle.std.specs.Prelude.{◌≡◌, ◌≢◌, ◌↔◌, true, is_some, ℕ, zero, suc, ◌+◌, ◌*◌, ◌/◌, ◌^◌, ◌<◌, ◌≤◌, Bool, false, List, Option, length, filter, get_or}
use Rattle.std.specs.Box.{boxed_slice_items}
use Rattle.ecam_spec.specs.declared.kinds.Key.TheVariants.{Mw, Mc, Emer}
use Rattle.ecam_spec.specs.declared.kinds.Sound.TheVariants.{Quiet}
use Rattle.ecam_spec.specs.Book.{Book}
use Rattle.ecam_spec.specs.Situation.{alert_at}
use Rattle.ecam_spec.specs.Screen.{order}
use Rattle.ecam_spec.specs.Lamps as lamps
use Rattle.ecam_kinds.specs.declared.keys.Keys.{Keys}
use Rattle.ecam_kinds.specs.KeyState.{is_pressed}
use Rattle.wakes.specs.Marks.{room}
use Rattle.attention.specs.declared.callers.Callers.{Callers}
use Rattle.attention.specs.declared.state.Lights.{Lights}
use Rattle.attention.specs.declared.state.Attention.{Attention}
use Rattle.attention.specs.declared.watch.Watch.{Watch}
use Rattle.attention.specs.Watches.{AreWatched, AreMarked, has_open}
use Rattle.attention.specs.Calling.{no_calls, AreCalls, AreCallers, HaveRoom, is_shown, sounding}
use Rattle.attention.specs.Latest.{IsLatest}

-- something is kept of each of n alerts, those with an open onset are marked as such, the other sets have room, and this is the
-- latest onset of those that call with a chime
pub record AreKept (n : ℕ) (kept : List Watch) (opens looked : List ℕ) (c : Callers) (chime : Option ℕ) : Type 0 where
  pub watches : length kept ≡ n
  pub open_room : room opens ≡ 64 * (n / 64 + 1)
  pub looked_room : room looked ≡ 64 * (n / 64 + 1)
  pub callers : HaveRoom n c
  pub still_open : AreMarked has_open kept opens
  pub latest : IsLatest n kept c.chimes chime

-- it was made for the book
abbrev pub AttentionFits : Book → Attention → Type 0
AttentionFits b t = AreKept (length b.alerts) (boxed_slice_items t.watches) t.still_open t.looked t.callers t.calls.chime

-- the number of the moment can grow: there are 2 ^ 63 moments of 100 ms in 29 thousand million years
abbrev pub CanGoOn : Attention → Type 0
CanGoOn t = t.moments < 2 ^ 63

-- the levels and the sounds are the book's
pub record AreOfBook (b : Book) (a : lamps.Attention) : Type 0 where
  pub level : (i : ℕ) → a.level i ≡ (alert_at b i).level
  pub sound : (i : ℕ) → a.sound i ≡ (alert_at b i).sound

-- these are what moment k says: which alerts are up, which are shown, and the presses
pub record Brings (b : Book) (a : lamps.Attention) (k : ℕ) (ups showns : List Bool) (keys : Keys) : Type 0 where
  pub up : (i : ℕ) → i < length b.alerts → get_or ups i false ≡ a.up i k
  pub shown : a.shown k ≡ filter (λ i. get_or showns i false) (order b)
  pub mw : is_pressed keys Mw ≡ a.mw k
  pub mc : is_pressed keys Mc ≡ a.mc k
  pub emer : is_pressed keys Emer ≡ a.emer k

-- nothing comes in the moment after k: what is up and shown stays so, and no press acknowledges
pub record NothingComes (a : lamps.Attention) (k : ℕ) : Type 0 where
  pub up : (i : ℕ) → a.up i (suc k) ≡ a.up i k
  pub shown : a.shown (suc k) ≡ a.shown k
  pub mw : a.mw (suc k) ≡ false
  pub mc : a.mc (suc k) ≡ false
  pub emer : a.emer (suc k) ≡ false

-- in moment k alert i is up and shown as in the moment before
pub record StaysAt (a : lamps.Attention) (k i : ℕ) : Type 0 where
  pub up : (j : ℕ) → k ≡ suc j → a.up i k ≡ a.up i j
  pub shown : (j : ℕ) → k ≡ suc j → is_shown a k i ≡ is_shown a j i

-- in moment k what is up and shown is so as in the moment before
pub record AreStill (a : lamps.Attention) (k : ℕ) : Type 0 where
  pub up : (j : ℕ) → k ≡ suc j → (i : ℕ) → a.up i k ≡ a.up i j
  pub shown : (j : ℕ) → k ≡ suc j → a.shown k ≡ a.shown j

-- the lights and the sound in the last of k moments; before the first there are none
abbrev pub lights_after : lamps.Attention → ℕ → Lights
lights_after a zero = record { warn = false; caut = false; sound = Quiet }
lights_after a (suc k) = record { warn = lamps.warns a k; caut = lamps.cautions a k; sound = lamps.sound a k }

-- it stands for the first k moments
pub record AttentionStands (b : Book) (a : lamps.Attention) (k : ℕ) (t : Attention) : Type 0 where
  pub fits : AttentionFits b t
  pub moments : t.moments ≡ k
  pub watches : AreWatched a k (length b.alerts) (boxed_slice_items t.watches)
  pub callers : (j : ℕ) → k ≡ suc j → AreCallers a j (length b.alerts) t.callers
  pub before : k ≡ 0 → t.calls ≡ no_calls
  pub calls : (j : ℕ) → k ≡ suc j → AreCalls a j (a.shown j) t.calls
  pub changed : (j : ℕ) → k ≡ suc j → (t.changed ≡ false) ↔ (lights_after a k ≡ lights_after a j)

-- the lights and the sound by what it keeps
abbrev pub lights_of : Attention → Lights
lights_of t = record { warn = is_some t.calls.warning; caut = t.calls.caution; sound = sounding t.calls t.moments }

-- as long as the calls stay, so does the sound: there is no chime that ends by itself
abbrev pub IsSteady : Attention → Type 0
IsSteady t = (j : ℕ) → t.moments ≤ j → sounding t.calls j ≡ sounding t.calls t.moments

-- it tells whether they are other than they were
pub record TellsChange (old new : Attention) : Type 0 where
  pub same : new.changed ≡ false → lights_of new ≡ lights_of old
  pub other : new.changed ≡ true → lights_of new ≢ lights_of old
