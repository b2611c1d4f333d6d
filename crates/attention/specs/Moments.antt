-- What a moment brings, by the signals.
use Rattle.std.specs.Prelude.{◌≡◌, ℕ, ◌<◌, ◌||◌, Bool, false, List, length, get_or}
use Rattle.ecam_spec.specs.Lamps as lamps
use Rattle.attention.specs.declared.moment.Presses.{Presses}
use Rattle.attention.specs.declared.moment.Moment.{Moment}
use Rattle.book_model.specs.declared.draft.Alert.{Alert}

-- these keys are pressed in moment k
pub record ArePresses (a : lamps.Attention) (k : ℕ) (p : Presses) : Type 0 where
  pub mw : p.mw ≡ a.mw k
  pub mc : p.mc ≡ a.mc k
  pub emer : p.emer ≡ a.emer k

-- one of the keys that acknowledge is pressed
abbrev pub any_pressed : Presses → Bool
any_pressed p = p.mw || (p.mc || p.emer)

-- the levels and the sounds are those of these alerts
pub record AreListed (a : lamps.Attention) (alerts : List Alert) : Type 0 where
  pub level : (i : ℕ) (x : Alert) → i < length alerts → x ≡ get_or alerts i x → x.level ≡ a.level i
  pub sound : (i : ℕ) (x : Alert) → i < length alerts → x ≡ get_or alerts i x → x.sound ≡ a.sound i

-- this is what moment k brings to these alerts
pub record IsMoment (a : lamps.Attention) (k : ℕ) (alerts : List Alert) (m : Moment) : Type 0 where
  pub number : m.number ≡ k
  pub listed : AreListed a alerts
  pub up : (i : ℕ) → i < length alerts → get_or m.up.now i false ≡ a.up i k
  pub presses : ArePresses a k m.presses
