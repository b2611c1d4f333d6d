-- What alerts call for, by the signals.
use Rattle.std.specs.Prelude.{◌≡◌, ℕ, ◌+◌, ◌-◌, ◌*◌, ◌/◌, ◌<◌, ◌==◌, Bool, false, ◌&&◌, nat_le, List, find, Option, None, option_map, unwrap_or, if◌then◌else◌}
use Rattle.std.specs.List.{list_any}
use Rattle.std.specs.Option.{option_map_or}
use Rattle.ecam_spec.specs.declared.kinds.Level.{Level}
use Rattle.ecam_spec.specs.declared.kinds.Sound.{Sound}
use Rattle.ecam_spec.specs.declared.kinds.Sound.TheVariants.{Quiet, Chime}
use Rattle.ecam_spec.specs.Levels.{is_three, is_two}
use Rattle.ecam_spec.specs.Lamps as lamps
use Rattle.wakes.specs.Marks.{is_marked, room}
use Rattle.attention.specs.declared.callers.Callers.{Callers}
use Rattle.attention.specs.declared.calls.Calls.{Calls}

-- a chime since this onset, if there is one, sounds in moment j
abbrev pub rings_in : ℕ → Option ℕ → Bool
rings_in j onset = option_map_or (λ o. nat_le j (o + 4)) onset false

-- alert i calls with a chime in k, and would so in j, if nothing came after k
abbrev pub chimes_in : lamps.Attention → ℕ → ℕ → ℕ → Bool
chimes_in a k j i =
    is_two (a.level i) && lamps.is_chime (a.sound i) && (rings_in j (lamps.last_onset a i k) && lamps.calls a i k)

-- alert i is shown in moment k
abbrev pub is_shown : lamps.Attention → ℕ → ℕ → Bool
is_shown a k i = list_any (λ x. x == i) (a.shown k)

-- it calls and is shown
abbrev pub is_calling : lamps.Attention → ℕ → ℕ → Bool
is_calling a k i = is_shown a k i && lamps.calls a i k

-- in which of the sets an alert is
pub record Marks : Type 0 where
  pub warning : Bool
  pub caution : Bool
  pub chime : Bool

abbrev pub marks_at : Callers → ℕ → Marks
marks_at c i = record { warning = is_marked c.warnings i; caution = is_marked c.cautions i; chime = is_marked c.chimes i }

-- in which one of this level and sound is to be, if it calls
abbrev pub marks_for : Level → Sound → Bool → Marks
marks_for level sound on =
    record {
      warning = on && is_three level;
      caution = on && is_two level;
      chime = on && (is_two level && lamps.is_chime sound);
    }

-- of n alerts those are in that call in moment k
abbrev pub AreCallers : lamps.Attention → ℕ → ℕ → Callers → Type 0
AreCallers a k n c = (i : ℕ) → i < n → marks_at c i ≡ marks_for (a.level i) (a.sound i) (is_calling a k i)

-- the sets were made for n alerts
pub record HaveRoom (n : ℕ) (c : Callers) : Type 0 where
  pub warnings : room c.warnings ≡ 64 * (n / 64 + 1)
  pub cautions : room c.cautions ≡ 64 * (n / 64 + 1)
  pub chimes : room c.chimes ≡ 64 * (n / 64 + 1)

-- what no alert calls for
abbrev pub no_calls : Calls
no_calls = record { warning = None; caution = false; chime = None }

-- this is what these alerts call for in moment k
pub record AreCalls (a : lamps.Attention) (k : ℕ) (is : List ℕ) (c : Calls) : Type 0 where
  pub warning : c.warning ≡ option_map a.sound (find (λ i. is_three (a.level i) && lamps.calls a i k) is)
  pub caution : c.caution ≡ list_any (λ i. is_two (a.level i) && lamps.calls a i k) is
  pub chime : (j : ℕ) → rings_in j c.chime ≡ list_any (chimes_in a k j) is

-- the sound after so many moments, of which the last had these calls
abbrev pub sounding : Calls → ℕ → Sound
sounding c moments = unwrap_or c.warning (if rings_in (moments - 1) c.chime then Chime else Quiet)
