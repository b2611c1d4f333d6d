-- The master lights and the aural warning: which onsets the crew hasn't acknowledged. The outline is the A320's
-- (DSC-31); the exact rules are this project's own.
use Rattle.std.specs.Prelude.{ℕ, suc, ◌+◌, Bool, true, false, not, ◌&&◌, ◌||◌, nat_le, List, find, Option, Some, None, if◌then◌else◌}
use Rattle.std.specs.List.{list_any}
use Rattle.std.specs.Option.{option_map_or}
use Rattle.ecam_spec.specs.declared.kinds.Level.{Level}
use Rattle.ecam_spec.specs.declared.kinds.Level.TheVariants.{One, Two, Three}
use Rattle.ecam_spec.specs.declared.kinds.Sound.{Sound}
use Rattle.ecam_spec.specs.declared.kinds.Sound.TheVariants.{Quiet, Chime}
use Rattle.ecam_spec.specs.Levels.{is_three, is_two}
use Rattle.ecam_spec.specs.Past.{Signal, once_from, last}
use Rattle.ecam_spec.specs.Alert.{onset}

-- what the lights and the sound go by
pub record Attention : Type 0 where
  -- the level of each alert
  pub level : ℕ → Level
  -- the sound of each alert
  pub sound : ℕ → Sound
  -- the alert is up
  pub up : ℕ → Signal
  -- what is shown in each moment, in order
  pub shown : ℕ → List ℕ
  -- MASTER WARN is pressed
  pub mw : Signal
  -- MASTER CAUT is pressed
  pub mc : Signal
  -- EMER CANC is pressed
  pub emer : Signal

abbrev pub is_chime : Sound → Bool
is_chime Chime = true
is_chime _ = false

module _ (a : Attention) where
  -- a press that acknowledges the alerts of a level
  unfoldable pub acknowledges : Level → Signal
  acknowledges Three k = a.mw k || a.emer k
  acknowledges Two k = a.mc k || a.emer k
  acknowledges One k = false

  -- the last moment in which the alert came up
  unfoldable pub last_onset : ℕ → ℕ → Option ℕ
  last_onset i = last (onset (a.up i))

  -- its last onset is open: no press of a later moment acknowledged it
  unfoldable pub is_open : ℕ → Signal
  is_open i k = option_map_or (λ j. not (once_from (suc j) (acknowledges (a.level i)) k)) (last_onset i k) false

  -- it calls for attention: it is up, and its last onset is open
  unfoldable pub calls : ℕ → Signal
  calls i k = a.up i k && is_open i k

  -- MASTER WARN
  unfoldable pub warns : Signal
  warns k = list_any (λ i. is_three (a.level i) && calls i k) (a.shown k)

  -- MASTER CAUT
  unfoldable pub cautions : Signal
  cautions k = list_any (λ i. is_two (a.level i) && calls i k) (a.shown k)

  -- an alert chimes for half a second from its last onset on, which is five moments
  unfoldable pub chimes : ℕ → Signal
  chimes i k =
      is_two (a.level i) && is_chime (a.sound i) && (option_map_or (λ j. nat_le k (j + 4)) (last_onset i k) false && calls i k)

  -- the sound of the first warning that calls, else the chime
  unfoldable pub sound_of : Option ℕ → ℕ → Sound
  sound_of (Some i) k = a.sound i
  sound_of None k = if list_any (λ i. chimes i k) (a.shown k) then Chime else Quiet

  unfoldable pub sound : ℕ → Sound
  sound k = sound_of (find (λ i. is_three (a.level i) && calls i k) (a.shown k)) k
