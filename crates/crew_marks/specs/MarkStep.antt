-- What one moment makes of an alert's mark.
use Rattle.std.specs.Prelude.{ℕ, Bool, false, not, ◌&&◌, ◌||◌, List, get_or, Option}
use Rattle.ecam_spec.specs.declared.kinds.Key.TheVariants.{Clr, Rcl, Emer}
use Rattle.ecam_spec.specs.Levels.{is_caution_level}
use Rattle.ecam_spec.specs.Book.{Book}
use Rattle.ecam_spec.specs.Situation.{alert_at}
use Rattle.ecam_spec.specs.Crew.{is_alert}
use Rattle.ecam_kinds.specs.declared.keys.Keys.{Keys}
use Rattle.ecam_kinds.specs.KeyState.{is_pressed}
use Rattle.crew_marks.specs.declared.mark.Mark.{Mark}
use Rattle.crew_marks.specs.declared.mark.Sight.{Sight}
use Rattle.crew_marks.specs.declared.mark.Actions.{Actions}

-- how an alert stands in the moment, where these are up and waiting, and this is the target
abbrev pub sight_of : Book → List Bool → List Bool → Option ℕ → ℕ → Sight
sight_of b up waiting target a =
    record { up = get_or up a false; waiting = get_or waiting a false; is_caution = is_caution_level (alert_at b a).level; is_target = is_alert a target }

-- CLR strikes it
abbrev pub is_struck : Sight → Actions → Bool
is_struck s x = x.clr && s.is_target

-- EMER CANC calls it off
abbrev pub is_called_off : Sight → Actions → Bool
is_called_off s x = x.emer && s.is_target

abbrev pub cleared_after : Bool → Sight → Actions → Bool
cleared_after was s x = s.up && (is_struck s x || (was && not x.rcl))

abbrev pub cancelled_after : Bool → Sight → Actions → Bool
cancelled_after was s x = s.is_caution && (is_called_off s x || (was && not x.restores))

abbrev pub recalled_after : Bool → Sight → Actions → Bool
recalled_after was s x = s.waiting && (not (is_struck s x) && (x.rcl || was))

abbrev pub shown_by : Bool → Bool → Bool → Bool → Bool
shown_by up cleared cancelled recalled = not cancelled && ((up && not cleared) || recalled)

abbrev pub mark_after : Mark → Sight → Actions → Mark
mark_after m s x =
    let cleared = cleared_after m.cleared s x in
    let cancelled = cancelled_after m.cancelled s x in
    let recalled = recalled_after m.recalled s x in
    record { cleared = cleared; cancelled = cancelled; recalled = recalled; shown = shown_by s.up cleared cancelled recalled }

-- what the crew does by these keys, where cancellations end or go on
abbrev pub actions_of : Keys → Bool → Actions
actions_of keys ends = record { clr = is_pressed keys Clr; rcl = is_pressed keys Rcl; emer = is_pressed keys Emer; restores = ends }

-- a mark may change by them
abbrev pub acts : Actions → Bool
acts x = x.clr || (x.rcl || (x.emer || x.restores))
