-- What is kept of the advisories after a history.
use Rattle.std.specs.Prelude.{◌≡◌, ℕ, suc, true, List, length}
use Rattle.ecam_spec.specs.declared.kinds.Event.{Event}
use Rattle.ecam_spec.specs.Book.{Book}
use Rattle.ecam_spec.specs.History.{Moment, Era, era}
use Rattle.ecam_spec.specs.Replay.{tick_count}
use Rattle.ecam_spec.specs.Situation.{value_in}
use Rattle.view_spec.specs.Ticks.{is_up}
use Rattle.view_spec.specs.Advisories as plain
use Rattle.fwc_lane.specs.LaneStands.{Continues, LaneStands}
use Rattle.fwc_lane.specs.declared.lane.Lane.{Lane}
use Rattle.advisories.specs.Watches.{all_watched, AreWatched}
use Rattle.advisories.specs.Panel.{rows_of}
use Rattle.advisories.specs.declared.watches.Watch.{Watch}
use Rattle.advisories.specs.declared.view.Advisories.{Advisories}

-- the limits that a view was made of
abbrev pub settings_of : Advisories → List plain.Advisory
settings_of v = all_watched v.watches.items

-- of these moments k is the last whole one of the era for which a computer stands
pub record HasEnded (b : Book) (m : ℕ → Moment) (k : ℕ) (l : Lane) : Type 0 where
  pub current : Era
  pub stands : LaneStands b current l
  pub goes : Continues current m
  pub counted : length current.moments ≡ suc k

-- this is kept for the whole moments of an era, whatever comes after these
abbrev pub StandInEra : Book → Era → List Watch → Type 0
StandInEra b e ws = (m : ℕ → Moment) → Continues e m → AreWatched (value_in b m) (length e.moments) ws

-- a view stands for a history: for the number of its Ticks, for the rows at the last of them, and where a computer is up
-- for its era
pub record StandAfter (b : Book) (h : List Event) (v : Advisories) : Type 0 where
  pub ticks : v.ticks ≡ tick_count h
  pub panel : rows_of v.panel ≡ plain.rows_before b (settings_of v) (tick_count h) h
  pub watches : is_up h ≡ true → StandInEra b (era h) v.watches.items
