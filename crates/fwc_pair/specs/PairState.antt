-- When a pair stands for a history.
use Rattle.std.specs.Prelude.{◌≡◌, ℕ, true, List, if◌then◌else◌}
use Rattle.ecam_spec.specs.declared.kinds.Event.{Event}
use Rattle.ecam_spec.specs.Book.{Book}
use Rattle.ecam_spec.specs.History.{Flags, flags_after, Era, era}
use Rattle.ecam_spec.specs.Replay.{tick_count, picture, last_picture}
use Rattle.ecam_kinds.specs.Shown.{picture_of}
use Rattle.fwc_lane.specs.ChangedRows.{TellsRows, NoneChanged}
use Rattle.fwc_lane.specs.LaneFits.{LaneFits}
use Rattle.fwc_lane.specs.LaneStands.{LaneStands}
use Rattle.fwc_pair.specs.declared.pair.Pair.{Pair}

abbrev pub flags_of : Pair → Flags
flags_of p = record { one = p.one_up; two = p.two_up }

-- its lanes were made for the book, those that are up have counted the same moments, and no row is told as changed where none
-- is known to have
pub record FitsByParts (b : Book) (p : Pair) : Type 0 where
  pub one : LaneFits b p.one
  pub two : LaneFits b p.two
  pub together : p.one_up ≡ true → p.two_up ≡ true → p.two.moments ≡ p.one.moments
  pub still : p.still ≡ true → NoneChanged p.changed

-- the pair fits the book. Nothing is said of any history
unfoldable pub PairFits : Book → Pair → Type 0
PairFits b p = FitsByParts b p

-- how many whole moments the first computer that is up has counted
abbrev pub moments_of : Pair → ℕ
moments_of p = if p.one_up then p.one.moments else (if p.two_up then p.two.moments else 0)

-- each computer that is up stands for the era
pub record EachStands (b : Book) (e : Era) (p : Pair) : Type 0 where
  pub one : p.one_up ≡ true → LaneStands b e p.one
  pub two : p.two_up ≡ true → LaneStands b e p.two

-- so do those that are up; of one that is down nothing is asked
unfoldable pub UpStand : Book → Era → Pair → Type 0
UpStand b e p = EachStands b e p

-- the flags tell which computers are up after the history, the face is the picture of its last
-- Tick, blank without one, `changed` tells which rows that Tick changed, and each computer that
-- is up stands for the era
pub record PairStands (b : Book) (h : List Event) (p : Pair) : Type 0 where
  pub fits : PairFits b p
  pub flags : flags_of p ≡ flags_after h
  pub face : picture_of p.face ≡ last_picture b h
  pub changed : TellsRows (picture b h) (tick_count h) p.changed
  pub up : UpStand b (era h) p
