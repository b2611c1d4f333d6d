-- What a lane says of an alert in the last moment.
use Rattle.std.specs.Prelude.{◌≡◌, ℕ, Bool, false, get_or, None, if◌then◌else◌}
use Rattle.ecam_spec.specs.Book.{Line, Book}
use Rattle.ecam_spec.specs.BookTerms.{lines_of}
use Rattle.ecam_spec.specs.LeftZone.{title_row}
use Rattle.ecam_spec.specs.Standing.{Facts}
use Rattle.book_model.specs.Told.{TellsOf, flagged}
use Rattle.warning_display.specs.LeftRows.{in_order, blocks}
use Rattle.fwc_lane.specs.declared.lane.Lane.{Lane}

-- so the lane tells these facts of alert a
pub record TellsFacts (b : Book) (l : Lane) (a : ℕ) (f : Facts) : Type 0 where
  pub present : get_or l.truths.present.items a false ≡ f.present
  pub active : get_or l.truths.active.items a false ≡ f.active
  pub shown : get_or l.marks.sets.shown a false ≡ f.shown
  pub starred_by : get_or l.truths.stars.primaries.items a None
      ≡ (if f.active then f.starred_by else None)
  pub cancelled : get_or l.marks.sets.cancelled a false ≡ f.cancelled
  pub cleared : get_or l.marks.sets.cleared a false ≡ f.cleared
  pub stands : Line → Bool
  pub told : TellsOf l.lines.items (lines_of b.alerts) stands
  pub title : f.title_row ≡ title_row a (blocks b stands (in_order b (flagged l.marks.sets.shown)))
