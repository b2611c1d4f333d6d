-- When a lane was made for a book.
use Rattle.std.specs.Prelude.{◌≡◌, ◌<◌, ◌^◌, true, length}
use Rattle.ecam_spec.specs.Book.{Book}
use Rattle.ecam_spec.specs.BookTerms.{lines_of}
use Rattle.param_table.specs.TableState.{ParamsFit}
use Rattle.alert_truth.specs.TruthsState.{TruthsFit}
use Rattle.crew_marks.specs.MarksState.{MarksFit}
use Rattle.attention.specs.State.{AttentionFits}
use Rattle.status_page.specs.StatusOf.{TellsStatusLines}
use Rattle.system_display.specs.Selecting.{SelectorFits}
use Rattle.system_display.specs.Pages.{AreShort}
use Rattle.fwc_lane.specs.TermsFit.{TermsFit}
use Rattle.fwc_lane.specs.Calm.{IsCalm, IsIdle}
use Rattle.fwc_lane.specs.declared.lane.Lane.{Lane}

-- its parts were made for the book, and have counted the same moments; it tells whether the book has status lines, and it is
-- calm and idle where it says so. Nothing is said of any history
pub record LaneFits (b : Book) (l : Lane) : Type 0 where
  pub params : ParamsFit b l.params
  pub truths : TruthsFit b l.truths
  pub marks : MarksFit b l.marks
  pub attention : AttentionFits b l.attention
  pub selector : SelectorFits b l.selector
  pub values : length l.values.items ≡ length b.parameters
  pub short : AreShort l.values.items
  pub terms : TermsFit b l.terms
  pub lines : length l.lines.items ≡ length (lines_of b.alerts)
  pub memos : length l.memos.items ≡ length b.memos
  pub status_lines : TellsStatusLines b l.has_status_lines
  pub truths_moments : l.truths.moments ≡ l.moments
  pub marks_moments : l.marks.moments ≡ l.moments
  pub attention_moments : l.attention.moments ≡ l.moments
  pub selector_moments : l.selector.moments ≡ l.moments
  pub calm : l.calm ≡ true → IsCalm l
  pub idle : l.idle ≡ true → IsIdle l

-- the number of moments can grow: there are 2 ^ 63 moments of 100 ms in 29 thousand million years
abbrev pub CanGoOn : Lane → Type 0
CanGoOn l = l.moments < 2 ^ 63
