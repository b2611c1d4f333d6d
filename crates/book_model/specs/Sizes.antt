-- How much a sealed book has, in the lists of its draft.
use Rattle.std.specs.Prelude.{◌<◌, ◌≤◌, length, IfSome}
use Rattle.ecam_spec.specs.declared.limits.TheConstants.{SYSTEMS, PAGES, PARAMETERS, ALERTS, MEMOS, SECONDARIES, LINES, STATUS_LINES, WAIT, PHASE_SETS}
use Rattle.book_model.specs.declared.draft.Alert.{Alert}
use Rattle.book_model.specs.declared.draft.Draft.{Draft}

pub record Sizes (d : Draft) : Type 0 where
  pub systems : length d.systems.items ≤ SYSTEMS
  pub pages : length d.pages.items ≤ PAGES
  pub params : length d.params.items ≤ PARAMETERS
  pub alerts : length d.alerts.items ≤ ALERTS
  pub memos : length d.memos.items ≤ MEMOS

-- an alert of it
pub record AlertSizes (d : Draft) (x : Alert) : Type 0 where
  pub system : x.system < length d.systems.items
  pub page : IfSome x.page (λ p. p < length d.pages.items)
  pub confirm : x.confirm ≤ WAIT
  pub inhibit : x.inhibit.0 < PHASE_SETS
  pub secondary : length x.secondary.items ≤ SECONDARIES
  pub lines : length x.lines.items ≤ LINES
  pub status : length x.status.items ≤ STATUS_LINES
