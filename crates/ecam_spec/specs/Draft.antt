-- A draft: a book as it is read, in which an alert's secondaries still go by name, and which has the conditions that
-- are named. The book is the draft with the secondaries' names resolved; what a named condition says stands in those
-- that use it.
use Rattle.std.specs.Prelude.{ℕ, List, map, Option}
use Rattle.std.specs.List.{filter_map}
use Rattle.ecam_spec.specs.declared.kinds.Level.{Level}
use Rattle.ecam_spec.specs.declared.kinds.Sound.{Sound}
use Rattle.ecam_spec.specs.Bytes.{place_of}
use Rattle.ecam_spec.specs.Book.{Text, Tree, NamedTerm, Parameter, PhaseTerms, Line, StatusLine, Alert, Memo, Page, Book}

pub record DraftAlert : Type 0 where
  pub name : Text
  pub title : Text
  pub system : ℕ
  pub level : Level
  pub when : Tree
  pub page : Option ℕ
  pub confirm : ℕ
  pub sound : Sound
  pub inhibit : ℕ
  pub secondary : List Text
  pub lines : List Line
  pub status : List StatusLine

pub record Draft : Type 0 where
  pub systems : List Text
  pub pages : List Page
  pub parameters : List Parameter
  pub terms : List NamedTerm
  pub phase : PhaseTerms
  pub alerts : List DraftAlert
  pub memos : List Memo

abbrev pub alert_names : List DraftAlert → List Text
alert_names alerts = map (λ a. a.name) alerts

-- an alert whose secondaries are those of these names that alerts have
abbrev pub resolved : List Text → DraftAlert → Alert
resolved names a = record {
  name = a.name;
  title = a.title;
  system = a.system;
  level = a.level;
  when = a.when;
  page = a.page;
  confirm = a.confirm;
  sound = a.sound;
  inhibit = a.inhibit;
  secondary = filter_map (place_of names) a.secondary;
  lines = a.lines;
  status = a.status;
}

-- the book that a draft is
unfoldable pub book_of : Draft → Book
book_of d = record {
  systems = d.systems;
  pages = d.pages;
  parameters = d.parameters;
  phase = d.phase;
  alerts = map (resolved (alert_names d.alerts)) d.alerts;
  memos = d.memos;
}
