-- What a draft of the program means: a draft of plain data, in which a text is its bytes, a list its members and a
-- condition its tree.
use Rattle.std.specs.Prelude.{map, option_map}
use Rattle.arrayvec.specs.ArrayString.{ArrayString}
use Rattle.ecam_spec.specs.Book as book
use Rattle.ecam_spec.specs.Draft as plain
use Rattle.ecam_spec.specs.TermSize.{Placed}
use Rattle.term_tree.specs.View.{tree_of, named_terms}
use Rattle.book_model.specs.declared.draft.Term.{Term}
use Rattle.book_model.specs.declared.draft.WordSource.{WordSource}
use Rattle.book_model.specs.declared.draft.Param.{Param}
use Rattle.book_model.specs.declared.draft.PhaseTerms.{PhaseTerms}
use Rattle.book_model.specs.declared.draft.Line.{Line}
use Rattle.book_model.specs.declared.draft.StatusLine.{StatusLine}
use Rattle.book_model.specs.declared.draft.Alert.{Alert}
use Rattle.book_model.specs.declared.draft.Memo.{Memo}
use Rattle.book_model.specs.declared.draft.PageRow.{PageRow}
use Rattle.book_model.specs.declared.draft.Page.{Page}
use Rattle.book_model.specs.declared.draft.Draft.{Draft}

abbrev pub bytes_of : ArrayString → book.Text
bytes_of t = t.bytes

abbrev pub name_of : Alert → book.Text
name_of a = a.name.bytes

abbrev pub tree_in : Term → book.Tree
tree_in t = tree_of t.cond

abbrev pub source_of : WordSource → book.Source
source_of s = record { bus = s.bus; label = s.label; sdi = s.sdi; bit = s.bit; low = s.low; range = s.range }

abbrev pub parameter_of : Param → book.Parameter
parameter_of p = record { name = p.name.bytes; kind = p.kind; stale = p.stale; sources = map source_of p.sources.items }

abbrev pub phase_of : PhaseTerms → book.PhaseTerms
phase_of p = record {
  gnd = tree_in p.gnd;
  run = tree_in p.run;
  tp = tree_in p.tp;
  fast = tree_in p.fast;
  high = tree_in p.high;
  low = tree_in p.low;
}

abbrev pub line_of : Line → book.Line
line_of l = record { text = l.text.bytes; colour = l.colour; when = tree_in l.when; done = tree_in l.done }

abbrev pub status_of : StatusLine → book.StatusLine
status_of s = record { section = s.section; text = s.text.bytes }

abbrev pub alert_of : Alert → plain.DraftAlert
alert_of a = record {
  name = a.name.bytes;
  title = a.title.bytes;
  system = a.system;
  level = a.level;
  when = tree_in a.when;
  page = a.page;
  confirm = a.confirm;
  sound = a.sound;
  inhibit = a.inhibit.0;
  secondary = map bytes_of a.secondary.items;
  lines = map line_of a.lines.items;
  status = map status_of a.status.items;
}

abbrev pub memo_of : Memo → book.Memo
memo_of m = record { name = m.name.bytes; text = m.text.bytes; left = m.left; when = tree_in m.when; colour = m.colour }

abbrev pub row_of : PageRow → book.PageRow
row_of r = record { text = r.text.bytes; show = r.show; unit = option_map bytes_of r.unit; colour = r.colour }

abbrev pub page_of : Page → book.Page
page_of p = record { name = p.name.bytes; title = p.title.bytes; phases = p.phases.0; rows = map row_of p.rows.items }

unfoldable pub draft_of : Draft → plain.Draft
draft_of d = record {
  systems = map bytes_of d.systems.items;
  pages = map page_of d.pages.items;
  parameters = map parameter_of d.params.items;
  terms = named_terms d.terms.items;
  phase = phase_of d.phase;
  alerts = map alert_of d.alerts.items;
  memos = map memo_of d.memos.items;
}

-- a condition, and where its slots begin
abbrev pub placed_of : Term → Placed
placed_of t = record { tree = tree_in t; at = t.at }
