-- The draft that a document without a fault is: what each key holds, or what stands in its place where it is
-- missing.
use Rattle.std.specs.Prelude.{true, false, [], map, codes, unwrap_or}
use Rattle.toml.specs.Data.{Data, Members, no_members, get_member, as_table}
use Rattle.ecam_spec.specs.declared.limits.TheConstants.{TEXT, SYSTEM_TEXT, UNIT, NUMBER, WAIT, STALE}
use Rattle.ecam_spec.specs.declared.kinds.Kind.TheVariants.{Disc}
use Rattle.ecam_spec.specs.declared.kinds.Colour.TheVariants.{Green, White, Cyan}
use Rattle.ecam_spec.specs.Bytes.{place_of}
use Rattle.ecam_spec.specs.Book.{Text, Source, Parameter, PhaseTerms, Line, StatusLine, Memo, PageRow, Page}
use Rattle.ecam_spec.specs.Draft.{DraftAlert, Draft}
use Rattle.ecam_spec.specs.KeepsLimits.{row_text_limit}
use Rattle.book_spec.specs.Fields.{◌>>=◌, string_at, text_in, text_at, number_at, label_at}
use Rattle.book_spec.specs.Schema.{sound_words, section_words, zone_words, colour_words, kind_at}
use Rattle.book_spec.specs.Rules.{Names, list_in}
use Rattle.book_spec.specs.Document.{names_of, named_terms}
use Rattle.book_spec.specs.Defaults.{table_in, name_or_none, text_or_none, number_or_least, word_or, phases_at, term_or, level_of, sound_of, short_name}

-- ---- pages

unfoldable pub row_in : Names → Data → PageRow
row_in names value =
    let table = table_in value in
    let show = string_at (codes "show") table >>= place_of names.of_terms.parameters in
    record {
      text = text_or_none (row_text_limit show) (codes "text") table;
      show = show;
      unit = text_at UNIT (codes "unit") table;
      colour = word_or White colour_words (codes "colour") table;
    }

unfoldable pub page_in : Names → Data → Page
page_in names value =
    let table = table_in value in
    record {
      name = name_or_none table;
      title = text_or_none TEXT (codes "title") table;
      phases = phases_at (codes "phases") table;
      rows = map (row_in names) (list_in (codes "row") table);
    }

-- ---- parameters

-- what a source doesn't use is the least that it may be
unfoldable pub source_in : Data → Source
source_in value =
    let table = table_in value in
    record {
      bus = number_or_least 0 15 (codes "bus") table;
      label = unwrap_or (label_at (codes "label") table) 0;
      sdi = number_at 0 3 (codes "sdi") table;
      bit = number_or_least 11 29 (codes "bit") table;
      low = number_or_least 11 28 (codes "low") table;
      range = number_or_least 1 NUMBER (codes "range") table;
    }

unfoldable pub parameter_in : Data → Parameter
parameter_in value =
    let table = table_in value in
    record {
      name = name_or_none table;
      kind = unwrap_or (kind_at table) Disc;
      stale = number_or_least 1 STALE (codes "stale") table;
      sources = map source_in (list_in (codes "source") table);
    }

-- ---- the flight phase

unfoldable pub phase_in : Names → Members → PhaseTerms
phase_in names table = record {
  gnd = term_or true names (codes "gnd") table;
  run = term_or false names (codes "run") table;
  tp = term_or false names (codes "tp") table;
  fast = term_or false names (codes "fast") table;
  high = term_or false names (codes "high") table;
  low = term_or false names (codes "low") table;
}

-- ---- alerts

unfoldable pub line_in : Names → Data → Line
line_in names value =
    let table = table_in value in
    record {
      text = text_or_none TEXT (codes "text") table;
      colour = word_or Cyan colour_words (codes "colour") table;
      when = term_or true names (codes "when") table;
      done = term_or false names (codes "done") table;
    }

unfoldable pub status_in : Data → StatusLine
status_in value =
    let table = table_in value in
    record {
      section = word_or 0 section_words (codes "section") table;
      text = text_or_none TEXT (codes "text") table;
    }

unfoldable pub alert_in : Names → Data → DraftAlert
alert_in names value =
    let table = table_in value in
    let level = level_of (number_or_least 1 3 (codes "level") table) in
    record {
      name = name_or_none table;
      title = text_or_none TEXT (codes "title") table;
      system = unwrap_or (string_at (codes "system") table >>= place_of names.systems) 0;
      level = level;
      when = term_or false names (codes "when") table;
      page = string_at (codes "page") table >>= place_of names.pages;
      confirm = number_or_least 0 WAIT (codes "confirm") table;
      sound = word_or (sound_of level) sound_words (codes "sound") table;
      inhibit = phases_at (codes "inhibit") table;
      secondary = map short_name (list_in (codes "secondary") table);
      lines = map (line_in names) (list_in (codes "line") table);
      status = map status_in (list_in (codes "status") table);
    }

-- ---- memos

unfoldable pub memo_in : Names → Data → Memo
memo_in names value =
    let table = table_in value in
    record {
      name = name_or_none table;
      text = text_or_none TEXT (codes "text") table;
      left = word_or true zone_words (codes "zone") table;
      when = term_or false names (codes "when") table;
      colour = word_or Green colour_words (codes "colour") table;
    }

-- ---- the whole

abbrev pub system_in : Data → Text
system_in value = unwrap_or (text_in SYSTEM_TEXT value) []

unfoldable pub draft_of : Members → Draft
draft_of top =
    let names = names_of top in
    record {
      systems = map system_in (list_in (codes "systems") top);
      pages = map (page_in names) (list_in (codes "page") top);
      parameters = map parameter_in (list_in (codes "param") top);
      terms = named_terms top;
      phase = phase_in names (unwrap_or (get_member (codes "phase") top >>= as_table) no_members);
      alerts = map (alert_in names) (list_in (codes "alert") top);
      memos = map (memo_in names) (list_in (codes "memo") top);
    }
