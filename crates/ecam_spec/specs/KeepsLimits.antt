-- What is so of each draft that is read: its places are there, and its numbers, texts, lists and conditions keep
-- their limits. A draft doesn't tell its book's version, and so these are the limits of version 2.
use Rattle.std.specs.Prelude.{◌≡◌, ◌≢◌, ℕ, suc, pos, neg_ℤ, ◌<◌, ◌≤◌, nat_lt, ◌≤ℤ◌, Bool, true, false, List, length, map, count_by, Option, Some, None, All, IfSome}
use Rattle.ecam_spec.specs.declared.kinds.Colour.TheVariants.{Blank}
use Rattle.ecam_spec.specs.declared.limits.TheConstants.{SYSTEMS, PAGES, PARAMETERS, NAMED_TERMS, ALERTS, MEMOS, PAGE_ROWS, SOURCES, SECONDARIES, LINES, STATUS_LINES, NAME, TEXT, SYSTEM_TEXT, VALUE_ROW_TEXT, UNIT, TERM_DEPTH, TERM_NODES, NUMBER, WAIT, STALE, PHASE_SETS, BUSES}
use Rattle.ecam_spec.specs.Bytes.{same_text}
use Rattle.ecam_spec.specs.Book.{Text, Tree, Trees, compared, in_phase, negation, all, any, at_least, confirmed, held, risen, latched, none, more, NamedTerm, Source, Parameter, PhaseTerms, Line, StatusLine, Memo, PageRow, Page}
use Rattle.ecam_spec.specs.BookText.{is_name, is_text}
use Rattle.ecam_spec.specs.TermSize.{nodes, depth}
use Rattle.ecam_spec.specs.TermNames.{IsWithin}
use Rattle.ecam_spec.specs.Draft.{DraftAlert, Draft, alert_names}

-- a name stands more than once among names
abbrev pub is_repeated : List Text → Text → Bool
is_repeated names name = nat_lt 1 (count_by (same_text name) names)

-- each name stands once
abbrev pub NoneRepeated : List Text → Type 0
NoneRepeated names = All (λ n. is_repeated names n ≡ false) names

-- how many conditions these are
abbrev pub count_of : Trees → ℕ
count_of none = 0
count_of (more c cs) = suc (count_of cs)

unfoldable mutual
  -- each number in the condition is in its range
  pub IsInRange : Tree → Type 0
  IsInRange (compared p op x) = (neg_ℤ (pos NUMBER) ≤ℤ x) × (x ≤ℤ pos NUMBER)
  IsInRange (in_phase set) = set < PHASE_SETS
  IsInRange (negation c) = IsInRange c
  IsInRange (all cs) = AreInRange cs
  IsInRange (any cs) = AreInRange cs
  IsInRange (at_least n cs) = (1 ≤ n) × (n ≤ count_of cs) × AreInRange cs
  IsInRange (confirmed c n) = (n ≤ WAIT) × IsInRange c
  IsInRange (held c n) = (n ≤ WAIT) × IsInRange c
  IsInRange (risen c) = IsInRange c
  IsInRange (latched s r) = IsInRange s × IsInRange r
  IsInRange _ = Unit {0}

  pub AreInRange : Trees → Type 0
  AreInRange none = Unit {0}
  AreInRange (more c cs) = IsInRange c × AreInRange cs

module _ (params alerts : ℕ) where
  -- a condition keeps its limits, in a book of so many parameters and alerts
  pub record IsSoundTerm (c : Tree) : Type 0 where
    pub within : IsWithin params alerts c
    pub in_range : IsInRange c
    pub small : nodes c ≤ TERM_NODES
    pub flat : depth c ≤ TERM_DEPTH

  pub record IsSoundNamed (t : NamedTerm) : Type 0 where
    pub name : is_name t.name ≡ true
    pub tree : IsSoundTerm t.tree

  pub record IsSoundPhase (p : PhaseTerms) : Type 0 where
    pub gnd : IsSoundTerm p.gnd
    pub run : IsSoundTerm p.run
    pub tp : IsSoundTerm p.tp
    pub fast : IsSoundTerm p.fast
    pub high : IsSoundTerm p.high
    pub low : IsSoundTerm p.low

  pub record IsSoundLine (l : Line) : Type 0 where
    pub text : is_text TEXT l.text ≡ true
    pub colour : l.colour ≢ Blank
    pub when : IsSoundTerm l.when
    pub done : IsSoundTerm l.done

  pub record IsSoundMemo (m : Memo) : Type 0 where
    pub name : is_name m.name ≡ true
    pub text : is_text TEXT m.text ≡ true
    pub colour : m.colour ≢ Blank
    pub when : IsSoundTerm m.when

pub record IsSoundStatus (s : StatusLine) : Type 0 where
  pub section : s.section < 5
  pub text : is_text TEXT s.text ≡ true

-- an alert of a book with so many parameters, alerts, systems and pages
pub record IsSoundAlert (params alerts systems pages : ℕ) (a : DraftAlert) : Type 0 where
  pub name : is_name a.name ≡ true
  pub title : is_text TEXT a.title ≡ true
  pub system : a.system < systems
  pub when : IsSoundTerm params alerts a.when
  pub page : IfSome a.page (λ p. p < pages)
  pub confirm : a.confirm ≤ WAIT
  pub inhibit : a.inhibit < PHASE_SETS
  pub secondary : length a.secondary ≤ SECONDARIES
  pub short_names : All (λ n. length n ≤ NAME) a.secondary
  pub line_count : length a.lines ≤ LINES
  pub lines : All (IsSoundLine params alerts) a.lines
  pub status_count : length a.status ≤ STATUS_LINES
  pub status : All IsSoundStatus a.status

pub record IsSoundSource (s : Source) : Type 0 where
  pub bus : s.bus < BUSES
  pub label : s.label < 256
  pub sdi : IfSome s.sdi (λ n. n < 4)
  pub bit_low : 11 ≤ s.bit
  pub bit_high : s.bit ≤ 29
  pub low_low : 11 ≤ s.low
  pub low_high : s.low ≤ 28
  pub range_low : 1 ≤ s.range
  pub range_high : s.range ≤ NUMBER

pub record IsSoundParameter (p : Parameter) : Type 0 where
  pub name : is_name p.name ≡ true
  pub stale_low : 1 ≤ p.stale
  pub stale_high : p.stale ≤ STALE
  pub some_source : 1 ≤ length p.sources
  pub source_count : length p.sources ≤ SOURCES
  pub sources : All IsSoundSource p.sources

-- the text of a row that shows a value leaves room for it
abbrev pub row_text_limit : Option ℕ → ℕ
row_text_limit None = TEXT
row_text_limit (Some p) = VALUE_ROW_TEXT

pub record IsSoundRow (params : ℕ) (r : PageRow) : Type 0 where
  pub text : is_text (row_text_limit r.show) r.text ≡ true
  pub show : IfSome r.show (λ p. p < params)
  pub unit : IfSome r.unit (λ u. is_text UNIT u ≡ true)
  pub colour : r.colour ≢ Blank

pub record IsSoundPage (params : ℕ) (p : Page) : Type 0 where
  pub name : is_name p.name ≡ true
  pub title : is_text TEXT p.title ≡ true
  pub phases : p.phases < PHASE_SETS
  pub row_count : length p.rows ≤ PAGE_ROWS
  pub rows : All (IsSoundRow params) p.rows

pub record IsSound (d : Draft) : Type 0 where
  pub system_count : length d.systems ≤ SYSTEMS
  pub systems : All (λ s. is_text SYSTEM_TEXT s ≡ true) d.systems
  pub systems_once : NoneRepeated d.systems
  pub page_count : length d.pages ≤ PAGES
  pub pages : All (IsSoundPage (length d.parameters)) d.pages
  pub pages_once : NoneRepeated (map (λ p. p.name) d.pages)
  pub parameter_count : length d.parameters ≤ PARAMETERS
  pub parameters : All IsSoundParameter d.parameters
  pub parameters_once : NoneRepeated (map (λ p. p.name) d.parameters)
  pub term_count : length d.terms ≤ NAMED_TERMS
  pub terms : All (IsSoundNamed (length d.parameters) (length d.alerts)) d.terms
  pub terms_once : NoneRepeated (map (λ t. t.name) d.terms)
  pub phase : IsSoundPhase (length d.parameters) (length d.alerts) d.phase
  pub alert_count : length d.alerts ≤ ALERTS
  pub alerts : All (IsSoundAlert (length d.parameters) (length d.alerts) (length d.systems) (length d.pages)) d.alerts
  pub alerts_once : NoneRepeated (alert_names d.alerts)
  pub memo_count : length d.memos ≤ MEMOS
  pub memos : All (IsSoundMemo (length d.parameters) (length d.alerts)) d.memos
  pub memos_once : NoneRepeated (map (λ m. m.name) d.memos)
