-- The tables of a book and their keys: which may be there, which have to be, and what each may hold. The form is
-- this project's own.
use Rattle.std.specs.Prelude.{ℕ, Bool, true, false, List, [], ◌∷◌, codes, option_map, Option, Some, None, is_some, find}
use Rattle.toml.specs.Data.{Members, get_member}
use Rattle.ecam_spec.specs.declared.limits.TheConstants.{PAGE_ROWS, SOURCES, LINES, STATUS_LINES, TEXT, VALUE_ROW_TEXT, UNIT, NUMBER, WAIT, STALE}
use Rattle.ecam_spec.specs.declared.kinds.Kind.{Kind}
use Rattle.ecam_spec.specs.declared.kinds.Kind.TheVariants.{Disc, Bnr, Bcd}
use Rattle.ecam_spec.specs.declared.kinds.Colour.{Colour}
use Rattle.ecam_spec.specs.declared.kinds.Colour.TheVariants as colours
use Rattle.ecam_spec.specs.declared.kinds.Sound.{Sound}
use Rattle.ecam_spec.specs.declared.kinds.Sound.TheVariants as sounds
use Rattle.ecam_spec.specs.Book.{Text}
use Rattle.ecam_spec.specs.Bytes.{same_text}
use Rattle.book_spec.specs.Fields.{◌>>=◌, string_at}
use Rattle.book_spec.specs.declared.schema.Words.{Words}
use Rattle.book_spec.specs.declared.schema.Words.TheVariants as words
use Rattle.book_spec.specs.declared.schema.Leaf.{Leaf}
use Rattle.book_spec.specs.declared.schema.Leaf.TheVariants.{Name, Term, Label, Word, Page, System, Parameter, Alerts, Phases, Number}
use Rattle.book_spec.specs.declared.schema.Leaf.TheVariants as leaves
use Rattle.book_spec.specs.declared.schema.Inner.{Inner}
use Rattle.book_spec.specs.declared.schema.Inner.TheVariants as inner
use Rattle.book_spec.specs.declared.schema.Shape.{Shape}
use Rattle.book_spec.specs.declared.schema.Shape.TheVariants.{Tables}
use Rattle.book_spec.specs.declared.schema.Shape.TheVariants as shapes
use Rattle.book_spec.specs.declared.schema.Item.{Item}
use Rattle.book_spec.specs.declared.schema.Item.TheVariants as items

-- ---- the closed lists of words, each word with what it stands for

unfoldable pub kind_words : List (Text × Kind)
kind_words = (codes "disc", Disc) ∷ (codes "bnr", Bnr) ∷ (codes "bcd", Bcd) ∷ []

unfoldable pub sound_words : List (Text × Sound)
sound_words =
    (codes "none", sounds.Quiet) ∷ (codes "sc", sounds.Chime) ∷ (codes "crc", sounds.Repetitive)
    ∷ (codes "cav", sounds.Cavalry) ∷ (codes "cri", sounds.Cricket) ∷ []

-- the sections of the status page, in the order in which they stand there
unfoldable pub section_words : List (Text × ℕ)
section_words =
    (codes "limitations", 0) ∷ (codes "approach", 1) ∷ (codes "procedure", 2) ∷ (codes "information", 3) ∷ (codes "inop", 4) ∷ []

-- the zones of memos: whether it is the left one
unfoldable pub zone_words : List (Text × Bool)
zone_words = (codes "left", true) ∷ (codes "right", false) ∷ []

unfoldable pub colour_words : List (Text × Colour)
colour_words =
    (codes "R", colours.Red) ∷ (codes "A", colours.Amber) ∷ (codes "G", colours.Green) ∷ (codes "W", colours.White)
    ∷ (codes "C", colours.Cyan) ∷ (codes "M", colours.Magenta) ∷ []

-- what a word of such a list stands for
abbrev pub meaning : {A : Type 0} → List (Text × A) → Text → Option A
meaning list word = option_map (λ w. w.1) (find (λ w. same_text word w.0) list)

-- it is a word of its list
unfoldable pub is_word : Words → Text → Bool
is_word words.Kind word = is_some (meaning kind_words word)
is_word words.Sound word = is_some (meaning sound_words word)
is_word words.Section word = is_some (meaning section_words word)
is_word words.Zone word = is_some (meaning zone_words word)
is_word words.Colour word = is_some (meaning colour_words word)

-- ---- keys

-- a key, whether it has to be there, and what it may hold
pub record Key (S : Type 0) : Type 0 where
  pub name : Text
  pub needed : Bool
  pub holds : S

abbrev pub needs : {S : Type 0} → Text → S → Key S
needs key shape = record { name = key; needed = true; holds = shape }

abbrev pub may_have : {S : Type 0} → Text → S → Key S
may_have key shape = record { name = key; needed = false; holds = shape }

-- ---- the tables inside items

-- a row that shows a value has a unit, and a row that shows none has a colour
unfoldable pub row_keys : Bool → List (Key Leaf)
row_keys true = needs (codes "text") (leaves.Text VALUE_ROW_TEXT) ∷ may_have (codes "show") Parameter ∷ may_have (codes "unit") (leaves.Text UNIT) ∷ []
row_keys false = needs (codes "text") (leaves.Text TEXT) ∷ may_have (codes "colour") (Word words.Colour) ∷ []

-- what a source of a parameter of this kind has; without a kind it may have what any has
unfoldable pub reading_keys : Option Kind → List (Key Leaf)
reading_keys (Some Disc) = needs (codes "bit") (Number 11 29) ∷ []
reading_keys (Some Bnr) = needs (codes "low") (Number 11 28) ∷ needs (codes "range") (Number 1 NUMBER) ∷ []
reading_keys (Some Bcd) = []
reading_keys None =
    may_have (codes "bit") (Number 11 29) ∷ may_have (codes "low") (Number 11 28) ∷ may_have (codes "range") (Number 1 NUMBER) ∷ []

unfoldable pub source_keys : Option Kind → List (Key Leaf)
source_keys kind =
    needs (codes "bus") (Number 0 15) ∷ needs (codes "label") Label ∷ may_have (codes "sdi") (Number 0 3) ∷ reading_keys kind

unfoldable pub line_keys : List (Key Leaf)
line_keys =
    needs (codes "text") (leaves.Text TEXT) ∷ may_have (codes "colour") (Word words.Colour)
    ∷ may_have (codes "when") Term ∷ may_have (codes "done") Term ∷ []

unfoldable pub status_keys : List (Key Leaf)
status_keys = needs (codes "section") (Word words.Section) ∷ needs (codes "text") (leaves.Text TEXT) ∷ []

-- the keys of a table inside an item: those of a row go by whether it has the key `show`
unfoldable pub inner_keys : Inner → Members → List (Key Leaf)
inner_keys inner.Row table = row_keys (is_some (get_member (codes "show") table))
inner_keys (inner.Source kind) table = source_keys kind
inner_keys inner.Line table = line_keys
inner_keys inner.Status table = status_keys

-- ---- the items of the sections

unfoldable pub page_keys : List (Key Shape)
page_keys =
    needs (codes "name") (shapes.Leaf Name) ∷ needs (codes "title") (shapes.Leaf (leaves.Text TEXT))
    ∷ may_have (codes "phases") (shapes.Leaf Phases) ∷ may_have (codes "row") (Tables inner.Row 0 PAGE_ROWS) ∷ []

-- the kind that a parameter's table tells, if it is one of the three
unfoldable pub kind_at : Members → Option Kind
kind_at table = string_at (codes "kind") table >>= meaning kind_words

unfoldable pub param_keys : Option Kind → List (Key Shape)
param_keys kind =
    needs (codes "name") (shapes.Leaf Name) ∷ needs (codes "kind") (shapes.Leaf (Word words.Kind))
    ∷ needs (codes "stale") (shapes.Leaf (Number 1 STALE)) ∷ needs (codes "source") (Tables (inner.Source kind) 1 SOURCES) ∷ []

unfoldable pub named_keys : List (Key Shape)
named_keys = needs (codes "name") (shapes.Leaf Name) ∷ needs (codes "when") (shapes.Leaf Term) ∷ []

unfoldable pub phase_keys : List (Key Shape)
phase_keys =
    may_have (codes "gnd") (shapes.Leaf Term) ∷ may_have (codes "run") (shapes.Leaf Term) ∷ may_have (codes "tp") (shapes.Leaf Term)
    ∷ may_have (codes "fast") (shapes.Leaf Term) ∷ may_have (codes "high") (shapes.Leaf Term) ∷ may_have (codes "low") (shapes.Leaf Term) ∷ []

unfoldable pub alert_keys : List (Key Shape)
alert_keys =
    needs (codes "name") (shapes.Leaf Name) ∷ needs (codes "title") (shapes.Leaf (leaves.Text TEXT))
    ∷ needs (codes "system") (shapes.Leaf System) ∷ needs (codes "level") (shapes.Leaf (Number 1 3))
    ∷ needs (codes "when") (shapes.Leaf Term) ∷ may_have (codes "page") (shapes.Leaf Page)
    ∷ may_have (codes "confirm") (shapes.Leaf (Number 0 WAIT)) ∷ may_have (codes "sound") (shapes.Leaf (Word words.Sound))
    ∷ may_have (codes "inhibit") (shapes.Leaf Phases) ∷ may_have (codes "secondary") (shapes.Leaf Alerts)
    ∷ may_have (codes "line") (Tables inner.Line 0 LINES) ∷ may_have (codes "status") (Tables inner.Status 0 STATUS_LINES) ∷ []

unfoldable pub memo_keys : List (Key Shape)
memo_keys =
    needs (codes "name") (shapes.Leaf Name) ∷ needs (codes "text") (shapes.Leaf (leaves.Text TEXT))
    ∷ needs (codes "zone") (shapes.Leaf (Word words.Zone)) ∷ needs (codes "when") (shapes.Leaf Term)
    ∷ may_have (codes "colour") (shapes.Leaf (Word words.Colour)) ∷ []

-- the keys of an item: those of a parameter go by its kind
unfoldable pub item_keys : Item → Members → List (Key Shape)
item_keys items.Page table = page_keys
item_keys items.Param table = param_keys (kind_at table)
item_keys items.Term table = named_keys
item_keys items.Phase table = phase_keys
item_keys items.Alert table = alert_keys
item_keys items.Memo table = memo_keys
