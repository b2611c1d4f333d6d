-- Advisories: a value that drifts out of its range is told, and calls its page where no alert is shown and no page is
-- chosen. The rules are this project's own.
use Rattle.std.specs.Prelude.{ℕ, zero, suc, ◌<◌, All, Bool, true, false, not, ◌&&◌, ◌||◌, ℤ, ◌+ℤ◌, ◌-ℤ◌, int_lt, int_le, List, [], ◌∷◌, ◌++◌, codes, decimal, length, get_or, filter, Option, is_some, if◌then◌else◌}
use Rattle.ecam_spec.specs.declared.kinds.Event.{Event}
use Rattle.ecam_spec.specs.declared.kinds.Choice.{Choice}
use Rattle.ecam_spec.specs.declared.kinds.Choice.TheVariants.{Auto}
use Rattle.ecam_spec.specs.Past.{Signal, historically_within, since}
use Rattle.ecam_spec.specs.Bytes.{same_text}
use Rattle.ecam_spec.specs.Book.{Text, Page, Book}
use Rattle.ecam_spec.specs.Term.{in_set, is_so}
use Rattle.ecam_spec.specs.History.{Moment, era}
use Rattle.ecam_spec.specs.Situation.{value_in, phase_in}
use Rattle.ecam_spec.specs.Screen.{shown_in, panel}
use Rattle.ecam_spec.specs.Selection.{choice}
use Rattle.ecam_spec.specs.Output.{line, end_line}
use Rattle.ecam_spec.specs.Replay.{tick_count, through, moment_of}
use Rattle.view_spec.specs.Ticks.{is_up, last_moment, each_tick}

-- a parameter's range, and the page that a value out of it calls; parameter and page go by their places in the book
pub record Advisory : Type 0 where
  pub name : Text
  pub param : ℕ
  pub page : ℕ
  -- the range, and by how much inside it a value is back
  pub low : ℤ
  pub high : ℤ
  pub margin : ℤ
  -- in how many moments before this one the value has to have been out of its range too
  pub confirm : ℕ
  -- the phases in which nothing is told
  pub inhibit : ℕ

-- its parameter and its page are the book's
pub record IsWithin (b : Book) (a : Advisory) : Type 0 where
  pub param : a.param < length b.parameters
  pub page : a.page < length b.pages

-- the limits fit a book
abbrev pub Fit : Book → List Advisory → Type 0
Fit b limits = All (IsWithin b) limits

-- ---- what drifts

-- a value is below its range or above it
abbrev pub is_outside : Advisory → ℤ → Bool
is_outside a z = int_lt z a.low || int_lt a.high z

-- it is inside its range by the margin
abbrev pub is_well_inside : Advisory → ℤ → Bool
is_well_inside a z = int_le (a.low +ℤ a.margin) z && int_le z (a.high -ℤ a.margin)

module _ (a : Advisory) (values : ℕ → Option ℤ) where
  -- there is a value, and it is out of its range
  unfoldable pub is_out : Signal
  is_out k = is_so (is_outside a) (values k)

  -- there is a value, and it is back
  unfoldable pub is_back : Signal
  is_back k = is_so (is_well_inside a) (values k)

  -- it was out for as long as it has to be, and each moment since had a value that wasn't back
  unfoldable pub drift : Signal
  drift = since (historically_within a.confirm is_out) (λ k. is_some (values k) && not (is_back k))

-- ---- what is told

-- the panel's two rows; an empty one is blank
pub record Rows : Type 0 where
  pub advisory : Text
  pub page : Text

abbrev pub blank_rows : Rows
blank_rows = record { advisory = []; page = [] }

-- the name of the first of these advisories, and how many they are
abbrev pub advisory_row : List Advisory → Text
advisory_row [] = []
advisory_row (a ∷ rest) = a.name ++ 32 ∷ decimal (length (a ∷ rest))

abbrev pub no_page : Page
no_page = record { name = []; title = []; phases = 0; rows = [] }

-- the name of the page that the first of them calls
abbrev pub page_row : Book → List Advisory → Text
page_row b [] = []
page_row b (a ∷ rest) = (get_or b.pages a.page no_page).name

abbrev pub is_empty : List ℕ → Bool
is_empty [] = true
is_empty _ = false

abbrev pub is_automatic : Choice → Bool
is_automatic Auto = true
is_automatic _ = false

-- the rows that tell these advisories; a page is called where the display is free for it
abbrev pub rows_of_told : Book → Bool → List Advisory → Rows
rows_of_told b free told = record { advisory = advisory_row told; page = if free then page_row b told else [] }

module _ (b : Book) (moments : ℕ → Moment) where
  -- the value drifts, and the phase doesn't inhibit the advisory
  unfoldable pub is_advised : Advisory → Signal
  is_advised a k = drift a (value_in b moments a.param) k && not (in_set a.inhibit (phase_in b moments k))

  -- no alert is shown, and the keys have chosen nothing
  unfoldable pub is_free : Signal
  is_free k = is_empty (shown_in b moments k) && is_automatic (choice (panel b moments) k)

  -- the rows of moment k: of what is advised in it, in the order of the file
  unfoldable pub rows_in : List Advisory → ℕ → Rows
  rows_in limits k = rows_of_told b (is_free k) (filter (λ a. is_advised a k) limits)

-- ---- what is written

-- a row that changed: its name and its text, or a dash for a blank one
abbrev pub text_or_dash : Text → Text
text_or_dash [] = codes "-"
text_or_dash (byte ∷ bytes) = byte ∷ bytes

abbrev pub row_line : Text → Text → Text → Text
row_line name old new = if same_text old new then [] else line (name ++ 32 ∷ text_or_dash new)

abbrev pub row_lines : Rows → Rows → Text
row_lines old new = row_line (codes "AD") old.advisory new.advisory ++ row_line (codes "PG") old.page new.page

-- the line of Tick number t before those of the rows that changed, and nothing where none did
abbrev pub headed : ℕ → Text → Text
headed t [] = []
headed t (byte ∷ bytes) = line (64 ∷ decimal t) ++ byte ∷ bytes

abbrev pub block : ℕ → Rows → Rows → Text
block t old new = headed t (row_lines old new)

module _ (b : Book) (limits : List Advisory) where
  -- the rows at the Tick that ends a history: those of the last whole moment of its era, blank while no computer is up
  unfoldable pub rows_at : List Event → Rows
  rows_at h = if is_up h then rows_in b (moment_of (era h)) limits (last_moment (era h)) else blank_rows

  -- the rows at the Tick before Tick number t of a history; blank before the first
  unfoldable pub rows_before : ℕ → List Event → Rows
  rows_before zero h = blank_rows
  rows_before (suc t) h = rows_at (through (suc t) h)

  -- what is written at Tick number t, which ends the history
  abbrev pub tick_text : ℕ → List Event → Text
  tick_text t h = block t (rows_before t h) (rows_at h)

  -- what is written of a history
  abbrev pub text : List Event → Text
  text = each_tick tick_text

-- and behind it, where the record ends there
abbrev pub closing : List Event → Text
closing h = end_line (tick_count h)
