-- What the rows of a page show of a book and its values.
use Rattle.std.specs.Prelude.{◌≡◌, ℕ, ◌<◌, ◌≤◌, ℤ, pos, neg_ℤ, ◌≤ℤ◌, false, List, [], ◌∷◌, map, length, slice_index_or, Option, Some, None, All, IfSome}
use Rattle.ecam_spec.specs.declared.limits.TheConstants.{VALUE_ROW_TEXT, UNIT, NUMBER}
use Rattle.ecam_spec.specs.declared.kinds.Colour.TheVariants.{White}
use Rattle.ecam_spec.specs.Book as plain
use Rattle.ecam_spec.specs.Situation.{parameter_at}
use Rattle.ecam_spec.specs.Picture.{Row, row}
use Rattle.ecam_spec.specs.History.{Moment}
use Rattle.ecam_spec.specs.Selection.{choice}
use Rattle.ecam_spec.specs.Screen.{panel, display}
use Rattle.ecam_spec.specs.SystemDisplay.{Display, page_row, display_rows}
use Rattle.wakes.specs.Marks.{is_marked}
use Rattle.book_model.specs.declared.draft.PageRow.{PageRow}

-- the display shows these values of the book's parameters, each by the parameter's kind
pub record Displays (b : plain.Book) (these : List (Option ℤ)) (d : Display) : Type 0 where
  pub kinds : (p : ℕ) → p < length b.parameters → d.kinds p ≡ (parameter_at b p).kind
  pub values : (p : ℕ) → p < length b.parameters → d.values p ≡ slice_index_or these p None

-- both displays show the book's parameters by the same kinds, and those that aren't marked with the same value
pub record DifferBy (b : plain.Book) (turned : List ℕ) (was d : Display) : Type 0 where
  pub kinds : (p : ℕ) → p < length b.parameters → was.kinds p ≡ d.kinds p
  pub values : (p : ℕ) → p < length b.parameters → is_marked turned p ≡ false → was.values p ≡ d.values p

-- a value from -1000000 to 1000000, which has at most eight places
abbrev pub IsShort : ℤ → Type 0
IsShort z = (neg_ℤ (pos NUMBER) ≤ℤ z) × (z ≤ℤ pos NUMBER)

abbrev pub AreShort : List (Option ℤ) → Type 0
AreShort values = All (λ v. IfSome v IsShort) values

-- a row's text and unit leave room for a value
pub record LeavesRoom (r : PageRow) : Type 0 where
  pub text : length r.text.bytes ≤ VALUE_ROW_TEXT
  pub unit : IfSome r.unit (λ u. length u.bytes ≤ UNIT)

-- the rows of these lines of a page
abbrev pub lines_of : Display → List plain.PageRow → List Row
lines_of d lines = map (λ (r : plain.PageRow). page_row d r r.show) lines

-- the rows of a page, if there is one, without the blank rows behind them
abbrev pub rows_on : Display → Option plain.Page → List Row
rows_on d None = []
rows_on d (Some p) = row White p.title ∷ lines_of d p.rows

-- S01 to S18 in moment k
abbrev pub display_in : plain.Book → (ℕ → Moment) → ℕ → List Row
display_in b m k = display_rows (display b m k) (choice (panel b m) k)
