-- What the selector keeps of the moments so far.
use Rattle.std.specs.Prelude.{◌≡◌, ◌↔◌, ℕ, zero, suc, ◌<◌, ◌^◌, min, nat_lt, false, ◌&&◌, length, Option, Some, None, if◌then◌else◌}
use Rattle.ecam_spec.specs.declared.kinds.Choice.{Choice}
use Rattle.ecam_spec.specs.declared.kinds.Choice.TheVariants.{Auto, Page, Status}
use Rattle.ecam_spec.specs.Past.{running_since}
use Rattle.ecam_spec.specs.Book.{Book}
use Rattle.ecam_spec.specs.Selection.{Panel, page_in_turn, choice, last_number}
use Rattle.ecam_spec.specs.Runs.{choice_before, status_ahead}
use Rattle.system_display.specs.declared.selection.Selection.{Selection}
use Rattle.system_display.specs.declared.selector.Selector.{Selector}

-- a page that is chosen is one of so many
abbrev pub IsChoiceOf : ℕ → Choice → Type 0
IsChoiceOf pages Auto = Unit {0}
IsChoiceOf pages (Page i) = i < pages
IsChoiceOf pages (Status n) = Unit {0}

-- the last of the first k moments left the choice as it was; before the first nothing has changed
abbrev pub IsKept : Panel → ℕ → Type 0
IsKept p zero = Unit {0}
IsKept p (suc k) = choice p k ≡ choice_before p k

-- this is the selection after the first k moments
pub record IsSelection (p : Panel) (k : ℕ) (s : Selection) : Type 0 where
  pub choice : s.choice ≡ choice_before p k
  pub next_status : s.next_status ≡ min last_number (status_ahead p k)

-- the page that ALL shows in moment k, where it shows one
abbrev pub page_of_all : Panel → ℕ → Option ℕ
page_of_all p k = if p.all_held k && nat_lt 0 p.pages then Some (page_in_turn p k) else None

-- the selector stands for the first k moments of the panel
pub record Stands (p : Panel) (k : ℕ) (s : Selector) : Type 0 where
  pub moments : s.moments ≡ k
  pub all_since : s.all_since ≡ running_since p.all_held k
  pub selection : IsSelection p k s.selection
  pub changed : (s.changed ≡ false) ↔ IsKept p k

-- the selector is one of the book's: where it chose a page, the book has it
abbrev pub SelectorFits : Book → Selector → Type 0
SelectorFits b s = IsChoiceOf (length b.pages) s.selection.choice

-- the number of moments can grow: 2 ^ 63 moments of 100 ms are 29 thousand million years
abbrev pub CanGoOn : Selector → Type 0
CanGoOn s = s.moments < 2 ^ 63
