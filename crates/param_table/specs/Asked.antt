-- Which parameters a book asks for: those that a condition names or a page shows.
use Rattle.std.specs.Prelude.{ℕ, ◌/◌, ◌==◌, ◌||◌, Bool, false}
use Rattle.std.specs.List.{list_any}
use Rattle.std.specs.Option.{option_map_or}
use Rattle.ecam_spec.specs.Book.{Tree, PageRow, Page, Book}
use Rattle.ecam_spec.specs.TermSize.{Placed}
use Rattle.book_model.specs.Conditions.{places}
use Rattle.term_eval.specs.Woken.{Operand, operands}
use Rattle.term_eval.specs.Woken.Operand.{value, phase, activity, key, health}

-- the operand is the value of parameter p
abbrev pub is_value_of : ℕ → Operand → Bool
is_value_of p (value q) = q == p
is_value_of p phase = false
is_value_of p (activity a) = false
is_value_of p (key x) = false
is_value_of p (health c) = false

-- the condition names parameter p
abbrev pub names_value : ℕ → Tree → Bool
names_value p c = list_any (is_value_of p) (operands c)

-- a condition of the book does
abbrev pub is_named : Book → ℕ → Bool
is_named b p = list_any (λ (c : Placed). names_value p c.tree) (places b)

-- the row shows it
abbrev pub is_shown_in : ℕ → PageRow → Bool
is_shown_in p r = option_map_or (λ q. q == p) r.show false

-- a row of the page does
abbrev pub shows : ℕ → Page → Bool
shows p page = list_any (is_shown_in p) page.rows

-- a page of the book does
abbrev pub is_shown : Book → ℕ → Bool
is_shown b p = list_any (shows p) b.pages

-- the book asks for parameter p: a condition of it names it, or a page shows it
unfoldable pub is_asked_for : Book → ℕ → Bool
is_asked_for b p = is_named b p || is_shown b p

-- the same of the parameter of the source at a place
abbrev pub is_asked_at : Book → ℕ → Bool
is_asked_at b place = is_asked_for b (place / 3)
