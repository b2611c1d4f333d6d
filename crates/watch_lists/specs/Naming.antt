-- The operands of a book by number, and which condition names which.
use Rattle.std.specs.Prelude.{ℕ, ◌<◌, ◌≤◌, ◌+◌, ◌*◌, ◌==◌, Bool, false, List, length, take, slice_get}
use Rattle.std.specs.List.{list_any}
use Rattle.std.specs.Option.{option_map_or}
use Rattle.ecam_spec.specs.Keys.{IsKey, key_number}
use Rattle.ecam_spec.specs.Book.{Tree, Trees}
use Rattle.ecam_spec.specs.TermSize.{Placed}
use Rattle.ecam_spec.specs.BookTerms.{lines_of}
use Rattle.book_model.specs.declared.draft.Draft.{Draft}
use Rattle.book_model.specs.Sealed.{the_book}
use Rattle.book_model.specs.Conditions.{lines_from}
use Rattle.term_eval.specs.Woken.{Operand, operands, operands_of}
use Rattle.term_eval.specs.Woken.Operand.{value, phase, activity, key, health}
use Rattle.watch_lists.specs.declared.number.Sizes.{Sizes}

abbrev pub sizes_of : Draft → Sizes
sizes_of d = record { params = length d.params.items; alerts = length d.alerts.items }

-- the number of the first condition of line j of an alert
abbrev pub line_number : Draft → ℕ → ℕ → ℕ
line_number d alert j = lines_from (the_book d) + 2 * (length (lines_of (take alert (the_book d).alerts)) + j)

-- the number of an operand: values first, then alerts, the phase, the keys and the two computers
abbrev pub operand_number : Sizes → Operand → ℕ
operand_number n (value p) = p
operand_number n (activity a) = n.params + a
operand_number n phase = n.params + n.alerts
operand_number n (key x) = n.params + n.alerts + 1 + key_number x
operand_number n (health c) = n.params + n.alerts + 25 + c

-- it is a parameter or an alert of the book, a key, or one of the two computers
abbrev pub IsOperand : Sizes → Operand → Type 0
IsOperand n (value p) = p < n.params
IsOperand n (activity a) = a < n.alerts
IsOperand n phase = Unit {0}
IsOperand n (key x) = IsKey x
IsOperand n (health c) = (1 ≤ c) × (c ≤ 2)

-- how many numbers there are
abbrev pub operand_count : Sizes → ℕ
operand_count n = n.params + n.alerts + 28

-- the condition names the operand of number o
abbrev pub names : Sizes → Tree → ℕ → Bool
names n c o = list_any (λ x. operand_number n x == o) (operands c)

-- one of some conditions does
abbrev pub some_name : Sizes → Trees → ℕ → Bool
some_name n cs o = list_any (λ x. operand_number n x == o) (operands_of cs)

-- condition j of some names the operand of number o
unfoldable pub names_at : Sizes → List Placed → ℕ → ℕ → Bool
names_at n ps j o = option_map_or (λ (p : Placed). names n p.tree o) (slice_get ps j) false
