-- The watch of a book: which conditions name which operand.
use Rattle.std.specs.Prelude.{◌≡◌, ℕ, suc, ◌<◌, ◌≤◌, false, length, slice_index}
use Rattle.book_model.specs.Sealed.{the_book}
use Rattle.book_model.specs.Conditions.{places}
use Rattle.book_model.specs.declared.draft.Draft.{Draft}
use Rattle.watch_lists.specs.Naming.{sizes_of, operand_count, names_at}
use Rattle.watch_lists.specs.Listed.{has_term}
use Rattle.watch_lists.specs.Flat.{piece}
use Rattle.watch_lists.specs.declared.watch.Watch.{Watch}

-- each list has exactly the conditions of the book that name its operand
pub record IsWatch (d : Draft) (w : Watch) : Type 0 where
  pub count : length w.starts.items.items ≡ suc (operand_count (sizes_of d))
  pub ordered : (o : ℕ) → o < operand_count (sizes_of d) → slice_index w.starts.items.items o ≤ slice_index w.starts.items.items (suc o)
  pub within : (o : ℕ) → o ≤ operand_count (sizes_of d) → slice_index w.starts.items.items o ≤ length w.terms.items.items
  pub lists : (o j : ℕ) → o < operand_count (sizes_of d)
      → has_term (piece w.starts.items.items w.terms.items.items o) j ≡ names_at (sizes_of d) (places (the_book d)) j o

-- no condition of the book names an operand from one up to another
abbrev pub NoneNamed : Draft → ℕ → ℕ → Type 0
NoneNamed d from to = (o j : ℕ) → from ≤ o → o < to → names_at (sizes_of d) (places (the_book d)) j o ≡ false
