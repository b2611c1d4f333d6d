-- Words, and what stands beside them.
use Rattle.std.specs.Prelude.{ℕ, List, find, Option, option_map}
use Rattle.std.specs.Borrow.{Bor}
use Rattle.std.specs.Str.{bytes_eq}
use Rattle.ecam_spec.specs.Book.{Text}

-- what stands beside a word in a table
abbrev pub found_in : {X : Type 0} → List (Bor (List ℕ) × X) → Text → Option X
found_in table word = option_map (λ e. e.1) (find (λ e. bytes_eq word e.0.now) table)
