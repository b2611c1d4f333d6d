-- The flags of the procedure lines: what they say, and which are looked at.
use Rattle.std.specs.Prelude.{◌≡◌, ℕ, suc, ◌<◌, ◌≤◌, Bool, true, false, not, ◌&&◌, List, length, take, slice_index, slice_index_or, All}
use Rattle.ecam_spec.specs.Book.{Book}
use Rattle.ecam_spec.specs.BookTerms.{lines_of}

-- how many lines the alerts before one have
abbrev pub lines_before : Book → ℕ → ℕ
lines_before b a = length (lines_of (take a b.alerts))

-- alert a has line n of all
pub record HasLine (b : Book) (a n : ℕ) : Type 0 where
  pub from : lines_before b a ≤ n
  pub to : n < lines_before b (suc a)

-- a list has, for each line of the book, the alert that has it
pub record AreLineAlerts (b : Book) (alerts : List ℕ) : Type 0 where
  pub lines : length alerts ≡ length (lines_of b.alerts)
  pub within : All (λ a. a < length b.alerts) alerts
  pub has : (n : ℕ) → n < length alerts → HasLine b (slice_index alerts n) n

-- each line of an alert that is shown has the flag that it had
abbrev pub KeepsShown : Book → List Bool → List Bool → List Bool → Type 0
KeepsShown b shown old new = (a n : ℕ) → slice_index_or shown a false ≡ true → HasLine b a n → slice_index_or new n false ≡ slice_index_or old n false

-- the line whose first condition has number n stands, by these truths of all conditions
abbrev pub stands_by : List Bool → ℕ → Bool
stands_by truths n = slice_index_or truths n false && not (slice_index_or truths (suc n) false)
