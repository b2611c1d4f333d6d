-- How a worked count is written: by the lines of a record, with `/` where a line ends.
use Rattle.std.specs.Prelude.{ℕ}
use Rattle.ecam_spec.specs.Book.{Text, Book}
use Rattle.ecam_spec.specs.Command.{no_limit}
use Rattle.ecam_spec.specs.Record.{events}
use Rattle.fwc_pair.specs.PairVisits.{tick_visits, history_visits}
use Rattle.worked_rows.specs.Rows.{lines}

-- how many nodes of a book's conditions a Tick has a computer visit that comes behind these lines
abbrev pub visits_behind : Book → Text → ℕ
visits_behind book record_text = tick_visits book (events (lines record_text) no_limit)

-- how many a whole record has computer 1 visit
abbrev pub visits_of : Book → Text → ℕ
visits_of book record_text = history_visits book (events (lines record_text) no_limit) (λ f. f.one)
