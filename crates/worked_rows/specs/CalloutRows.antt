-- How a worked row of the callouts is written.
use Rattle.std.specs.Prelude.{ℕ, ◌++◌}
use Rattle.ecam_spec.specs.Book.{Text, Book}
use Rattle.ecam_spec.specs.Command.{no_limit}
use Rattle.ecam_spec.specs.Record.{events}
use Rattle.view_spec.specs.Ticks.{texts, each_tick}
use Rattle.view_spec.specs.Callouts as spec
use Rattle.view_spec.specs.Callouts.{heights, armed, crossed, call, text, closing}
use Rattle.worked_rows.specs.Rows.{lines}

-- what `callouts` writes of a record without a fault, for a parameter by its place in the book
abbrev pub called : Book → ℕ → Text → Text
called book param record_text = let h = events (lines record_text) no_limit in text book param h ++ closing h

-- one word that opens the definitions of the callouts, so that such a row computes
unfoldable pub opened_callouts : Unit {0}
unfolding texts each_tick heights armed crossed call spec.called
opened_callouts = tt
