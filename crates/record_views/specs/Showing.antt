-- What is written of a history, and of a record.
use Rattle.std.specs.Prelude.{◌≡◌, ℕ, List, [], ◌∷◌, ◌++◌, is_none, if◌then◌else◌}
use Rattle.ecam_spec.specs.declared.kinds.Event.{Event}
use Rattle.ecam_spec.specs.Book.{Text, Book}
use Rattle.ecam_spec.specs.Output.{end_line}
use Rattle.ecam_spec.specs.Record.{fault, events}
use Rattle.ecam_spec.specs.Replay.{history_blocks, tick_count}
use Rattle.fwc_pair.specs.Views.{GoesOn}
use Rattle.fwc_pair.specs.declared.view.View as view

-- what is written of a history, and behind it where a record ends there
pub record Showing : Type 0 where
  pub text : List Event → Text
  pub closing : List Event → Text

-- of no event nothing is written, and what was written stays
pub record Grows (o : Showing) : Type 0 where
  pub begins_empty : o.text [] ≡ []
  pub goes_on : (h : List Event) (e : Event) → GoesOn (o.text h) (o.text (h ++ e ∷ []))

-- that of a replay is the blocks of changes, and the line that ends it
abbrev pub blocks_of : Book → Showing
blocks_of b = record { text = history_blocks b; closing = λ h. end_line (tick_count h) }

-- that of a view with these settings
abbrev pub shown_by : {V : Type 0} (g : view.Ghosts V) → g.Settings → Book → Showing
shown_by g s b = record { text = g.text s b; closing = g.closing s b }

-- what is written of a record under a limit on its bytes: the text of the events before its first
-- fault, and without a fault the closing
abbrev pub output_of : Showing → Text → ℕ → Text
output_of o text limit =
    o.text (events text limit)
    ++ (if is_none (fault text limit) then o.closing (events text limit) else [])
