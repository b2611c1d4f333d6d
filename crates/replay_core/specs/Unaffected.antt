-- What a replay writes where one computer stays up.
use Rattle.std.specs.Prelude.{◌≡◌, ℕ, false, List, take, None}
use Rattle.ecam_spec.specs.declared.kinds.Event.{Event}
use Rattle.ecam_spec.specs.Book.{Text, Book}
use Rattle.ecam_spec.specs.Computers.{names_computer, without_failures}
use Rattle.ecam_spec.specs.History.{none_up, flags_after}
use Rattle.ecam_spec.specs.Record.{fault, events}

-- no event of the history leaves both computers down
abbrev pub StaysUp : List Event → Type 0
StaysUp h = (i : ℕ) → none_up (flags_after (take i h)) ≡ false

-- the history has no line on which a computer fails while the other is down, and no condition of
-- the book asks for one
pub record IsUnaffected (b : Book) (h : List Event) : Type 0 where
  pub names_none : names_computer b ≡ false
  pub stays_up : StaysUp h

-- a record without a fault that says what this one does, but for the lines on which computers fail
-- and come up
pub record DropsFailures (text bare : Text) (limit : ℕ) : Type 0 where
  pub faultless : fault bare limit ≡ None
  pub others : events bare limit ≡ without_failures (events text limit)
