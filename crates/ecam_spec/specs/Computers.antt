-- Which conditions and books speak of the computers themselves, and a history without their failures.
use Rattle.std.specs.Prelude.{Bool, true, false, not, List, filter}
use Rattle.std.specs.List.{list_any}
use Rattle.ecam_spec.specs.declared.kinds.Event.{Event}
use Rattle.ecam_spec.specs.Book.{Tree, computer, Book}
use Rattle.ecam_spec.specs.BookTerms.{terms_of}
use Rattle.ecam_spec.specs.DraftFaults.{has_atom}
use Rattle.ecam_spec.specs.History.{changes_computers}

abbrev pub asks_computer : Tree → Bool
asks_computer (computer n) = true
asks_computer _ = false

-- some condition of the book asks whether a computer is up
unfoldable pub names_computer : Book → Bool
names_computer b = list_any (has_atom asks_computer) (terms_of b)

-- a history without the lines on which a computer fails or comes up
abbrev pub without_failures : List Event → List Event
without_failures h = filter (λ e. not (changes_computers e)) h
