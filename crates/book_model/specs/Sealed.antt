-- What is so of each book that is sealed.
use Rattle.std.specs.Prelude.{◌≡◌, map, None}
use Rattle.ecam_spec.specs.Book as book
use Rattle.ecam_spec.specs.Draft.{book_of, resolved, alert_names}
use Rattle.ecam_spec.specs.KeepsLimits.{IsSound}
use Rattle.ecam_spec.specs.DraftFaults.{draft_fault}
use Rattle.ecam_spec.specs.BookTerms.{terms_of}
use Rattle.ecam_spec.specs.TermSize.{trees, placed}
use Rattle.book_model.specs.View.{alert_of, draft_of}
use Rattle.book_model.specs.Slots.{draft_places}
use Rattle.book_model.specs.declared.draft.Alert.{Alert}
use Rattle.book_model.specs.declared.draft.Draft.{Draft}

-- the book that a sealed draft is
abbrev pub the_book : Draft → book.Book
the_book d = book_of (draft_of d)

-- an alert of the draft as the book has it
abbrev pub alert_in : Draft → Alert → book.Alert
alert_in d x = resolved (alert_names (map alert_of d.alerts.items)) (alert_of x)

-- it keeps its limits, has no fault, and the slots of its conditions follow one another from 0
pub record IsSealed (d : Draft) : Type 0 where
  pub sound : IsSound (draft_of d)
  pub faultless : draft_fault (draft_of d) ≡ None
  pub placed : draft_places d ≡ placed 0 (trees (terms_of (the_book d)))
