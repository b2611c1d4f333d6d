-- A draft none of whose conditions has a place among the book's slots yet.
use Rattle.std.specs.Prelude.{◌≡◌, All}
use Rattle.book_model.specs.Slots.{draft_places}
use Rattle.book_model.specs.declared.draft.Term.{Term}
use Rattle.book_model.specs.declared.draft.PhaseTerms.{PhaseTerms}
use Rattle.book_model.specs.declared.draft.Line.{Line}
use Rattle.book_model.specs.declared.draft.Alert.{Alert}
use Rattle.book_model.specs.declared.draft.Memo.{Memo}
use Rattle.book_model.specs.declared.draft.Draft.{Draft}

-- the place where a condition's slots begin isn't told: 0 stands for it
abbrev pub IsUnplacedTerm : Term → Type 0
IsUnplacedTerm t = t.at ≡ 0

-- nor is that of any condition of the flight phase
abbrev pub AreUnplacedPhases : PhaseTerms → Type 0
AreUnplacedPhases p =
    IsUnplacedTerm p.gnd × IsUnplacedTerm p.run × IsUnplacedTerm p.tp × IsUnplacedTerm p.fast × IsUnplacedTerm p.high × IsUnplacedTerm p.low

-- nor of a line
abbrev pub IsUnplacedLine : Line → Type 0
IsUnplacedLine l = IsUnplacedTerm l.when × IsUnplacedTerm l.done

-- nor of an alert, its lines included
abbrev pub IsUnplacedAlert : Alert → Type 0
IsUnplacedAlert a = IsUnplacedTerm a.when × All IsUnplacedLine a.lines.items

-- nor of a memo
abbrev pub IsUnplacedMemo : Memo → Type 0
IsUnplacedMemo m = IsUnplacedTerm m.when

-- nor of any condition of a whole draft
abbrev pub IsUnplaced : Draft → Type 0
IsUnplaced d = All (λ p. p.at ≡ 0) (draft_places d)
