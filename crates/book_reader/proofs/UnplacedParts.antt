-- A draft has no place where none of its parts has one.
use Rattle.std.proofs.Common.{◌≡◌, List, [], ◌∷◌, ◌++◌, map}
use Rattle.std.specs.List.{All, flat_map}
use Rattle.std.proofs.lemmas.List.Elements.{All-nil, All-from_recursion, All-head, All-tail, All-append, All-map, All-weaker}
use Rattle.ecam_spec.specs.TermSize.{Placed}
use Rattle.book_model.specs.Slots.{phase_places, line_places, lines_places, when_place, memo_place, draft_places}
use Rattle.book_model.specs.declared.draft.PhaseTerms.{PhaseTerms}
use Rattle.book_model.specs.declared.draft.Line.{Line}
use Rattle.book_model.specs.declared.draft.Alert.{Alert}
use Rattle.book_model.specs.declared.draft.Draft.{Draft}
use Rattle.book_reader.specs.Unplaced.{AreUnplacedPhases, IsUnplacedLine, IsUnplacedAlert, IsUnplacedMemo, IsUnplaced}

-- a condition that has no place yet
abbrev HasNone : Placed → Type 0
HasNone p = p.at ≡ 0

-- what holds of all that each member gives holds of all that they give together
All-flat_map : {X Y : Type 0} (P : Y → Type 0) (f : X → List Y) (xs : List X) → All (λ x. All P (f x)) xs → All P (flat_map f xs)
All-flat_map P f [] each = All-nil P
All-flat_map P f (x ∷ xs) each =
    All-append P (f x) (flat_map f xs) (All-head (λ y. All P (f y)) x xs each) (All-flat_map P f xs (All-tail (λ y. All P (f y)) x xs each))

of_phases : (p : PhaseTerms) → AreUnplacedPhases p → All HasNone (phase_places p)
of_phases p none = All-from_recursion HasNone (phase_places p) (none.0, (none.1, (none.2, (none.3, (none.4, (none.5, tt))))))

of_line : (l : Line) → IsUnplacedLine l → All HasNone (line_places l)
of_line l none = All-from_recursion HasNone (line_places l) (none.0, (none.1, tt))

of_lines : (a : Alert) → IsUnplacedAlert a → All HasNone (lines_places a)
of_lines a none =
    All-flat_map HasNone line_places a.lines.items (All-weaker IsUnplacedLine (λ l. All HasNone (line_places l)) of_line a.lines.items none.1)

-- what holds of four lists holds of them one behind the other
All-four : {X : Type 0} (P : X → Type 0) (a b c d : List X) → All P a → All P b → All P c → All P d → All P (a ++ b ++ c ++ d)
All-four P a b c d on_a on_b on_c on_d = All-append P (a ++ b ++ c) d (All-append P (a ++ b) c (All-append P a b on_a on_b) on_c) on_d

pub parts_unplaced : (d : Draft) → AreUnplacedPhases d.phase → All IsUnplacedAlert d.alerts.items → All IsUnplacedMemo d.memos.items → IsUnplaced d
unfolding draft_places
parts_unplaced d phases alerts memos =
    let given = d.alerts.items in
    All-four HasNone (phase_places d.phase) (map when_place given) (flat_map lines_places given) (map memo_place d.memos.items) (of_phases d.phase phases)
    (All-map HasNone when_place given (All-weaker IsUnplacedAlert (λ a. HasNone (when_place a)) (λ a none. none.0) given alerts))
    (All-flat_map HasNone lines_places given (All-weaker IsUnplacedAlert (λ a. All HasNone (lines_places a)) of_lines given alerts))
    (All-map HasNone memo_place d.memos.items memos)
