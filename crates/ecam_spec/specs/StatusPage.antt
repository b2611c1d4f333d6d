-- The status page, and the flags row that tells of it. The sections are the A320's in outline (DSC-31); the
-- layout is this project's own.
use Rattle.std.specs.Prelude.{ℕ, ◌+◌, ◌-◌, ◌*◌, ◌/◌, ◌%◌, Bool, ◌==◌, nat_lt, max, List, [], ◌∷◌, ◌++◌, map, length, drop, filter, flat_map, codes, decimal, if◌then◌else◌}
use Rattle.std.specs.List.{join_by}
use Rattle.ecam_spec.specs.declared.kinds.Colour.{Colour}
use Rattle.ecam_spec.specs.declared.kinds.Colour.TheVariants.{Amber, Green, White, Cyan}
use Rattle.ecam_spec.specs.declared.limits.TheConstants.{DISPLAY_ROWS}
use Rattle.ecam_spec.specs.Book.{Text, StatusLine, Alert}
use Rattle.ecam_spec.specs.Picture.{Row, row, blank_row, zone}

-- the five sections, 0 to 4, in their order: limitations, approach, procedure, information, inop
unfoldable pub sections : List (ℕ × Colour)
sections = (0, Cyan) ∷ (1, White) ∷ (2, Cyan) ∷ (3, Green) ∷ (4, Amber) ∷ []

-- a section's lines of some alerts
unfoldable pub section_rows : List Alert → ℕ × Colour → List Row
section_rows alerts s =
    flat_map (λ (a : Alert). map (λ (l : StatusLine). row s.1 l.text) (filter (λ (l : StatusLine). l.section == s.0) a.status)) alerts

-- the cancelled cautions, under their heading
unfoldable pub cancelled_rows : List Alert → List Row
cancelled_rows [] = []
cancelled_rows (a ∷ as') = row White (codes "CANCELLED CAUTION") ∷ map (λ (b : Alert). row Amber b.title) (a ∷ as')

-- all rows: the lines of the active alerts, section by section, and then the active cautions that are
-- cancelled. Both lists are in the book's order
unfoldable pub status_rows : List Alert → List Alert → List Row
status_rows active cancelled = flat_map (section_rows active) sections ++ cancelled_rows cancelled

-- how many pages they take
unfoldable pub status_pages : List Row → ℕ
status_pages rows = max 1 ((length rows + (DISPLAY_ROWS - 1)) / DISPLAY_ROWS)

-- the eighteen rows of status page q, counted round
unfoldable pub status_page : ℕ → List Row → List Row
status_page q [] = zone DISPLAY_ROWS (row Green (codes "NORMAL") ∷ [])
status_page q (r ∷ rows) = zone DISPLAY_ROWS (drop (DISPLAY_ROWS * (q % status_pages (r ∷ rows))) (r ∷ rows))

-- the flags: more than seven left rows, the titles beyond them, the right rows beyond, status rows
unfoldable pub flags : Bool → ℕ → ℕ → List Row → List Text
flags more titles right status =
    (if more then codes "v" ∷ [] else [])
    ++ (if nat_lt 0 titles then (codes "OVF " ++ decimal titles) ∷ [] else [])
    ++ (if nat_lt 0 right then (codes "RGT " ++ decimal right) ∷ [] else [])
    ++ (if nat_lt 0 (length status) then codes "STS" ∷ [] else [])

-- FL: the flags, with one blank between them
unfoldable pub flags_row : List Text → Row
flags_row [] = blank_row
flags_row (f ∷ fs) = row White (join_by (λ t. t) (codes " ") (f ∷ fs))
