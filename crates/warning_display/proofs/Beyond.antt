-- The shown alerts whose titles stand beyond the seventh row.
use Rattle.std.proofs.Common.{◌≡◌, ℕ, ◌+◌, ◌<◌, ◌≤◌, Bool, List, [], ◌∷◌, ◌++◌, length, take, drop, cond, inl, inr, sym, ◌∙◌, ap, arith}
use Rattle.std.specs.Prelude.{filter}
use Rattle.std.proofs.lemmas.Bool.{le-leb, cases_lt}
use Rattle.std.proofs.lemmas.List.{append-nil, append_assoc, drop_all, length-append, length-map, map-append, nil_from_length}
use Rattle.std.proofs.lemmas.Grind.{flat_map-append}
use Rattle.ecam_spec.specs.Book.{Line, Book}
use Rattle.ecam_spec.specs.LeftZone.{LeftRow, alert_rows, overflow}
use Rattle.ecam_spec.specs.Situation.{alert_at}
use Rattle.zone_rows.specs.Tracked.{TrackedRows}
use Rattle.zone_rows.specs.Mended.{Appends}
use Rattle.zone_rows.proofs.Filling.{append-both, append-past, append-full}
use Rattle.warning_display.specs.LeftRows.{rows_in, blocks}
use Rattle.warning_display.proofs.Passing.{filter-parts}
use Rattle.warning_display.proofs.Titles.{titles-more, counted-first}

-- behind seven rows each title counts
overflow-past : (b : Book) (stands : Line → Bool) (rows : List LeftRow) (alerts : List ℕ) → 7 ≤ length rows → overflow (rows ++ blocks b stands alerts) ≡ overflow rows + length alerts
unfolding overflow
overflow-past b stands rows [] seven = ap overflow (append-nil rows) ∙ omega arith
overflow-past b stands rows (a ∷ rest) seven =
    let these = alert_rows stands a (alert_at b a) in
    let long : 7 ≤ length (rows ++ these) = omega (arith, length-append rows these) in
    let one : overflow (rows ++ these) ≡ overflow rows + 1 = titles-more 7 rows stands a (alert_at b a) ∙ ap (λ q. overflow rows + cond q 1 0) (le-leb 7 (length rows) seven) in
    ap overflow (sym (append_assoc rows these (blocks b stands rest))) ∙ overflow-past b stands (rows ++ these) rest long ∙ omega (arith, one)

-- and no row is put
put-past : (b : Book) (stands : Line → Bool) (alerts : List ℕ) (count : ℕ) (t : TrackedRows) → 0 < length alerts → 7 ≤ count → Appends 0 7 (rows_in (blocks b stands alerts)) count 8 t t
unfolding alert_rows
put-past b stands [] count t some seven = absurd (let w : ⊥ = omega arith in w)
put-past b stands (a ∷ rest) count t some seven =
    append-both 0 7 (_ ∷ []) _ count 8 8 t t t (append-past 0 7 count _ t seven) (append-full 0 7 8 _ t (omega arith))

module _ (b : Book) (stands : Line → Bool) (shown : ℕ → Bool) (order : List ℕ) (next : ℕ) where
  abbrev before : List ℕ
  before = filter shown (take next order)

  abbrev rest : List ℕ
  rest = filter shown (drop next order)

  both : blocks b stands (filter shown order) ≡ blocks b stands before ++ blocks b stands rest
  both = ap (blocks b stands) (filter-parts shown next order) ∙ flat_map-append (λ a. alert_rows stands a (alert_at b a)) before rest

  -- where none is left, all are put
  pub none-beyond : length (filter shown (drop next order)) ≡ 0 → filter shown order ≡ filter shown (take next order)
  none-beyond none = filter-parts shown next order ∙ ap (λ xs. before ++ xs) (nil_from_length rest none) ∙ append-nil before

  -- where some are left, seven rows stand, since else all would be put
  module _ (count : ℕ) (all : count < 7 → next ≡ length order) (some : 0 < length (filter shown (drop next order))) where
    seven : 7 ≤ count
    seven = elim (cases_lt count 7) [
      | inl h ↦ absurd (let w : ⊥ = omega (arith, all h, some, ap (λ xs. length (filter shown xs)) (drop_all next order (omega (arith, all h)))) in w)
      | inr h ↦ h
    ]

    pub rows-beyond : (s t : TrackedRows) → Appends 0 7 (rows_in (blocks b stands (filter shown (take next order)))) 0 count s t → Appends 0 7 (rows_in (blocks b stands (filter shown order))) 0 8 s t
    rows-beyond s t put =
        let both_rows : rows_in (blocks b stands (filter shown order)) ≡ rows_in (blocks b stands before) ++ rows_in (blocks b stands rest)
        = ap rows_in both ∙ map-append (λ (r : LeftRow). r.row) (blocks b stands before) (blocks b stands rest) in
        rw both_rows (append-both 0 7 (rows_in (blocks b stands before)) (rows_in (blocks b stands rest)) 0 count 8 s t t put (put-past b stands rest count t some seven))

    pub titles-beyond : (s t : TrackedRows) → Appends 0 7 (rows_in (blocks b stands (filter shown (take next order)))) 0 count s t → overflow (blocks b stands (filter shown (take next order))) ≡ 0
        → length (filter shown (drop next order)) ≡ overflow (blocks b stands (filter shown order))
    titles-beyond s t put none =
        let many : 7 ≤ length (blocks b stands before)
        = omega (arith, seven, counted-first (rows_in (blocks b stands before)) count s t put, length-map (blocks b stands before) (λ (r : LeftRow). r.row)) in
        omega (arith, none, overflow-past b stands (blocks b stands before) rest many, ap overflow both)
