-- What one row set mends, and what is mended in turn.
use Rattle.std.proofs.Common.{◌≡◌, ◌≢◌, ℕ, ◌+◌, ◌<◌, ◌≤◌, false, not, ◌||◌, List, [], ◌∷◌, ◌++◌, length, take, drop, get_or, inl, inr, refl, sym, ◌∙◌, ap, arith, append_assoc}
use Rattle.std.proofs.Math.Bool.{or-false}
use Rattle.std.proofs.lemmas.Bool.{cases_eq, cases_lt}
use Rattle.std.proofs.lemmas.List.{take-append-drop, get_or-set_same, get_or-set_other, length-set}
use Rattle.std.proofs.Math.Seq.{take-add}
use Rattle.ecam_spec.specs.Picture as spec
use Rattle.zone_rows.specs.Tracked.{TrackedRows, IsWhole, row_at, changed_at, differs}
use Rattle.zone_rows.specs.Mended.{put_rows, Mends}
use Rattle.zone_rows.specs.Zones.{StandAt}
use Rattle.zone_rows.proofs.Same.{SetsRow, same_row-self}
use Rattle.zone_rows.proofs.Places.{length-put, row-before, row-behind, put-both, put-one}

-- a row that stayed doesn't differ
pub stayed : (old new : TrackedRows) (i : ℕ) → row_at new i ≡ row_at old i → differs old new i ≡ false
stayed old new i e = ap (λ r. not (spec.same_row (row_at old i) r)) e ∙ ap not (same_row-self (row_at old i))

pub whole-set : (place : ℕ) (r : spec.Row) (old new : TrackedRows) → SetsRow place r old new → IsWhole old → IsWhole new
whole-set place r old new s whole = record {
  rows = ap length s.rows ∙ length-set old.rows place r ∙ whole.rows;
  changed = ap length s.changed ∙ length-set old.changed place (changed_at old place || not (spec.same_row (row_at old place) r)) ∙ whole.changed;
}

module _ (place : ℕ) (r : spec.Row) (old new : TrackedRows) (whole : IsWhole old) (within : place < 36) (s : SetsRow place r old new) where
  told-there : changed_at new place ≡ (changed_at old place || differs old new place)
  told-there =
      let now : row_at new place ≡ r =
      ap (λ rs. get_or rs place spec.blank_row) s.rows ∙ get_or-set_same old.rows place r spec.blank_row (omega (arith, whole.rows)) in
      ap (λ bs. get_or bs place false) s.changed
      ∙ get_or-set_same old.changed place (changed_at old place || not (spec.same_row (row_at old place) r)) false (omega (arith, whole.changed))
      ∙ ap (λ x. changed_at old place || not (spec.same_row (row_at old place) x)) (sym now)

  told-elsewhere : (i : ℕ) → i ≢ place → changed_at new i ≡ (changed_at old i || differs old new i)
  told-elsewhere i apart =
      let same : row_at new i ≡ row_at old i =
      ap (λ rs. get_or rs i spec.blank_row) s.rows ∙ get_or-set_other old.rows place i r spec.blank_row apart in
      ap (λ bs. get_or bs i false) s.changed
      ∙ get_or-set_other old.changed place i (changed_at old place || not (spec.same_row (row_at old place) r)) false apart
      ∙ sym (ap (λ b. changed_at old i || b) (stayed old new i same) ∙ or-false (changed_at old i))

  pub mends-one : Mends place (r ∷ []) old new
  mends-one = record {
    rows = s.rows ∙ sym (put-one place old.rows r (omega (arith, whole.rows)));
    changed = λ i h. elim (cases_eq i place) [
      | inl e ↦ rw e told-there
      | inr ne ↦ told-elsewhere i ne
    ];
  }

-- rows, and then those behind them
module _ (at : ℕ) (these those : List spec.Row) (old mid new : TrackedRows) (within : at + length these ≤ length old.rows) (first : Mends at these old mid) (second : Mends (at + length these) those mid new) where
  changed-front : (i : ℕ) → i < 36 → i < at + length these → changed_at new i ≡ (changed_at old i || differs old new i)
  changed-front i h front =
      let long : length mid.rows ≡ length old.rows = ap length first.rows ∙ length-put at these old.rows within in
      let row : row_at new i ≡ row_at mid i =
      ap (λ rs. get_or rs i spec.blank_row) second.rows ∙ row-before (at + length these) those mid.rows i (omega (arith, long)) front in
      second.changed i h
      ∙ ap (λ b. changed_at mid i || b) (stayed mid new i row)
      ∙ or-false (changed_at mid i)
      ∙ first.changed i h
      ∙ ap (λ r. changed_at old i || not (spec.same_row (row_at old i) r)) (sym row)

  changed-behind : (i : ℕ) → i < 36 → at + length these ≤ i → changed_at new i ≡ (changed_at old i || differs old new i)
  changed-behind i h behind =
      let row : row_at mid i ≡ row_at old i =
      ap (λ rs. get_or rs i spec.blank_row) first.rows ∙ row-behind at these old.rows within i behind in
      second.changed i h
      ∙ ap (λ r. changed_at mid i || not (spec.same_row r (row_at new i))) row
      ∙ ap (λ b. b || differs old new i) (first.changed i h ∙ ap (λ b. changed_at old i || b) (stayed old mid i row) ∙ or-false (changed_at old i))

  pub mends-both : Mends at (these ++ those) old new
  mends-both = record {
    rows = second.rows ∙ ap (put_rows (at + length these) those) first.rows ∙ put-both at these old.rows within those;
    changed = λ i h. elim (cases_lt i (at + length these)) [
      | inl front ↦ changed-front i h front
      | inr behind ↦ changed-behind i h behind
    ];
  }

rejoin : (at n : ℕ) (rows : List spec.Row) → take at rows ++ (take n (drop at rows) ++ drop (at + n) rows) ≡ rows
rejoin at n rows =
    sym (append_assoc (take at rows) (take n (drop at rows)) (drop (at + n) rows))
    ∙ ap (λ rs. rs ++ drop (at + n) rows) (sym (take-add at n rows))
    ∙ take-append-drop (at + n) rows

-- a zone that stands already is mended already
pub mends_kept : (at : ℕ) (put : List spec.Row) (t : TrackedRows) → StandAt at put t.rows → Mends at put t t
mends_kept at put t there = record {
  rows = sym (ap (λ rs. take at t.rows ++ (rs ++ drop (at + length put) t.rows)) (sym there) ∙ rejoin at (length put) t.rows);
  changed = λ i h. sym (ap (λ b. changed_at t i || b) (stayed t t i refl) ∙ or-false (changed_at t i));
}
