-- Rows that show the same are the same, and a row that is set to what it is stays.
use Rattle.std.proofs.Common.{◌≡◌, ℕ, ◌<◌, Bool, true, false, not, ◌||◌, List, [], ◌∷◌, length, get_or, set, cond, eqb, refl, sym, ◌∙◌, ap}
use Rattle.std.proofs.Math.Bool.{or-false, or-true}
use Rattle.std.proofs.lemmas.List.{set-get_or, map-set, get_or-map}
use Rattle.std.proofs.lemmas.Slice.Eq.{bytes_eq-Decides}
use Rattle.std.proofs.lemmas.Bool.{and_parts}
use Rattle.ecam_spec.specs.declared.kinds.Colour.{Colour}
use Rattle.ecam_spec.specs.declared.kinds.Colour.TheVariants.{Red, Amber, Green, White, Cyan, Magenta, Blank}
use Rattle.ecam_spec.specs.Bytes.{same_text}
use Rattle.ecam_spec.specs.Picture as spec
use Rattle.ecam_kinds.specs.declared.picture.Row.{Row}
use Rattle.ecam_kinds.specs.Shown.{row_of, rows_of}
use Rattle.zone_rows.specs.Tracked.{TrackedRows, tracked, row_at, changed_at}

-- the row at a place becomes this one, and whether it changed is told
pub record SetsRow (place : ℕ) (r : spec.Row) (old new : TrackedRows) : Type 0 where
  pub rows : new.rows ≡ set old.rows place r
  pub changed : new.changed ≡ set old.changed place (changed_at old place || not (spec.same_row (row_at old place) r))

-- the colour of a letter
abbrev colour_of : List ℕ → Colour
colour_of [] = Blank
colour_of (x ∷ xs) = cond (eqb x 82) Red (cond (eqb x 65) Amber (cond (eqb x 71) Green (cond (eqb x 87) White (cond (eqb x 67) Cyan (cond (eqb x 77) Magenta Blank)))))

colour_of-letter : (c : Colour) → colour_of (spec.colour_letter c) ≡ c
colour_of-letter Red = refl
colour_of-letter Amber = refl
colour_of-letter Green = refl
colour_of-letter White = refl
colour_of-letter Cyan = refl
colour_of-letter Magenta = refl
colour_of-letter Blank = refl

pub same_row-equal : (x y : spec.Row) → spec.same_row x y ≡ true → x ≡ y
same_row-equal x y h =
    let colours : same_text (spec.colour_letter x.colour) (spec.colour_letter y.colour) ≡ true =
    (and_parts (same_text (spec.colour_letter x.colour) (spec.colour_letter y.colour)) (same_text x.text y.text) h).0 in
    let texts : same_text x.text y.text ≡ true =
    (and_parts (same_text (spec.colour_letter x.colour) (spec.colour_letter y.colour)) (same_text x.text y.text) h).1 in
    let letters = (bytes_eq-Decides (spec.colour_letter x.colour) (spec.colour_letter y.colour)).0 colours in
    let colour : x.colour ≡ y.colour = sym (colour_of-letter x.colour) ∙ ap colour_of letters ∙ colour_of-letter y.colour in
    let text : x.text ≡ y.text = (bytes_eq-Decides x.text y.text).0 texts in
    ap (λ c. spec.row c x.text) colour ∙ ap (λ t. spec.row y.colour t) text

pub same_row-self : (x : spec.Row) → spec.same_row x x ≡ true
same_row-self x =
    let letters = (bytes_eq-Decides (spec.colour_letter x.colour) (spec.colour_letter x.colour)).1 refl in
    let texts = (bytes_eq-Decides x.text x.text).1 refl in
    rw (letters, texts) refl

told-same : (xs : List Bool) (place : ℕ) (same : Bool) → same ≡ true → xs ≡ set xs place (get_or xs place false || not same)
told-same xs place same h =
    sym (ap (λ b. set xs place (get_or xs place false || not b)) h ∙ ap (set xs place) (or-false (get_or xs place false)) ∙ set-get_or xs place false)

told-other : (xs : List Bool) (place : ℕ) (same : Bool) → same ≡ false → set xs place true ≡ set xs place (get_or xs place false || not same)
told-other xs place same h = sym (ap (λ b. set xs place (get_or xs place false || not b)) h ∙ ap (set xs place) (or-true (get_or xs place false)))

-- the row that is read
read : (rows : List Row) (place : ℕ) (x : Row) → place < length rows → row_of (get_or rows place x) ≡ get_or (rows_of rows) place spec.blank_row
read rows place x within = sym (get_or-map row_of rows place x spec.blank_row within)

module _ (rows : List Row) (changed : List Bool) (place : ℕ) (x : Row) (r : spec.Row) (within : place < length rows) where
  -- it was so already
  pub set-same : spec.same_row (row_of (get_or rows place x)) r ≡ true → SetsRow place r (tracked rows changed) (tracked rows changed)
  set-same same = record {
    rows =
        sym
        (ap (set (rows_of rows) place) (sym (sym (read rows place x within) ∙ same_row-equal (row_of (get_or rows place x)) r same))
        ∙ set-get_or (rows_of rows) place spec.blank_row);
    changed =
        told-same changed place (spec.same_row (row_at (tracked rows changed) place) r)
        (ap (λ y. spec.same_row y r) (sym (read rows place x within)) ∙ same);
  }

  -- it is written
  pub set-written : (y : Row) → row_of y ≡ r → spec.same_row (row_of (get_or rows place x)) r ≡ false → SetsRow place r (tracked rows changed) (tracked (set rows place y) (set changed place true))
  set-written y to other = record {
    rows = map-set row_of rows place y ∙ ap (set (rows_of rows) place) to;
    changed =
        told-other changed place (spec.same_row (row_at (tracked rows changed) place) r)
        (ap (λ z. spec.same_row z r) (sym (read rows place x within)) ∙ other);
  }
