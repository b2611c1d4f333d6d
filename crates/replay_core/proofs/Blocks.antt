-- The lines of a block, row by row.
use Rattle.std.proofs.Common.{◌≡◌, ℕ, zero, suc, ◌+◌, ◌<◌, ◌≤◌, Bool, true, false, not, ◌&&◌, ◌||◌, List, [], ◌∷◌, ◌++◌, length, get_or, drop, leb, cond, ◌∙◌, refl, sym, ap, arith, add-one, drop-cons, append_assoc}
use Rattle.std.specs.Prelude.{decimal, if◌then◌else◌}
use Rattle.std.specs.List.{list_any}
use Rattle.std.proofs.lemmas.Bool.{leb-true}
use Rattle.std.proofs.lemmas.List.Folds.{list_all_at}
use Rattle.std.proofs.Math.Bool.{beq}
use Rattle.std.proofs.Math.ListN.{drop_of_length-le}
use Rattle.std.proofs.Math.Path.{fun_ext}
use Rattle.ecam_spec.specs.declared.limits.TheConstants.{PICTURE_ROWS}
use Rattle.ecam_spec.specs.declared.kinds.Colour.TheVariants.{Blank}
use Rattle.ecam_spec.specs.Book.{Text}
use Rattle.ecam_spec.specs.Picture.{Row, same_row, same_picture}
use Rattle.ecam_spec.specs.Output.{row_names, row_line, changed_lines, block, line}
use Rattle.ecam_kinds.specs.declared.picture.Row as code
use Rattle.ecam_kinds.specs.Shown.{row_of, rows_of}
use Rattle.fwc_lane.specs.ChangedRows.{row_differs}
use Rattle.replay_core.specs.Flagged.{flagged_lines, lines_from, NamesRows}

-- no row's name is longer than three bytes
pub short_names : (i : ℕ) → i < PICTURE_ROWS → length (get_or row_names i []) ≤ 3
unfolding row_names
short_names i h = by (leb (length (get_or row_names i [])) 3) refl where
  by : (b : Bool) → leb (length (get_or row_names i [])) 3 ≡ b → length (get_or row_names i []) ≤ 3
  by true e = leb-true (length (get_or row_names i [])) 3 e
  by false e = absurd (let w : ⊥ = cc (list_all_at (λ t. leb (length t) 3) row_names i [] h e) in w)

-- whether a flag is set, as a search for `true` says it
pub any-set : (flags : List Bool) → list_any (λ f. beq f true) flags ≡ list_any (λ f. f) flags
any-set flags = ap (λ test. list_any test flags) (fun_ext is-set) where
  is-set : (f : Bool) → beq f true ≡ f
  is-set true = refl
  is-set false = refl

-- of flags that are all false none is set
pub none-any : (n : ℕ) (flags : List Bool) → length flags ≡ n → ((i : ℕ) → i < n → get_or flags i false ≡ false) → list_any (λ f. f) flags ≡ false
none-any n [] long none = refl
none-any zero (f ∷ flags) long none = absurd (let w : ⊥ = omega (arith, long) in w)
none-any (suc n) (true ∷ flags) long none = absurd (let w : ⊥ = cc (none 0 (omega arith)) in w)
none-any (suc n) (false ∷ flags) long none = none-any n flags (omega (arith, long)) (λ i within. none (suc i) (omega (arith, within)))

module _ (flags : List Bool) (rows : List code.Row) (i : ℕ) where
  -- the line of one more row
  pub lines_more : (r : code.Row) → i < length row_names → i < length flags → i < length rows
      → flagged_lines (drop i row_names) (drop i flags) (rows_of (drop i rows))
      ≡ (if get_or flags i false then row_line (get_or row_names i []) (row_of (get_or rows i r)) else [])
      ++ flagged_lines (drop (i + 1) row_names) (drop (i + 1) flags) (rows_of (drop (i + 1) rows))
  unfolding flagged_lines
  lines_more r h k l = rw (add-one, drop-cons row_names i [] h, drop-cons flags i false k, drop-cons rows i r l) refl

  -- a row whose flag isn't set has no line
  pub lines_pass : i < length row_names → i < length flags → i < length rows → get_or flags i false ≡ false
      → lines_from (i + 1) flags rows ≡ lines_from i flags rows
  lines_pass h k l unset =
      let r : code.Row = get_or rows i (record { colour = Blank; text = record { items = [] } }) in
      let more = lines_more r h k l in
      let none : (if get_or flags i false then row_line (get_or row_names i []) (row_of r) else []) ≡ [] = rw unset refl in
      cc

  -- no row is left
  pub lines_all : length row_names ≤ i → flagged_lines (drop i row_names) (drop i flags) (rows_of (drop i rows)) ≡ []
  unfolding flagged_lines
  lines_all h = ap (λ names. flagged_lines names (drop i flags) (rows_of (drop i rows))) (drop_of_length-le row_names h)

pub names_length : length row_names ≡ PICTURE_ROWS
unfolding row_names
names_length = refl

-- the lines so far and those that are left stay together, over one more row
pub lines_step : (flags : List Bool) (rows : List code.Row) (i : ℕ) (f : Bool) (r : code.Row) (name before after whole : Text)
    → i < length row_names → i < length flags → i < length rows
    → f ≡ get_or flags i false → r ≡ get_or rows i r → name ≡ get_or row_names i []
    → after ≡ before ++ (if f then row_line name (row_of r) else [])
    → before ++ flagged_lines (drop i row_names) (drop i flags) (rows_of (drop i rows)) ≡ whole
    → after ++ flagged_lines (drop (i + 1) row_names) (drop (i + 1) flags) (rows_of (drop (i + 1) rows)) ≡ whole
lines_step flags rows i f r name before after whole h k l is_f is_r is_name is_after so_far =
    let more = lines_more flags rows i r h k l in
    let regrouped = append_assoc before (if f then row_line name (row_of r) else [])
    (flagged_lines (drop (i + 1) row_names) (drop (i + 1) flags) (rows_of (drop (i + 1) rows))) in
    cc

-- rows of which no flag is set have no lines
pub lines_none : (flags : List Bool) (rows : List code.Row) (from n : ℕ) → length flags ≡ PICTURE_ROWS → length rows ≡ PICTURE_ROWS → from + n ≤ PICTURE_ROWS
    → ((i : ℕ) → from ≤ i → i < from + n → get_or flags i false ≡ false)
    → lines_from (from + n) flags rows ≡ lines_from from flags rows
lines_none flags rows from zero flags_long rows_long within unset =
    ap (λ i. lines_from i flags rows) (let e : from + 0 ≡ from = omega arith in e)
lines_none flags rows from (suc n) flags_long rows_long within unset =
    ap (λ i. lines_from i flags rows) (let e : from + suc n ≡ from + n + 1 = omega arith in e)
    ∙ lines_pass flags rows (from + n) (omega (arith, within, names_length)) (omega (arith, within, flags_long)) (omega (arith, within, rows_long))
    (unset (from + n) (omega arith) (omega arith))
    ∙ lines_none flags rows from n flags_long rows_long (omega (arith, within)) (λ i ge lt. unset i ge (omega (arith, lt)))

-- ---- the flags tell what the definitions compare

-- so the flags name the rows of two lists of one length
record Names (old new : List Row) (flags : List Bool) : Type 0 where
  old_long : length old ≡ length new
  flags_long : length flags ≡ length new
  each : (i : ℕ) → i < length new → get_or flags i false ≡ row_differs old new i

whole-names : (old new : List Row) (flags : List Bool) → length flags ≡ PICTURE_ROWS → NamesRows old new flags → Names old new flags
whole-names old new flags long names = record {
  old_long = names.old_whole ∙ sym names.new_whole;
  flags_long = long ∙ sym names.new_whole;
  each = λ i within. names.each i (omega (arith, within, names.new_whole));
}

-- a flag of the first row, and those of the others
names-rest : (o n : Row) (old new : List Row) (f : Bool) (flags : List Bool) → Names (o ∷ old) (n ∷ new) (f ∷ flags) → Names old new flags
names-rest o n old new f flags names =
    record { old_long = omega (arith, names.old_long); flags_long = omega (arith, names.flags_long); each = λ i within. names.each (suc i) (omega (arith, within)) }

names-first : (o n : Row) (old new : List Row) (f : Bool) (flags : List Bool) → Names (o ∷ old) (n ∷ new) (f ∷ flags) → f ≡ not (same_row o n)
names-first o n old new f flags names = names.each 0 (omega arith)

turned : (b : Bool) (t : Text) → cond (not b) t [] ≡ cond b [] t
turned true t = refl
turned false t = refl

flagged-changed : (texts : List Text) (old new : List Row) (flags : List Bool) → Names old new flags
    → flagged_lines texts flags new ≡ changed_lines texts old new
unfolding flagged_lines changed_lines
flagged-changed [] old new flags names = refl
flagged-changed (text ∷ texts) [] [] [] names = refl
flagged-changed (text ∷ texts) (o ∷ old) (n ∷ new) (f ∷ flags) names =
    ap (λ more. cond f (row_line text n) [] ++ more) (flagged-changed texts old new flags (names-rest o n old new f flags names))
    ∙ ap (λ line. line ++ changed_lines texts old new) (ap (λ b. cond b (row_line text n) []) (names-first o n old new f flags names) ∙ turned (same_row o n) (row_line text n))
flagged-changed (text ∷ texts) [] (n ∷ new) flags names = absurd (let w : ⊥ = omega (arith, names.old_long) in w)
flagged-changed (text ∷ texts) (o ∷ old) [] flags names = absurd (let w : ⊥ = omega (arith, names.old_long) in w)
flagged-changed (text ∷ texts) [] [] (f ∷ flags) names = absurd (let w : ⊥ = omega (arith, names.flags_long) in w)
flagged-changed (text ∷ texts) (o ∷ old) (n ∷ new) [] names = absurd (let w : ⊥ = omega (arith, names.flags_long) in w)

both : (a b : Bool) → (not a || not b) ≡ not (a && b)
both true b = refl
both false b = refl

any-changed : (old new : List Row) (flags : List Bool) → Names old new flags → list_any (λ f. f) flags ≡ not (same_picture old new)
any-changed [] [] [] names = refl
any-changed (o ∷ old) (n ∷ new) (f ∷ flags) names =
    ap (λ b. b || list_any (λ f. f) flags) (names-first o n old new f flags names)
    ∙ ap (λ b. not (same_row o n) || b) (any-changed old new flags (names-rest o n old new f flags names))
    ∙ both (same_row o n) (same_picture old new)
any-changed [] (n ∷ new) flags names = absurd (let w : ⊥ = omega (arith, names.old_long) in w)
any-changed (o ∷ old) [] flags names = absurd (let w : ⊥ = omega (arith, names.old_long) in w)
any-changed [] [] (f ∷ flags) names = absurd (let w : ⊥ = omega (arith, names.flags_long) in w)
any-changed (o ∷ old) (n ∷ new) [] names = absurd (let w : ⊥ = omega (arith, names.flags_long) in w)

-- without a flag a Tick writes nothing
pub block-none : (t : ℕ) (old new : List Row) (flags : List Bool) → length flags ≡ PICTURE_ROWS → NamesRows old new flags → list_any (λ f. f) flags ≡ false → block t old new ≡ []
unfolding block
block-none t old new flags long tells none =
    ap (λ b. cond b [] (line (64 ∷ decimal t) ++ changed_lines row_names old new)) (same (same_picture old new) (sym (any-changed old new flags (whole-names old new flags long tells)) ∙ none)) where
      same : (b : Bool) → not b ≡ false → b ≡ true
      same true e = refl
      same false e = absurd (let w : ⊥ = cc in w)

pub block-some : (t : ℕ) (old new : List Row) (flags : List Bool) → length flags ≡ PICTURE_ROWS → NamesRows old new flags → list_any (λ f. f) flags ≡ true
    → block t old new ≡ line (64 ∷ decimal t) ++ flagged_lines row_names flags new
unfolding block
block-some t old new flags long tells some =
    ap (λ b. cond b [] (line (64 ∷ decimal t) ++ changed_lines row_names old new)) (other (same_picture old new) (sym (any-changed old new flags (whole-names old new flags long tells)) ∙ some))
    ∙ ap (λ more. line (64 ∷ decimal t) ++ more) (sym (flagged-changed row_names old new flags (whole-names old new flags long tells))) where
      other : (b : Bool) → not b ≡ true → b ≡ false
      other false e = refl
      other true e = absurd (let w : ⊥ = cc in w)

-- ---- a look for a flag

-- none so far, and the rest decides
pub any-all : (flags : List Bool) (i : ℕ) → length flags ≤ i → list_any (λ f. f) (drop i flags) ≡ false
any-all flags i past = ap (list_any (λ f. f)) (drop_of_length-le flags past)
