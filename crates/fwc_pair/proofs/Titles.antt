-- The row of an alert's title among the rows of the shown alerts.
use Rattle.std.proofs.Common.{◌≡◌, ℕ, suc, ◌+◌, ◌<◌, ◌≤◌, Bool, true, false, not, ◌||◌, List, [], ◌∷◌, ◌++◌, map, length, take, drop, slice_get, Some, None, refl, sym, ◌∙◌, ap, cond, ltb, arith, append_assoc}
use Rattle.std.specs.Prelude.{filter, option_map, count_by}
use Rattle.std.specs.List.{list_any, position_or_len}
use Rattle.std.proofs.lemmas.Bool.{lt-ltb, le-leb, lt-leb, ne_eqb}
use Rattle.std.proofs.lemmas.List.{append-nil, take-append-drop, length-append, length-map}
use Rattle.std.proofs.lemmas.List.Elements.{filter-append}
use Rattle.std.proofs.lemmas.List.Folds.{list_any-append}
use Rattle.std.proofs.lemmas.Grind.{flat_map-append}
use Rattle.ecam_spec.specs.Picture.{Row, row}
use Rattle.ecam_spec.specs.Book.{Line, Alert, Book}
use Rattle.ecam_spec.specs.Crew.{is_alert}
use Rattle.ecam_spec.specs.LeftZone.{LeftRow, plain, alert_rows, left_rows, title_row}
use Rattle.ecam_spec.specs.Situation.{alert_at}
use Rattle.ecam_spec.proofs.ListLaws.{within-any, eqb-self, count_by-cons}
use Rattle.book_model.specs.Told.{TellsOf}
use Rattle.warning_display.specs.LeftRows.{blocks}
use Rattle.warning_display.proofs.Blocks.{blocks-on}
use Rattle.fwc_pair.specs.TitlePlaces.{in_zone}

-- a row is the title of alert a
abbrev pub is_of : ℕ → LeftRow → Bool
is_of a r = is_alert a r.title_of

-- where nothing in front passes, the first place that does is behind it
behind : (p : LeftRow → Bool) (xs ys : List LeftRow) → list_any p xs ≡ false → position_or_len p (xs ++ ys) ≡ length xs + position_or_len p ys
behind p [] ys none = omega arith
behind p (x ∷ xs) ys none =
    (elim (p x) as (λ b. (b || list_any p xs) ≡ false → cond (not b) (1 + position_or_len p (xs ++ ys)) 0 ≡ suc (length xs) + position_or_len p ys) [
      | true ↦ λ e. absurd (let w : ⊥ = cc in w)
      | false ↦ λ e. ap (λ n. 1 + n) (behind p xs ys e) ∙ omega arith
    ])
    none

-- a title that stands next, with less than seven rows before it
pub title-here : (a : ℕ) (xs : List LeftRow) (r : LeftRow) (zs : List LeftRow) → list_any (is_of a) xs ≡ false → is_of a r ≡ true → length xs < 7
    → in_zone (title_row a (xs ++ r ∷ zs)) ≡ Some (length xs + 1)
unfolding title_row
title-here a xs r zs none own few =
    let at : position_or_len (is_of a) (xs ++ r ∷ zs) ≡ length xs =
    behind (is_of a) xs (r ∷ zs) none ∙ ap (λ b. length xs + cond (not b) (1 + position_or_len (is_of a) zs) 0) own ∙ omega arith in
    let long : length (xs ++ r ∷ zs) ≡ length xs + suc (length zs) = length-append xs (r ∷ zs) in
    ap (λ n. in_zone (option_map (λ i. i + 1) (cond (ltb n (length (xs ++ r ∷ zs))) (Some n) None))) at
    ∙ ap (λ b. in_zone (option_map (λ i. i + 1) (cond b (Some (length xs)) None))) (lt-ltb (length xs) (length (xs ++ r ∷ zs)) (omega arith))
    ∙ ap (λ b. cond b (Some (length xs + 1)) None) (le-leb (length xs + 1) 7 (omega arith))

beyond : (b : Bool) (n : ℕ) → 7 ≤ n → in_zone (option_map (λ i. i + 1) (cond b (Some n) None)) ≡ None
beyond true n h = ap (λ b. cond b (Some (n + 1)) None) (lt-leb (n + 1) 7 (omega arith))
beyond false n h = refl

-- a title that isn't among the first seven rows, or more
pub title-past : (a : ℕ) (xs ys : List LeftRow) → list_any (is_of a) xs ≡ false → 7 ≤ length xs → in_zone (title_row a (xs ++ ys)) ≡ None
unfolding title_row
title-past a xs ys none many =
    beyond (ltb (position_or_len (is_of a) (xs ++ ys)) (length (xs ++ ys))) (position_or_len (is_of a) (xs ++ ys)) (omega (arith, behind (is_of a) xs ys none))

-- and one that isn't among them at all
pub title-none : (a : ℕ) (xs : List LeftRow) → list_any (is_of a) xs ≡ false → in_zone (title_row a xs) ≡ None
unfolding title_row
title-none a xs none =
    ap (λ b. in_zone (option_map (λ i. i + 1) (cond b (Some (position_or_len (is_of a) xs)) None))) (within-any (is_of a) xs ∙ none)

no-lines : (a : ℕ) (ls : List Line) → list_any (is_of a) (map (λ (l : Line). plain (row l.colour l.text)) ls) ≡ false
no-lines a [] = refl
no-lines a (l ∷ ls) = no-lines a ls

-- no row of another alert is the title
other-rows : (stands : Line → Bool) (a i : ℕ) (x : Alert) → (a ≡ i → ⊥) → list_any (is_of a) (alert_rows stands i x) ≡ false
unfolding alert_rows
other-rows stands a i x apart = ap (λ b. b || list_any (is_of a) (map (λ (l : Line). plain (row l.colour l.text)) (filter stands x.lines))) (ne_eqb a i apart) ∙ no-lines a (filter stands x.lines)

-- the rows of the shown alerts, cut behind some of them
module _ (b : Book) (stands : Line → Bool) (shown : ℕ → Bool) (order : List ℕ) where
  abbrev pub rows_below : ℕ → List LeftRow
  rows_below n = blocks b stands (filter shown (take n order))

  apart-at : (n : ℕ) → blocks b stands (filter shown order) ≡ rows_below n ++ blocks b stands (filter shown (drop n order))
  apart-at n =
      ap (λ xs. blocks b stands (filter shown xs)) (sym (take-append-drop n order))
      ∙ ap (blocks b stands) (filter-append shown (take n order) (drop n order))
      ∙ flat_map-append (λ x. alert_rows stands x (alert_at b x)) (filter shown (take n order)) (filter shown (drop n order))

  -- an alert that isn't shown has no row
  pub hidden-next : (i other : ℕ) → slice_get order i ≡ Some other → shown other ≡ false → rows_below (i + 1) ≡ rows_below i
  hidden-next i other here hidden =
      blocks-on b stands shown order i other here
      ∙ ap (λ t. rows_below i ++ cond t (alert_rows stands other (alert_at b other)) []) hidden
      ∙ append-nil (rows_below i)

  -- one that is shown has its own
  pub shown-next : (i other : ℕ) → slice_get order i ≡ Some other → shown other ≡ true → rows_below (i + 1) ≡ rows_below i ++ alert_rows stands other (alert_at b other)
  shown-next i other here told =
      blocks-on b stands shown order i other here ∙ ap (λ t. rows_below i ++ cond t (alert_rows stands other (alert_at b other)) []) told

  pub counted-next : (i other before own : ℕ) → slice_get order i ≡ Some other → shown other ≡ true → before ≡ length (rows_below i)
      → own ≡ length (alert_rows stands other (alert_at b other)) → before + own ≡ length (rows_below (i + 1))
  counted-next i other before own here told so_far more =
      omega (arith, so_far, more, ap (λ (rs : List LeftRow). length rs) (shown-next i other here told), length-append (rows_below i) (alert_rows stands other (alert_at b other)))

  -- among them is no title of an alert that comes later
  pub absent-next : (a i other : ℕ) → slice_get order i ≡ Some other → shown other ≡ true → (a ≡ other → ⊥) → list_any (is_of a) (rows_below i) ≡ false → list_any (is_of a) (rows_below (i + 1)) ≡ false
  absent-next a i other here told apart none =
      ap (list_any (is_of a)) (shown-next i other here told)
      ∙ list_any-append (is_of a) (rows_below i) (alert_rows stands other (alert_at b other))
      ∙ ap (λ t. t || list_any (is_of a) (alert_rows stands other (alert_at b other))) none
      ∙ other-rows stands a other (alert_at b other) apart

  -- the alert comes next
  pub found-next : (a i : ℕ) → slice_get order i ≡ Some a → shown a ≡ true → list_any (is_of a) (rows_below i) ≡ false → length (rows_below i) < 7
      → in_zone (title_row a (blocks b stands (filter shown order))) ≡ Some (length (rows_below i) + 1)
  unfolding alert_rows
  found-next a i here told none few =
      let rest = blocks b stands (filter shown (drop (i + 1) order)) in
      ap (λ rs. in_zone (title_row a rs)) (apart-at (i + 1) ∙ ap (λ rs. rs ++ rest) (shown-next i a here told))
      ∙ ap (λ rs. in_zone (title_row a rs)) (append_assoc (rows_below i) (alert_rows stands a (alert_at b a)) rest)
      ∙ title-here a (rows_below i) _ _ none (eqb-self a) few

  -- seven rows stand before it
  pub beyond-zone : (a n : ℕ) → list_any (is_of a) (rows_below n) ≡ false → 7 ≤ length (rows_below n) → in_zone (title_row a (blocks b stands (filter shown order))) ≡ None
  beyond-zone a n none many = ap (λ rs. in_zone (title_row a rs)) (apart-at n) ∙ title-past a (rows_below n) (blocks b stands (filter shown (drop n order))) none many

memo-titles : (a : ℕ) (memos : List Row) → list_any (is_of a) (map plain memos) ≡ false
memo-titles a [] = refl
memo-titles a (m ∷ ms) = memo-titles a ms

title-absent : (a : ℕ) (xs : List LeftRow) → list_any (is_of a) xs ≡ false → title_row a xs ≡ None
unfolding title_row
title-absent a xs none = ap (λ b. option_map (λ i. i + 1) (cond b (Some (position_or_len (is_of a) xs)) None)) (within-any (is_of a) xs ∙ none)

-- neither NORMAL nor a memo is a title
pub title_left : (a : ℕ) (rows : List LeftRow) (normal : Bool) (memos : List Row) → title_row a (left_rows rows normal memos) ≡ title_row a rows
unfolding left_rows
title_left a [] true memos = title-absent a _ refl ∙ sym (title-absent a [] refl)
title_left a [] false memos = title-absent a (map plain memos) (memo-titles a memos) ∙ sym (title-absent a [] refl)
title_left a (r ∷ rows) normal memos = refl

one-more : (t : Bool) (l : Line) (ls : List Line) → cond t 1 0 + length ls ≡ length (cond t (l ∷ ls) ls)
one-more true l ls = omega arith
one-more false l ls = omega arith

-- as many flags are set as lines stand
counted-told : (flags : List Bool) (test : Line → Bool) (ls : List Line) → length flags ≡ length ls → TellsOf flags ls test → count_by (λ t. t) flags ≡ length (filter test ls)
counted-told [] test [] long tells = refl
counted-told [] test (l ∷ ls) long tells = absurd (let w : ⊥ = omega arith in w)
counted-told (f ∷ flags) test [] long tells = absurd (let w : ⊥ = omega arith in w)
counted-told (f ∷ flags) test (l ∷ ls) long tells =
    let here : f ≡ test l = tells 0 l refl in
    let rest : count_by (λ t. t) flags ≡ length (filter test ls) = counted-told flags test ls (omega arith) (λ j x e. tells (suc j) x e) in
    count_by-cons (λ t. t) f flags
    ∙ ap (λ t. cond t 1 0 + count_by (λ t. t) flags) here
    ∙ ap (λ n. cond (test l) 1 0 + n) rest
    ∙ one-more (test l) l (filter test ls)

-- so an alert's rows are counted, its title and these
pub rows-counted : (stands : Line → Bool) (a : ℕ) (x : Alert) (flags : List Bool) (count : ℕ) → length flags ≡ length x.lines → TellsOf flags x.lines stands
    → count ≡ count_by (λ t. t) flags → count + 1 ≡ length (alert_rows stands a x)
unfolding alert_rows
rows-counted stands a x flags count long tells is =
    omega (arith, is, counted-told flags stands x.lines long tells, length-map (filter stands x.lines) (λ (l : Line). plain (row l.colour l.text)))
