-- How many titles and rows stand beyond the seventh.
use Rattle.std.proofs.Common.{◌≡◌, ℕ, zero, suc, ◌+◌, ◌<◌, ◌≤◌, min, Bool, true, false, List, [], ◌∷◌, ◌++◌, map, length, take, drop, slice_get, Some, cond, leb, ltb, inl, inr, refl, sym, ◌∙◌, ap, arith}
use Rattle.std.specs.Prelude.{filter, count_by, is_some, codes}
use Rattle.std.proofs.Math.Dec.{leb-suc-suc, leb-suc-zero}
use Rattle.std.proofs.lemmas.Bool.{le-leb, lt-leb, lt-ltb, le-ltb, cases_lt}
use Rattle.std.proofs.lemmas.List.{length-map, append-nil}
use Rattle.ecam_spec.specs.declared.kinds.Colour.TheVariants.{Green}
use Rattle.ecam_spec.specs.Picture.{Row, row, zone}
use Rattle.ecam_spec.specs.Book.{Line, Alert, Book}
use Rattle.ecam_spec.specs.LeftZone.{LeftRow, plain, title_colour, alert_rows, left_rows, left_zone, has_more, overflow}
use Rattle.ecam_spec.specs.Situation.{alert_at}
use Rattle.ecam_spec.proofs.ListLaws.{count_by-cons}
use Rattle.zone_rows.specs.Tracked.{TrackedRows}
use Rattle.zone_rows.specs.Mended.{Mends, IsFilled, Appends}
use Rattle.zone_rows.proofs.Filling.{fill-none}
use Rattle.warning_display.specs.Counted.{Adds}
use Rattle.warning_display.specs.LeftRows.{rows_in, blocks, FillsLeft}
use Rattle.warning_display.proofs.Blocks.{blocks-on}

abbrev is-title : LeftRow → Bool
is-title r = is_some r.title_of

no-titles : (n : ℕ) (lines : List Line) → count_by is-title (drop n (map (λ (l : Line). plain (row l.colour l.text)) lines)) ≡ 0
no-titles zero [] = refl
no-titles zero (l ∷ ls) = count_by-cons is-title (plain (row l.colour l.text)) (map (λ (x : Line). plain (row x.colour x.text)) ls) ∙ omega (arith, no-titles zero ls)
no-titles (suc n) [] = refl
no-titles (suc n) (l ∷ ls) = no-titles n ls

-- titles from row n on, with the rows of one alert more
pub titles-more : (n : ℕ) (rows : List LeftRow) (stands : Line → Bool) (a : ℕ) (x : Alert)
    → count_by is-title (drop n (rows ++ alert_rows stands a x)) ≡ count_by is-title (drop n rows) + cond (leb n (length rows)) 1 0
unfolding alert_rows
titles-more zero [] stands a x =
    count_by-cons is-title (record { row = row (title_colour x.level) x.title; title_of = Some a }) (map (λ (l : Line). plain (row l.colour l.text)) (filter stands x.lines))
    ∙ ap (λ n. 1 + n) (no-titles 0 (filter stands x.lines))
titles-more (suc n) [] stands a x = no-titles n (filter stands x.lines) ∙ sym (ap (λ b. 0 + cond b 1 0) (leb-suc-zero n))
titles-more zero (r ∷ rows) stands a x =
    let rest = titles-more zero rows stands a x in
    let all = le-leb 0 (length rows) (omega arith) in
    let every = le-leb 0 (suc (length rows)) (omega arith) in
    count_by-cons is-title r (rows ++ alert_rows stands a x)
    ∙ ap (λ n. cond (is-title r) 1 0 + n) (rest ∙ ap (λ b. count_by is-title rows + cond b 1 0) all)
    ∙ (let e : cond (is-title r) 1 0 + (count_by is-title rows + 1) ≡ cond (is-title r) 1 0 + count_by is-title rows + 1 = omega arith in e)
    ∙ ap (λ n. n + 1) (sym (count_by-cons is-title r rows))
    ∙ ap (λ b. count_by is-title (r ∷ rows) + cond b 1 0) (sym every)
titles-more (suc n) (r ∷ rows) stands a x =
    titles-more n rows stands a x ∙ ap (λ b. count_by is-title (drop n rows) + cond b 1 0) (sym (leb-suc-suc n (length rows)))

overflow-if : (p : Bool) (rows : List LeftRow) (stands : Line → Bool) (a : ℕ) (x : Alert)
    → overflow (rows ++ cond p (alert_rows stands a x) []) ≡ overflow rows + cond p (cond (leb 7 (length rows)) 1 0) 0
unfolding overflow
overflow-if true rows stands a x = titles-more 7 rows stands a x
overflow-if false rows stands a x = ap (λ rs. count_by is-title (drop 7 rs)) (append-nil rows) ∙ omega arith

-- rows are counted to eight, which tells whether seven stand before the next
counts-seven : (n count : ℕ) → count ≡ min n 8 → leb 7 count ≡ leb 7 n
counts-seven n count is =
    elim (cases_lt n 7) [
      | inl h ↦ lt-leb 7 count (omega (arith, is)) ∙ sym (lt-leb 7 n h)
      | inr h ↦ le-leb 7 count (omega (arith, is)) ∙ sym (le-leb 7 n h)
    ]

-- a count of rows that were put from the first on
pub counted-first : (rows : List Row) (count : ℕ) (s t : TrackedRows) → Appends 0 7 rows 0 count s t → count ≡ min (length rows) 8
counted-first rows count s t put = (put [] s (fill-none 0 7 s)).many

-- one alert more is counted where seven rows stand before its title
pub overflow-on : (b : Book) (stands : Line → Bool) (shown : ℕ → Bool) (order : List ℕ) (i a : ℕ) → slice_get order i ≡ Some a → (beyond count later : ℕ) (s t : TrackedRows)
    → Appends 0 7 (rows_in (blocks b stands (filter shown (take i order)))) 0 count s t → beyond ≡ overflow (blocks b stands (filter shown (take i order)))
    → later ≡ beyond + cond (shown a) (cond (leb 7 count) 1 0) 0
    → later ≡ overflow (blocks b stands (filter shown (take (i + 1) order)))
overflow-on b stands shown order i a here beyond count later s t put so_far now =
    let rows = blocks b stands (filter shown (take i order)) in
    let seven : leb 7 count ≡ leb 7 (length (blocks b stands (filter shown (take i order)))) =
    counts-seven (length (blocks b stands (filter shown (take i order)))) count
    (counted-first (rows_in (blocks b stands (filter shown (take i order)))) count s t put
    ∙ ap (λ n. min n 8) (length-map (blocks b stands (filter shown (take i order))) (λ (r : LeftRow). r.row))) in
    now
    ∙ ap (λ n. n + cond (shown a) (cond (leb 7 count) 1 0) 0) so_far
    ∙ ap (λ q. overflow (blocks b stands (filter shown (take i order))) + cond (shown a) (cond q 1 0) 0) seven
    ∙ sym (overflow-if (shown a) (blocks b stands (filter shown (take i order))) stands a (alert_at b a))
    ∙ ap overflow (sym (blocks-on b stands shown order i a here))

memos-plain : (memos : List Row) → count_by is-title (map plain memos) ≡ 0
memos-plain [] = refl
memos-plain (m ∷ ms) = count_by-cons is-title (plain m) (map plain ms) ∙ omega (arith, memos-plain ms)

drop-plain : (n : ℕ) (memos : List Row) → count_by is-title (drop n (map plain memos)) ≡ 0
drop-plain zero memos = memos-plain memos
drop-plain (suc n) [] = refl
drop-plain (suc n) (m ∷ ms) = drop-plain n ms

-- neither NORMAL nor a memo is a title
pub overflow-left : (left : List LeftRow) (normal : Bool) (memos : List Row) → overflow (left_rows left normal memos) ≡ overflow left
unfolding left_rows overflow
overflow-left [] true memos = refl
overflow-left [] false memos = drop-plain 7 memos
overflow-left (r ∷ rows) normal memos = refl

-- NORMAL or memos come only where no row stands
pub calm-some : (left : List LeftRow) (count : ℕ) (normal : Bool) (memos : List Row) (s t : TrackedRows) → 0 < count → IsFilled 0 7 (rows_in left) count s t → IsFilled 0 7 (rows_in (left_rows left normal memos)) count s t
unfolding left_rows
calm-some [] count normal memos s t some filled = absurd (let w : ⊥ = omega (arith, filled.many) in w)
calm-some (r ∷ rows) count normal memos s t some filled = filled

rows-plain : (memos : List Row) → rows_in (map plain memos) ≡ memos
rows-plain [] = refl
rows-plain (m ∷ ms) = ap (λ rs. m ∷ rs) (rows-plain ms)

none-counted : (left : List LeftRow) (r : LeftRow) (count : ℕ) → count ≤ 0 → count ≡ min (length (rows_in (r ∷ left))) 8 → ⊥
none-counted left r count none is = omega (arith, is)

pub calm-normal : (left : List LeftRow) (count later : ℕ) (memos : List Row) (s t u : TrackedRows) → count ≤ 0 → Appends 0 7 (row Green (codes "NORMAL") ∷ []) 0 later t u → IsFilled 0 7 (rows_in left) count s t
    → IsFilled 0 7 (rows_in (left_rows left true memos)) later s u
unfolding left_rows
calm-normal [] count later memos s t u none put filled =
    let zero_rows : count ≡ 0 = omega (arith, none) in
    put [] s (rw zero_rows at filled)
calm-normal (r ∷ rows) count later memos s t u none put filled = absurd (none-counted rows r count none filled.many)

pub calm-memos : (left : List LeftRow) (count total later : ℕ) (memos : List Row) (s t u : TrackedRows) → count ≤ 0 → Adds 0 memos 0 total t u → later ≡ min total 8 → IsFilled 0 7 (rows_in left) count s t
    → IsFilled 0 7 (rows_in (left_rows left false memos)) later s u
unfolding left_rows
calm-memos [] count total later memos s t u none put is filled =
    let zero_rows : count ≡ 0 = omega (arith, none) in
    let added : Appends 0 7 memos 0 (min total 8) t u = put.rows in
    rw (is, rows-plain memos) (added [] s (rw zero_rows at filled))
calm-memos (r ∷ rows) count total later memos s t u none put is filled = absurd (none-counted rows r count none filled.many)

-- whether more rows stand beyond the zone
pub more-left : (left : List LeftRow) (count : ℕ) (s t : TrackedRows) → IsFilled 0 7 (rows_in left) count s t → ltb 7 count ≡ has_more left
unfolding has_more
more-left left count s t filled =
    let long : count ≡ min (length left) 8 = omega (arith, filled.many, length-map left (λ (r : LeftRow). r.row)) in
    elim (cases_lt 7 (length left)) [
      | inl h ↦ lt-ltb 7 count (omega (arith, long)) ∙ sym (lt-ltb 7 (length left) h)
      | inr h ↦ le-ltb 7 count (omega (arith, long)) ∙ sym (le-ltb 7 (length left) h)
    ]

-- what was put, with blank rows to the end, is the zone
pub fills-left : (left : List LeftRow) (normal : Bool) (memos : List Row) (beyond count : ℕ) (s t u : TrackedRows) → beyond ≡ overflow left → IsFilled 0 7 (rows_in (left_rows left normal memos)) count s t
    → Mends 0 (zone 7 (rows_in (left_rows left normal memos))) s u → FillsLeft (left_rows left normal memos) (record { beyond = beyond; more = ltb 7 count }) s u
unfolding left_zone
fills-left left normal memos beyond count s t u titles filled mended = record {
  rows = mended;
  beyond = titles ∙ sym (overflow-left left normal memos);
  more = more-left (left_rows left normal memos) count s t filled;
}
