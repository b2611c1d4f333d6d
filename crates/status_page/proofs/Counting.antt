-- How many rows the status page has, one alert more; and whether it has any.
use Rattle.std.proofs.Common.{◌≡◌, ℕ, zero, suc, ◌+◌, ◌-◌, ◌<◌, ◌≤◌, Bool, true, false, not, ◌||◌, List, [], ◌∷◌, ◌++◌, map, length, get_or, cond, eqb, ltb, refl, sym, ◌∙◌, ap, subst, arith}
use Rattle.std.specs.Prelude.{filter, All}
use mir.Val.{bool_byte}
use Rattle.std.specs.List.{flat_map}
use Rattle.std.proofs.lemmas.Bool.{eqb-false, lt-ltb}
use Rattle.std.proofs.lemmas.List.{append-nil, length-append, length-map, map-append}
use Rattle.std.proofs.lemmas.List.Elements.{filter-append}
use Rattle.ecam_spec.specs.Book.{Alert, Book, StatusLine}
use Rattle.ecam_spec.specs.Situation.{alert_at}
use Rattle.ecam_spec.specs.StatusPage.{sections, section_rows, cancelled_rows, status_rows}
use Rattle.ecam_spec.specs.Places.{below}
use Rattle.std.specs.Vec.{vec_len}
use Rattle.book_model.specs.declared.draft.Alert as code
use Rattle.book_model.specs.declared.draft.Draft.{Draft}
use Rattle.book_model.specs.Sealed.{IsSealed, the_book}
use Rattle.book_model.specs.View.{status_of as line_of_status}
use Rattle.book_model.proofs.BookReads.{alert-read}
use Rattle.book_model.proofs.BookLimits.{alert-sizes, alert-sound}
use Rattle.book_model.proofs.LevelPlaces.{filter_below-more, filter_below-none}
use Rattle.book_model.specs.Told.{TellsBelow, flagged}
use Rattle.status_page.specs.StatusOf.{rows_at, status_of}
use Rattle.status_page.proofs.AtPlaces.{rows-told}
use Rattle.status_page.proofs.SectionRows.{section_count, count-more, count-least, count-none}
use Rattle.status_page.proofs.CancelledRows.{cancelled-length}

-- each line of an alert stands in one of the five sections
abbrev pub Sectioned : Alert → Type 0
Sectioned a = All (λ (l : StatusLine). l.section < 5) a.status

-- a flag counts as one
pub as_one : (b : Bool) → bool_byte b ≡ cond b 1 0
as_one true = refl
as_one false = refl

pub one-few : (b : Bool) → bool_byte b ≤ 1
one-few true = omega arith
one-few false = omega arith

-- the lines of an alert are few
pub lines-few : (d : Draft) → IsSealed d → (alerts : List code.Alert) (i : ℕ) (own : code.Alert) → alerts ≡ d.alerts.items → i < length alerts → own ≡ get_or alerts i own
    → (many : ℕ) → many ≡ vec_len (get_or alerts i own).status → (many ≡ length own.status.items) × (many ≤ 8)
lines-few d sealed alerts i own same within is many len =
    let long : many ≡ length own.status.items = len ∙ ap (λ (a : code.Alert). vec_len a.status) (sym is) ∙ own.status.ok.0 in
    (long, omega (arith, long, (alert-sizes d sealed alerts i own same within is).status))

-- what is read of an alert has as many lines as the book's, each in one of the sections
module _ (d : Draft) (alerts : List code.Alert) (i : ℕ) (own : code.Alert) (same : alerts ≡ d.alerts.items) (within : i < length alerts) (is : own ≡ get_or alerts i own) where
  pub lines-read : vec_len (get_or alerts i own).status ≡ length (alert_at (the_book d) i).status
  lines-read =
      ap (λ (a : code.Alert). vec_len a.status) (sym is)
      ∙ own.status.ok.0
      ∙ sym (length-map own.status.items line_of_status)
      ∙ sym (ap (λ (a : Alert). length a.status) (alert-read d alerts i own same within is))

  pub sectioned : IsSealed d → Sectioned (alert_at (the_book d) i)
  sectioned sealed = subst Sectioned (sym (alert-read d alerts i own same within is)) (λ j e h. ((alert-sound d sealed alerts i own same within is).status j e h).section)

longer : (xs : List ℕ) (a : ℕ) (p : Bool) → length (xs ++ cond p (a ∷ []) []) ≡ length xs + cond p 1 0
longer xs a true = length-append xs (a ∷ [])
longer xs a false = length-append xs []

module _ (b : Book) (places : List ℕ) (a : ℕ) where
  pub lines-on : (lines many : ℕ) → lines ≡ section_count (map (alert_at b) places) → many ≡ length (alert_at b a).status → Sectioned (alert_at b a)
      → lines + many ≡ section_count (map (alert_at b) (places ++ a ∷ []))
  lines-on lines many so long each =
      ap (λ n. n + many) so
      ∙ ap (λ n. section_count (map (alert_at b) places) + n) long
      ∙ sym (count-more (map (alert_at b) places) (alert_at b a) each)
      ∙ ap section_count (sym (map-append (alert_at b) places (a ∷ [])))

  pub titles-on : (cancelled : ℕ → Bool) (titles : ℕ) → titles ≡ length (filter cancelled places) → titles + cond (cancelled a) 1 0 ≡ length (filter cancelled (places ++ a ∷ []))
  titles-on cancelled titles so =
      ap (λ n. n + cond (cancelled a) 1 0) so
      ∙ sym (longer (filter cancelled places) a (cancelled a))
      ∙ ap length (sym (filter-append cancelled places (a ∷ [])))

-- all rows are those of the sections, and the cancelled cautions under their heading
pub rows-total : (b : Book) (places : List ℕ) (cancelled : ℕ → Bool) (lines titles : ℕ) → lines ≡ section_count (map (alert_at b) places)
    → titles ≡ length (filter cancelled places) → length (rows_at b places cancelled) ≡ lines + cond (ltb 0 titles) (titles + 1) 0
unfolding status_rows
rows-total b places cancelled lines titles so also =
    let active = map (alert_at b) places in
    let these = map (alert_at b) (filter cancelled places) in
    let many : length these ≡ titles = length-map (filter cancelled places) (alert_at b) ∙ sym also in
    length-append (flat_map (section_rows active) sections) (cancelled_rows these)
    ∙ ap (λ m. m + length (cancelled_rows these)) (sym so)
    ∙ ap (λ m. lines + m) (cancelled-length these ∙ ap (λ t. cond (ltb 0 t) (t + 1) 0) many)

-- by the flags of all alerts
pub total-told : (b : Book) (flags these : List Bool) (active cancelled : ℕ → Bool) (n lines titles : ℕ) → n ≡ length b.alerts → (many : ℕ) → length b.alerts ≡ many
    → TellsBelow many flags active → TellsBelow many these cancelled
    → lines ≡ section_count (map (alert_at b) (filter (flagged flags) (below n))) → titles ≡ length (filter (flagged these) (filter (flagged flags) (below n)))
    → length (status_of b active cancelled) ≡ lines + cond (ltb 0 titles) (titles + 1) 0
total-told b flags these active cancelled n lines titles all many same tells told so also =
    let places = filter (flagged flags) (below n) in
    let gathered = ap (λ m. filter (flagged flags) (below m)) all in
    sym (ap length (rows-told b many (sym same) places flags these active cancelled gathered tells told)) ∙ rows-total b places (flagged these) lines titles so also

-- the rows of the alerts at some places, but for the heading
abbrev pub row_count : Book → (ℕ → Bool) → List ℕ → ℕ
row_count b cancelled places = section_count (map (alert_at b) places) + length (filter cancelled places)

-- an alert that has lines or is cancelled has a row
pub some-own : (empty is : Bool) (lines : ℕ) → empty ≡ eqb lines 0 → (not empty || is) ≡ true → 0 < lines + cond is 1 0
some-own empty true lines told so = omega arith
some-own true false lines told so = absurd (let w : ⊥ = cc in w)
some-own false false lines told so = omega (arith, eqb-false lines 0 (sym told))

module _ (b : Book) (cancelled : ℕ → Bool) where
  pub rows-none : row_count b cancelled [] ≡ 0
  rows-none = ap (λ n. n + 0) count-none

  pub rows-on : (places : List ℕ) (a : ℕ) → Sectioned (alert_at b a)
      → row_count b cancelled (places ++ a ∷ []) ≡ row_count b cancelled places + (length (alert_at b a).status + cond (cancelled a) 1 0)
  rows-on places a each = omega (arith, lines-on b places a _ _ refl refl each, titles-on b places a cancelled _ refl)

  -- an alert without rows, which may be active or not, leaves none
  pub none-on : (places : List ℕ) (a : ℕ) (p : Bool) → length (alert_at b a).status ≡ 0 → cancelled a ≡ false
      → row_count b cancelled places ≡ 0 → row_count b cancelled (places ++ cond p (a ∷ []) []) ≡ 0
  none-on places a true no_lines off none =
      omega (arith, rows-on places a (λ j e h. absurd (let w : ⊥ = omega (arith, h, no_lines) in w)), no_lines, ap {B = ℕ} (λ t. cond t 1 0) off, none)
  none-on places a false no_lines off none = ap (row_count b cancelled) (append-nil places) ∙ none

  least-on : (places : List ℕ) (a : ℕ) (p : Bool) → row_count b cancelled places ≤ row_count b cancelled (places ++ cond p (a ∷ []) [])
  least-on places a true =
      omega (arith, count-least (map (alert_at b) places) (alert_at b a), ap section_count (map-append (alert_at b) places (a ∷ [])), titles-on b places a cancelled _ refl)
  least-on places a false = omega (arith, ap (row_count b cancelled) (append-nil places))

  module _ (active : ℕ → Bool) where
    abbrev rows_below : ℕ → ℕ
    rows_below n = row_count b cancelled (filter active (below n))

    -- where none of the alerts below a number has rows, whether active or not
    pub none-below : (n : ℕ) → ((a : ℕ) → a < n → (length (alert_at b a).status ≡ 0) × (cancelled a ≡ false)) → row_count b cancelled (filter active (below n)) ≡ 0
    none-below zero none = ap (row_count b cancelled) (filter_below-none active) ∙ rows-none
    none-below (suc n) none =
        let e : suc n ≡ n + 1 = omega arith in
        let own = none n (omega arith) in
        ap rows_below e
        ∙ ap (row_count b cancelled) (filter_below-more active n)
        ∙ none-on (filter active (below n)) n (active n) own.0 own.1 (none-below n (λ a h. none a (omega (arith, h))))

    least-next : (n few : ℕ) → rows_below n ≤ rows_below (n + few)
    least-next n zero = let e : n + 0 ≡ n = omega arith in omega (arith, ap rows_below e)
    least-next n (suc few) =
        let e : n + suc few ≡ n + few + 1 = omega arith in
        omega (arith, least-next n few, least-on (filter active (below (n + few))) (n + few) (active (n + few)), ap (row_count b cancelled) (filter_below-more active (n + few)), ap rows_below e)

    -- the alerts below a greater number have no fewer
    pub rows-least : (n m : ℕ) → n ≤ m → row_count b cancelled (filter active (below n)) ≤ row_count b cancelled (filter active (below m))
    rows-least n m le =
        let e : n + (m - n) ≡ m = omega (arith, le) in
        omega (arith, least-next n (m - n), ap rows_below e)

-- the heading stands over titles alone
some-headed : (lines titles : ℕ) → ltb 0 (lines + cond (ltb 0 titles) (titles + 1) 0) ≡ ltb 0 (lines + titles)
some-headed lines zero = refl
some-headed lines (suc t) =
    ap (λ p. ltb 0 (lines + cond p (suc t + 1) 0)) (lt-ltb 0 (suc t) (omega arith))
    ∙ lt-ltb 0 (lines + (suc t + 1)) (omega arith)
    ∙ sym (lt-ltb 0 (lines + suc t) (omega arith))

-- whether there is any row, by the flags of all alerts
pub any-told : (b : Book) (flags these : List Bool) (active cancelled : ℕ → Bool) (many : ℕ) → length b.alerts ≡ many
    → TellsBelow many flags active → TellsBelow many these cancelled
    → ltb 0 (length (status_of b active cancelled)) ≡ ltb 0 (row_count b (flagged these) (filter (flagged flags) (below (length b.alerts))))
any-told b flags these active cancelled many same tells told =
    ap (ltb 0) (total-told b flags these active cancelled (length b.alerts) _ _ refl many same tells told refl refl) ∙ some-headed _ _
