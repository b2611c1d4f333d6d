-- OVF counts the alerts whose titles stand beyond the seventh row.
use Rattle.std.proofs.Common.{◌≡◌, ℕ, zero, suc, ◌+◌, Bool, true, false, not, ◌==◌, List, [], ◌∷◌, ◌++◌, map, drop, Option, Some, None, refl, sym, ◌∙◌, ap, cond, leb, arith}
use Rattle.std.specs.Prelude.{filter, count_by, is_some}
use Rattle.std.specs.List.{position_or_len}
use Rattle.std.proofs.Math.Dec.{leb-suc-suc, leb-suc-zero}
use Rattle.std.proofs.Math.Numerals.{one-add}
use Rattle.std.proofs.lemmas.Bool.{eqb-true, le-leb, and_parts, not-true, true≢false}
use Rattle.ecam_spec.specs.Book.{Line, Alert}
use Rattle.ecam_spec.specs.Picture.{Row, row}
use Rattle.ecam_spec.specs.Crew.{is_alert}
use Rattle.ecam_spec.specs.LeftZone.{LeftRow, plain, alert_rows, left_rows, overflow}
use Rattle.ecam_spec.proofs.ListLaws.{mem, distinct, eqb-self, count_by-cons, count_by-agree}
use Rattle.ecam_spec.proofs.LeftLaws.{joined}

-- the alerts whose titles are among some rows, in order
abbrev titles-with : Option ℕ → List ℕ → List ℕ
titles-with None as' = as'
titles-with (Some a) as' = a ∷ as'

abbrev titles : List LeftRow → List ℕ
titles [] = []
titles (r ∷ rows) = titles-with r.title_of (titles rows)

abbrev title-place : List LeftRow → ℕ → ℕ
title-place rows a = position_or_len (λ (r : LeftRow). is_alert a r.title_of) rows

abbrev is-title : LeftRow → Bool
is-title r = is_some r.title_of

count-with : (o : Option ℕ) (as' : List ℕ) → count_by (λ a. true) (titles-with o as') ≡ cond (is_some o) 1 0 + count_by (λ a. true) as'
count-with None as' = omega arith
count-with (Some a) as' = count_by-cons (λ x. true) a as'

count-titles : (rows : List LeftRow) → count_by is-title rows ≡ count_by (λ a. true) (titles rows)
count-titles [] = refl
count-titles (r ∷ rows) =
    count_by-cons is-title r rows
    ∙ ap (λ n. cond (is_some r.title_of) 1 0 + n) (count-titles rows)
    ∙ sym (count-with r.title_of (titles rows))

-- a row before a title moves it one place on
place-cons : (o : Option ℕ) (c : Row) (rows : List LeftRow) (a : ℕ) → is_alert a o ≡ false → title-place (record { row = c; title_of = o } ∷ rows) a ≡ suc (title-place rows a)
place-cons o c rows a e = ap (λ b. cond (not b) (1 + title-place rows a) 0) e ∙ one-add (title-place rows a)

beyond-cons : (n : ℕ) (o : Option ℕ) (c : Row) (rows : List LeftRow) (a : ℕ) → is_alert a o ≡ false → leb (suc n) (title-place (record { row = c; title_of = o } ∷ rows) a) ≡ leb n (title-place rows a)
beyond-cons n o c rows a e = ap (leb (suc n)) (place-cons o c rows a e) ∙ leb-suc-suc n (title-place rows a)

-- a title of its own stands in the first place
own-place : (t : ℕ) (c : Row) (rows : List LeftRow) → title-place (record { row = c; title_of = Some t } ∷ rows) t ≡ 0
own-place t c rows = ap (λ b. cond (not b) (1 + title-place rows t) 0) (eqb-self t)

other-title : (t a : ℕ) (as' : List ℕ) → mem t as' ≡ false → mem a as' ≡ true → (a == t) ≡ false
other-title t a as' none some =
    elim (a == t) as (λ b. (a == t) ≡ b → b ≡ false) [
      | true ↦ λ e. absurd (true≢false (sym some ∙ ap (λ n. mem n as') (eqb-true a t e) ∙ none))
      | false ↦ λ e. refl
    ] refl

counted-with : (n : ℕ) (c : Row) (o : Option ℕ) (rows : List LeftRow) → distinct (titles-with o (titles rows)) ≡ true → count_by is-title (drop n rows) ≡ count_by (λ a. leb n (title-place rows a)) (titles rows)
    → count_by is-title (drop n rows) ≡ count_by (λ a. leb (suc n) (title-place (record { row = c; title_of = o } ∷ rows) a)) (titles-with o (titles rows))
counted-with n c None rows d rest =
    rest
    ∙ count_by-agree (λ a. leb n (title-place rows a)) (λ a. leb (suc n) (title-place (record { row = c; title_of = None } ∷ rows) a)) (titles rows)
    (λ a h. sym (beyond-cons n None c rows a refl))
counted-with n c (Some t) rows d rest =
    let fresh : mem t (titles rows) ≡ false = not-true (mem t (titles rows)) ((and_parts (not (mem t (titles rows))) (distinct (titles rows)) d).0) in
    rest
    ∙ count_by-agree (λ a. leb n (title-place rows a)) (λ a. leb (suc n) (title-place (record { row = c; title_of = Some t } ∷ rows) a)) (titles rows)
    (λ a h. sym (beyond-cons n (Some t) c rows a (other-title t a (titles rows) fresh h)))
    ∙ sym
    (count_by-cons (λ a. leb (suc n) (title-place (record { row = c; title_of = Some t } ∷ rows) a)) t (titles rows)
    ∙ ap (λ m. cond (leb (suc n) m) 1 0 + count_by (λ a. leb (suc n) (title-place (record { row = c; title_of = Some t } ∷ rows) a)) (titles rows)) (own-place t c rows)
    ∙ ap (λ b. cond b 1 0 + count_by (λ a. leb (suc n) (title-place (record { row = c; title_of = Some t } ∷ rows) a)) (titles rows)) (leb-suc-zero n)
    ∙ omega arith)

rest-distinct : (o : Option ℕ) (as' : List ℕ) → distinct (titles-with o as') ≡ true → distinct as' ≡ true
rest-distinct None as' d = d
rest-distinct (Some a) as' d = (and_parts (not (mem a as')) (distinct as') d).1

-- where no title stands twice, as many titles stand from place n on as alerts have their titles there
counted : (n : ℕ) (rows : List LeftRow) → distinct (titles rows) ≡ true → count_by is-title (drop n rows) ≡ count_by (λ a. leb n (title-place rows a)) (titles rows)
counted zero rows d =
    count-titles rows
    ∙ count_by-agree (λ a. true) (λ a. leb 0 (title-place rows a)) (titles rows) (λ a h. sym (le-leb 0 (title-place rows a) (omega arith)))
counted (suc n) [] d = refl
counted (suc n) (r ∷ rows) d = counted-with n r.row r.title_of rows d (counted n rows (rest-distinct r.title_of (titles rows) d))

lines-plain : (ls : List Line) (rows : List LeftRow) → titles (map (λ (l : Line). plain (row l.colour l.text)) ls ++ rows) ≡ titles rows
lines-plain [] rows = refl
lines-plain (l ∷ ls) rows = lines-plain ls rows

memos-plain : (ms : List Row) → titles (map plain ms) ≡ []
memos-plain [] = refl
memos-plain (m ∷ ms) = memos-plain ms

-- an alert's title stands beyond the seventh row
abbrev pub stands_beyond : List LeftRow → ℕ → Bool
stands_beyond rows a = leb 7 (position_or_len (λ (r : LeftRow). is_alert a r.title_of) rows)

module _ (stands : Line → Bool) (alerts : ℕ → Alert) where
  joined-titled : (xs : List ℕ) → titles (joined stands alerts xs) ≡ xs
  unfolding alert_rows
  joined-titled [] = refl
  joined-titled (x ∷ xs) =
      ap (λ ts. x ∷ ts) (lines-plain (filter stands (alerts x).lines) (joined stands alerts xs) ∙ joined-titled xs)

  -- the titles of the left zone's rows are the shown alerts'
  titles-shown : (xs : List ℕ) (normal : Bool) (memos : List Row) → titles (left_rows (joined stands alerts xs) normal memos) ≡ xs
  unfolding left_rows alert_rows
  titles-shown [] true memos = refl
  titles-shown [] false memos = memos-plain memos
  titles-shown (x ∷ xs) normal memos = joined-titled (x ∷ xs)

  -- OVF is the number of shown alerts whose titles stand beyond the seventh row
  pub overflow_counts : (xs : List ℕ) (normal : Bool) (memos : List Row) → distinct xs ≡ true → overflow (left_rows (joined stands alerts xs) normal memos) ≡ count_by (stands_beyond (left_rows (joined stands alerts xs) normal memos)) xs
  unfolding overflow
  overflow_counts xs normal memos d =
      let rows = left_rows (joined stands alerts xs) normal memos in
      counted 7 rows (ap distinct (titles-shown xs normal memos) ∙ d)
      ∙ ap (count_by (λ a. leb 7 (title-place rows a))) (titles-shown xs normal memos)
