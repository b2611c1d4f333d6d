-- What stands in the left zone: the title of each shown alert and of no other, once, in a row or counted.
use Rattle.std.proofs.Common.{◌≡◌, ℕ, zero, suc, ◌+◌, ◌-◌, ◌<◌, ◌≤◌, Bool, true, false, ◌||◌, ◌==◌, List, [], ◌∷◌, ◌++◌, map, length, get_or, replicate, Option, Some, None, refl, sym, ◌∙◌, ap, cond, ltb, arith}
use Rattle.std.specs.Prelude.{filter, is_some, option_map, position, flat_map}
use Rattle.std.specs.List.{list_any, position_or_len}
use Rattle.std.proofs.lemmas.Bool.{eqb-true, ltb-true}
use Rattle.std.proofs.lemmas.List.{get_or-take, get_or_append_left, get_or-map, length-map}
use Rattle.std.proofs.lemmas.List.Sums.{passes_at_first}
use Rattle.std.proofs.lemmas.List.Folds.{list_any-append}
use Rattle.std.proofs.Math.Bool.{or-false}
use Rattle.ecam_spec.specs.Book.{Line, Alert}
use Rattle.ecam_spec.specs.Picture.{Row, row, blank_row, zone}
use Rattle.ecam_spec.specs.Crew.{is_alert}
use Rattle.ecam_spec.specs.LeftZone.{LeftRow, plain, title_colour, alert_rows, left_rows, left_zone, title_row}
use Rattle.ecam_spec.proofs.ListLaws.{mem, is_some-position}

is_some-map : (f : ℕ → ℕ) (o : Option ℕ) → is_some (option_map f o) ≡ is_some o
is_some-map f None = refl
is_some-map f (Some n) = refl

-- no row of a list of plain rows is a title
no-titles : (a : ℕ) (rows : List Row) → list_any (λ (r : LeftRow). is_alert a r.title_of) (map plain rows) ≡ false
no-titles a [] = refl
no-titles a (r ∷ rows) = no-titles a rows

no-lines : (a : ℕ) (ls : List Line) → list_any (λ (r : LeftRow). is_alert a r.title_of) (map (λ (l : Line). plain (row l.colour l.text)) ls) ≡ false
no-lines a [] = refl
no-lines a (l ∷ ls) = no-lines a ls

module _ (stands : Line → Bool) (alerts : ℕ → Alert) where
  -- the joined rows of some alerts
  abbrev pub joined : List ℕ → List LeftRow
  joined xs = flat_map (λ a. alert_rows stands a (alerts a)) xs

  abbrev pub is_title : ℕ → LeftRow → Bool
  is_title a r = is_alert a r.title_of

  own-title : (a i : ℕ) → list_any (is_title a) (alert_rows stands i (alerts i)) ≡ (a == i)
  unfolding alert_rows
  own-title a i = ap (λ b. (a == i) || b) (no-lines a (filter stands (alerts i).lines)) ∙ or-false (a == i)

  joined-titles : (a : ℕ) (xs : List ℕ) → list_any (is_title a) (joined xs) ≡ mem a xs
  joined-titles a [] = refl
  joined-titles a (x ∷ xs) =
      list_any-append (is_title a) (alert_rows stands x (alerts x)) (joined xs)
      ∙ ap (λ b. b || list_any (is_title a) (joined xs)) (own-title a x)
      ∙ ap (λ b. (a == x) || b) (joined-titles a xs)

  -- with the alerts or, where there are none, NORMAL or the memos
  left-titles : (a : ℕ) (xs : List ℕ) (normal : Bool) (memos : List Row) → list_any (is_title a) (left_rows (joined xs) normal memos) ≡ mem a xs
  unfolding left_rows alert_rows
  left-titles a [] true memos = refl
  left-titles a [] false memos = no-titles a memos
  left-titles a (x ∷ xs) normal memos = joined-titles a (x ∷ xs)

  -- an alert's title is among the rows exactly where the alert is among those shown
  pub titled_where_shown : (a : ℕ) (xs : List ℕ) (normal : Bool) (memos : List Row) → is_some (title_row a (left_rows (joined xs) normal memos)) ≡ mem a xs
  unfolding title_row
  titled_where_shown a xs normal memos =
      is_some-map (λ i. i + 1) (position (is_title a) (left_rows (joined xs) normal memos))
      ∙ is_some-position (is_title a) (left_rows (joined xs) normal memos)
      ∙ left-titles a xs normal memos

  -- the row of an alert's title
  abbrev pub title_of_alert : ℕ → Row
  title_of_alert a = row (title_colour (alerts a).level) (alerts a).title

  -- a row that is a title is the title of its alert
  abbrev WellTitled : LeftRow → Type 0
  WellTitled r = (a : ℕ) → is_alert a r.title_of ≡ true → r.row ≡ title_of_alert a

  abbrev EachTitled : List LeftRow → Type 0
  EachTitled [] = Unit {0}
  EachTitled (r ∷ rows) = WellTitled r × EachTitled rows

  titled-at : (rows : List LeftRow) (i : ℕ) (d : LeftRow) → i < length rows → EachTitled rows → WellTitled (get_or rows i d)
  titled-at [] i d h t = absurd (omega arith)
  titled-at (r ∷ rows) zero d h t = t.0
  titled-at (r ∷ rows) (suc i) d h t = titled-at rows i d (omega arith) t.1

  false-true : false ≡ true → ⊥
  false-true e = cc

  lines-titled : (ls : List Line) → EachTitled (map (λ (l : Line). plain (row l.colour l.text)) ls)
  lines-titled [] = tt
  lines-titled (l ∷ ls) = ((λ a e. absurd (false-true e)), lines-titled ls)

  memos-titled : (rows : List Row) → EachTitled (map plain rows)
  memos-titled [] = tt
  memos-titled (r ∷ rows) = ((λ a e. absurd (false-true e)), memos-titled rows)

  titled-append : (xs ys : List LeftRow) → EachTitled xs → EachTitled ys → EachTitled (xs ++ ys)
  titled-append [] ys p q = q
  titled-append (x ∷ xs) ys p q = (p.0, titled-append xs ys p.1 q)

  joined-titled : (xs : List ℕ) → EachTitled (joined xs)
  unfolding alert_rows
  joined-titled [] = tt
  joined-titled (x ∷ xs) = (
    (λ a e. ap title_of_alert (sym (eqb-true a x e))),
    titled-append (map (λ (l : Line). plain (row l.colour l.text)) (filter stands (alerts x).lines)) (joined xs)
        (lines-titled (filter stands (alerts x).lines)) (joined-titled xs),
  )

  left-titled : (xs : List ℕ) (normal : Bool) (memos : List Row) → EachTitled (left_rows (joined xs) normal memos)
  unfolding left_rows alert_rows
  left-titled [] true memos = ((λ a e. absurd (false-true e)), tt)
  left-titled [] false memos = memos-titled memos
  left-titled (x ∷ xs) normal memos = joined-titled (x ∷ xs)

  some-inj : (m n : ℕ) → Some m ≡ Some n → m ≡ n
  some-inj m n e = cc

  none-some : (n : ℕ) → None ≡ Some n → ⊥
  none-some n e = cc

  place-within : (p : LeftRow → Bool) (rows : List LeftRow) (r : ℕ) → option_map (λ i. i + 1) (position p rows) ≡ Some r → (position_or_len p rows < length rows) × (r ≡ position_or_len p rows + 1)
  place-within p rows r e =
      (elim (ltb (position_or_len p rows) (length rows)) as
      (λ b. ltb (position_or_len p rows) (length rows) ≡ b → option_map (λ i. i + 1) (cond b (Some (position_or_len p rows)) None) ≡ Some r → (position_or_len p rows < length rows) × (r ≡ position_or_len p rows + 1)) [
        | true ↦ λ t g. (ltb-true (position_or_len p rows) (length rows) t, sym (some-inj (position_or_len p rows + 1) r g))
        | false ↦ λ t g. absurd (none-some r g)
      ]) refl e

  -- the row of an alert's title, by its number, is its title
  pub title_stands : (a r : ℕ) (xs : List ℕ) (normal : Bool) (memos : List Row) → title_row a (left_rows (joined xs) normal memos) ≡ Some r → (1 ≤ r) × (r ≤ length (left_rows (joined xs) normal memos)) × (get_or (map (λ (x : LeftRow). x.row) (left_rows (joined xs) normal memos)) (r - 1) blank_row ≡ title_of_alert a)
  unfolding title_row
  title_stands a r xs normal memos e =
      let rows = left_rows (joined xs) normal memos in
      let place = position_or_len (is_title a) rows in
      let within = place-within (is_title a) rows r e in
      let low : place < length rows = within.0 in
      let number : r ≡ place + 1 = within.1 in (
        omega arith,
        omega arith,
        ap (λ n. get_or (map (λ (x : LeftRow). x.row) rows) n blank_row) (let m : r - 1 ≡ place = omega arith in m)
            ∙ get_or-map (λ (x : LeftRow). x.row) rows place (plain blank_row) blank_row low
            ∙ titled-at rows place (plain blank_row) low (left-titled xs normal memos) a (passes_at_first (is_title a) rows (plain blank_row) low),
      )

  -- and where that is one of the first seven, it is that row of the zone
  pub title_in_zone : (a r : ℕ) (xs : List ℕ) (normal : Bool) (memos : List Row) → title_row a (left_rows (joined xs) normal memos) ≡ Some r → r ≤ 7 → get_or (left_zone (left_rows (joined xs) normal memos)) (r - 1) blank_row ≡ title_of_alert a
  unfolding left_zone zone
  title_in_zone a r xs normal memos e low =
      let rows = left_rows (joined xs) normal memos in
      let t = title_stands a r xs normal memos e in
      let first : 1 ≤ r = t.0 in
      let upto : r ≤ length rows = t.1 in
      let long : length (map (λ (x : LeftRow). x.row) rows) ≡ length rows = length-map rows (λ (x : LeftRow). x.row) in
      get_or-take 7 (map (λ (x : LeftRow). x.row) rows ++ replicate 7 blank_row) (r - 1) blank_row (omega arith)
      ∙ get_or_append_left (map (λ (x : LeftRow). x.row) rows) (replicate 7 blank_row) blank_row (r - 1) (omega arith)
      ∙ t.2
