-- Rows put into a list of rows, place by place.
use Rattle.std.proofs.Common.{◌≡◌, ℕ, suc, ◌+◌, ◌-◌, ◌<◌, ◌≤◌, min, List, [], ◌∷◌, ◌++◌, length, take, drop, get_or, set, sym, ◌∙◌, ap, arith, append_assoc, length-append, length-drop, drop-cons}
use Rattle.std.proofs.lemmas.List.{length-take, length-take-le, take-append-drop, take_at, get_or-take, get_or_append_left, get_or-append_right, get_or-drop}
use Rattle.std.proofs.lemmas.Slice.{drop-append-drop}
use Rattle.std.proofs.Math.Seq.{set-append_seam}
use Rattle.ecam_spec.specs.Picture.{Row, blank_row}
use Rattle.zone_rows.specs.Mended.{put_rows}

pub length-put_rows : (at : ℕ) (put old : List Row) → length (put_rows at put old) ≡ min at (length old) + (length put + (length old - (at + length put)))
length-put_rows at put old =
    length-append (take at old) (put ++ drop (at + length put) old)
    ∙ ap (λ n. n + length (put ++ drop (at + length put) old)) (length-take at old)
    ∙ ap (λ n. min at (length old) + n) (length-append put (drop (at + length put) old) ∙ ap (λ n. length put + n) (length-drop (at + length put) old))

-- a row of a list with rows put in stands within it
pub room-there : (at n : ℕ) (put old : List Row) → length (put_rows at put old) ≡ n → at + length put < n → length old ≡ n
room-there at n put old long within = omega (arith, sym (length-put_rows at put old) ∙ long)

-- the rows before them
pub row-before : (at : ℕ) (put old : List Row) (i : ℕ) → at ≤ length old → i < at → get_or (put_rows at put old) i blank_row ≡ get_or old i blank_row
row-before at put old i fits h =
    get_or_append_left (take at old) (put ++ drop (at + length put) old) blank_row i (omega (arith, length-take-le at old fits))
    ∙ get_or-take at old i blank_row h

module _ (at : ℕ) (put old : List Row) (within : at + length put ≤ length old) where
  front-long : length (take at old) ≡ at
  front-long = length-take-le at old (omega arith)

  put-long : length (take at old ++ put) ≡ at + length put
  put-long = length-append (take at old) put ∙ ap (λ n. n + length put) front-long

  pub length-put : length (put_rows at put old) ≡ length old
  length-put = length-put_rows at put old ∙ omega arith

  -- the rows behind them
  pub row-behind : (i : ℕ) → at + length put ≤ i → get_or (put_rows at put old) i blank_row ≡ get_or old i blank_row
  row-behind i h =
      ap (λ rs. get_or rs i blank_row) (sym (append_assoc (take at old) put (drop (at + length put) old)))
      ∙ get_or-append_right (take at old ++ put) (drop (at + length put) old) (at + length put) i blank_row put-long h
      ∙ get_or-drop (at + length put) old (i - (at + length put)) blank_row
      ∙ ap (λ n. get_or old n blank_row) (omega arith)

  pub drop-behind : (from : ℕ) → at + length put ≤ from → drop from (put_rows at put old) ≡ drop from old
  drop-behind from h =
      ap (drop from) (sym (append_assoc (take at old) put (drop (at + length put) old)))
      ∙ drop-append-drop (at + length put) old (take at old ++ put) from h put-long

  -- other rows after them
  pub put-both : (those : List Row) → put_rows (at + length put) those (put_rows at put old) ≡ put_rows at (put ++ those) old
  put-both those =
      let whole : put_rows at put old ≡ (take at old ++ put) ++ drop (at + length put) old = sym (append_assoc (take at old) put (drop (at + length put) old)) in
      let front : take (at + length put) (put_rows at put old) ≡ take at old ++ put =
      ap (take (at + length put)) whole ∙ take_at (take at old ++ put) (drop (at + length put) old) (at + length put) put-long in
      let back : drop (at + length put + length those) (put_rows at put old) ≡ drop (at + length put + length those) old =
      drop-behind (at + length put + length those) (omega arith) in
      let behind : at + length put + length those ≡ at + length (put ++ those) = omega (arith, length-append put those) in
      ap (λ rs. rs ++ (those ++ drop (at + length put + length those) (put_rows at put old))) front
      ∙ ap (λ rs. (take at old ++ put) ++ (those ++ rs)) (back ∙ ap (λ n. drop n old) behind)
      ∙ append_assoc (take at old) put (those ++ drop (at + length (put ++ those)) old)
      ∙ ap (λ rs. take at old ++ rs) (sym (append_assoc put those (drop (at + length (put ++ those)) old)))

-- one more row put after them
pub set-put : (at : ℕ) (put old : List Row) (r : Row) → at + length put < length old → set (put_rows at put old) (at + length put) r ≡ put_rows at (put ++ r ∷ []) old
set-put at put old r within =
    let n = at + length put in
    let rest : drop (at + length put) old ≡ get_or old (at + length put) blank_row ∷ drop (suc (at + length put)) old = drop-cons old (at + length put) blank_row within in
    let whole : put_rows at put old ≡ (take at old ++ put) ++ get_or old (at + length put) blank_row ∷ drop (suc (at + length put)) old =
    sym (append_assoc (take at old) put (drop (at + length put) old)) ∙ ap (λ rs. (take at old ++ put) ++ rs) rest in
    let place : at + length put ≡ length (take at old ++ put) = sym (put-long at put old (omega arith)) in
    let behind : suc (at + length put) ≡ at + length (put ++ r ∷ []) = omega (arith, length-append put (r ∷ [])) in
    ap (λ rs. set rs (at + length put) r) whole
    ∙ ap (λ i. set ((take at old ++ put) ++ get_or old (at + length put) blank_row ∷ drop (suc (at + length put)) old) i r) place
    ∙ set-append_seam (take at old ++ put) (get_or old (at + length put) blank_row) (drop (suc (at + length put)) old) r
    ∙ ap (λ i. (take at old ++ put) ++ r ∷ drop i old) behind
    ∙ append_assoc (take at old) put (r ∷ drop (at + length (put ++ r ∷ [])) old)
    ∙ ap (λ rs. take at old ++ rs) (sym (append_assoc put (r ∷ []) (drop (at + length (put ++ r ∷ [])) old)))

pub put-none : (at : ℕ) (old : List Row) → put_rows at [] old ≡ old
put-none at old = ap (λ n. take at old ++ drop n old) (let e : at + 0 ≡ at = omega arith in e) ∙ take-append-drop at old

-- one row put is that row set
pub put-one : (at : ℕ) (old : List Row) (r : Row) → at < length old → put_rows at (r ∷ []) old ≡ set old at r
put-one at old r within =
    let here : at + 0 ≡ at = omega arith in
    sym (set-put at [] old r (omega arith)) ∙ ap (λ i. set (put_rows at [] old) i r) here ∙ ap (λ rs. set rs at r) (put-none at old)
