-- A page that stands on the display, mended row by row.
use Rattle.std.proofs.Common.{◌≡◌, ℕ, suc, ◌+◌, ◌-◌, ◌<◌, ◌≤◌, false, List, [], ◌∷◌, ◌++◌, map, length, take, drop, get_or, replicate, Option, Some, None, refl, sym, ◌∙◌, ap, subst, arith, append_assoc, drop-cons}
use Rattle.std.specs.Prelude.{ℤ, IfSome}
use Rattle.std.proofs.lemmas.List.{length-map, length-take-le, take-append-drop, take-replicate, drop-drop, drop_at, get_or-map}
use Rattle.std.proofs.Math.Seq.{take-append_seam, take-append-add}
use Rattle.ecam_spec.specs.Book as plain
use Rattle.ecam_spec.specs.declared.kinds.Colour.TheVariants.{Green, White}
use Rattle.ecam_spec.specs.Picture as spec
use Rattle.ecam_spec.specs.SystemDisplay.{Display, shown_value, page_row, page_rows, value_row, value_text}
use Rattle.wakes.specs.Marks.{is_marked}
use Rattle.book_model.specs.View.{row_of}
use Rattle.book_model.specs.declared.draft.PageRow.{PageRow}
use Rattle.zone_rows.specs.Tracked.{TrackedRows}
use Rattle.zone_rows.specs.Mended.{Mends}
use Rattle.zone_rows.specs.Zones.{StandAt}
use Rattle.zone_rows.proofs.Mending.{mends-both, mends_kept}
use Rattle.zone_rows.proofs.Zones.{stands_behind}
use Rattle.system_display.specs.Pages.{DifferBy, lines_of}
use Rattle.system_display.proofs.PageRows.{one-line-more}

-- ---- rows that stand

module _ (at : ℕ) (xs ys picture : List spec.Row) (stand : StandAt at (xs ++ ys) picture) where
  apart : drop at picture ≡ xs ++ (ys ++ drop (length (xs ++ ys)) (drop at picture))
  apart =
      sym (take-append-drop (length (xs ++ ys)) (drop at picture))
      ∙ ap (λ rs. rs ++ drop (length (xs ++ ys)) (drop at picture)) stand
      ∙ append_assoc xs ys (drop (length (xs ++ ys)) (drop at picture))

  -- the first of them stand
  pub stand-front : StandAt at xs picture
  stand-front = ap (take (length xs)) apart ∙ take-append_seam xs (ys ++ drop (length (xs ++ ys)) (drop at picture))

  -- and those behind them
  pub stand-rest : StandAt (at + length xs) ys picture
  stand-rest =
      ap (take (length ys))
      (sym (drop-drop (length xs) at picture) ∙ ap (drop (length xs)) apart
      ∙ drop_at xs (ys ++ drop (length (xs ++ ys)) (drop at picture)) (length xs) refl)
      ∙ take-append_seam ys (drop (length (xs ++ ys)) (drop at picture))

-- one of them
pub stand-one : (at i : ℕ) (rows picture : List spec.Row) (r : spec.Row) → i < length rows → get_or rows i spec.blank_row ≡ r → StandAt at rows picture → StandAt (at + i) (r ∷ []) picture
stand-one at i rows picture r within here stand =
    let split : rows ≡ take i rows ++ ((r ∷ []) ++ drop (suc i) rows) =
    sym (take-append-drop i rows) ∙ ap (λ rs. take i rows ++ rs) (drop-cons rows i spec.blank_row within ∙ ap (λ x. x ∷ drop (suc i) rows) here) in
    let long : length (take i rows) ≡ i = length-take-le i rows (omega arith) in
    let rest = stand-rest at (take i rows) ((r ∷ []) ++ drop (suc i) rows) picture (subst (λ rs. StandAt at rs picture) split stand) in
    subst (λ n. StandAt (at + n) (r ∷ []) picture) long (stand-front (at + length (take i rows)) (r ∷ []) (drop (suc i) rows) picture rest)

-- ---- a row that shows no value that turned

module _ (b : plain.Book) (turned : List ℕ) (was d : Display) (differ : DifferBy b turned was d) where
  value-same : (r : plain.PageRow) (p : ℕ) (v : Option ℤ) → was.kinds p ≡ d.kinds p → shown_value was r p v ≡ shown_value d r p v
  unfolding shown_value
  value-same r p None same = refl
  value-same r p (Some z) same = ap (λ kind. value_row r.text r.unit Green (value_text kind z)) same

  pub row-same : (r : plain.PageRow) (o : Option ℕ) → IfSome o (λ p. p < length b.parameters) → IfSome o (λ p. is_marked turned p ≡ false) → page_row was r o ≡ page_row d r o
  unfolding page_row
  row-same r None lt off = refl
  row-same r (Some p) lt off = ap (shown_value was r p) (differ.values p lt off) ∙ value-same r p (d.values p) (differ.kinds p lt)

-- ---- the rows behind the title

module _ (lines : List PageRow) (i : ℕ) (x : PageRow) (within : i < length lines) (here : x ≡ get_or lines i x) (was d : Display) where
  line-there : get_or (lines_of was (map row_of lines)) i spec.blank_row ≡ page_row was (row_of x) x.show
  line-there =
      get_or-map (λ (r : plain.PageRow). page_row was r r.show) (map row_of lines) i (row_of x) spec.blank_row (omega (arith, length-map lines row_of))
      ∙ ap (λ (r : plain.PageRow). page_row was r r.show) (get_or-map row_of lines i x (row_of x) within ∙ ap row_of (sym here))

  many : (n : ℕ) (these : Display) → n ≤ length lines → length (lines_of these (map row_of (take n lines))) ≡ n
  many n these le =
      length-map (map row_of (take n lines)) (λ (r : plain.PageRow). page_row these r r.show) ∙ length-map (take n lines) row_of ∙ length-take-le n lines le

  all-many : length (lines_of was (map row_of lines)) ≡ length lines
  all-many = length-map (map row_of lines) (λ (r : plain.PageRow). page_row was r r.show) ∙ length-map lines row_of

  module _ (old mid new : TrackedRows) (room : 16 + length lines ≤ length old.rows) (stand : StandAt 16 (lines_of was (map row_of lines)) old.rows)
      (mended : Mends 16 (lines_of d (map row_of (take i lines))) old mid) where
    -- it stands still as it was after those before it were mended
    pub next-stands : StandAt (16 + i) (page_row was (row_of x) x.show ∷ []) mid.rows
    next-stands =
        let long = many i d (omega arith) in
        stands_behind 16 (lines_of d (map row_of (take i lines))) old mid (16 + i) (page_row was (row_of x) x.show ∷ []) (omega (arith, long)) (omega (arith, long)) mended
        (stand-one 16 i (lines_of was (map row_of lines)) old.rows (page_row was (row_of x) x.show) (omega (arith, all-many)) line-there stand)

    -- and with it one more is mended
    pub one-more-mended : Mends (16 + i) (page_row d (row_of x) x.show ∷ []) mid new → Mends 16 (lines_of d (map row_of (take (i + 1) lines))) old new
    one-more-mended next =
        let long = many i d (omega arith) in
        subst (λ rs. Mends 16 rs old new) (one-line-more lines i x within here d)
        (mends-both 16 (lines_of d (map row_of (take i lines))) (page_row d (row_of x) x.show ∷ []) old mid new (omega (arith, long)) mended
        (subst (λ n. Mends (16 + n) (page_row d (row_of x) x.show ∷ []) mid new) (sym long) next))

-- nothing is mended yet
pub none-mended : (lines : List PageRow) (d : Display) (t : TrackedRows) → Mends 16 (lines_of d (map row_of (take 0 lines))) t t
none-mended lines d t = mends_kept 16 [] t refl

-- ---- the page

-- a page is its title, its rows and blank ones
page-parts : (d : Display) (p : plain.Page) → length p.rows ≤ 17
    → page_rows d (Some p) ≡ (spec.row White p.title ∷ []) ++ (lines_of d p.rows ++ replicate (17 - length p.rows) spec.blank_row)
unfolding page_rows spec.zone
page-parts d p few =
    let put = spec.row White p.title ∷ lines_of d p.rows in
    let long : length put ≡ 1 + length p.rows = omega (arith, length-map p.rows (λ (r : plain.PageRow). page_row d r r.show)) in
    let room : 18 ≡ length put + (17 - length p.rows) = omega (arith, long) in
    ap (λ n. take n (put ++ replicate 18 spec.blank_row)) room
    ∙ take-append-add put (replicate 18 spec.blank_row) (17 - length p.rows)
    ∙ ap (λ rs. put ++ rs) (take-replicate (17 - length p.rows) 18 spec.blank_row (omega arith))

-- its title and the blank rows stand, and so it is mended with its rows
pub page-mended : (was d : Display) (p : plain.Page) → length p.rows ≤ 17 → (old new : TrackedRows) → length old.rows ≡ 36 → StandAt 15 (page_rows was (Some p)) old.rows
    → (StandAt 16 (lines_of was p.rows) old.rows → Mends 16 (lines_of d p.rows) old new) → Mends 15 (page_rows d (Some p)) old new
page-mended was d p few old new whole stand lines =
    let title : List spec.Row = spec.row White p.title ∷ [] in
    let blanks : List spec.Row = replicate (17 - length p.rows) spec.blank_row in
    let all = subst (λ rs. StandAt 15 rs old.rows) (page-parts was p few) stand in
    let behind : StandAt 16 (lines_of was p.rows ++ blanks) old.rows = stand-rest 15 title (lines_of was p.rows ++ blanks) old.rows all in
    let mended = lines (stand-front 16 (lines_of was p.rows) blanks old.rows behind) in
    let long_was : length (lines_of was p.rows) ≡ length p.rows = length-map p.rows (λ (r : plain.PageRow). page_row was r r.show) in
    let long : length (lines_of d p.rows) ≡ length p.rows = length-map p.rows (λ (r : plain.PageRow). page_row d r r.show) in
    let blank_there : StandAt (16 + length (lines_of d p.rows)) blanks old.rows =
    subst (λ n. StandAt (16 + n) blanks old.rows) (long_was ∙ sym long) (stand-rest 16 (lines_of was p.rows) blanks old.rows behind) in
    let blank_stays = stands_behind 16 (lines_of d p.rows) old new (16 + length (lines_of d p.rows)) blanks (omega (arith, long, whole)) (omega arith) mended blank_there in
    let rest : Mends 16 (lines_of d p.rows ++ blanks) old new =
    mends-both 16 (lines_of d p.rows) blanks old new new (omega (arith, long, whole)) mended (mends_kept (16 + length (lines_of d p.rows)) blanks new blank_stays) in
    let kept = mends_kept 15 title old (stand-front 15 title (lines_of was p.rows ++ blanks) old.rows all) in
    subst (λ rs. Mends 15 rs old new) (sym (page-parts d p few)) (mends-both 15 title (lines_of d p.rows ++ blanks) old old new (omega (arith, whole)) kept rest)

-- without a page all rows stay blank
pub none-shown : (d was : Display) (o : Option plain.Page) (t : TrackedRows) → o ≡ None → StandAt 15 (page_rows was o) t.rows → Mends 15 (page_rows d o) t t
unfolding page_rows
none-shown d was o t none stand =
    subst (λ x. Mends 15 (page_rows d x) t t) (sym none) (mends_kept 15 (page_rows d None) t (subst (λ x. StandAt 15 (page_rows was x) t.rows) none stand))
