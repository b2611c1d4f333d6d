-- The rows of a page, one after another.
use Rattle.std.proofs.Common.{◌≡◌, ℕ, ◌+◌, ◌<◌, ◌≤◌, List, [], ◌∷◌, ◌++◌, map, length, take, get_or, All, Option, Some, None, refl, sym, ◌∙◌, ap, subst, arith, add-one, take-suc}
use Rattle.std.proofs.lemmas.List.{length-map, take_all, map-append}
use Rattle.ecam_spec.specs.Book as plain
use Rattle.ecam_spec.specs.Picture.{zone}
use Rattle.ecam_spec.specs.KeepsLimits.{IsSoundRow}
use Rattle.ecam_spec.specs.SystemDisplay.{Display, page_row, page_rows}
use Rattle.book_model.specs.View.{row_of}
use Rattle.book_model.specs.declared.draft.PageRow.{PageRow}
use Rattle.system_display.specs.Pages.{lines_of, rows_on}
use Rattle.book_model.proofs.BookReads.{view-read}

-- a line that is read
module _ (lines : List PageRow) (i : ℕ) (x : PageRow) (within : i < length lines) (here : x ≡ get_or lines i x) where
  pub sound-line : (params : ℕ) → All (IsSoundRow params) (map row_of lines) → IsSoundRow params (row_of x)
  sound-line params all =
      subst (IsSoundRow params) (view-read row_of lines i x within here (row_of x)) (all i (row_of x) (omega (arith, length-map lines row_of)))

  pub one-line-more : (d : Display) → lines_of d (map row_of (take i lines)) ++ page_row d (row_of x) x.show ∷ [] ≡ lines_of d (map row_of (take (i + 1) lines))
  one-line-more d =
      let more : take (i + 1) lines ≡ take i lines ++ x ∷ [] = ap (λ n. take n lines) (add-one i) ∙ take-suc lines i x within ∙ ap (λ y. take i lines ++ y ∷ []) (sym here) in
      sym (ap (λ ls. lines_of d (map row_of ls)) more
      ∙ ap (lines_of d) (map-append row_of (take i lines) (x ∷ []))
      ∙ map-append (λ (r : plain.PageRow). page_row d r r.show) (map row_of (take i lines)) (row_of x ∷ []))

pub all-lines : (lines : List PageRow) (n : ℕ) (d : Display) → length lines ≤ n → lines_of d (map row_of (take n lines)) ≡ lines_of d (map row_of lines)
all-lines lines n d enough = ap (λ ls. lines_of d (map row_of ls)) (take_all n lines enough)

-- a page fills the zone with its rows
pub page-zone : (d : Display) (o : Option plain.Page) → zone 18 (rows_on d o) ≡ page_rows d o
unfolding page_rows
page-zone d None = refl
page-zone d (Some p) = refl
