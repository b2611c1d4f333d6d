-- The lines of an alert in the list of all lines: line j of alert a stands behind the lines of the alerts before it.
use Rattle.std.proofs.Common.{◌≡◌, ℕ, suc, ◌+◌, ◌*◌, ◌<◌, ◌≤◌, Bool, false, List, [], ◌∷◌, map, length, take, drop, get_or, slice_get, Some, All, refl, sym, ap, ◌∙◌, arith, length-append}
use Rattle.std.proofs.lemmas.List.{length-map, get_or-take, get_or-drop}
use Rattle.std.proofs.lemmas.List.Folds.{length-flat_map-take}
use Rattle.std.proofs.lemmas.Option.{slice_get_within, get_or_from_slice_get}
use Rattle.ecam_spec.specs.Book as plain
use Rattle.ecam_spec.specs.BookTerms.{lines_of}
use Rattle.book_model.specs.View.{line_of}
use Rattle.book_model.specs.Sealed.{the_book, alert_in, IsSealed}
use Rattle.book_model.specs.Told.{TellsOf}
use Rattle.book_model.specs.declared.draft.Line.{Line}
use Rattle.book_model.specs.declared.draft.Alert.{Alert}
use Rattle.book_model.specs.declared.draft.Draft.{Draft}
use Rattle.book_model.proofs.Getting.{get-piece}
use Rattle.book_model.proofs.BookLists.{book-alerts}
use Rattle.book_model.proofs.BookReads.{view-get, alert-get}
use Rattle.book_model.proofs.BookLimits.{sizes}
use Rattle.book_model.proofs.SealedBook.{few-lines}

module _ (d : Draft) (xs : List Alert) (a : ℕ) (x : Alert) (same : xs ≡ d.alerts.items) (within : a < length xs) (here : x ≡ get_or xs a x) where
  -- where its lines stand
  line-get : (j : ℕ) (l : plain.Line) → slice_get (map line_of x.lines.items) j ≡ Some l
      → slice_get (lines_of (the_book d).alerts) (length (lines_of (take a (the_book d).alerts)) + j) ≡ Some l
  line-get j l is = get-piece (λ (p : plain.Alert). p.lines) (the_book d).alerts a j (length (lines_of (take a (the_book d).alerts)) + j) (alert_in d x) l refl (alert-get d xs a x same within here) is

  pub line-place : (ls : List Line) (j : ℕ) (l : Line) → ls ≡ x.lines.items → j < length ls → l ≡ get_or ls j l
      → slice_get (lines_of (the_book d).alerts) (length (lines_of (take a (the_book d).alerts)) + j) ≡ Some (line_of l)
  line-place ls j l own inside at = line-get j (line_of l) (ap (λ ms. slice_get (map line_of ms) j) (sym own) ∙ view-get line_of ls j l inside at)

  -- all of them stand in the list
  pub lines-fit : length (lines_of (take a (the_book d).alerts)) + length x.lines.items ≤ length (lines_of (the_book d).alerts)
  lines-fit =
      let all = (the_book d).alerts in
      let got : get_or all a (alert_in d x) ≡ alert_in d x = get_or_from_slice_get all a (alert_in d x) (alert_in d x) (alert-get d xs a x same within here) in
      let some : a < length all = slice_get_within all a (alert_in d x) (alert-get d xs a x same within here) in
      omega (
        arith,
        length-flat_map-take (λ (p : plain.Alert). p.lines) all a (alert_in d x) some,
        ap (λ (p : plain.Alert). length p.lines) got,
        length-map x.lines.items line_of,
      )

  -- of flags that tell of all lines, those from its first line on tell of its lines
  pub told-block : (flags : List Bool) (test : plain.Line → Bool) → TellsOf flags (lines_of (the_book d).alerts) test
      → TellsOf (take (length x.lines.items) (drop (length (lines_of (take a (the_book d).alerts))) flags)) (map line_of x.lines.items) test
  told-block flags test tells = λ j l is.
      let from = length (lines_of (take a (the_book d).alerts)) in
      let inside : j < length x.lines.items = omega (arith, slice_get_within (map line_of x.lines.items) j l is, length-map x.lines.items line_of) in
      get_or-take (length x.lines.items) (drop from flags) j false inside
      ∙ get_or-drop from flags j false
      ∙ tells (from + j) l (line-get j l is)

few-of : (f : Alert → plain.Alert) (xs : List Alert) → ((x : Alert) → length (f x).lines ≡ length x.lines.items)
    → All (λ (x : Alert). length x.lines.items ≤ 16) xs → length (lines_of (map f xs)) ≤ 16 * length xs
few-of f [] same few = omega arith
few-of f (x ∷ xs) same few =
    omega (
      arith,
      length-append (f x).lines (lines_of (map f xs)),
      same x,
      few 0 x (omega arith),
      few-of f xs same (λ i e h. few (suc i) e (omega arith)),
    )

-- a sealed book has 32768 lines at most
pub few-lines-in-all : (d : Draft) → IsSealed d → length (lines_of (the_book d).alerts) ≤ 32768
few-lines-in-all d sealed =
    let each : All (λ (x : Alert). length x.lines.items ≤ 16) d.alerts.items = few-lines d sealed.sound in
    omega (
      arith,
      ap (λ as'. length (lines_of as')) (book-alerts d),
      few-of (alert_in d) d.alerts.items (λ x. length-map x.lines.items line_of) each,
      (sizes d sealed).alerts,
    )
