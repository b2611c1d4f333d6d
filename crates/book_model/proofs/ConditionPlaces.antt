-- Which number each condition of a sealed book has among all, and so its place and its world.
use Rattle.std.proofs.Common.{◌≡◌, ℕ, ◌+◌, ◌*◌, ◌<◌, List, [], ◌∷◌, ◌++◌, map, length, take, get_or, slice_get, Some, refl, sym, ap, ◌∙◌, arith, length-append, length-take}
use Rattle.std.specs.List.{flat_map}
use Rattle.std.proofs.lemmas.List.{length-map, take-map}
use Rattle.std.proofs.lemmas.Option.{slice_get-get_or}
use Rattle.ecam_spec.specs.BookTerms.{lines_of}
use Rattle.ecam_spec.specs.TermSize.{Placed}
use Rattle.book_model.specs.View.{placed_of, line_of}
use Rattle.book_model.specs.Slots.{phase_places, when_place, line_places, lines_places, memo_place, draft_places}
use Rattle.book_model.specs.Sealed.{the_book, alert_in, IsSealed}
use Rattle.book_model.specs.Conditions.{places, alerts_from, lines_from, memos_from}
use Rattle.book_model.specs.declared.draft.Line.{Line}
use Rattle.book_model.specs.declared.draft.Alert.{Alert}
use Rattle.book_model.specs.declared.draft.Memo.{Memo}
use Rattle.book_model.specs.declared.draft.Draft.{Draft}
use Rattle.book_model.proofs.Getting.{get-front, get-behind, get-piece}
use Rattle.book_model.proofs.BookLists.{book-alerts, many-alerts, many-memos}
use Rattle.book_model.proofs.BookReads.{view-get}

-- two conditions a line
pub two-each : (ls : List Line) → length (flat_map line_places ls) ≡ 2 * length ls
two-each [] = refl
two-each (l ∷ ls) = omega (arith, two-each ls)

module _ (d : Draft) where
  line-conditions : (xs : List Alert) → length (flat_map lines_places xs) ≡ 2 * length (lines_of (map (alert_in d) xs))
  line-conditions [] = refl
  line-conditions (x ∷ xs) =
      omega (
        arith,
        length-append (lines_places x) (flat_map lines_places xs),
        two-each x.lines.items,
        length-append (map line_of x.lines.items) (lines_of (map (alert_in d) xs)),
        length-map x.lines.items line_of,
        line-conditions xs,
      )

  -- of the alerts before alert a, and of all
  before-lines : (a : ℕ) → length (flat_map lines_places (take a d.alerts.items)) ≡ 2 * length (lines_of (take a (the_book d).alerts))
  before-lines a =
      line-conditions (take a d.alerts.items)
      ∙ ap (λ as'. 2 * length (lines_of as')) (sym (take-map (alert_in d) a d.alerts.items) ∙ ap (take a) (sym (book-alerts d)))

  all-lines : length (flat_map lines_places d.alerts.items) ≡ 2 * length (lines_of (the_book d).alerts)
  all-lines = line-conditions d.alerts.items ∙ ap (λ as'. 2 * length (lines_of as')) (sym (book-alerts d))

  -- the four parts of the list that the draft keeps
  abbrev inputs : List Placed
  inputs = phase_places d.phase

  abbrev owns : List Placed
  owns = map when_place d.alerts.items

  abbrev procedures : List Placed
  procedures = flat_map lines_places d.alerts.items

  abbrev memos : List Placed
  memos = map memo_place d.memos.items

  before-procedures : length (inputs ++ owns) ≡ lines_from (the_book d)
  before-procedures = omega (arith, length-append inputs owns, length-map d.alerts.items when_place, many-alerts d)

  before-memos : length (inputs ++ owns ++ procedures) ≡ memos_from (the_book d)
  before-memos = omega (arith, length-append (inputs ++ owns) procedures, before-procedures, all-lines)

  module _ (sealed : IsSealed d) where
    -- what stands in the list that the draft keeps
    kept : (i : ℕ) (p : Placed) → slice_get (draft_places d) i ≡ Some p → slice_get (places (the_book d)) i ≡ Some p
    kept i p is = ap (λ ps. slice_get ps i) (sym sealed.placed) ∙ is

    -- the six inputs, as each of `phase_places`
    pub phase-place : (j : ℕ) (p : Placed) → slice_get (phase_places d.phase) j ≡ Some p → slice_get (places (the_book d)) j ≡ Some p
    unfolding draft_places
    phase-place j p is =
        kept j p (get-front (inputs ++ owns ++ procedures) memos j p (get-front (inputs ++ owns) procedures j p (get-front inputs owns j p is)))

    module _ (xs : List Alert) (a : ℕ) (x : Alert) (same : xs ≡ d.alerts.items) (within : a < length xs) (here : x ≡ get_or xs a x) where
      got : slice_get (map when_place d.alerts.items) a ≡ Some (placed_of x.when)
      got = ap (λ ys. slice_get (map when_place ys) a) (sym same) ∙ view-get when_place xs a x within here

      pub own-place : slice_get (places (the_book d)) (alerts_from + a) ≡ Some (placed_of x.when)
      unfolding draft_places
      own-place =
          kept (alerts_from + a) (placed_of x.when)
          (get-front (inputs ++ owns ++ procedures) memos (alerts_from + a) (placed_of x.when)
          (get-front (inputs ++ owns) procedures (alerts_from + a) (placed_of x.when)
          (get-behind inputs owns a (alerts_from + a) (placed_of x.when) refl got)))

      -- the conditions of a line, by its number among all lines
      of-line : (j i : ℕ) (p : Placed) → slice_get (lines_places x) j ≡ Some p → i ≡ lines_from (the_book d) + (2 * length (lines_of (take a (the_book d).alerts)) + j)
          → slice_get (places (the_book d)) i ≡ Some p
      unfolding draft_places
      of-line j i p is at =
          let alert : slice_get d.alerts.items a ≡ Some x = ap (λ ys. slice_get ys a) (sym same) ∙ slice_get-get_or xs a x within ∙ ap Some (sym here) in
          kept i p
          (get-front (inputs ++ owns ++ procedures) memos i p
          (get-behind (inputs ++ owns) procedures (length (flat_map lines_places (take a d.alerts.items)) + j) i p (omega (arith, before-procedures, before-lines a))
          (get-piece lines_places d.alerts.items a j (length (flat_map lines_places (take a d.alerts.items)) + j) x p refl alert is)))

      module _ (ls : List Line) (j : ℕ) (l : Line) (own : ls ≡ x.lines.items) (inside : j < length ls) (at : l ≡ get_or ls j l) where
        line : slice_get x.lines.items j ≡ Some l
        line = ap (λ ms. slice_get ms j) (sym own) ∙ slice_get-get_or ls j l inside ∙ ap Some (sym at)

        pair : length (flat_map line_places (take j x.lines.items)) ≡ 2 * j
        pair = two-each (take j x.lines.items) ∙ omega (arith, length-take j x.lines.items, ap length own)

        pub line-when : slice_get (places (the_book d)) (lines_from (the_book d) + 2 * (length (lines_of (take a (the_book d).alerts)) + j)) ≡ Some (placed_of l.when)
        line-when =
            of-line (2 * j) _ (placed_of l.when)
            (get-piece line_places x.lines.items j 0 (2 * j) l (placed_of l.when) (omega (arith, pair)) line refl) (omega arith)

        pub line-done : slice_get (places (the_book d)) (lines_from (the_book d) + 2 * (length (lines_of (take a (the_book d).alerts)) + j) + 1) ≡ Some (placed_of l.done)
        line-done =
            of-line (2 * j + 1) _ (placed_of l.done)
            (get-piece line_places x.lines.items j 1 (2 * j + 1) l (placed_of l.done) (omega (arith, pair)) line refl) (omega arith)

    module _ (xs : List Memo) (j : ℕ) (x : Memo) (same : xs ≡ d.memos.items) (within : j < length xs) (here : x ≡ get_or xs j x) where
      pub memo-place-at : slice_get (places (the_book d)) (memos_from (the_book d) + j) ≡ Some (placed_of x.when)
      unfolding draft_places
      memo-place-at =
          kept (memos_from (the_book d) + j) (placed_of x.when)
          (get-behind (inputs ++ owns ++ procedures) memos j (memos_from (the_book d) + j) (placed_of x.when) (omega (arith, before-memos))
          (ap (λ ys. slice_get (map memo_place ys) j) (sym same) ∙ view-get memo_place xs j x within here))

    -- how many there are
    pub all-places : length (places (the_book d)) ≡ memos_from (the_book d) + length (the_book d).memos
    unfolding draft_places
    all-places =
        omega (
          arith,
          ap length sealed.placed,
          length-append (inputs ++ owns ++ procedures) memos,
          before-memos,
          length-map d.memos.items memo_place,
          many-memos d,
        )
