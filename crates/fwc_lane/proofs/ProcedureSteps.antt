-- The conditions of the procedure lines are stepped, and each line is told of whose conditions one is.
use Rattle.std.proofs.Common.{◌≡◌, ◌≢◌, ℕ, zero, suc, ◌+◌, ◌-◌, ◌*◌, ◌^◌, ◌<◌, ◌≤◌, Bool, true, false, not, ◌&&◌, List, [], ◌∷◌, ◌++◌, map, length, take, get_or, set, slice_get, Some, refl, sym, ap, subst, ◌∙◌, inl, inr, arith, add-one, length-append}
use Rattle.std.proofs.lemmas.Bool.{cases_eq, cases_lt}
use Rattle.std.proofs.lemmas.List.{take_all, length-map, get_or-set_other}
use Rattle.std.proofs.lemmas.Grind.{flat_map-append}
use Rattle.std.proofs.lemmas.Option.{slice_get_within, slice_get-get_or}
use Rattle.ecam_spec.specs.Book as plain
use Rattle.ecam_spec.specs.BookTerms.{lines_of}
use Rattle.ecam_spec.specs.Term.{holds}
use Rattle.ecam_spec.specs.History.{Moment}
use Rattle.ecam_spec.specs.Situation.{world}
use Rattle.ecam_spec.specs.Screen.{line_stands}
use Rattle.book_model.specs.declared.draft.Line.{Line}
use Rattle.book_model.specs.declared.draft.Alert.{Alert}
use Rattle.book_model.specs.declared.draft.Draft.{Draft}
use Rattle.book_model.specs.View.{placed_of, tree_in, line_of}
use Rattle.book_model.specs.Told.{TellsOf}
use Rattle.book_model.specs.Sealed.{the_book, alert_in, IsSealed}
use Rattle.book_model.specs.Conditions.{places, lines_from, memos_from, world_of}
use Rattle.book_model.proofs.BookLists.{many-parameters, many-alerts}
use Rattle.book_model.proofs.BookLines.{line-place}
use Rattle.book_model.proofs.BookReads.{alert-get}
use Rattle.book_model.proofs.ConditionPlaces.{line-when, line-done, all-places}
use Rattle.ecam_spec.specs.TermNames.{IsWithin}
use Rattle.book_model.proofs.ConditionRanges.{ranges-apart}
use Rattle.book_model.proofs.ConditionWorlds.{rest-world}
use Rattle.warning_display.proofs.Passing.{taken}
use Rattle.term_eval.specs.declared.env.Env.{Env}
use Rattle.ecam_spec.specs.TermSize.{Placed}
use Rattle.fwc_lane.specs.Given.{ShowsFirst}
use Rattle.term_eval.specs.Woken.{Operand, moved}
use Rattle.fwc_lane.specs.declared.terms.Terms.{Terms}
use Rattle.fwc_lane.specs.Conditions.{StepsTerm, TellsMoved, BookHalf, LinesHalf, LinesWere, known_world}
use Rattle.fwc_lane.specs.LineFlags.{stands_by}
use Rattle.fwc_lane.proofs.NamesWithin.{names-within}
use Rattle.fwc_lane.proofs.Stages.{rest-tells}
use Rattle.fwc_lane.proofs.FlagSteps.{set-own, with-item}
use Rattle.wakes.specs.Marks.{is_marked}
use Rattle.fwc_lane.specs.Waking.{NoneMarked}
use Rattle.fwc_lane.proofs.Stepping.{half-rest}

-- how many lines an alert and those before it have
module _ (d : Draft) (xs : List Alert) (a : ℕ) (x : Alert) (same : xs ≡ d.alerts.items) (within : a < length xs) (here : x ≡ get_or xs a x) where
  own-many : length (lines_of (take (a + 1) (the_book d).alerts)) ≡ length (lines_of (take a (the_book d).alerts)) + length x.lines.items
  own-many =
      ap (λ as'. length (lines_of as')) (taken (the_book d).alerts a (alert_in d x) (alert-get d xs a x same within here))
      ∙ ap length (flat_map-append (λ (p : plain.Alert). p.lines) (take a (the_book d).alerts) (alert_in d x ∷ []))
      ∙ omega (
        arith,
        length-append (lines_of (take a (the_book d).alerts)) (map line_of x.lines.items ++ []),
        length-append (map line_of x.lines.items) [],
        length-map x.lines.items line_of,
      )

-- where the lines of an alert start among all
module _ (d : Draft) where
  abbrev start : ℕ → ℕ
  start a = length (lines_of (take a (the_book d).alerts))

  start-all : (a : ℕ) → length d.alerts.items ≤ a → start a ≡ length (lines_of (the_book d).alerts)
  start-all a le = ap (λ as'. length (lines_of as')) (take_all a (the_book d).alerts (omega (arith, many-alerts d)))

-- a line among all is one of an alert
module _ (d : Draft) (P : ℕ → Type 0) (n : ℕ) (less : n < length (lines_of (the_book d).alerts))
    (go : (a : ℕ) (x : Alert) → a < length d.alerts.items → x ≡ get_or d.alerts.items a x → (j : ℕ) (l : Line) → j < length x.lines.items → l ≡ get_or x.lines.items j l → P (start d a + j)) where
  from-alert : (r a : ℕ) → a + r ≡ length d.alerts.items → start d a ≤ n → P n
  from-alert zero a all low = absurd (let w : ⊥ = omega (arith, start-all d a (omega (arith, all)), low, less) in w)
  from-alert (suc r) a all low =
      let within : a < length d.alerts.items = omega (arith, all) in
      with-item d.alerts.items a within
      (λ x here.
      let many = own-many d d.alerts.items a x refl within here in
      elim (cases_lt n (start d (a + 1))) [
        | inl before ↦
            let j = n - start d a in
            let inside : j < length x.lines.items = omega (arith, many, before, low) in
            let e : start d a + j ≡ n = omega (arith, low) in
            subst P e (with-item x.lines.items j inside (λ l at. go a x within here j l inside at))
        | inr past ↦ from-alert r (a + 1) (omega (arith, all)) past
      ])

  with-line : P n
  with-line = from-alert (length d.alerts.items) 0 (omega arith) (let none : start d 0 ≤ n = omega arith in none)

-- the place of a condition, and what it names
pub condition-place : (d : Draft) → IsSealed d → (i : ℕ) → i < memos_from (the_book d)
    → (p : Placed) × (slice_get (places (the_book d)) i ≡ Some p) × IsWithin (length d.params.items) (length d.alerts.items) p.tree
condition-place d sealed i less =
    let inside : i < length (places (the_book d)) = omega (arith, less, all-places d sealed) in
    with-item (places (the_book d)) i inside
    (λ p here.
    let is : slice_get (places (the_book d)) i ≡ Some p = slice_get-get_or (places (the_book d)) i p inside ∙ ap Some (sym here) in (
      p,
      is,
      subst (λ n. IsWithin n (length d.alerts.items) p.tree) (many-parameters d)
          (subst (λ n. IsWithin (length (the_book d).parameters) n p.tree) (many-alerts d) (names-within d sealed i p is)),
    ))

module _ (d : Draft) (sealed : IsSealed d) (m : ℕ → Moment) where
  -- what is kept of the lines' conditions is told of moment h
  abbrev AreOf : List Bool → ℕ → Type 0
  AreOf truths h = (i : ℕ) (p : Placed) → lines_from (the_book d) ≤ i → i < memos_from (the_book d) → slice_get (places (the_book d)) i ≡ Some p
      → get_or truths i false ≡ holds (world_of (the_book d) m i) p.tree h

  -- a line stands by it where it stands in that moment
  module _ (truths : List Bool) (h : ℕ) (are : AreOf truths h) where
    held : (i : ℕ) (p : Placed) → lines_from (the_book d) ≤ i → i < memos_from (the_book d) → slice_get (places (the_book d)) i ≡ Some p → get_or truths i false ≡ holds (world (the_book d) m) p.tree h
    held i p from to is = are i p from to is ∙ ap (λ w. holds w p.tree h) (rest-world (the_book d) m i from)

    module _ (a : ℕ) (x : Alert) (within : a < length d.alerts.items) (here : x ≡ get_or d.alerts.items a x) (j : ℕ) (l : Line) (inside : j < length x.lines.items) (at : l ≡ get_or x.lines.items j l) where
      place : slice_get (lines_of (the_book d).alerts) (start d a + j) ≡ Some (line_of l)
      place = line-place d d.alerts.items a x refl within here x.lines.items j l refl inside at

      less : start d a + j < length (lines_of (the_book d).alerts)
      less = slice_get_within (lines_of (the_book d).alerts) (start d a + j) (line_of l) place

      stands : stands_by truths (lines_from (the_book d) + 2 * (start d a + j)) ≡ line_stands (the_book d) m h (line_of l)
      unfolding line_stands
      stands =
          let first = lines_from (the_book d) + 2 * (start d a + j) in
          ap (λ c. c && not (get_or truths (suc first) false))
          (held first (placed_of l.when) (omega arith) (omega (arith, less)) (line-when d sealed d.alerts.items a x refl within here x.lines.items j l refl inside at))
          ∙ ap (λ c. holds (world (the_book d) m) (tree_in l.when) h && not c)
          (held (suc first) (placed_of l.done) (omega arith) (omega (arith, less))
          (ap (slice_get (places (the_book d))) (sym (add-one first)) ∙ line-done d sealed d.alerts.items a x refl within here x.lines.items j l refl inside at))

    line-by : (n : ℕ) (y : plain.Line) → slice_get (lines_of (the_book d).alerts) n ≡ Some y → stands_by truths (lines_from (the_book d) + 2 * n) ≡ line_stands (the_book d) m h y
    line-by n y is =
        with-line d (λ n. (y : plain.Line) → slice_get (lines_of (the_book d).alerts) n ≡ Some y → stands_by truths (lines_from (the_book d) + 2 * n) ≡ line_stands (the_book d) m h y) n
        (slice_get_within (lines_of (the_book d).alerts) n y is)
        (λ a x within here j l inside at y is.
        let both : Some (line_of l) ≡ Some y = sym (place a x within here j l inside at) ∙ is in
        let one : line_of l ≡ y = cc in
        stands a x within here j l inside at ∙ ap (line_stands (the_book d) m h) one)
        y is

  module _ (k visited : ℕ) where
    abbrev Half : ℕ → Terms → List Bool → Type 0
    Half i t flags = LinesHalf (the_book d) m k i visited t flags

    hit : Operand → Bool
    hit = moved (known_world (the_book d) m (suc (length (the_book d).alerts))) k

    tells : (i : ℕ) (p : Placed) → lines_from (the_book d) ≤ i → slice_get (places (the_book d)) i ≡ Some p → TellsMoved hit (world_of (the_book d) m i) k p
    unfolding hit
    tells i p from here = subst (λ w. TellsMoved hit w k p) (sym (rest-world (the_book d) m i from)) (rest-tells d sealed m k i p here)

    -- a condition is stepped, and its line, of number n, told of
    module _ (n i : ℕ) (p : Placed) (from : lines_from (the_book d) ≤ i) (low : lines_from (the_book d) + 2 * n ≤ i) (high : i ≤ lines_from (the_book d) + 2 * n + 1) (here : slice_get (places (the_book d)) i ≡ Some p)
        (env : Env) (shows : ShowsFirst env (world (the_book d) m) k) (old new : Terms) (answer : Bool) (steps : StepsTerm (places (the_book d)) env k i p old new answer) (truths : new.truths.items ≡ set old.truths.items i answer)
        (flags later : List Bool) (is : later ≡ set flags n (stands_by new.truths.items (lines_from (the_book d) + 2 * n))) (room : n < length flags) (half : Half i old flags) where
      other : (j : ℕ) → j ≢ i → get_or new.truths.items j false ≡ get_or old.truths.items j false
      other j ne = ap (λ ys. get_or ys j false) truths ∙ get_or-set_other old.truths.items i j answer false ne

      -- other lines stand where they stood
      stays : (j : ℕ) → j ≢ n → stands_by old.truths.items (lines_from (the_book d) + 2 * j) ≡ stands_by new.truths.items (lines_from (the_book d) + 2 * j)
      stays j ne =
          let first = lines_from (the_book d) + 2 * j in
          ap (λ c. c && not (get_or old.truths.items (suc first) false)) (sym (other first (omega (arith, low, high, ne))))
          ∙ ap (λ c. get_or new.truths.items first false && not c) (sym (other (suc first) (omega (arith, low, high, ne))))

      pub line-on : Half (suc i) new later
      unfolding hit
      line-on = record {
        terms = steps.stands (world_of (the_book d) m) hit visited here (ranges-apart (the_book d)) (subst (λ w. ShowsFirst env w k) (sym (rest-world (the_book d) m i from)) shows) (tells i p from here) half.terms;
        told = λ j within early. elim (cases_eq j n) [
          | inl e ↦ subst (λ j. get_or later j false ≡ stands_by new.truths.items (lines_from (the_book d) + 2 * j)) (sym e) (set-own flags later n _ false is room)
          | inr ne ↦ ap (λ ys. get_or ys j false) is ∙ get_or-set_other flags n j _ false ne ∙ half.told j within (λ z. omega (arith, early z, low, high, ne)) ∙ stays j ne
        ];
      }

    -- conditions that aren't stirred
    module _ (t : Terms) (flags : List Bool) (small : k < 2 ^ 63) where
      line-off : (i : ℕ) (p : Placed) → lines_from (the_book d) ≤ i → slice_get (places (the_book d)) i ≡ Some p → is_marked t.stirred i ≡ false → Half i t flags → Half (suc i) t flags
      unfolding hit
      line-off i p from here off half = record {
        terms = half-rest (places (the_book d)) (world_of (the_book d) m) k i p here hit visited t small (tells i p from here) off half.terms;
        told = λ j within early. half.told j within
            (λ z. absurd (let w : ⊥ = (let clash : true ≡ false = sym ((half.terms.left i p (let le : i ≤ i = omega arith in le) here).stirs z) ∙ off in cc) in w));
      }

      some-off : (i r : ℕ) → lines_from (the_book d) ≤ i → i + r ≤ memos_from (the_book d) → NoneMarked t.stirred i (i + r) → Half i t flags → Half (i + r) t flags
      some-off i zero from to off half = let e : i ≡ i + 0 = omega arith in subst (λ n. Half n t flags) e half
      some-off i (suc r) from to off half =
          let e : suc (i + r) ≡ i + suc r = omega arith in
          let (p, here, names) = condition-place d sealed (i + r) (omega (arith, to)) in
          subst (λ n. Half n t flags) e
          (line-off (i + r) p (omega (arith, from)) here (off (i + r) (omega arith) (omega arith)) (some-off i r from (omega (arith, to)) (λ j low high. off j low (omega (arith, high))) half))

      -- up to the next that is, or to the end
      pub lines-past : (i n : ℕ) → lines_from (the_book d) ≤ i → i ≤ n → n ≤ memos_from (the_book d) → NoneMarked t.stirred i n → Half i t flags → Half n t flags
      lines-past i n from le to off half =
          let e : i + (n - i) ≡ n = omega (arith, le) in
          subst (λ n. Half n t flags) e
          (some-off i (n - i) from (omega (arith, le, to)) (subst (λ n. NoneMarked t.stirred i n) (sym e) off) half)

    module _ (t : Terms) (flags : List Bool) where
      -- before the first
      begun : (n : ℕ) → k ≡ n → LinesWere (the_book d) m k flags → BookHalf (the_book d) m k (lines_from (the_book d)) (suc (length (the_book d).alerts)) visited t
          → (j : ℕ) (y : plain.Line) → slice_get (lines_of (the_book d).alerts) j ≡ Some y → (k ≡ 0 → lines_from (the_book d) + 2 * j < lines_from (the_book d))
          → get_or flags j false ≡ stands_by t.truths.items (lines_from (the_book d) + 2 * j)
      begun zero e were half j y is early = absurd (let w : ⊥ = omega (arith, early e) in w)
      begun (suc h) e were half j y is early = were h e j y is ∙ sym (line-by t.truths.items h (λ i p from to here. ((half.left i p from here).later h e).told) j y is)

      pub lines-begin : LinesWere (the_book d) m k flags → BookHalf (the_book d) m k (lines_from (the_book d)) (suc (length (the_book d).alerts)) visited t → Half (lines_from (the_book d)) t flags
      lines-begin were half = record {
        terms = half;
        told = λ j within early. with-item (lines_of (the_book d).alerts) j within
            (λ y here. begun k refl were half j y (slice_get-get_or (lines_of (the_book d).alerts) j y within ∙ ap Some (sym here)) early);
      }

      -- behind the last
      pub lines-told : Half (memos_from (the_book d)) t flags → TellsOf flags (lines_of (the_book d).alerts) (line_stands (the_book d) m k)
      lines-told half = λ j y is.
          let within : j < length (lines_of (the_book d).alerts) = slice_get_within (lines_of (the_book d).alerts) j y is in
          half.told j within (λ z. omega (arith, within)) ∙ line-by t.truths.items k (λ i p from to here. (half.terms.stepped i p to here).told) j y is
