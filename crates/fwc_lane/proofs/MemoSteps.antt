-- One memo more is stepped.
use Rattle.std.proofs.Common.{◌≡◌, ℕ, zero, suc, ◌+◌, ◌-◌, ◌^◌, ◌<◌, ◌≤◌, Bool, true, false, List, length, get_or, set, slice_get, Some, refl, sym, ap, subst, ◌∙◌, inl, inr, arith}
use Rattle.std.proofs.Math.Nat.{eq-or-lt_of_le}
use Rattle.std.proofs.lemmas.Option.{slice_get_within}
use Rattle.ecam_spec.specs.Book as plain
use Rattle.ecam_spec.specs.Term.{holds}
use Rattle.ecam_spec.specs.History.{Moment}
use Rattle.ecam_spec.specs.Situation.{world}
use Rattle.book_model.specs.declared.draft.Memo.{Memo}
use Rattle.book_model.specs.declared.draft.Draft.{Draft}
use Rattle.book_model.specs.View.{placed_of, tree_in, memo_of}
use Rattle.book_model.specs.Told.{TellsOf}
use Rattle.book_model.specs.Sealed.{the_book, IsSealed}
use Rattle.book_model.specs.Conditions.{places, memos_from, world_of}
use Rattle.book_model.proofs.BookLists.{many-memos}
use Rattle.book_model.proofs.BookReads.{memo-get}
use Rattle.book_model.proofs.ConditionPlaces.{memo-place-at, all-places}
use Rattle.book_model.proofs.ConditionRanges.{ranges-apart}
use Rattle.book_model.proofs.ConditionWorlds.{rest-world}
use Rattle.term_eval.specs.declared.env.Env.{Env}
use Rattle.term_eval.specs.Woken.{Operand, moved}
use Rattle.condition_codes.specs.Places.{nodes_before}
use Rattle.fwc_lane.specs.declared.terms.Terms.{Terms}
use Rattle.fwc_lane.specs.Conditions.{StepsTerm, TellsMoved, IsLeft, HalfStepped, BookHalf, MemosHalf, MemosWere, AllStepped, known_world}
use Rattle.fwc_lane.specs.Given.{ShowsFirst}
use Rattle.fwc_lane.proofs.Stages.{rest-tells}
use Rattle.fwc_lane.proofs.FlagSteps.{set-own, set-other, set-behind, with-item}
use Rattle.wakes.specs.Marks.{is_marked}
use Rattle.fwc_lane.specs.Waking.{NoneMarked, memo_number}
use Rattle.fwc_lane.proofs.Counting.{counted-visits}
use Rattle.fwc_lane.proofs.Stepping.{half-rest, rest-holds}

module _ (d : Draft) (sealed : IsSealed d) (xs : List Memo) (j : ℕ) (x : Memo) (same : xs ≡ d.memos.items) (within : j < length xs) (here : x ≡ get_or xs j x)
    (m : ℕ → Moment) (k : ℕ) (env : Env) (shows : ShowsFirst env (world (the_book d) m) k) (visited : ℕ) (old new : Terms) (answer : Bool)
    (steps : StepsTerm (places (the_book d)) env k (memos_from (the_book d) + j) (placed_of x.when) old new answer) (flags later : List Bool) (is : later ≡ set flags j answer) (room : j < length flags)
    (half : MemosHalf (the_book d) m k j visited old flags) where
  place : ℕ
  place = memos_from (the_book d) + j

  world-is : world_of (the_book d) m place ≡ world (the_book d) m
  unfolding place
  world-is = rest-world (the_book d) m place (omega arith)

  shown : ShowsFirst env (world_of (the_book d) m place) k
  shown = subst (λ w. ShowsFirst env w k) (sym world-is) shows

  hit : Operand → Bool
  hit = moved (known_world (the_book d) m (suc (length (the_book d).alerts))) k

  tells : TellsMoved hit (world_of (the_book d) m place) k (placed_of x.when)
  unfolding place hit
  tells =
      subst (λ w. TellsMoved hit w k (placed_of x.when)) (sym world-is)
      (rest-tells d sealed m k place (placed_of x.when) (memo-place-at d sealed xs j x same within here))

  truth : answer ≡ holds (world (the_book d) m) (tree_in x.when) k
  unfolding place hit
  truth =
      steps.truth (world_of (the_book d) m) hit visited (memo-place-at d sealed xs j x same within here) shown tells half.terms
      ∙ ap (λ w. holds w (tree_in x.when) k) world-is

  told : (i : ℕ) (y : plain.Memo) → i < suc j → slice_get (the_book d).memos i ≡ Some y → get_or later i false ≡ holds (world (the_book d) m) y.when k
  told i y lt there =
      elim (eq-or-lt_of_le (let le : i ≤ j = omega arith in le)) [
        | inl e ↦
            let both : Some (memo_of x) ≡ Some y = sym (memo-get d xs j x same within here) ∙ ap (slice_get (the_book d).memos) (sym e) ∙ there in
            let one : memo_of x ≡ y = cc in
            ap (λ n. get_or later n false) e ∙ set-own flags later j answer false is room ∙ truth ∙ ap (λ (z : plain.Memo). holds (world (the_book d) m) z.when k) one
        | inr less ↦ set-other flags later j answer false is i less ∙ half.told i y less there
      ]

  pub memo-on : MemosHalf (the_book d) m k (j + 1) visited new later
  unfolding place hit
  memo-on =
      let next : suc j ≡ j + 1 = omega arith in
      subst (λ n. MemosHalf (the_book d) m k n visited new later) next record {
        terms = subst (λ n. BookHalf (the_book d) m k n (suc (length (the_book d).alerts)) visited new) (let e : suc place ≡ memos_from (the_book d) + suc j = omega arith in e)
            (steps.stands (world_of (the_book d) m) hit visited (memo-place-at d sealed xs j x same within here) (ranges-apart (the_book d)) shown tells half.terms);
        told = told;
        left = λ h e i y le there. set-behind flags later j answer false is i le ∙ half.left h e i y (let w : j ≤ i = omega arith in w) there;
      }

-- a memo whose condition isn't stirred, and some memos of that kind
module _ (d : Draft) (sealed : IsSealed d) (m : ℕ → Moment) (k visited : ℕ) (t : Terms) (flags : List Bool) (small : k < 2 ^ 63) where
  hits : Operand → Bool
  hits = moved (known_world (the_book d) m (suc (length (the_book d).alerts))) k

  module _ (j : ℕ) (x : Memo) (within : j < length d.memos.items) (here : x ≡ get_or d.memos.items j x) (off : is_marked t.stirred (memos_from (the_book d) + j) ≡ false)
      (half : MemosHalf (the_book d) m k j visited t flags) where
    at-place : slice_get (places (the_book d)) (memos_from (the_book d) + j) ≡ Some (placed_of x.when)
    at-place = memo-place-at d sealed d.memos.items j x refl within here

    world-there : world_of (the_book d) m (memos_from (the_book d) + j) ≡ world (the_book d) m
    world-there = rest-world (the_book d) m (memos_from (the_book d) + j) (omega arith)

    tells-there : TellsMoved hits (world_of (the_book d) m (memos_from (the_book d) + j)) k (placed_of x.when)
    unfolding hits
    tells-there = subst (λ w. TellsMoved hits w k (placed_of x.when)) (sym world-there) (rest-tells d sealed m k (memos_from (the_book d) + j) (placed_of x.when) at-place)

    was : HalfStepped (places (the_book d)) (world_of (the_book d) m) hits k (memos_from (the_book d) + j) visited t
    unfolding hits
    was = half.terms

    own : IsLeft (world_of (the_book d) m (memos_from (the_book d) + j)) hits k (memos_from (the_book d) + j) (nodes_before (places (the_book d)) (memos_from (the_book d) + j)) (placed_of x.when) t
    own = was.left (memos_from (the_book d) + j) (placed_of x.when) (let w : memos_from (the_book d) + j ≤ memos_from (the_book d) + j = omega arith in w) at-place

    held : (h : ℕ) → k ≡ suc h → holds (world (the_book d) m) (tree_in x.when) h ≡ holds (world (the_book d) m) (tree_in x.when) k
    held h e =
        subst (λ w. holds w (tree_in x.when) h ≡ holds w (tree_in x.when) k) world-there
        (rest-holds (world_of (the_book d) m (memos_from (the_book d) + j)) hits k h (memos_from (the_book d) + j) (nodes_before (places (the_book d)) (memos_from (the_book d) + j)) (placed_of x.when) t small e tells-there own off)

    by-moment : (n : ℕ) → k ≡ n → (i : ℕ) (y : plain.Memo) → i ≡ j → memo_of x ≡ y → slice_get (the_book d).memos i ≡ Some y → get_or flags i false ≡ holds (world (the_book d) m) y.when k
    by-moment zero e i y same one there = absurd (let w : ⊥ = (let clash : true ≡ false = sym (own.stirs e) ∙ off in cc) in w)
    by-moment (suc h) e i y same one there =
        half.left h e i y (let le : j ≤ i = omega arith in le) there
        ∙ ap (λ (z : plain.Memo). holds (world (the_book d) m) z.when h) (sym one) ∙ held h e ∙ ap (λ (z : plain.Memo). holds (world (the_book d) m) z.when k) one

    rest-told : (i : ℕ) (y : plain.Memo) → i < suc j → slice_get (the_book d).memos i ≡ Some y → get_or flags i false ≡ holds (world (the_book d) m) y.when k
    rest-told i y lt there =
        elim (eq-or-lt_of_le (let le : i ≤ j = omega arith in le)) [
          | inl e ↦
              let both : Some (memo_of x) ≡ Some y = sym (memo-get d d.memos.items j x refl within here) ∙ ap (slice_get (the_book d).memos) (sym e) ∙ there in
              let one : memo_of x ≡ y = cc in
              by-moment k refl i y e one there
          | inr less ↦ half.told i y less there
        ]

    memo-off : MemosHalf (the_book d) m k (suc j) visited t flags
    unfolding hits
    memo-off = record {
      terms = subst (λ n. BookHalf (the_book d) m k n (suc (length (the_book d).alerts)) visited t) (let e : suc (memos_from (the_book d) + j) ≡ memos_from (the_book d) + suc j = omega arith in e)
          (half-rest (places (the_book d)) (world_of (the_book d) m) k (memos_from (the_book d) + j) (placed_of x.when) at-place hits visited t small tells-there off was);
      told = rest-told;
      left = λ h e i y le there. half.left h e i y (let w : j ≤ i = omega arith in w) there;
    }

  memos-off : (j n : ℕ) → j + n ≤ length d.memos.items → NoneMarked t.stirred (memo_number (the_book d) j) (memo_number (the_book d) (j + n))
      → MemosHalf (the_book d) m k j visited t flags → MemosHalf (the_book d) m k (j + n) visited t flags
  memos-off j zero le off half = let e : j ≡ j + 0 = omega arith in subst (λ i. MemosHalf (the_book d) m k i visited t flags) e half
  memos-off j (suc n) le off half =
      let e : suc (j + n) ≡ j + suc n = omega arith in
      with-item d.memos.items (j + n) (omega arith)
      (λ x here. subst (λ i. MemosHalf (the_book d) m k i visited t flags) e
      (memo-off (j + n) x (omega arith) here (off _ (omega arith) (omega arith)) (memos-off j n (omega arith) (λ i from to. off i from (omega (arith, to))) half)))

  -- up to the next that has one, or to the end
  pub memos-skip : (j i : ℕ) → j ≤ i → i ≤ length d.memos.items → NoneMarked t.stirred (memo_number (the_book d) j) (memo_number (the_book d) i)
      → MemosHalf (the_book d) m k j visited t flags → MemosHalf (the_book d) m k i visited t flags
  memos-skip j i le most off half =
      let e : j + (i - j) ≡ i = omega arith in
      subst (λ n. MemosHalf (the_book d) m k n visited t flags) e
      (memos-off j (i - j) (omega arith) (subst (λ n. NoneMarked t.stirred (memo_number (the_book d) j) (memo_number (the_book d) n)) (sym e) off) half)

-- before the first memo
pub memos-begin : (d : Draft) (m : ℕ → Moment) (k visited : ℕ) (terms : Terms) (flags : List Bool) → MemosWere (the_book d) m k flags → BookHalf (the_book d) m k (memos_from (the_book d)) (suc (length (the_book d).alerts)) visited terms
    → MemosHalf (the_book d) m k 0 visited terms flags
memos-begin d m k visited terms flags were half = record {
  terms = subst (λ n. BookHalf (the_book d) m k n (suc (length (the_book d).alerts)) visited terms) (let e : memos_from (the_book d) ≡ memos_from (the_book d) + 0 = omega arith in e) half;
  told = λ j l lt is. absurd (omega arith);
  left = λ h e j x le is. were h e j x is;
}

-- behind the last
module _ (d : Draft) (sealed : IsSealed d) (m : ℕ → Moment) (k i visited : ℕ) (terms : Terms) (flags : List Bool) (all : i ≡ length d.memos.items) (half : MemosHalf (the_book d) m k i visited terms flags) where
  pub memos-end : AllStepped (the_book d) m k visited terms
  memos-end =
      let every : memos_from (the_book d) + i ≡ length (places (the_book d)) = omega (arith, all, all-places d sealed, many-memos d) in
      record {
        asked = λ j p is.
            let inside : j < length (places (the_book d)) = slice_get_within (places (the_book d)) j p is in
            half.terms.stepped j p (omega (arith, inside, every)) is;
        counted = counted-visits (places (the_book d)) (world_of (the_book d) m) k terms.woken visited terms.cells.visits
            (λ j p is.
            let inside : j < length (places (the_book d)) = slice_get_within (places (the_book d)) j p is in
            half.terms.marks j p (omega (arith, inside, every)) is)
            half.terms.counted;
      }

  pub memos-told : TellsOf flags (the_book d).memos (λ x. holds (world (the_book d) m) x.when k)
  memos-told = λ j x is. half.told j x (omega (arith, all, many-memos d, slice_get_within (the_book d).memos j x is)) is
