-- What follows for what is shown from the definitions of CLR, RCL and EMER CANC.
use Rattle.std.proofs.Common.{◌≡◌, ℕ, zero, suc, ◌+◌, ◌<◌, ◌≤◌, Bool, true, false, not, ◌&&◌, ◌||◌, ◌==◌, inl, inr, List, [], ◌∷◌, length, get_or, refl, sym, ◌∙◌, ap, arith}
use Rattle.std.specs.Prelude.{filter}
use Rattle.std.specs.List.{list_any}
use Rattle.std.proofs.lemmas.List.{length-append, get_or_append_left, get_or_at}
use Rattle.std.proofs.lemmas.List.Elements.{filter_agree}
use Rattle.std.proofs.lemmas.Map.Views.{any-filter_same}
use Rattle.std.proofs.lemmas.Bool.{eqb-true, and_parts, not_from_false, or_from}
use Rattle.std.proofs.Math.Nat.{le-suc_iff}
use Rattle.std.proofs.Math.Bool.{and-true, and-false}
use Rattle.ecam_spec.specs.Past.{since, previous}
use Rattle.ecam_spec.specs.Places.{first_in}
use Rattle.ecam_spec.specs.Crew.{Cockpit, Shown, target, is_alert, struck, cleared, long_recall, cancelled, recalled, is_shown, shown_after, shown_below, shown}
use Rattle.ecam_spec.proofs.PastSteps.{since-now}
use Rattle.ecam_spec.proofs.PastAgree.{since-below}
use Rattle.ecam_spec.proofs.PastLaws.{since-kept, since-none, since-broken, since-implies, historically_within-now}

-- the target is asked of the moment before alone
pub target-below : (s t : Shown) (k : ℕ) → ((j : ℕ) → j < k → s j ≡ t j) → target s k ≡ target t k
unfolding target
target-below s t zero same = refl
target-below s t (suc k) same = ap first_in (same k (omega arith))

module _ (c : Cockpit) where
  struck-below : (s t : Shown) (a k : ℕ) → ((j : ℕ) → j < k → s j ≡ t j) → struck c s a k ≡ struck c t a k
  unfolding struck
  struck-below s t a k same = ap (λ o. c.clr k && is_alert a o) (target-below s t k same)

  pub cleared-below : (s t : Shown) (a k : ℕ) → ((j : ℕ) → j < k → s j ≡ t j) → cleared c s a k ≡ cleared c t a k
  unfolding cleared
  cleared-below s t a k same =
      since-below (λ j. struck c s a j && c.up a j) (λ j. struck c t a j && c.up a j) (λ j. c.up a j && not (c.rcl j)) (λ j. c.up a j && not (c.rcl j)) k
      (λ i h. ap (λ b. b && c.up a i) (struck-below s t a i (λ j l. same j (omega arith)))) (λ i h. refl)

  pub cancelled-below : (s t : Shown) (a k : ℕ) → ((j : ℕ) → j < k → s j ≡ t j) → cancelled c s a k ≡ cancelled c t a k
  unfolding cancelled
  cancelled-below s t a k same =
      ap (λ b. c.is_caution a && b)
      (since-below (λ j. c.emer j && is_alert a (target s j)) (λ j. c.emer j && is_alert a (target t j))
      (λ j. not (long_recall c j || c.enters_one j)) (λ j. not (long_recall c j || c.enters_one j)) k
      (λ i h. ap (λ o. c.emer i && is_alert a o) (target-below s t i (λ j l. same j (omega arith)))) (λ i h. refl))

  pub recalled-below : (s t : Shown) (a k : ℕ) → ((j : ℕ) → j < k → s j ≡ t j) → recalled c s a k ≡ recalled c t a k
  unfolding recalled
  recalled-below s t a k same =
      since-below (λ j. c.rcl j && (c.waiting a j && not (struck c s a j))) (λ j. c.rcl j && (c.waiting a j && not (struck c t a j)))
      (λ j. c.waiting a j && not (struck c s a j)) (λ j. c.waiting a j && not (struck c t a j)) k
      (λ i h. ap (λ b. c.rcl i && (c.waiting a i && not b)) (struck-below s t a i (λ j l. same j (omega arith))))
      (λ i h. ap (λ b. c.waiting a i && not b) (struck-below s t a i (λ j l. same j (omega arith))))

  is_shown-below : (s t : Shown) (a k : ℕ) → ((j : ℕ) → j < k → s j ≡ t j) → is_shown c s a k ≡ is_shown c t a k
  unfolding is_shown
  is_shown-below s t a k same =
      let one = cleared-below s t a k same in
      let two = cancelled-below s t a k same in
      let three = recalled-below s t a k same in
      cc

  -- what is shown now depends on what was shown before, and on nothing shown later
  pub shown_after-below : (s t : Shown) (k : ℕ) → ((j : ℕ) → j < k → s j ≡ t j) → shown_after c s k ≡ shown_after c t k
  unfolding shown_after
  shown_after-below s t k same =
      filter_agree (λ a. is_shown c s a k) (λ a. is_shown c t a k) (λ a. is_shown-below s t a k same) c.order

  shown_below-length : (k : ℕ) → length (shown_below c k) ≡ k
  unfolding shown_below shown shown_after
  shown_below-length zero = refl
  shown_below-length (suc k) =
      length-append (shown_below c k) (shown c k ∷ []) ∙ ap (λ n. n + 1) (shown_below-length k) ∙ omega arith

  shown_below-at : (k j : ℕ) → j < k → get_or (shown_below c k) j [] ≡ shown c j
  unfolding shown_below shown shown_after
  shown_below-at zero j h = absurd (omega arith)
  shown_below-at (suc k) j h =
      elim (le-suc_iff.0 h) [
        | inl l ↦
            get_or_append_left (shown_below c k) (shown c k ∷ []) [] j (omega (arith, shown_below-length k))
            ∙ shown_below-at k j l
        | inr e ↦
            let now : j ≡ k = omega arith in
            get_or_at (shown_below c k) (shown c k) [] [] j (shown_below-length k ∙ sym now) ∙ ap (shown c) (sym now)
      ]

  -- the sets shown so far are what the definitions of the moments say: the recursion closes
  pub shown_closes : (k : ℕ) → shown c k ≡ shown_after c (shown c) k
  unfolding shown
  shown_closes k = shown_after-below (λ j. get_or (shown_below c k) j []) (shown c) k (shown_below-at k)

  -- an alert of the order is in the list exactly where it is shown
  pub shown_filter : (k : ℕ) → shown c k ≡ filter (λ a. is_shown c (shown c) a k) c.order
  unfolding shown_after
  shown_filter k = shown_closes k

  first-in : (a : ℕ) (xs : List ℕ) → is_alert a (first_in xs) ≡ true → list_any (λ i. a == i) xs ≡ true
  first-in a [] h = h
  first-in a (x ∷ xs) h = ap (λ b. b || list_any (λ i. a == i) xs) h

  -- an alert is in the list exactly where it is in the order and shown
  pub listed_shown : (a k : ℕ) → list_any (λ i. a == i) (shown c k) ≡ (is_shown c (shown c) a k && list_any (λ i. a == i) c.order)
  listed_shown a k =
      ap (list_any (λ i. a == i)) (shown_filter k)
      ∙ any-filter_same (λ i. a == i) (λ i. is_shown c (shown c) i k) (is_shown c (shown c) a k)
      (λ i e. ap (λ n. is_shown c (shown c) n k) (sym (eqb-true a i e))) c.order

  -- the target was shown in the moment before
  pub target_shown : (a k : ℕ) → is_alert a (target (shown c) (suc k)) ≡ true → is_shown c (shown c) a k ≡ true
  unfolding target
  target_shown a k h =
      (and_parts (is_shown c (shown c) a k) (list_any (λ i. a == i) c.order) (sym (listed_shown a k) ∙ first-in a (shown c k) h)).0

  -- ---- one more moment of each mark

  pub cleared-now : (s : Shown) (a k : ℕ) → cleared c s a k ≡ ((struck c s a k && c.up a k) || ((c.up a k && not (c.rcl k)) && previous (cleared c s a) k))
  unfolding cleared
  cleared-now s a k = since-now (λ j. struck c s a j && c.up a j) (λ j. c.up a j && not (c.rcl j)) k

  pub recalled-now : (s : Shown) (a k : ℕ) → recalled c s a k ≡ ((c.rcl k && (c.waiting a k && not (struck c s a k))) || ((c.waiting a k && not (struck c s a k)) && previous (recalled c s a) k))
  unfolding recalled
  recalled-now s a k = since-now (λ j. c.rcl j && (c.waiting a j && not (struck c s a j))) (λ j. c.waiting a j && not (struck c s a j)) k

  -- a cleared alert is up, and a recalled one is waiting
  pub cleared_up : (s : Shown) (a k : ℕ) → cleared c s a k ≡ true → c.up a k ≡ true
  unfolding cleared
  cleared_up s a k h =
      since-implies (λ j. struck c s a j && c.up a j) (λ j. c.up a j && not (c.rcl j)) (c.up a k) k
      (λ e. (and_parts (struck c s a k) (c.up a k) e).1) (λ e. (and_parts (c.up a k) (not (c.rcl k)) e).0) h

  pub recalled_waiting : (s : Shown) (a k : ℕ) → recalled c s a k ≡ true → c.waiting a k ≡ true
  unfolding recalled
  recalled_waiting s a k h =
      since-implies (λ j. c.rcl j && (c.waiting a j && not (struck c s a j))) (λ j. c.waiting a j && not (struck c s a j)) (c.waiting a k) k
      (λ e. (and_parts (c.waiting a k) (not (struck c s a k)) ((and_parts (c.rcl k) _ e).1)).0) (λ e. (and_parts (c.waiting a k) (not (struck c s a k)) e).0) h

  pub recalled_waits : (s : Shown) (a k : ℕ) → c.waiting a k ≡ false → recalled c s a k ≡ false
  unfolding recalled
  recalled_waits s a k idle =
      let over : (c.waiting a k && not (struck c s a k)) ≡ false = ap (λ b. b && not (struck c s a k)) idle in
      since-broken (λ j. c.rcl j && (c.waiting a j && not (struck c s a j))) (λ j. c.waiting a j && not (struck c s a j)) k
      (ap (λ b. c.rcl k && b) over ∙ and-false (c.rcl k)) over

  -- ---- a cleared alert, where it isn't also waiting

  -- it isn't shown, so it isn't the target of the next moment
  hidden : (u cl ca re : Bool) → cl ≡ true → re ≡ false → (not ca && ((u && not cl) || re)) ≡ false
  hidden true cl ca re e f = rw (e, f) (and-false (not ca))
  hidden false cl ca re e f = rw f (and-false (not ca))

  not-both : (b : Bool) → b ≡ true → b ≡ false → ⊥
  not-both b p q = cc

  untargeted : (a k : ℕ) (b : Bool) → is_alert a (target (shown c) (suc k)) ≡ b → cleared c (shown c) a k ≡ true → c.waiting a k ≡ false → b ≡ false
  unfolding is_shown
  untargeted a k true e h idle =
      absurd (not-both (is_shown c (shown c) a k) (target_shown a k e)
      (hidden (c.up a k) (cleared c (shown c) a k) (cancelled c (shown c) a k) (recalled c (shown c) a k) h (recalled_waits (shown c) a k idle)))
  untargeted a k false e h idle = refl

  pub cleared_untargeted : (a k : ℕ) → cleared c (shown c) a k ≡ true → c.waiting a k ≡ false → is_alert a (target (shown c) (suc k)) ≡ false
  cleared_untargeted a k h idle = untargeted a k (is_alert a (target (shown c) (suc k))) refl h idle

  step-hidden : (s u r cl ca re : Bool) → cl ≡ true → r ≡ false → re ≡ false → (not ca && ((u && not ((s && u) || ((u && not r) && cl))) || re)) ≡ false
  step-hidden s false r cl ca re a b d = rw d (and-false (not ca))
  step-hidden true true r cl ca re a b d = rw d (and-false (not ca))
  step-hidden false true r cl ca re a b d = rw (a, b, d) (and-false (not ca))

  -- without a press of RCL it isn't shown in the next moment
  pub cleared_hidden : (a k : ℕ) → cleared c (shown c) a k ≡ true → c.waiting a (suc k) ≡ false → c.rcl (suc k) ≡ false → is_shown c (shown c) a (suc k) ≡ false
  unfolding is_shown previous
  cleared_hidden a k h idle none =
      ap (λ b. not (cancelled c (shown c) a (suc k)) && ((c.up a (suc k) && not b) || recalled c (shown c) a (suc k))) (cleared-now (shown c) a (suc k))
      ∙ step-hidden (struck c (shown c) a (suc k)) (c.up a (suc k)) (c.rcl (suc k)) (cleared c (shown c) a k) (cancelled c (shown c) a (suc k))
      (recalled c (shown c) a (suc k)) h none (recalled_waits (shown c) a (suc k) idle)

  step-restored : (t cl u r s ca re : Bool) → s ≡ (t && false) → r ≡ true → re ≡ false → (not ca && ((u && not ((s && u) || ((u && not r) && cl))) || re)) ≡ (u && not ca)
  step-restored t cl true r s ca re e f g = rw (e, f, g, and-false t) (and-true (not ca))
  step-restored t cl false r s ca re e f g = rw g (and-false (not ca))

  -- with a press of RCL it is shown exactly where it is up and not cancelled
  pub cleared_restored : (a k : ℕ) → cleared c (shown c) a k ≡ true → c.waiting a k ≡ false → c.waiting a (suc k) ≡ false → c.rcl (suc k) ≡ true
      → is_shown c (shown c) a (suc k) ≡ (c.up a (suc k) && not (cancelled c (shown c) a (suc k)))
  unfolding is_shown previous struck
  cleared_restored a k h before idle pressed =
      ap (λ b. not (cancelled c (shown c) a (suc k)) && ((c.up a (suc k) && not b) || recalled c (shown c) a (suc k))) (cleared-now (shown c) a (suc k))
      ∙ step-restored (c.clr (suc k)) (cleared c (shown c) a k) (c.up a (suc k)) (c.rcl (suc k)) (struck c (shown c) a (suc k)) (cancelled c (shown c) a (suc k))
      (recalled c (shown c) a (suc k)) (ap (λ b. c.clr (suc k) && b) (cleared_untargeted a k h before)) pressed (recalled_waits (shown c) a (suc k) idle)

  -- ---- an alert that is waiting

  step-waiting : (s u r w p q ca : Bool) → r ≡ true → w ≡ true → (not ca && ((u && not ((s && u) || ((u && not r) && p))) || ((r && (w && not s)) || ((w && not s) && q)))) ≡ (not s && not ca)
  step-waiting s u false w p q ca e f = absurd (not-both true refl (sym e))
  step-waiting s u true false p q ca e f = absurd (not-both true refl (sym f))
  step-waiting true true true true p q ca e f = and-false (not ca)
  step-waiting true false true true p q ca e f = and-false (not ca)
  step-waiting false true true true p q ca e f = and-true (not ca)
  step-waiting false false true true p q ca e f = and-true (not ca)

  -- with a press of RCL it is shown exactly where it isn't struck in that moment and not cancelled
  pub waiting_recalled : (a k : ℕ) → c.waiting a k ≡ true → c.rcl k ≡ true → is_shown c (shown c) a k ≡ (not (struck c (shown c) a k) && not (cancelled c (shown c) a k))
  unfolding is_shown
  waiting_recalled a k waits pressed =
      ap (λ b. not (cancelled c (shown c) a k) && ((c.up a k && not b) || recalled c (shown c) a k)) (cleared-now (shown c) a k)
      ∙ ap (λ b. not (cancelled c (shown c) a k) && ((c.up a k && not ((struck c (shown c) a k && c.up a k) || ((c.up a k && not (c.rcl k)) && previous (cleared c (shown c) a) k))) || b)) (recalled-now (shown c) a k)
      ∙ step-waiting (struck c (shown c) a k) (c.up a k) (c.rcl k) (c.waiting a k) (previous (cleared c (shown c) a) k) (previous (recalled c (shown c) a) k) (cancelled c (shown c) a k) pressed waits

  -- an alert that stopped waiting, or was struck, isn't recalled until RCL is pressed again
  pub recall_ends : (s : Shown) (a j k : ℕ) → j ≤ k → (c.waiting a j && not (struck c s a j)) ≡ false → ((i : ℕ) → j < i → i ≤ k → c.rcl i ≡ false) → recalled c s a k ≡ false
  unfolding recalled
  recall_ends s a j k within over none =
      since-none (λ i. c.rcl i && (c.waiting a i && not (struck c s a i))) (λ i. c.waiting a i && not (struck c s a i)) j k within
      (since-broken (λ i. c.rcl i && (c.waiting a i && not (struck c s a i))) (λ i. c.waiting a i && not (struck c s a i)) j
      (ap (λ b. c.rcl j && b) over ∙ and-false (c.rcl j)) over)
      (λ i after upto. ap (λ b. b && (c.waiting a i && not (struck c s a i))) (none i after upto))

  -- an alert that ended isn't cleared, whatever was struck before
  pub ended_not_cleared : (s : Shown) (a j k : ℕ) → j ≤ k → c.up a j ≡ false → ((i : ℕ) → j < i → i ≤ k → struck c s a i ≡ false) → cleared c s a k ≡ false
  unfolding cleared
  ended_not_cleared s a j k within ended none =
      since-none (λ i. struck c s a i && c.up a i) (λ i. c.up a i && not (c.rcl i)) j k within
      (since-broken (λ i. struck c s a i && c.up a i) (λ i. c.up a i && not (c.rcl i)) j
      (ap (λ b. struck c s a j && b) ended ∙ and-false (struck c s a j)) (ap (λ b. b && not (c.rcl j)) ended))
      (λ i after upto. ap (λ b. b && c.up a i) (none i after upto))

  -- a cancelled caution stays cancelled until a long recall or the start of phase 1, whatever it does
  pub cancelled_stays : (s : Shown) (a j k : ℕ) → j ≤ k → cancelled c s a j ≡ true → ((i : ℕ) → j < i → i ≤ k → (long_recall c i ≡ false) × (c.enters_one i ≡ false)) → cancelled c s a k ≡ true
  unfolding cancelled
  cancelled_stays s a j k within was none =
      let level : c.is_caution a ≡ true = (and_parts (c.is_caution a) _ was).0 in
      let kept : since (λ i. c.emer i && is_alert a (target s i)) (λ i. not (long_recall c i || c.enters_one i)) k ≡ true =
      since-kept (λ i. c.emer i && is_alert a (target s i)) (λ i. not (long_recall c i || c.enters_one i)) j k within
      ((and_parts (c.is_caution a) _ was).1)
      (λ i after upto. not_from_false (long_recall c i || c.enters_one i) (or_from (long_recall c i) (c.enters_one i) (none i after upto).0 (none i after upto).1)) in
      rw (level, kept) refl

  -- a long recall, and the start of phase 1, end each cancellation but one of the same moment
  pub cancelled_ends : (s : Shown) (a k : ℕ) → (long_recall c k || c.enters_one k) ≡ true → (c.emer k && is_alert a (target s k)) ≡ false → cancelled c s a k ≡ false
  unfolding cancelled
  cancelled_ends s a k ends none =
      ap (λ b. c.is_caution a && b)
      (since-broken (λ i. c.emer i && is_alert a (target s i)) (λ i. not (long_recall c i || c.enters_one i)) k none (ap not ends))
      ∙ and-false (c.is_caution a)

  -- in a long recall RCL is held
  pub long_recall_held : (k : ℕ) → long_recall c k ≡ true → c.rcl_held k ≡ true
  unfolding long_recall
  long_recall_held k h = historically_within-now 29 c.rcl_held k h
