-- One alert more is stepped.
use Rattle.std.proofs.Common.{◌≡◌, ℕ, zero, suc, ◌+◌, ◌-◌, ◌^◌, ◌<◌, ◌≤◌, Bool, true, false, List, length, take, get_or, slice_get, slice_index_or, Some, refl, sym, ap, subst, ◌∙◌, arith}
use Rattle.ecam_spec.specs.Book as plain
use Rattle.ecam_spec.specs.Past.{previous}
use Rattle.ecam_spec.specs.Term.{holds}
use Rattle.ecam_spec.specs.TermSize.{Placed}
use Rattle.ecam_spec.specs.History.{Moment}
use Rattle.ecam_spec.specs.Situation as situation
use Rattle.ecam_spec.specs.Situation.{condition_in, phase_in, active_in, alert_world, known_below}
use Rattle.book_model.specs.declared.draft.Alert.{Alert}
use Rattle.book_model.specs.declared.draft.Draft.{Draft}
use Rattle.book_model.specs.View.{placed_of, tree_in}
use Rattle.book_model.specs.Sealed.{the_book, IsSealed}
use Rattle.book_model.specs.Conditions.{places, alerts_from, lines_from, world_of}
use Rattle.book_model.proofs.BookLists.{many-alerts}
use Rattle.book_model.proofs.BookReads.{alert-read}
use Rattle.book_model.proofs.ConditionPlaces.{own-place}
use Rattle.book_model.proofs.ConditionRanges.{ranges-apart}
use Rattle.book_model.proofs.ConditionWorlds.{own-world}
use Rattle.alert_truth.specs.declared.truths.Truths.{Truths}
use Rattle.alert_truth.specs.Alerts.{active}
use Rattle.alert_truth.specs.TruthsState.{HalfStand, TruthsStand, OthersStay}
use Rattle.term_eval.specs.declared.env.Env.{Env}
use Rattle.term_eval.specs.declared.reading.Reading.TheVariants.{Flag}
use Rattle.term_eval.specs.Woken.{Operand, moved, differ}
use Rattle.condition_codes.specs.Places.{nodes_before}
use Rattle.fwc_lane.specs.declared.terms.Terms.{Terms}
use Rattle.wakes.specs.Marks.{is_marked}
use Rattle.alert_truth.proofs.Stepping.{half-rests, half-waits, moment-begins}
use Rattle.fwc_lane.specs.Waking.{NoneMarked}
use Rattle.fwc_lane.specs.Conditions.{IsLeft, HalfStepped, StepsTerm, TellsMoved, BookHalf, AlertsHalf, known_world}
use Rattle.fwc_lane.specs.Given.{Lends, ShowsFirst}
use Rattle.fwc_lane.specs.TermsFit.{TermsFit}
use Rattle.fwc_lane.proofs.Showing.{shows-own, active-is}
use Rattle.fwc_lane.proofs.Stages.{same-tells}
use Rattle.fwc_lane.proofs.Known.{alert-known}
use Rattle.fwc_lane.proofs.Stepping.{half-rest, rest-holds}
use Rattle.fwc_lane.proofs.Awake.{awake-off}
use Rattle.fwc_lane.proofs.FlagSteps.{with-item}

module _ (d : Draft) (sealed : IsSealed d) (xs : List Alert) (a : ℕ) (x : Alert) (same : xs ≡ d.alerts.items) (within : a < length xs) (here : x ≡ get_or xs a x) (m : ℕ → Moment) where
  pub own-is : world_of (the_book d) m (alerts_from + a) ≡ alert_world (the_book d) m (known_below (the_book d) m a)
  own-is = own-world (the_book d) m a (omega (arith, many-alerts d, ap length same))

  pub own-condition : (n : ℕ) → holds (world_of (the_book d) m (alerts_from + a)) (tree_in x.when) n ≡ condition_in (the_book d) m a n
  unfolding condition_in situation.condition
  own-condition n =
      ap (λ w. holds w (tree_in x.when) n) own-is
      ∙ ap (λ (y : plain.Alert). holds (alert_world (the_book d) m (known_below (the_book d) m a)) y.when n) (sym (alert-read d xs a x same within here))

  -- its condition is stepped
  module _ (k : ℕ) (env : Env) (shown : ShowsFirst env (world_of (the_book d) m (alerts_from + a)) k) (visited number : ℕ) (numbered : number ≡ alerts_from + a) (old new : Terms) (answer : Bool)
      (stepped : StepsTerm (places (the_book d)) env k number (placed_of x.when) old new answer) (half : BookHalf (the_book d) m k (alerts_from + a) (suc a) visited old) where
    steps : StepsTerm (places (the_book d)) env k (alerts_from + a) (placed_of x.when) old new answer
    steps = subst (λ n. StepsTerm (places (the_book d)) env k n (placed_of x.when) old new answer) numbered stepped

    tells : TellsMoved (moved (known_world (the_book d) m (suc a)) k) (world_of (the_book d) m (alerts_from + a)) k (placed_of x.when)
    tells = same-tells (known_world (the_book d) m (suc a)) (world_of (the_book d) m (alerts_from + a)) k (placed_of x.when) own-is

    pub own-truth : answer ≡ condition_in (the_book d) m a k
    own-truth =
        steps.truth (world_of (the_book d) m) (moved (known_world (the_book d) m (suc a)) k) visited (own-place d sealed xs a x same within here) shown tells half
        ∙ own-condition k

    pub own-stands : BookHalf (the_book d) m k (alerts_from + suc a) (suc a) visited new
    own-stands =
        subst (λ n. BookHalf (the_book d) m k n (suc a) visited new) (let e : suc (alerts_from + a) ≡ alerts_from + suc a = omega arith in e)
        (steps.stands (world_of (the_book d) m) (moved (known_world (the_book d) m (suc a)) k) visited (own-place d sealed xs a x same within here) (ranges-apart (the_book d)) shown tells half)

    -- before that what was kept of it told of the moment before
    pub own-held : (h : ℕ) → k ≡ suc h → slice_index_or old.truths.items (alerts_from + a) false ≡ condition_in (the_book d) m a h
    own-held h e =
        ((half.left (alerts_from + a) (placed_of x.when) (let w : alerts_from + a ≤ alerts_from + a = omega arith in w) (own-place d sealed xs a x same within here)).later h e).told
        ∙ own-condition h

-- in the first moment its condition sees the alerts before it
pub shows-before : (b : plain.Book) (m : ℕ → Moment) (k : ℕ) (env : Env) (a : ℕ) (t : Truths) → a < length b.alerts → Lends b m k env → env.phase.number ≡ phase_in b m k
    → env.active.now ≡ take a t.active.items → HalfStand b (condition_in b m) (phase_in b m) k a t → ShowsFirst env (world_of b m (alerts_from + a)) k
shows-before b m k env a t within lends phase actives half = subst (λ w. ShowsFirst env w k) (sym (own-world b m a within)) (shows-own b m k env lends t a phase actives half)

-- a condition has the alert's number
pub alert-placed : (d : Draft) (sealed : IsSealed d) (a number : ℕ) (t : Terms) → a < length d.alerts.items → number ≡ alerts_from + a → TermsFit (the_book d) t
    → (b : plain.Book) × (p : Placed) × TermsFit b t × (slice_get (places b) number ≡ Some p)
alert-placed d sealed a number t within numbered fits =
    with-item d.alerts.items a within
    (λ x here. (the_book d, placed_of x.when, fits, ap (slice_get (places (the_book d))) numbered ∙ own-place d sealed d.alerts.items a x refl within here))

-- what an alert was and is
pub was-active : (b : plain.Book) (m : ℕ → Moment) (k h a : ℕ) (t : Truths) → k ≡ suc h → a < length b.alerts → HalfStand b (condition_in b m) (phase_in b m) k a t
    → get_or t.active.items a false ≡ active_in b m a h
unfolding previous
was-active b m k h a t e lt half = (half.left a (omega arith) lt).active ∙ ap (previous (active b (condition_in b m) (phase_in b m) a)) e ∙ active-is b m a h

pub differ-self : (b : Bool) → differ b b ≡ false
differ-self true = refl
differ-self false = refl

-- an alert that stays as it is where its condition holds where it held
abbrev pub MayPass : plain.Book → (ℕ → Moment) → ℕ → Truths → ℕ → Type 0
MayPass b m k t a =
    (h : ℕ) → k ≡ suc h → condition_in b m a k ≡ condition_in b m a h → HalfStand b (condition_in b m) (phase_in b m) k a t
    → HalfStand b (condition_in b m) (phase_in b m) k (suc a) t

-- one that isn't restless does, and so does one that isn't due
module _ (b : plain.Book) (m : ℕ → Moment) (k : ℕ) (t : Truths) (a : ℕ) (within : a < length b.alerts) where
  pub calm-passes : is_marked t.restless a ≡ false → MayPass b m k t a
  calm-passes off h e same half =
      subst (λ n. HalfStand b (condition_in b m) (phase_in b m) n (suc a) t) (sym e)
      (half-rests b (condition_in b m) (phase_in b m) h a t within (ap (condition_in b m a) (sym e) ∙ same) off
      (subst (λ n. HalfStand b (condition_in b m) (phase_in b m) n a t) e half))

  pub undue-passes : OthersStay b (condition_in b m) (phase_in b m) k t.due → is_marked t.due a ≡ false → MayPass b m k t a
  undue-passes others off h e same half =
      subst (λ n. HalfStand b (condition_in b m) (phase_in b m) n (suc a) t) (sym e)
      (half-waits b (condition_in b m) (phase_in b m) h a t within (ap (condition_in b m a) (sym e) ∙ same) off
      (subst (λ n. OthersStay b (condition_in b m) (phase_in b m) n t.due) e others)
      (subst (λ n. HalfStand b (condition_in b m) (phase_in b m) n a t) e half))

-- an alert whose condition holds as it held, once that is stepped, and which may be passed over, is stepped too
module _ (d : Draft) (sealed : IsSealed d) (m : ℕ → Moment) (k visited : ℕ) (terms : Terms) (t : Truths) (a : ℕ) (there : a < length (the_book d).alerts) (later : k ≡ 0 → ⊥)
    (same : (h : ℕ) → k ≡ suc h → condition_in (the_book d) m a k ≡ condition_in (the_book d) m a h) (passes : MayPass (the_book d) m k t a)
    (half : HalfStand (the_book d) (condition_in (the_book d) m) (phase_in (the_book d) m) k a t) where
  truths-passed : (n : ℕ) → k ≡ n → HalfStand (the_book d) (condition_in (the_book d) m) (phase_in (the_book d) m) k (suc a) t
  truths-passed zero e = absurd (later e)
  truths-passed (suc h) e = passes h e (same h e) half

  -- it is active where it was
  same-active : (h : ℕ) → k ≡ suc h → active_in (the_book d) m a k ≡ active_in (the_book d) m a h
  unfolding previous
  same-active h e =
      sym (active-is (the_book d) m a k) ∙ sym ((truths-passed k refl).stepped a (omega arith)).active ∙ was-active (the_book d) m k h a t e there half

  pub alert-passed : BookHalf (the_book d) m k (alerts_from + suc a) (suc a) visited terms → AlertsHalf (the_book d) m k (suc a) visited terms t
  alert-passed next = record {
    terms = alert-known d sealed m k visited terms terms a there false (active_in (the_book d) m a k) (active_in (the_book d) m a k) refl
        (awake-off (the_book d) (length (the_book d).parameters + a) (λ o. Flag (active_in (the_book d) m a k)) terms false refl)
        (sym (differ-self (active_in (the_book d) m a k))) (λ h e. same-active h e) next;
    alerts = truths-passed k refl;
  }

-- so is one that isn't due, whose condition was run and says what was kept of it
pub stirred-passed : (d : Draft) (sealed : IsSealed d) (a : ℕ) (x : Alert) → a < length d.alerts.items → x ≡ get_or d.alerts.items a x → (m : ℕ → Moment) (k : ℕ) (env : Env) → 0 < k
    → (visited number : ℕ) → number ≡ alerts_from + a → (old new : Terms) (answer : Bool) (t : Truths) → StepsTerm (places (the_book d)) env k number (placed_of x.when) old new answer
    → answer ≡ slice_index_or old.truths.items (alerts_from + a) false
    → OthersStay (the_book d) (condition_in (the_book d) m) (phase_in (the_book d) m) k t.due → is_marked t.due a ≡ false
    → AlertsHalf (the_book d) m k a visited old t → AlertsHalf (the_book d) m k (suc a) visited new t
stirred-passed d sealed a x within here m k env later visited number numbered old new answer t stepped still others off half =
    let there : a < length (the_book d).alerts = omega (arith, many-alerts d, within) in
    let shown : ShowsFirst env (world_of (the_book d) m (alerts_from + a)) k = λ e. absurd (omega (arith, later, e)) in
    let truth = own-truth d sealed d.alerts.items a x refl within here m k env shown visited number numbered old new answer stepped half.terms in
    let held = own-held d sealed d.alerts.items a x refl within here m k env shown visited number numbered old new answer stepped half.terms in
    alert-passed d sealed m k visited new t a there (λ e. omega (arith, later, e)) (λ h e. sym truth ∙ still ∙ held h e)
    (undue-passes (the_book d) m k t a there others off) half.alerts
    (own-stands d sealed d.alerts.items a x refl within here m k env shown visited number numbered old new answer stepped half.terms)

-- an alert that neither its condition nor time changes, and some alerts of that kind
module _ (d : Draft) (sealed : IsSealed d) (m : ℕ → Moment) (k visited : ℕ) (terms : Terms) (t : Truths) (small : k < 2 ^ 63) where
  module _ (a : ℕ) (x : Alert) (within : a < length d.alerts.items) (here : x ≡ get_or d.alerts.items a x)
      (passes : MayPass (the_book d) m k t a) (half : AlertsHalf (the_book d) m k a visited terms t) where
    there : a < length (the_book d).alerts
    there = omega (arith, many-alerts d, within)

    hits : Operand → Bool
    hits = moved (known_world (the_book d) m (suc a)) k

    tells-own : TellsMoved hits (world_of (the_book d) m (alerts_from + a)) k (placed_of x.when)
    unfolding hits
    tells-own = same-tells (known_world (the_book d) m (suc a)) (world_of (the_book d) m (alerts_from + a)) k (placed_of x.when) (own-is d sealed d.alerts.items a x refl within here m)

    at-place : slice_get (places (the_book d)) (alerts_from + a) ≡ Some (placed_of x.when)
    at-place = own-place d sealed d.alerts.items a x refl within here

    was : HalfStepped (places (the_book d)) (world_of (the_book d) m) hits k (alerts_from + a) visited terms
    unfolding hits
    was = half.terms

    own-left : IsLeft (world_of (the_book d) m (alerts_from + a)) hits k (alerts_from + a) (nodes_before (places (the_book d)) (alerts_from + a)) (placed_of x.when) terms
    own-left = was.left (alerts_from + a) (placed_of x.when) (let w : alerts_from + a ≤ alerts_from + a = omega arith in w) at-place

    -- one whose condition isn't stirred
    module _ (off : is_marked terms.stirred (alerts_from + a) ≡ false) where
      same-condition : (h : ℕ) → k ≡ suc h → condition_in (the_book d) m a k ≡ condition_in (the_book d) m a h
      same-condition h e =
          let own = own-condition d sealed d.alerts.items a x refl within here m in
          sym (own k)
          ∙ sym (rest-holds (world_of (the_book d) m (alerts_from + a)) hits k h (alerts_from + a) (nodes_before (places (the_book d)) (alerts_from + a)) (placed_of x.when) terms small e tells-own own-left off)
          ∙ own h

      next : BookHalf (the_book d) m k (alerts_from + suc a) (suc a) visited terms
      unfolding hits
      next =
          let e : suc (alerts_from + a) ≡ alerts_from + suc a = omega arith in
          subst (λ n. BookHalf (the_book d) m k n (suc a) visited terms) e
          (half-rest (places (the_book d)) (world_of (the_book d) m) k (alerts_from + a) (placed_of x.when) at-place hits visited terms small tells-own off was)

      alert-off : AlertsHalf (the_book d) m k (suc a) visited terms t
      alert-off =
          alert-passed d sealed m k visited terms t a there (λ e. (let clash : true ≡ false = sym (own-left.stirs e) ∙ off in cc)) same-condition passes half.alerts next

  some-off : (a n : ℕ) → a + n ≤ length d.alerts.items → NoneMarked terms.stirred (alerts_from + a) (alerts_from + (a + n)) → ((j : ℕ) → a ≤ j → j < a + n → MayPass (the_book d) m k t j)
      → AlertsHalf (the_book d) m k a visited terms t → AlertsHalf (the_book d) m k (a + n) visited terms t
  some-off a zero le off rests half = let e : a ≡ a + 0 = omega arith in subst (λ i. AlertsHalf (the_book d) m k i visited terms t) e half
  some-off a (suc n) le off rests half =
      let e : suc (a + n) ≡ a + suc n = omega arith in
      with-item d.alerts.items (a + n) (omega arith)
      (λ x here. subst (λ i. AlertsHalf (the_book d) m k i visited terms t) e
      (alert-off (a + n) x (omega arith) here (rests _ (omega arith) (omega arith))
      (some-off a n (omega arith) (λ i from to. off i from (omega arith)) (λ i from to. rests i from (omega arith)) half) (off _ (omega arith) (omega arith))))

  -- up to the next that may change, or to the end
  pub alerts-skip : (a i : ℕ) → a ≤ i → i ≤ length d.alerts.items → NoneMarked terms.stirred (alerts_from + a) (alerts_from + i) → ((j : ℕ) → a ≤ j → j < i → MayPass (the_book d) m k t j)
      → AlertsHalf (the_book d) m k a visited terms t → AlertsHalf (the_book d) m k i visited terms t
  alerts-skip a i le most off rests half =
      let e : a + (i - a) ≡ i = omega arith in
      subst (λ n. AlertsHalf (the_book d) m k n visited terms t) e
      (some-off a (i - a) (omega arith) (subst (λ n. NoneMarked terms.stirred (alerts_from + a) (alerts_from + n)) (sym e) off) (subst (λ n. (j : ℕ) → a ≤ j → j < n → MayPass (the_book d) m k t j) (sym e) rests) half)

-- before the first alert
pub alerts-begin : (d : Draft) (m : ℕ → Moment) (k visited : ℕ) (terms : Terms) (t : Truths) → BookHalf (the_book d) m k alerts_from 1 visited terms
    → TruthsStand (the_book d) (condition_in (the_book d) m) (phase_in (the_book d) m) k t → AlertsHalf (the_book d) m k 0 visited terms t
alerts-begin d m k visited terms t half stands = record {
  terms = half;
  alerts = moment-begins (the_book d) (condition_in (the_book d) m) (phase_in (the_book d) m) k t stands;
}

-- behind the last
pub alerts-end : (d : Draft) (m : ℕ → Moment) (k i visited : ℕ) (terms : Terms) → i ≡ length d.alerts.items → BookHalf (the_book d) m k (alerts_from + i) (suc i) visited terms
    → BookHalf (the_book d) m k (lines_from (the_book d)) (suc (length (the_book d).alerts)) visited terms
alerts-end d m k i visited terms all half =
    let e : i ≡ length (the_book d).alerts = omega (arith, all, many-alerts d) in
    subst (λ n. BookHalf (the_book d) m k (alerts_from + n) (suc n) visited terms) e half
