-- An alert that stays as it is: its condition doesn't hold and didn't, or holds while the alert is active.
use Rattle.std.proofs.Common.{◌≡◌, ℕ, zero, suc, ◌+◌, ◌-◌, ◌<◌, Bool, true, false, not, ◌&&◌, ◌||◌, Option, Some, None, cond, leb, refl, sym, ap, ◌∙◌, arith}
use Rattle.std.specs.Prelude.{is_none}
use Rattle.std.proofs.lemmas.Bool.{and_parts, or_parts, lt-leb}
use Rattle.std.proofs.lemmas.Bool.Decides.{nat_tests}
use Rattle.ecam_spec.specs.Past.{Signal, previous, running_since, start_of}
use Rattle.ecam_spec.specs.Alert as alert
use Rattle.ecam_spec.proofs.PastRuns.{running_since-start}
use Rattle.ecam_spec.proofs.PastSteps.{start_of-on-le}
use Rattle.alert_truth.proofs.Moments.{since-on, since-off, present-running, present-broken, active-now}

-- in moment k an alert with this condition is as in the moment before
pub record IsSame (inhibits p : Signal) (confirm k : ℕ) : Type 0 where
  pub since : running_since p (suc k) ≡ running_since p k
  pub present : alert.present confirm p k ≡ previous (alert.present confirm p) k
  pub active : alert.active inhibits (alert.present confirm p) k ≡ previous (alert.active inhibits (alert.present confirm p)) k
  pub answer : p k ≡ alert.active inhibits (alert.present confirm p) k

longer : (n j s : ℕ) → leb n (j - s) ≡ true → leb n (suc j - s) ≡ true
longer n j s long = grind (arith, nat_tests)

module _ (inhibits p : Signal) (n : ℕ) where
  not-active : (k : ℕ) → alert.present n p k ≡ false → alert.active inhibits (alert.present n p) k ≡ false
  not-active k off =
      sym (active-now inhibits (alert.present n p) k false (previous (alert.active inhibits (alert.present n p)) k) (inhibits k) refl refl (sym off))

  none-before : (k : ℕ) → running_since p k ≡ None → previous (alert.present n p) k ≡ false
  unfolding previous
  none-before zero none = refl
  none-before (suc j) none = sym (present-broken n p j (sym none))

  not-active-before : (k : ℕ) → previous (alert.present n p) k ≡ false → previous (alert.active inhibits (alert.present n p)) k ≡ false
  unfolding previous
  not-active-before zero off = refl
  not-active-before (suc j) off = not-active j off

  quiet : (k : ℕ) → p k ≡ false → running_since p k ≡ None → IsSame inhibits p n k
  quiet k off none =
      let now : None ≡ running_since p (suc k) = since-off p k off in
      let away : alert.present n p k ≡ false = sym (present-broken n p k now) in
      let before = none-before k none in
      record {
        since = sym now ∙ sym none;
        present = away ∙ sym before;
        active = not-active k away ∙ sym (not-active-before k before);
        answer = off ∙ sym (not-active k away);
      }

  pub was-present : (j : ℕ) → alert.active inhibits (alert.present n p) j ≡ true → alert.present n p j ≡ true
  was-present j was =
      (and_parts (alert.present n p j) (previous (alert.active inhibits (alert.present n p)) j || not (inhibits j))
      (active-now inhibits (alert.present n p) j (alert.present n p j) (previous (alert.active inhibits (alert.present n p)) j) (inhibits j) refl refl refl ∙ was)).0

  go-on : (j : ℕ) (o : Option ℕ) → running_since p (suc j) ≡ o → p (suc j) ≡ true → alert.active inhibits (alert.present n p) j ≡ true → IsSame inhibits p n (suc j)
  unfolding previous
  go-on j None is on was = absurd (let w : false ≡ true = present-broken n p j (sym is) ∙ was-present j was in cc)
  go-on j (Some s) is on was =
      let next : Some s ≡ running_since p (suc (suc j)) = since-on p (suc j) (Some s) (sym is) on in
      let present_before = was-present j was in
      let present_now : alert.present n p (suc j) ≡ true
      = sym (present-running n p (suc j) s next) ∙ longer n j s (present-running n p j s (sym is) ∙ present_before) in
      let active_now : alert.active inhibits (alert.present n p) (suc j) ≡ true
      = sym (active-now inhibits (alert.present n p) (suc j) true true (inhibits (suc j)) (sym was) refl (sym present_now)) in
      record {
        since = sym next ∙ sym is;
        present = present_now ∙ sym present_before;
        active = active_now ∙ sym was;
        answer = on ∙ sym active_now;
      }

  lasting : (k : ℕ) → p k ≡ true → previous (alert.active inhibits (alert.present n p)) k ≡ true → IsSame inhibits p n k
  unfolding previous
  lasting zero on was = absurd (let w : false ≡ true = was in cc)
  lasting (suc j) on was = go-on j (running_since p (suc j)) refl on was

  is-none : (o : Option ℕ) → is_none o ≡ true → o ≡ None
  is-none None e = refl
  is-none (Some s) e = absurd (let w : false ≡ true = e in cc)

  -- what is kept of an alert tells that it stays as it is
  pub stays-same : (k : ℕ) (holds was : Bool) (since : Option ℕ) → holds ≡ p k → was ≡ previous (alert.active inhibits (alert.present n p)) k → since ≡ running_since p k
      → cond holds was (is_none since) ≡ true → IsSame inhibits p n k
  stays-same k true was since on active start e = lasting k (sym on) (sym active ∙ e)
  stays-same k false was since off active start e = quiet k (sym off) (sym start ∙ is-none since e)

  -- a condition that held goes back to its start
  started : (h : ℕ) → p h ≡ true → running_since p (suc h) ≡ Some (start_of p h)
  started h on = running_since-start p h ∙ ap (λ c. cond c (Some (start_of p h)) None) on

  -- where it holds as it did, it holds since when it did
  pub since-same : (h : ℕ) → p (suc h) ≡ p h → running_since p (suc (suc h)) ≡ running_since p (suc h)
  since-same h same = by (p (suc h)) refl
    where
      by : (b : Bool) → p (suc h) ≡ b → running_since p (suc (suc h)) ≡ running_since p (suc h)
      by false off = sym (since-off p (suc h) off) ∙ since-off p h (sym same ∙ off)
      by true on =
          let was = started h (sym same ∙ on) in
          sym (since-on p (suc h) (Some (start_of p h)) (sym was) on) ∙ sym was

  -- an alert that isn't active, whose condition goes on holding, isn't present before its confirmation is complete, and isn't
  -- active before the phase lets it
  pub waits-on : (h : ℕ) → p h ≡ true → p (suc h) ≡ true → alert.active inhibits (alert.present n p) h ≡ false → inhibits (suc h) ≡ inhibits h
      → (alert.present n p h ≡ false → suc h < start_of p h + n)
      → (alert.present n p (suc h) ≡ alert.present n p h) × (alert.active inhibits (alert.present n p) (suc h) ≡ alert.active inhibits (alert.present n p) h)
  unfolding previous
  waits-on h held on off phase early = by (alert.present n p h) refl
    where
      next : Some (start_of p h) ≡ running_since p (suc (suc h))
      next = since-on p (suc h) (Some (start_of p h)) (sym (started h held)) on

      by : (b : Bool) → alert.present n p h ≡ b → (alert.present n p (suc h) ≡ alert.present n p h) × (alert.active inhibits (alert.present n p) (suc h) ≡ alert.active inhibits (alert.present n p) h)
      by false away =
          let still_away : alert.present n p (suc h) ≡ false
          = sym (present-running n p (suc h) (start_of p h) next) ∙ lt-leb n (suc h - start_of p h) (omega (arith, early away, start_of-on-le p h held)) in
          (still_away ∙ sym away, not-active (suc h) still_away ∙ sym (not-active h away))
      by true here =
          let still_here : alert.present n p (suc h) ≡ true
          = sym (present-running n p (suc h) (start_of p h) next) ∙ longer n h (start_of p h) (present-running n p h (start_of p h) (sym (started h held)) ∙ here) in
          let shut : (previous (alert.active inhibits (alert.present n p)) h || not (inhibits h)) ≡ false
          = ap (λ b. b && (previous (alert.active inhibits (alert.present n p)) h || not (inhibits h))) (sym here)
          ∙ active-now inhibits (alert.present n p) h (alert.present n p h) (previous (alert.active inhibits (alert.present n p)) h) (inhibits h) refl refl refl ∙ off in (
            still_here ∙ sym here,
            sym (active-now inhibits (alert.present n p) (suc h) true false (inhibits h) (sym off) (sym phase) (sym still_here))
                ∙ (or_parts (previous (alert.active inhibits (alert.present n p)) h) (not (inhibits h)) shut).1 ∙ sym off,
          )
