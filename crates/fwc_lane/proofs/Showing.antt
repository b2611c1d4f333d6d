-- An environment that lends what came in a moment shows each of the worlds in which conditions are asked.
use Rattle.std.proofs.Common.{Bor, ◌≡◌, ℕ, suc, ◌<◌, Bool, false, List, length, take, get_or, refl, sym, ap, ◌∙◌, arith, length-take}
use Rattle.std.proofs.lemmas.List.{get_or-take}
use Rattle.ecam_spec.specs.Past.{Signal, previous}
use Rattle.ecam_spec.specs.Book.{Book}
use Rattle.ecam_spec.specs.Term.{World}
use Rattle.ecam_spec.specs.History.{Moment}
use Rattle.ecam_spec.specs.Situation as situation
use Rattle.ecam_spec.specs.Situation.{phase_in, condition_in, present_in, active_in, waiting_in, starred_in, up_in, world_where, flight_world, alert_world, known_below, world}
use Rattle.ecam_spec.proofs.WorldLaws.{known-at}
use Rattle.ecam_kinds.specs.declared.phase.Phase.{Phase}
use Rattle.alert_truth.specs.Alerts.{present, active, waiting, starred, up}
use Rattle.alert_truth.specs.declared.truths.Truths.{Truths}
use Rattle.alert_truth.specs.TruthsState.{HalfStand, TruthsStand}
use Rattle.term_eval.specs.declared.env.Env.{Env}
use Rattle.term_eval.specs.Shown.{is_active}
use Rattle.fwc_lane.specs.Given.{Lends, ShowsFirst}

module _ (b : Book) (m : ℕ → Moment) where
  -- the words of alert_truth at a book's conditions and phases are the definitions
  pub present-is : (a k : ℕ) → present b (condition_in b m) (phase_in b m) a k ≡ present_in b m a k
  unfolding present_in situation.present_knowing condition_in
  present-is a k = refl

  pub active-is : (a k : ℕ) → active b (condition_in b m) (phase_in b m) a k ≡ active_in b m a k
  unfolding active_in situation.active_knowing situation.present_knowing situation.inhibited condition_in
  active-is a k = refl

  pub waiting-is : (a k : ℕ) → waiting b (condition_in b m) (phase_in b m) a k ≡ waiting_in b m a k
  unfolding waiting_in present_in active_in situation.active_knowing situation.present_knowing situation.inhibited condition_in
  waiting-is a k = refl

  pub starred-is : (a k : ℕ) → starred b (condition_in b m) (phase_in b m) a k ≡ starred_in b m a k
  unfolding starred_in active_in situation.active_knowing situation.present_knowing situation.inhibited condition_in
  starred-is a k = refl

  pub up-is : (a k : ℕ) → up b (condition_in b m) (phase_in b m) a k ≡ up_in b m a k
  unfolding up_in starred_in active_in situation.active_knowing situation.present_knowing situation.inhibited condition_in
  up-is a k = refl

  module _ (k : ℕ) (env : Env) (lends : Lends b m k env) where
    shows-where : (phases : ℕ → ℕ) (actives : ℕ → Signal) → env.phase.number ≡ phases k → ((a : ℕ) → a < length env.active.now → is_active env a ≡ actives a k)
        → ShowsFirst env (world_where b m phases actives) k
    shows-where phases actives phase alerts = λ first. record {
      values = lends.values first;
      phase = phase;
      active = alerts;
      pressed = lends.pressed;
      one_up = lends.one_up;
      two_up = lends.two_up;
    }

    -- phase 1 and no alert
    pub shows-flight : env.phase.number ≡ 1 → length env.active.now ≡ 0 → ShowsFirst env (flight_world b m) k
    shows-flight phase none = shows-where (λ i. 1) (λ a i. false) phase (λ a lt. absurd (omega arith))

    -- the phase and the alerts before alert i
    pub shows-own : (t : Truths) (i : ℕ) → env.phase.number ≡ phase_in b m k → env.active.now ≡ take i t.active.items
        → HalfStand b (condition_in b m) (phase_in b m) k i t → ShowsFirst env (alert_world b m (known_below b m i)) k
    unfolding previous
    shows-own t i phase actives half =
        shows-where (phase_in b m) (λ a. get_or (known_below b m i) a (λ j. false)) phase
        (λ a lt.
        let below : a < i = omega (arith, ap length actives, length-take i t.active.items) in
        ap (λ xs. get_or xs a false) actives
        ∙ get_or-take i t.active.items a false below
        ∙ (half.stepped a below).active
        ∙ active-is a k
        ∙ ap (λ (p : Signal). p k) (sym (known-at b m i a (λ j. false) below)))

    -- the phase and all alerts
    pub shows-whole : (t : Truths) (p : Phase) (flags : Bor (List Bool)) → p.number ≡ phase_in b m k → flags.now ≡ t.active.items
        → TruthsStand b (condition_in b m) (phase_in b m) (suc k) t → ShowsFirst (record env { phase = p; active = flags }) (world b m) k
    unfolding world previous
    shows-whole t p flags phase actives stands = λ first. record {
      values = lends.values first;
      phase = phase;
      active = λ a lt.
          let below : a < length b.alerts = omega (arith, ap length actives, stands.fits.active) in
          ap (λ xs. get_or xs a false) actives ∙ (stands.each a below).active ∙ active-is a k;
      pressed = lends.pressed;
      one_up = lends.one_up;
      two_up = lends.two_up;
    }

-- of the alerts the list is shown, wherever it lies
pub shows-list : (env : Env) (p : Phase) (w : World) (k : ℕ) (xs ys : Bor (List Bool)) → xs.now ≡ ys.now → ShowsFirst (record env { phase = p; active = xs }) w k → ShowsFirst (record env { phase = p; active = ys }) w k
shows-list env p w k xs ys same shows = λ first. record {
  values = (shows first).values;
  phase = (shows first).phase;
  active = λ a lt. ap (λ zs. get_or zs a false) (sym same) ∙ (shows first).active a (omega (arith, ap length same));
  pressed = (shows first).pressed;
  one_up = (shows first).one_up;
  two_up = (shows first).two_up;
}
