-- One more Tick of a history: what its moment brings, and what the report then stands for.
use Rattle.std.proofs.Common.{◌≡◌, ℕ, suc, ◌+◌, ◌^◌, ◌<◌, ◌≤◌, Bool, true, false, not, ◌&&◌, ◌||◌, eqb, List, [], ◌++◌, ◌∷◌, length, replicate, get_or, cond, None, refl, sym, ◌∙◌, ap, subst, arith, append-nil, add-one}
use Rattle.std.specs.Prelude.{filter}
use Rattle.std.specs.Box.{boxed_slice_items}
use Rattle.std.proofs.lemmas.List.{get_or-replicate}
use Rattle.ecam_spec.specs.declared.kinds.Event.{Event}
use Rattle.ecam_spec.specs.declared.kinds.Event.TheVariants.{Word, Tick, Press, Release, Fail, Up, End}
use Rattle.ecam_spec.specs.Book.{Book}
use Rattle.ecam_spec.specs.Past.{Signal, previous}
use Rattle.ecam_spec.specs.Alert.{onset}
use Rattle.ecam_spec.specs.Situation.{alert_at, phase_in, condition_in, up_in}
use Rattle.ecam_spec.specs.Screen.{order}
use Rattle.ecam_spec.specs.History.{Flags, none_up, flags_with, flags_after, comes_up, Moment, Era, era_with, era}
use Rattle.ecam_spec.specs.Replay.{is_tick, tick_count, moment_of}
use Rattle.ecam_spec.proofs.OrderLaws.{length-order}
use Rattle.ecam_spec.proofs.PastAgree.{previous-below}
use Rattle.ecam_spec.proofs.HistoryLaws.{flags_step, era_goes_on, era_begins}
use Rattle.ecam_spec.proofs.MomentSteps.{moments_kept, moment_kept, moment_tick, length_tick}
use Rattle.ecam_spec.proofs.ReplaySteps.{tick_count_kept, tick_count_tick}
use Rattle.view_spec.specs.Ticks.{is_up, moment_at, begins_anew}
use Rattle.view_spec.specs.FlightReport.{begins, last_flight, moments_at, course, report_text}
use Rattle.view_spec.proofs.FlightLaws.{course-stays, report-begun, report-goes_on, further-live, further-first, further-enters, further-phase, further-onsets}
use Rattle.alert_truth.specs.Alerts as alerts
use Rattle.alert_truth.specs.Alerts.{Tells}
use Rattle.alert_truth.specs.TruthsState.{TruthsStand}
use Rattle.fwc_lane.specs.declared.lane.Lane.{Lane}
use Rattle.fwc_lane.specs.LaneStands.{WholeStands, LaneStands, Continues}
use Rattle.fwc_lane.proofs.Showing.{up-is}
use Rattle.fwc_pair.specs.declared.pair.Pair.{Pair}
use Rattle.fwc_pair.specs.PairState.{flags_of, PairStands}
use Rattle.flight_report.specs.Kept.{last_text, IsLast, HasRoom, Watches, WatchStands, Comes, ReportStands}
use Rattle.flight_report.specs.declared.watch.Watch.{Watch}
use Rattle.flight_report.specs.declared.report.Report.{Report}
use Rattle.flight_report.proofs.Flights.{number-few, onsets-few, last-agrees, last-dead, last-text}

-- before the first moment
pub watch-first : (n m : ℕ) (ups : ℕ → Signal) (phases : ℕ → ℕ) (w : Watch) → w.phase ≡ None → boxed_slice_items w.up ≡ replicate m false → m ≡ n
    → WatchStands n ups phases 0 w
unfolding previous
watch-first n m ups phases w none items many = record {
  phase = rw none refl;
  up = λ a within. ap (λ xs. get_or xs a false) items ∙ get_or-replicate m a false false (omega (arith, within, many));
}

not-none : (x : Bool) → (x ≡ true → true ≡ false) → not x ≡ true
not-none true some = sym (some refl)
not-none false some = refl

-- an event that is no Tick
pub no-tick : (e : Event) → (e ≡ Tick → ⊥) → is_tick e ≡ false
no-tick (Word bus bits) other = refl
no-tick Tick other = absurd (other refl)
no-tick (Press k) other = refl
no-tick (Release k) other = refl
no-tick (Fail n) other = refl
no-tick (Up n) other = refl
no-tick End other = refl

filter-short : (p : ℕ → Bool) (xs : List ℕ) → length (filter p xs) ≤ length xs
filter-short p [] = omega arith
filter-short p (x ∷ xs) =
    let rest = filter-short p xs in
    elim (p x) as (λ y. length (cond y (x ∷ filter p xs) (filter p xs)) ≤ suc (length xs)) [ true ↦ omega (arith, rest) | false ↦ omega (arith, rest) ]

one-up : (one two : Bool) → not (not (one || false)) ≡ true → not (not (one || two)) ≡ true
one-up true two h = refl
one-up false two h = absurd (let w : ⊥ = cc in w)

two-up : (one two : Bool) → not (not two) ≡ true → not (not (one || two)) ≡ true
two-up true two h = refl
two-up false two h = h

after-failure : (first : Bool) (f : Flags) → not (none_up (cond first (record f { one = false }) (record f { two = false }))) ≡ true → not (none_up f) ≡ true
after-failure true f h = two-up f.one f.two h
after-failure false f h = one-up f.one f.two h

-- a computer that is up after an event which begins no era was up before it, or the other was
up-flags : (f : Flags) (e : Event) → (comes_up e && none_up f) ≡ false → not (none_up (flags_with f e)) ≡ true → not (none_up f) ≡ true
unfolding flags_with
up-flags f (Word bus bits) none up = up
up-flags f Tick none up = up
up-flags f (Press k) none up = up
up-flags f (Release k) none up = up
up-flags f (Fail n) none up = after-failure (eqb n 1) f up
up-flags f (Up n) none up = ap not none
up-flags f End none up = up

module _ (b : Book) (h : List Event) where
  further : List Event
  further = h ++ Tick ∷ []

  next : Era
  next = era_with (era h) Tick

  next-is : era (h ++ Tick ∷ []) ≡ era_with (era h) Tick
  next-is = era_goes_on h Tick refl

  pub next-length : length (era (h ++ Tick ∷ [])).moments ≡ suc (length (era h).moments)
  next-length = ap (λ e. length e.moments) next-is ∙ length_tick (era h)

  pub up-same : is_up (h ++ Tick ∷ []) ≡ is_up h
  unfolding flags_with
  up-same = ap (λ f. not (none_up f)) (flags_step h Tick)

  -- no moment has more alerts that come up than the book has
  pub few-onsets : length (order b) ≤ 2048 → (t : ℕ) → length ((course b h).onsets t) ≤ 2048
  unfolding course
  few-onsets few t = omega (arith, few, filter-short (λ a. onset (up_in b (moments_at b h t) a) (moment_at h t)) (order b))

  -- what a computer holds of the moment that the Tick ended
  module _ (l : Lane) (lane : LaneStands b (era (h ++ Tick ∷ [])) l) (m : ℕ → Moment) (continues : Continues (era (h ++ Tick ∷ [])) m) where
    whole : WholeStands b m (suc (length (era h).moments)) l
    whole = subst (λ k. WholeStands b m k l) next-length (lane.whole m continues)

    pub phase-now : l.phase.number ≡ phase_in b m (length (era h).moments)
    phase-now = whole.phase (length (era h).moments) refl

    pub ups-now : (up : List Bool)
        → ((k : ℕ) → TruthsStand b (condition_in b m) (phase_in b m) k l.truths → Tells (length b.alerts) up (alerts.up b (condition_in b m) (phase_in b m)) k)
        → Tells (length b.alerts) up (up_in b m) (suc (length (era h).moments))
    ups-now up tells = λ a within.
        tells (suc (length (era h).moments)) whole.truths a within
        ∙ previous-below (alerts.up b (condition_in b m) (phase_in b m) a) (up_in b m a) (suc (length (era h).moments)) (λ i less. up-is b m a i)

  -- a computer is up at the Tick, or none is, as the pair tells
  pub alive : (p : Pair) → PairStands b (h ++ Tick ∷ []) p → (none_up (flags_of p) ≡ true → true ≡ false) → is_up h ≡ true
  alive p pair some = sym up-same ∙ ap (λ f. not (none_up f)) (sym pair.flags) ∙ not-none (none_up (flags_of p)) some

  pub dead : (p : Pair) → PairStands b (h ++ Tick ∷ []) p → none_up (flags_of p) ≡ true → is_up h ≡ false
  dead p pair none = sym up-same ∙ ap (λ f. not (none_up f)) (sym pair.flags) ∙ ap not none

  module _ (r : Report) (stands : ReportStands b h r) where
    pub has-room : tick_count h < 2 ^ 32 → length b.alerts ≤ 2048 → HasRoom r
    has-room few alerts = record {
      ticks = omega (arith, few, stands.ticks);
      number = number-few (course b h) (tick_count h) r.flight few stands.flight;
      onsets = onsets-few (course b h) (tick_count h) r.flight few (few-onsets (omega (arith, alerts, length-order b))) stands.flight;
    }

    pub further-last : IsLast (course b (h ++ Tick ∷ [])) (tick_count h) (last_flight (course b (h ++ Tick ∷ [])) (tick_count h)) r.flight
    further-last = last-agrees (tick_count h) (course b (h ++ Tick ∷ [])) (course b h) (course-stays b h (Tick ∷ [])) r.flight stands.flight

    -- what the Tick brings, where a computer is up
    pub comes-now : (l : Lane) (lane : LaneStands b (era (h ++ Tick ∷ [])) l) (up : List Bool)
        → ((m : ℕ → Moment) (k : ℕ) → TruthsStand b (condition_in b m) (phase_in b m) k l.truths → Tells (length b.alerts) up (alerts.up b (condition_in b m) (phase_in b m)) k)
        → is_up h ≡ true → Comes b (course b (h ++ Tick ∷ [])) (tick_count h) l.phase.number up r.watch
    comes-now l lane up tells is =
        let m : ℕ → Moment = moment_of (era_with (era h) Tick) in
        let goes : Continues (era (h ++ Tick ∷ [])) m = λ i less. ap (λ e. moment_of e i) (sym next-is) in
        record {
          moments = m;
          number = length (era h).moments;
          live = further-live b h ∙ is;
          first = further-first b h;
          enters_one = further-enters b h;
          in_phase = further-phase b h;
          onsets = further-onsets b h;
          phase_is = phase-now l lane m goes;
          up_are = ups-now l lane m goes up (tells m);
          watch = stands.watch is m (λ i less. moment_tick (era h) i (omega (arith, less)));
        }

    -- the text with what the Tick adds
    pub text-further : report_text b (h ++ Tick ∷ [])
        ≡ report_text b h ++ cond (begins (course b (h ++ Tick ∷ [])) (tick_count h)) (last_text (λ a. (alert_at b a).name) r.flight) []
    unfolding course
    text-further =
        (elim (begins (course b (h ++ Tick ∷ [])) (tick_count h)) as (λ x. begins (course b (h ++ Tick ∷ [])) (tick_count h) ≡ x
        → report_text b (h ++ Tick ∷ []) ≡ report_text b h ++ cond x (last_text (λ a. (alert_at b a).name) r.flight) []) [
          | true ↦ λ here. report-begun b h here ∙ ap (λ t. report_text b h ++ t) (sym (last-text (course b h) (tick_count h) r.flight stands.flight))
          | false ↦ λ none. report-goes_on b h none ∙ sym (append-nil (report_text b h))
        ]) refl

    -- a computer is up: the last flight and the moment are kept
    pub stands-live : (s : Report) → s.ticks ≡ r.ticks + 1
        → IsLast (course b (h ++ Tick ∷ [])) (suc (tick_count h)) (last_flight (course b (h ++ Tick ∷ [])) (suc (tick_count h))) s.flight
        → Watches (length b.alerts) s.watch
        → ((m : ℕ → Moment) → Continues (era (h ++ Tick ∷ [])) m → WatchStands (length b.alerts) (up_in b m) (phase_in b m) (suc (length (era h).moments)) s.watch)
        → ReportStands b (h ++ Tick ∷ []) s
    stands-live s ticks flight fits watch = record {
      ticks = ticks ∙ ap (λ n. n + 1) stands.ticks ∙ add-one (tick_count h) ∙ sym (tick_count_tick h);
      flight = subst (λ n. IsLast (course b (h ++ Tick ∷ [])) n (last_flight (course b (h ++ Tick ∷ [])) n) s.flight) (sym (tick_count_tick h)) flight;
      fits = fits;
      watch = λ is m continues. subst (λ k. WatchStands (length b.alerts) (up_in b m) (phase_in b m) k s.watch) (sym next-length) (watch m continues);
    }

    -- none is: the Tick is only counted
    pub stands-dead : is_up h ≡ false → (s : Report) → s.ticks ≡ r.ticks + 1 → s.flight ≡ r.flight → s.watch ≡ r.watch
        → ReportStands b (h ++ Tick ∷ []) s
    stands-dead dead s ticks flight watch = record {
      ticks = ticks ∙ ap (λ n. n + 1) stands.ticks ∙ add-one (tick_count h) ∙ sym (tick_count_tick h);
      flight =
          rw flight
          (subst (λ n. IsLast (course b (h ++ Tick ∷ [])) n (last_flight (course b (h ++ Tick ∷ [])) n) r.flight) (sym (tick_count_tick h))
          (last-dead (course b (h ++ Tick ∷ [])) (tick_count h) r.flight (further-live b h ∙ dead) further-last));
      fits = rw watch stands.fits;
      watch = λ is. absurd (let x : ⊥ = (let same = up-same in cc) in x);
    }

    pub text-dead : is_up h ≡ false → report_text b (h ++ Tick ∷ []) ≡ report_text b h
    unfolding begins
    text-dead dead = report-goes_on b h (rw (further-live b h ∙ dead) refl)

-- an event that is no Tick
module _ (b : Book) (h : List Event) (e : Event) (quiet : is_tick e ≡ false) where
  up-before : begins_anew h e ≡ false → is_up (h ++ e ∷ []) ≡ true → is_up h ≡ true
  up-before none up = up-flags (flags_after h) e none (sym (ap (λ f. not (none_up f)) (flags_step h e)) ∙ up)

  pub stands-on : (r s : Report) → ReportStands b h r → s.ticks ≡ r.ticks → s.flight ≡ r.flight
      → Watches (length b.alerts) s.watch
      → (begins_anew h e ≡ false → s.watch ≡ r.watch)
      → (begins_anew h e ≡ true → (ups : ℕ → Signal) (phases : ℕ → ℕ) → WatchStands (length b.alerts) ups phases 0 s.watch)
      → ReportStands b (h ++ e ∷ []) s
  stands-on r s stands ticks flight fits kept forgotten = record {
    ticks = ticks ∙ stands.ticks ∙ sym (tick_count_kept h e quiet);
    flight =
        rw flight
        (subst (λ n. IsLast (course b (h ++ e ∷ [])) n (last_flight (course b (h ++ e ∷ [])) n) r.flight) (sym (tick_count_kept h e quiet))
        (last-agrees (tick_count h) (course b (h ++ e ∷ [])) (course b h) (course-stays b h (e ∷ [])) r.flight stands.flight));
    fits = fits;
    watch = λ is m continues.
        (elim (begins_anew h e) as (λ x. begins_anew h e ≡ x → WatchStands (length b.alerts) (up_in b m) (phase_in b m) (length (era (h ++ e ∷ [])).moments) s.watch) [
          | true ↦ λ here.
              subst (λ k. WatchStands (length b.alerts) (up_in b m) (phase_in b m) k s.watch) (sym (ap (λ x. length x.moments) (era_begins h e here)))
              (forgotten here (up_in b m) (phase_in b m))
          | false ↦ λ none.
              let on : era (h ++ e ∷ []) ≡ era_with (era h) e = era_goes_on h e none in
              let moments : (era (h ++ e ∷ [])).moments ≡ (era h).moments = ap (λ x. x.moments) on ∙ moments_kept (era h) e quiet in
              rw (kept none)
              (subst (λ k. WatchStands (length b.alerts) (up_in b m) (phase_in b m) k r.watch) (sym (ap length moments))
              (stands.watch (up-before none is) m (λ i less.
              continues i (omega (arith, less, ap length moments)) ∙ ap (λ x. moment_of x i) on ∙ moment_kept (era h) e i quiet less)))
        ]) refl;
  }
