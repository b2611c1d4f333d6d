-- What is written of the flights of a history: what was written stays, and a further Tick that begins a flight adds the
-- report of the flight before.
use Rattle.std.proofs.Common.{◌≡◌, ℕ, Bool, true, false, List, [], ◌∷◌, ◌++◌, eqb, refl, sym, ◌∙◌, ap, length, append_assoc}
use Rattle.std.specs.Prelude.{filter}
use Rattle.std.proofs.lemmas.List.{append-nil}
use Rattle.ecam_spec.specs.declared.kinds.Event.{Event}
use Rattle.ecam_spec.specs.declared.kinds.Event.TheVariants.{Word, Tick, Press, Release, Fail, Up, End}
use Rattle.ecam_spec.specs.Book.{Text, Book}
use Rattle.ecam_spec.specs.Alert.{onset}
use Rattle.ecam_spec.specs.Situation.{phase_in, up_in}
use Rattle.ecam_spec.specs.Screen.{order, enters_one}
use Rattle.ecam_spec.specs.History.{Era, era_with, era}
use Rattle.ecam_spec.specs.Replay.{is_tick, tick_count, moment_of}
use Rattle.ecam_spec.proofs.ReplaySteps.{tick_count_kept, tick_count_tick}
use Rattle.view_spec.specs.Ticks.{is_up, era_at, moment_at}
use Rattle.view_spec.specs.FlightReport.{Course, begins, earlier_reports, last_report, moments_at, course, report_text}
use Rattle.view_spec.proofs.TickLaws.{live_stays, era_stays, moment_stays, live_last, era_last, moment_last}
use Rattle.view_spec.proofs.FlightSteps.{reports-begun, reports-kept, reports-none}
use Rattle.view_spec.proofs.FlightAgree.{AgreeBelow, earlier-same, last_report-same}

module _ (b : Book) where
  -- what a course tells of a Tick, by the era that it is in and the moment of it that it ends
  first-of : ℕ → Bool
  first-of k = eqb k 0

  onsets-of : Era → ℕ → List ℕ
  onsets-of e k = filter (λ a. onset (up_in b (moment_of e) a) k) (order b)

  -- nothing that comes later changes the course up to now
  pub course-stays : (h later : List Event) → AgreeBelow (tick_count h) (course b (h ++ later)) (course b h)
  unfolding course moments_at onsets-of
  course-stays h later = record {
    live = λ t within. live_stays h later t within;
    first = λ t within. ap (λ k. eqb k 0) (moment_stays h later t within);
    enters_one = λ t within.
        ap (λ e. enters_one b (moment_of e) (moment_at (h ++ later) t)) (era_stays h later t within)
        ∙ ap (enters_one b (moment_of (era_at h t))) (moment_stays h later t within);
    phase = λ t within.
        ap (λ e. phase_in b (moment_of e) (moment_at (h ++ later) t)) (era_stays h later t within)
        ∙ ap (phase_in b (moment_of (era_at h t))) (moment_stays h later t within);
    onsets = λ t within.
        ap (λ e. onsets-of e (moment_at (h ++ later) t)) (era_stays h later t within)
        ∙ ap (onsets-of (era_at h t)) (moment_stays h later t within);
    name = refl;
  }

  module _ (h : List Event) where
    -- an event that is no Tick writes nothing
    pub report-quiet : (e : Event) → is_tick e ≡ false → report_text b (h ++ e ∷ []) ≡ report_text b h
    unfolding report_text
    report-quiet e quiet =
        ap (earlier_reports (course b (h ++ e ∷ []))) (tick_count_kept h e quiet)
        ∙ earlier-same (tick_count h) (course b (h ++ e ∷ [])) (course b h) (course-stays h (e ∷ []))

    -- the course with one more Tick, and how many Ticks there were before
    further : Course
    further = course b (h ++ Tick ∷ [])

    -- a Tick that begins a flight writes the report of the flight before
    pub report-begun : begins (course b (h ++ Tick ∷ [])) (tick_count h) ≡ true
        → report_text b (h ++ Tick ∷ []) ≡ report_text b h ++ last_report (course b h) (tick_count h)
    unfolding report_text further
    report-begun here =
        ap (earlier_reports further) (tick_count_tick h)
        ∙ reports-begun further (tick_count h) here
        ∙ ap (λ t. t ++ last_report further (tick_count h)) (earlier-same (tick_count h) further (course b h) (course-stays h (Tick ∷ [])))
        ∙ ap (λ t. earlier_reports (course b h) (tick_count h) ++ t) (last_report-same (tick_count h) further (course b h) (course-stays h (Tick ∷ [])))

    -- any other writes nothing
    pub report-goes_on : begins (course b (h ++ Tick ∷ [])) (tick_count h) ≡ false → report_text b (h ++ Tick ∷ []) ≡ report_text b h
    unfolding report_text further
    report-goes_on none =
        ap (earlier_reports further) (tick_count_tick h)
        ∙ reports-kept further (tick_count h) none
        ∙ earlier-same (tick_count h) further (course b h) (course-stays h (Tick ∷ []))

    -- what a further Tick tells, where a computer is up: of the moment that it ends
    pub further-live : (course b (h ++ Tick ∷ [])).live (tick_count h) ≡ is_up h
    unfolding course
    further-live = live_last h

    pub further-first : (course b (h ++ Tick ∷ [])).first (tick_count h) ≡ eqb (length (era h).moments) 0
    unfolding course
    further-first = ap (λ k. eqb k 0) (moment_last h)

    pub further-enters : (course b (h ++ Tick ∷ [])).enters_one (tick_count h) ≡ enters_one b (moment_of (era_with (era h) Tick)) (length (era h).moments)
    unfolding course moments_at
    further-enters =
        ap (λ e. enters_one b (moment_of e) (moment_at (h ++ Tick ∷ []) (tick_count h))) (era_last h)
        ∙ ap (enters_one b (moment_of (era_with (era h) Tick))) (moment_last h)

    pub further-phase : (course b (h ++ Tick ∷ [])).phase (tick_count h) ≡ phase_in b (moment_of (era_with (era h) Tick)) (length (era h).moments)
    unfolding course moments_at
    further-phase =
        ap (λ e. phase_in b (moment_of e) (moment_at (h ++ Tick ∷ []) (tick_count h))) (era_last h)
        ∙ ap (phase_in b (moment_of (era_with (era h) Tick))) (moment_last h)

    pub further-onsets : (course b (h ++ Tick ∷ [])).onsets (tick_count h)
        ≡ filter (λ a. onset (up_in b (moment_of (era_with (era h) Tick)) a) (length (era h).moments)) (order b)
    unfolding course moments_at onsets-of
    further-onsets =
        ap (λ e. onsets-of e (moment_at (h ++ Tick ∷ []) (tick_count h))) (era_last h)
        ∙ ap (onsets-of (era_with (era h) Tick)) (moment_last h)

    -- what was written stays
    pub report-step : (e : Event) → (more : Text) × (report_text b (h ++ e ∷ []) ≡ report_text b h ++ more)
    report-step e =
        let kept : (x : Event) → is_tick x ≡ false → (more : Text) × (report_text b (h ++ x ∷ []) ≡ report_text b h ++ more) =
        λ x quiet. ([], report-quiet x quiet ∙ sym (append-nil (report_text b h))) in
        elim e as (λ x. (more : Text) × (report_text b (h ++ x ∷ []) ≡ report_text b h ++ more)) [
          | Word bus bits ↦ kept (Word bus bits) refl
          | Tick ↦
              (elim (begins (course b (h ++ Tick ∷ [])) (tick_count h)) as (λ x. begins (course b (h ++ Tick ∷ [])) (tick_count h) ≡ x
              → (more : Text) × (report_text b (h ++ Tick ∷ []) ≡ report_text b h ++ more)) [
                | true ↦ λ here. (last_report (course b h) (tick_count h), report-begun here)
                | false ↦ λ none. ([], report-goes_on none ∙ sym (append-nil (report_text b h)))
              ]) refl
          | Press k ↦ kept (Press k) refl
          | Release k ↦ kept (Release k) refl
          | Fail n ↦ kept (Fail n) refl
          | Up n ↦ kept (Up n) refl
          | End ↦ kept End refl
        ]

  -- before any event nothing is written
  pub report-none : report_text b [] ≡ []
  unfolding report_text tick_count
  report-none = reports-none (course b [])

  pub report-grows : (h later : List Event) → (more : Text) × (report_text b (h ++ later) ≡ report_text b h ++ more)
  report-grows h [] = ([], ap (report_text b) (append-nil h) ∙ sym (append-nil (report_text b h)))
  report-grows h (e ∷ later) =
      let first = report-step h e in
      let rest = report-grows (h ++ e ∷ []) later in (
        first.0 ++ rest.0,
        ap (report_text b) (sym (append_assoc h (e ∷ []) later))
            ∙ rest.1
            ∙ ap (λ text. text ++ rest.0) first.1
            ∙ append_assoc (report_text b h) first.0 rest.0,
      )
