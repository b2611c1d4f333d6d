-- A moment that stirs no condition, in which no alert is restless and the phase stays: each condition holds where it held.
use Rattle.std.proofs.Common.{◌≡◌, ℕ, suc, ◌+◌, ◌^◌, ◌<◌, ◌≤◌, Bool, false, not, List, length, refl, sym, ap, arith}
use Rattle.std.proofs.lemmas.Bool.{eq-eqb}
use Rattle.ecam_spec.specs.Term.{holds}
use Rattle.ecam_spec.specs.BookTerms.{lines_of}
use Rattle.ecam_spec.specs.History.{Moment}
use Rattle.ecam_spec.specs.Situation.{flight, phase_in, condition_in, world}
use Rattle.ecam_spec.specs.Screen.{line_stands}
use Rattle.ecam_kinds.specs.declared.phase.Phase.{Phase}
use Rattle.book_model.specs.declared.draft.Draft.{Draft}
use Rattle.book_model.specs.Told.{TellsOf}
use Rattle.book_model.specs.Sealed.{the_book, IsSealed}
use Rattle.book_model.specs.Conditions.{alerts_from, lines_from, memos_from}
use Rattle.book_model.proofs.BookLists.{many-alerts}
use Rattle.wakes.specs.Marks.{is_marked}
use Rattle.flight_phases.specs.Inputs.{AreInputs}
use Rattle.alert_truth.specs.declared.truths.Truths.{Truths}
use Rattle.alert_truth.specs.TruthsState.{HalfStand, TruthsStand}
use Rattle.term_eval.specs.declared.reading.Reading.TheVariants.{InPhase}
use Rattle.fwc_lane.specs.declared.terms.Terms.{Terms}
use Rattle.fwc_lane.specs.Conditions.{BookHalf, AlertsHalf, LinesHalf, MemosHalf, AllStepped, WasPhase, LinesWere, MemosWere}
use Rattle.fwc_lane.specs.PhaseTruths.{inputs_by}
use Rattle.fwc_lane.proofs.Awake.{awake-off}
use Rattle.fwc_lane.proofs.Known.{phase-known}
use Rattle.fwc_lane.proofs.FlightSteps.{inputs-rest, inputs-kept}
use Rattle.fwc_lane.proofs.AlertSteps.{calm-passes, alerts-begin, alerts-skip, alerts-end}
use Rattle.fwc_lane.proofs.ProcedureSteps.{lines-begin, lines-past, lines-told}
use Rattle.fwc_lane.proofs.MemoSteps.{memos-begin, memos-skip, memos-end, memos-told}

module _ (d : Draft) (sealed : IsSealed d) (m : ℕ → Moment) (k visited : ℕ) (small : k < 2 ^ 63) (t : Terms) (off : (j : ℕ) → is_marked t.stirred j ≡ false)
    (half : BookHalf (the_book d) m k 0 0 visited t) where
  -- the inputs of the phase
  pub inputs-same : AreInputs (flight (the_book d) m) k (inputs_by t.truths.items)
  inputs-same = inputs-kept d sealed d.phase refl m k small visited t (λ j from to. off j) half

  module _ (was : Phase) (stays : was.number ≡ phase_in (the_book d) m k) (before : WasPhase (the_book d) m k was) where
    phase-stays : BookHalf (the_book d) m k alerts_from 1 visited t
    phase-stays =
        let b = the_book d in
        let inputs = inputs-rest d sealed d.phase refl m k small visited t (λ j from to. off j) half in
        phase-known d sealed m k visited t t false was was.number stays (awake-off b (length b.parameters + length b.alerts) (λ o. InPhase was) t false refl)
        (sym (ap not (eq-eqb was.number was.number refl))) before inputs

    module _ (alerts : Truths) (rests : (a : ℕ) → is_marked alerts.restless a ≡ false) (stands : TruthsStand (the_book d) (condition_in (the_book d) m) (phase_in (the_book d) m) k alerts) where
      all-alerts : AlertsHalf (the_book d) m k (length d.alerts.items) visited t alerts
      all-alerts =
          alerts-skip d sealed m k visited t alerts small 0 (length d.alerts.items) (omega arith) (let le : length d.alerts.items ≤ length d.alerts.items = omega arith in le)
          (λ j from to. off j) (λ a from to. calm-passes (the_book d) m k alerts a (omega (arith, many-alerts d, to)) (rests a)) (alerts-begin d m k visited t alerts phase-stays stands)

      -- the alerts, which are still to be settled
      pub alerts-same : HalfStand (the_book d) (condition_in (the_book d) m) (phase_in (the_book d) m) k (length d.alerts.items) alerts
      alerts-same = all-alerts.alerts

      behind-alerts : BookHalf (the_book d) m k (lines_from (the_book d)) (suc (length (the_book d).alerts)) visited t
      behind-alerts = alerts-end d m k (length d.alerts.items) visited t refl all-alerts.terms

      module _ (stood held : List Bool) (lines : LinesWere (the_book d) m k stood) (memos : MemosWere (the_book d) m k held) where
        all-lines : LinesHalf (the_book d) m k (memos_from (the_book d)) visited t stood
        all-lines =
            lines-past d sealed m k visited t stood small (lines_from (the_book d)) (memos_from (the_book d)) (let from : lines_from (the_book d) ≤ lines_from (the_book d) = omega arith in from) (omega arith)
            (let most : memos_from (the_book d) ≤ memos_from (the_book d) = omega arith in most) (λ j from to. off j) (lines-begin d sealed m k visited t stood lines behind-alerts)

        -- the lines
        pub lines-same : TellsOf stood (lines_of (the_book d).alerts) (line_stands (the_book d) m k)
        lines-same = lines-told d sealed m k visited t stood all-lines

        all-memos : MemosHalf (the_book d) m k (length d.memos.items) visited t held
        all-memos =
            memos-skip d sealed m k visited t held small 0 (length d.memos.items) (omega arith) (let le : length d.memos.items ≤ length d.memos.items = omega arith in le) (λ j from to. off j)
            (memos-begin d m k visited t held memos all-lines.terms)

        -- the memos
        pub memos-same : TellsOf held (the_book d).memos (λ x. holds (world (the_book d) m) x.when k)
        memos-same = memos-told d sealed m k (length d.memos.items) visited t held refl all-memos

        -- what is kept of all conditions
        pub terms-same : AllStepped (the_book d) m k visited t
        terms-same = memos-end d sealed m k (length d.memos.items) visited t held refl all-memos
