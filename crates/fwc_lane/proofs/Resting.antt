-- A moment in which nothing changes: what a lane is then.
use Rattle.std.proofs.Common.{◌≡◌, ℕ, suc, ◌+◌, ◌-◌, ◌^◌, ◌≤◌, ◌<◌, min, Bool, false, not, [], length, refl, sym, ap, subst, ◌∙◌, arith, add-one}
use Rattle.std.proofs.lemmas.Bool.{lt-ltb}
use Rattle.ecam_spec.specs.Past.{Signal}
use Rattle.ecam_spec.specs.Book.{Book}
use Rattle.ecam_spec.specs.BookTerms.{lines_of}
use Rattle.ecam_spec.specs.Term.{holds}
use Rattle.ecam_spec.specs.History.{Moment}
use Rattle.ecam_spec.specs.Crew.{Cockpit}
use Rattle.ecam_spec.specs.Selection.{Panel}
use Rattle.ecam_spec.specs.Lamps as lamps
use Rattle.ecam_spec.specs.Phase.{Flight, phase}
use Rattle.ecam_spec.specs.Situation.{flight, phase_in, condition_in, world}
use Rattle.ecam_spec.specs.Screen.{cockpit, attention, panel, line_stands}
use Rattle.ecam_kinds.specs.declared.keys.Keys.{Keys}
use Rattle.param_table.specs.declared.table.Params.{Params}
use Rattle.book_model.specs.declared.draft.Draft.{Draft}
use Rattle.book_model.specs.Told.{TellsOf}
use Rattle.book_model.specs.Sealed.{the_book, IsSealed}
use Rattle.book_model.proofs.BookLists.{many-pages}
use Rattle.book_model.proofs.BookLimits.{sizes}
use Rattle.flight_phases.specs.Inputs.{SameInputs}
use Rattle.flight_phases.specs.State as flight_phases
use Rattle.flight_phases.specs.declared.state.PhaseState.{PhaseState}
use Rattle.wakes.specs.Marks.{is_marked}
use Rattle.alert_truth.specs.declared.truths.Truths.{Truths}
use Rattle.alert_truth.specs.TruthsState.{HalfStand, TruthsStand, Unchanged}
use Rattle.crew_marks.specs.CrewMarks.{CrewMarks, stands_normal}
use Rattle.crew_marks.specs.MarksState.{IsCrewOf, NothingActs, AreStill, MarksFit, MarksStand}
use Rattle.attention.specs.declared.state.Attention.{Attention}
use Rattle.attention.specs.State.{NothingComes, AttentionStands}
use Rattle.system_display.specs.declared.selector.Selector.{Selector}
use Rattle.system_display.specs.Selecting as selecting
use Rattle.system_display.specs.Panels.{SelectsNothing}
use Rattle.zone_rows.specs.Tracked.{tracked, IsWhole}
use Rattle.fwc_lane.specs.declared.lane.Lane.{Lane}
use Rattle.fwc_lane.specs.LaneFits.{LaneFits}
use Rattle.fwc_lane.specs.LaneStands.{WholeStands}
use Rattle.fwc_lane.specs.Visits.{visits}
use Rattle.fwc_lane.specs.Begun.{HasBegun}
use Rattle.fwc_lane.specs.Calm.{RestsNow, PhaseStays, ValuesStay}
use Rattle.fwc_lane.specs.Given.{Came}
use Rattle.fwc_lane.specs.PhaseTruths.{inputs_by}
use Rattle.fwc_lane.specs.declared.terms.Terms.{Terms}
use Rattle.fwc_lane.specs.CrewStands.{IsShownAsBefore}
use Rattle.fwc_lane.specs.Scenes.{AreTurned}
use Rattle.fwc_lane.specs.Conditions.{AllStepped}
use Rattle.fwc_lane.proofs.ConditionsRest.{inputs-same, alerts-same, lines-same, memos-same, terms-same}
use Rattle.fwc_lane.proofs.FlightSteps.{inputs-before}
use Rattle.fwc_lane.proofs.RestBegins.{none-marked, some-before, same-inputs, begun}
use Rattle.fwc_lane.proofs.CrewMoments.{crew-of, still-crew, still-lights, shown-kept}
use Rattle.fwc_lane.proofs.CrewRest.{nothing-acts, nothing-comes, selects-nothing, normal-off, lights-rest}
use Rattle.fwc_lane.proofs.PictureRest.{none_turned, picture-rests, rows-rest}
use Rattle.fwc_lane.proofs.Ticks.{of-last, are-turned, terms-after, values-before}

-- what the calls make of the parts of a lane
pub record PartsRest (d : Draft) (old : Lane) (state : PhaseState) (truths : Truths) (marks : CrewMarks) (lights : Attention) (selector : Selector) : Type 0 where
  pub phased : (f : Flight) (k : ℕ) → SameInputs f k → flight_phases.Stands f (suc k) old.phase_state → flight_phases.Stands f (suc (suc k)) state
  pub settled : (conditions : ℕ → Signal) (phases : ℕ → ℕ) (k : ℕ) → HalfStand (the_book d) conditions phases k (length d.alerts.items) old.truths
      → TruthsStand (the_book d) conditions phases (suc k) truths
  pub truths_changed : truths.changed ≡ old.truths.changing
  pub marked : (b : Book) (c : Cockpit) (k : ℕ) → MarksFit b old.marks → IsCrewOf b c → NothingActs c k → AreStill b c k → MarksStand b c k old.marks → MarksStand b c (suc k) marks
  pub sets : marks.sets ≡ old.marks.sets
  pub normal : stands_normal old.marks.quiet_press old.marks.moments ≡ false → stands_normal marks.quiet_press marks.moments ≡ false
  pub lit : (b : Book) (a : lamps.Attention) (k : ℕ) → NothingComes a k → AttentionStands b a (suc k) old.attention → AttentionStands b a (suc (suc k)) lights
  pub lights_changed : lights.changed ≡ false
  pub selected : (p : Panel) (k : ℕ) → SelectsNothing p k → selecting.Stands p k old.selector → selecting.Stands p (suc k) selector
  pub selector_changed : selector.changed ≡ false

module _ (d : Draft) (sealed : IsSealed d) (m : ℕ → Moment) (old : Lane) (fits : LaneFits (the_book d) old) (small : old.moments < 2 ^ 63) (rest : RestsNow old) (stays : PhaseStays old.phase_state)
    (stay : ValuesStay (the_book d) old.params) (came : Came (the_book d) m old.moments old.params old.keys old.terms.one_up old.terms.two_up)
    (was : WholeStands (the_book d) m old.moments old) where
  abbrev b : Book
  b = the_book d

  abbrev k : ℕ
  k = old.moments

  abbrev visited : ℕ
  visited = old.terms.cells.visits

  -- the conditions, of which none is marked
  abbrev t : Terms
  t = record old.terms { woken = []; stirred = [] }

  off : (j : ℕ) → is_marked t.stirred j ≡ false
  off = none-marked

  has : HasBegun b m k visited old.terms.one_up old.terms.two_up false (record old { terms = t })
  has = begun d sealed m old fits small rest stay came was

  -- there was a moment before
  last : (h : ℕ) × (k ≡ suc h)
  last = some-before k (sym was.ticked ∙ rest.calm.ticked)

  inputs-stay : SameInputs (flight b m) last.0
  inputs-stay =
      same-inputs (flight b m) k last.0 last.1 (inputs_by t.truths.items) (inputs-before d sealed m k last.0 last.1 old.terms was.terms) (inputs-same d sealed m k visited small t off has.terms)

  phase-same : old.phase.number ≡ phase_in b m k
  unfolding phase_in
  phase-same =
      was.phase last.0 last.1
      ∙ sym (stays (flight b m) last.0 (subst (λ n. flight_phases.Stands (flight b m) n old.phase_state) last.1 was.phases) inputs-stay)
      ∙ ap (phase (flight b m)) (sym last.1)

  half-after : HalfStand b (condition_in b m) (phase_in b m) k (length d.alerts.items) old.truths
  half-after = alerts-same d sealed m k visited small t off has.terms old.phase phase-same has.phase old.truths rest.calm.restless has.truths

  lines-after : TellsOf old.lines.items (lines_of b.alerts) (line_stands b m k)
  lines-after =
      lines-same d sealed m k visited small t off has.terms old.phase phase-same has.phase old.truths rest.calm.restless has.truths old.lines.items old.memos.items
      has.lines has.memos

  memos-after : TellsOf old.memos.items b.memos (λ x. holds (world b m) x.when k)
  memos-after =
      memos-same d sealed m k visited small t off has.terms old.phase phase-same has.phase old.truths rest.calm.restless has.truths old.lines.items old.memos.items
      has.lines has.memos

  stepped : AllStepped b m k visited t
  stepped =
      terms-same d sealed m k visited small t off has.terms old.phase phase-same has.phase old.truths rest.calm.restless has.truths old.lines.items old.memos.items
      has.lines has.memos

  all-asked : AllStepped b m k visited old.terms
  all-asked = record {
    asked = λ j p is.
        let own = stepped.asked j p is in (record { stands = own.stands; nodes = own.nodes; wakes = own.wakes; told = own.told; next = own.next });
    counted = stepped.counted;
  }

  pub rest-visits : old.terms.cells.visits ≡ min (visited + visits b m k) (2 ^ 64 - 1)
  rest-visits = all-asked.counted

  module _ (state : PhaseState) (truths : Truths) (marks : CrewMarks) (lights : Attention) (selector : Selector) (parts : PartsRest d old state truths marks lights selector) where
    phases-after : flight_phases.Stands (flight b m) (suc k) state
    phases-after =
        subst (λ n. flight_phases.Stands (flight b m) (suc n) state) (sym last.1)
        (parts.phased (flight b m) last.0 inputs-stay (subst (λ n. flight_phases.Stands (flight b m) n old.phase_state) last.1 was.phases))

    truths-after : TruthsStand b (condition_in b m) (phase_in b m) (suc k) truths
    truths-after = parts.settled (condition_in b m) (phase_in b m) k half-after

    unchanged : Unchanged b (condition_in b m) (phase_in b m) k
    unchanged = (truths-after.changed k refl).0 (parts.truths_changed ∙ has.truths.changing)

    marks-after : MarksStand b (cockpit b m) (suc k) marks
    marks-after =
        parts.marked b (cockpit b m) k fits.marks (crew-of b m)
        (nothing-acts b m k old.keys has.came.strokes rest.pressed rest.rcl old.phase.number old.ticked has.ticked phase-same has.phase) (still-crew b m k unchanged) has.marks

    shown-before : IsShownAsBefore b m k
    shown-before = shown-kept b m k old.marks marks has.marks marks-after parts.sets

    lights-then : AttentionStands b (attention b m) (suc k) lights
    lights-then =
        lights-rest b (attention b m) k old.attention lights (sym has.ticked ∙ rest.calm.ticked)
        (λ h e. nothing-comes b m k old.keys has.came.strokes rest.pressed h e (still-lights b m k unchanged shown-before)) (parts.lit b (attention b m)) has.attention

    selector-after : selecting.Stands (panel b m) (suc k) selector
    selector-after =
        let few : length b.pages ≤ 16 = omega (arith, many-pages d, (sizes d sealed).pages) in
        parts.selected (panel b m) k (selects-nothing b m k old.keys has.came.strokes rest.pressed rest.all few) has.selector

    turned : AreTurned b m k none_turned
    turned =
        are-turned b m k visited old.terms.one_up old.terms.two_up (record old { terms = t }) none_turned old.phase false old.lines.items old.memos.items marks false false has record {
          first = ap not (sym rest.calm.ticked);
          phase_kept = λ off. refl;
          values = refl;
          lines_kept = λ off a n on has. refl;
          memos_kept = λ off. refl;
          marks_kept = λ off. parts.sets;
          normal_kept = λ off. refl;
          phase_is = phase-same;
          lines_are = lines-after;
          memos_are = memos-after;
          marks_are = marks-after;
          was_is = sym (normal-off b (cockpit b m) k old.marks has.marks rest.calm.normal);
          calm_is = sym (normal-off b (cockpit b m) (suc k) marks marks-after (parts.normal rest.calm.normal));
        }

    module _ (params : Params) (keys : Keys) (idle : Bool) (whole : IsWhole (tracked old.picture.rows old.changed)) where
      pub rest-whole : WholeStands b m (suc k)
          (record old {
            phase_state = state;
            truths = truths;
            marks = marks;
            attention = lights;
            selector = selector;
            moments = old.moments + 1;
            params = params;
            keys = keys;
            idle = idle;
          })
      rest-whole = record {
        counted = add-one k;
        ticked = rest.calm.ticked ∙ sym (lt-ltb 0 (suc k) (omega arith));
        terms = terms-after b m k visited old.terms old.params old.keys old.terms.keys old.terms.one_up old.terms.two_up (λ x is. rest.before x is ∙ sym (rest.pressed x is)) all-asked came;
        phases = phases-after;
        truths = truths-after;
        marks = marks-after;
        attention = lights-then;
        selector = selector-after;
        phase = of-last (λ j. old.phase.number ≡ phase_in b m j) k phase-same;
        values = values-before b m k old.values.items has.values;
        lines = of-last (λ j. TellsOf old.lines.items (lines_of b.alerts) (line_stands b m j)) k lines-after;
        memos = of-last (λ j. TellsOf old.memos.items b.memos (λ x. holds (world b m) x.when j)) k memos-after;
        drawn = picture-rests b m k turned unchanged (selector-after.changed.0 parts.selector_changed) ((lights-then.changed k refl).0 parts.lights_changed) old.counts
            (tracked old.picture.rows old.changed) whole has.drawn;
        changed = rows-rest b m k turned unchanged (selector-after.changed.0 parts.selector_changed) ((lights-then.changed k refl).0 parts.lights_changed) old.counts
            (tracked old.picture.rows old.changed) whole has.drawn rest.calm.changed;
      }
