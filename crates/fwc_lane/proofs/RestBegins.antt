-- A moment in which nothing comes begins: it wakes no condition, and the inputs of the phase are what they were.
use Rattle.std.proofs.Common.{◌≡◌, ℕ, zero, suc, ◌+◌, ◌^◌, ◌<◌, Bool, true, false, ◌&&◌, ◌||◌, eqb, ltb, [], length, get_or, slice_index, None, refl, sym, ap, ◌∙◌, arith}
use Rattle.std.proofs.lemmas.Bool.{lt-leb}
use Rattle.ecam_spec.specs.Book.{Book}
use Rattle.ecam_spec.specs.History.{Moment}
use Rattle.ecam_spec.specs.Phase.{Flight}
use Rattle.ecam_spec.specs.Situation.{words_in, value_in}
use Rattle.book_model.specs.declared.draft.Draft.{Draft}
use Rattle.book_model.specs.Sealed.{the_book, IsSealed}
use Rattle.book_model.specs.Conditions.{places, world_of}
use Rattle.flight_phases.specs.declared.inputs.PhaseInputs.{PhaseInputs}
use Rattle.flight_phases.specs.Inputs.{AreInputs, SameInputs}
use Rattle.param_table.specs.Asked.{is_asked_for}
use Rattle.term_eval.specs.Woken.{differ}
use Rattle.wakes.specs.Marks.{is_marked}
use Rattle.wakes.proofs.Bits.{none_in}
use Rattle.fwc_lane.specs.declared.terms.Terms.{Terms}
use Rattle.fwc_lane.specs.declared.lane.Lane.{Lane}
use Rattle.fwc_lane.specs.LaneFits.{LaneFits}
use Rattle.fwc_lane.specs.LaneStands.{WholeStands}
use Rattle.fwc_lane.specs.Given.{Came}
use Rattle.fwc_lane.specs.Begun.{HasBegun}
use Rattle.fwc_lane.specs.Calm.{RestsNow, ValuesStay}
use Rattle.fwc_lane.specs.Conditions.{HalfStepped, BookHalf}
use Rattle.fwc_lane.specs.Waking.{ranged, value_turned, key_turned}
use Rattle.fwc_lane.proofs.AlertSteps.{differ-self}
use Rattle.fwc_lane.proofs.Beginning.{none-hit, given, reads_given, half-due, begins}
use Rattle.fwc_lane.proofs.Awake.{awake-none}
use Rattle.fwc_lane.proofs.Counting.{counted-none}
use Rattle.fwc_lane.proofs.KeyNumbers as keys
use Rattle.fwc_lane.proofs.Ticks.{has-begun, values-told, value-before}
use Rattle.fwc_lane.proofs.ValueSteps as values

-- no number is marked
pub none-marked : (j : ℕ) → is_marked [] j ≡ false
none-marked j = none_in [] j refl

-- there was a moment before
pub some-before : (k : ℕ) → ltb 0 k ≡ true → (h : ℕ) × (k ≡ suc h)
some-before zero some = absurd (let none : ltb 0 0 ≡ false = refl in let w : ⊥ = cc in w)
some-before (suc h) some = (h, refl)

-- the inputs of two moments are the same where they are the same truths
pub same-inputs : (f : Flight) (k h : ℕ) → k ≡ suc h → (i : PhaseInputs) → AreInputs f h i → AreInputs f k i → SameInputs f h
same-inputs f k h e i were are = record {
  gnd = ap f.gnd (sym e) ∙ sym are.gnd ∙ were.gnd;
  run = ap f.run (sym e) ∙ sym are.run ∙ were.run;
  tp = ap f.tp (sym e) ∙ sym are.tp ∙ were.tp;
  fast = ap f.fast (sym e) ∙ sym are.fast ∙ were.fast;
  high = ap f.high (sym e) ∙ sym are.high ∙ were.high;
  low = ap f.low (sym e) ∙ sym are.low ∙ were.low;
}

module _ (d : Draft) (sealed : IsSealed d) (m : ℕ → Moment) (old : Lane) (fits : LaneFits (the_book d) old) (small : old.moments < 2 ^ 63) (rest : RestsNow old)
    (stay : ValuesStay (the_book d) old.params) (came : Came (the_book d) m old.moments old.params old.keys old.terms.one_up old.terms.two_up)
    (was : WholeStands (the_book d) m old.moments old) where
  abbrev b : Book
  b = the_book d

  abbrev k : ℕ
  k = old.moments

  -- the conditions, of which none is marked
  abbrev pub unmarked : Terms
  unmarked = record old.terms { woken = []; stirred = [] }

  abbrev all-given : ℕ → Bool
  all-given = given b (value_turned old.values.items old.values.items) (key_turned old.terms.keys old.keys) (differ old.terms.one_up old.terms.one_up) (differ old.terms.two_up old.terms.two_up)

  none-given : (o : ℕ) → all-given o ≡ false
  none-given o =
      let first : ℕ = length b.parameters + length b.alerts + 26 in
      let second : ℕ = length b.parameters + length b.alerts + 27 in
      let from : ℕ = length b.parameters + length b.alerts + 1 in
      let pressed = ranged from 25 (key_turned old.terms.keys old.keys) o in
      let one = differ old.terms.one_up old.terms.one_up in
      let two = differ old.terms.two_up old.terms.two_up in
      ap (λ x. (x || pressed) || ((one && eqb o first) || (two && eqb o second))) (values.none-turned (length b.parameters) old.values.items o)
      ∙ ap (λ x. x || ((one && eqb o first) || (two && eqb o second))) (keys.none-turned old.terms.keys old.keys rest.before rest.pressed from o)
      ∙ ap (λ x. (x && eqb o first) || (two && eqb o second)) (differ-self old.terms.one_up)
      ∙ ap (λ x. x && eqb o second) (differ-self old.terms.two_up)

  half : HalfStepped (places b) (world_of b m) none-hit k 0 old.terms.cells.visits (record old.terms { woken = []; stirred = []; dues = old.terms.dues; cells = old.terms.cells })
  half =
      let some : k ≡ 0 → (ltb 0 k ≡ false) = λ e. ap (ltb 0) e in
      half-due b m k small old.terms [] [] old.terms.dues old.terms.cells fits.terms was.terms
      (λ e j lt. absurd (let w : ⊥ = (let clash : true ≡ false = sym rest.calm.ticked ∙ was.ticked ∙ some e in cc) in w))
      (λ h e j lt. none-marked j ∙ sym (lt-leb (slice_index old.terms.dues j) k (rest.dues j (omega (arith, lt, fits.terms.truths, fits.terms.dues)))))
      (λ j lt. refl)
      (λ j lt off. refl)
      refl
      refl
      (counted-none (places b) [] old.terms.cells.visits old.terms.cells.visits none-marked (omega (arith, fits.terms.visits)))

  still : (p : ℕ) → p < length b.parameters → is_asked_for b p ≡ true → get_or old.values.items p None ≡ value_in b m p k
  still = values-told b m k old.values.items (λ p lt on. was.values p lt on ∙ sym (stay (words_in b m) k came.words p lt on))

  begun-terms : BookHalf b m k 0 0 old.terms.cells.visits unmarked
  begun-terms =
      begins d sealed m k old.terms.cells.visits old.terms (record old.terms { woken = []; stirred = []; dues = old.terms.dues; cells = old.terms.cells }) unmarked old.params old.keys old.terms.one_up old.terms.two_up old.values.items old.values.items
      was.terms came (value-before b m k old.values.items was.values)
      still half
      (awake-none b all-given (reads_given b old.values.items old.keys old.terms.one_up old.terms.two_up) unmarked none-given)

  pub begun : HasBegun b m k old.terms.cells.visits old.terms.one_up old.terms.two_up false (record old { terms = unmarked })
  begun =
      has-begun b m k old.terms.cells.visits old.terms.one_up old.terms.two_up false old unmarked old.values was came begun-terms
      (λ e. absurd (let w : ⊥ = (let clash : true ≡ false = sym rest.calm.ticked ∙ was.ticked ∙ ap (ltb 0) e in cc) in w)) still (λ off. refl) old.idle
