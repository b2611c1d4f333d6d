use Rattle.std.proofs.Common.{refl, sym, ap, ◌∙◌, subst, arith}
use Rattle.ecam_spec.specs.Situation.{flight}
use Rattle.book_model.specs.View.{placed_of}
use Rattle.book_model.specs.Sealed.{the_book}
use Rattle.book_model.proofs.ConditionPlaces.{all-places}
use Rattle.flight_phases.specs.Inputs.{AreInputs}
use Rattle.fwc_lane.specs.PhaseTruths.{inputs_by}
use Rattle.fwc_lane.proofs.FlightSteps.{inputs-rest, inputs-kept, input-place, input-names, input-truth, input-stands, inputs-are}
use Rattle.fwc_lane.proofs.flight.step_inputs.Goals as goal

pub kept_inputs-requires : goal.kept_inputs-requires
kept_inputs-requires c = omega (arith, c.requires.fits.truths, all-places c.args.book.now c.phase_terms-inputs.ensures.sealed)

pub returns-then-inputs_rest-clause-inputs : goal.returns-then-inputs_rest-clause-inputs
returns-then-inputs_rest-clause-inputs c = λ m visited lends half.
    let d = c.args.book.now in
    subst (AreInputs (flight (the_book d) m) c.args.now) (sym (c.kept_inputs.ensures ∙ ap inputs_by c.deref.ensures.value))
    (inputs-kept d c.phase_terms-inputs.ensures.sealed c.phase_terms-inputs.result.now c.phase_terms-inputs.ensures.value m c.args.now c.requires.now visited c.args.terms.now
    (c.inputs_rest.ensures c.if-inputs_rest.true) half)

pub returns-then-inputs_rest-clause-stands : goal.returns-then-inputs_rest-clause-stands
returns-then-inputs_rest-clause-stands c = λ m visited lends half.
    inputs-rest c.args.book.now c.phase_terms-inputs.ensures.sealed c.phase_terms-inputs.result.now c.phase_terms-inputs.ensures.value m c.args.now c.requires.now visited c.args.terms.now
    (c.inputs_rest.ensures c.if-inputs_rest.true) half

pub step_term-gnd-requires-clause-place : goal.step_term-gnd-requires-clause-place
step_term-gnd-requires-clause-place c =
    let d = c.args.book.now in
    (the_book d, c.requires.fits, input-place d c.phase_terms-inputs.ensures.sealed c.phase_terms-inputs.result.now c.phase_terms-inputs.ensures.value 0 _ refl)

pub step_term-gnd-requires-clause-names : goal.step_term-gnd-requires-clause-names
step_term-gnd-requires-clause-names c =
    rw (c.requires.values, c.requires.active) (input-names c.args.book.now c.phase_terms-inputs.ensures.sealed c.phase_terms-inputs.result.now c.phase_terms-inputs.ensures.value 0 _ refl)

pub step_term-run-requires-clause-place : goal.step_term-run-requires-clause-place
step_term-run-requires-clause-place c =
    let d = c.args.book.now in
    (the_book d, c.step_term-gnd.ensures.fits (the_book c.args.book.now) c.requires.fits, input-place d c.phase_terms-inputs.ensures.sealed c.phase_terms-inputs.result.now c.phase_terms-inputs.ensures.value 1 _ refl)

pub step_term-run-requires-clause-names : goal.step_term-run-requires-clause-names
step_term-run-requires-clause-names c =
    rw (c.requires.values, c.requires.active) (input-names c.args.book.now c.phase_terms-inputs.ensures.sealed c.phase_terms-inputs.result.now c.phase_terms-inputs.ensures.value 1 _ refl)

pub step_term-tp-requires-clause-place : goal.step_term-tp-requires-clause-place
step_term-tp-requires-clause-place c =
    let d = c.args.book.now in
    (the_book d, c.step_term-run.ensures.fits (the_book c.args.book.now) (c.step_term-gnd.ensures.fits (the_book c.args.book.now) c.requires.fits), input-place d c.phase_terms-inputs.ensures.sealed c.phase_terms-inputs.result.now c.phase_terms-inputs.ensures.value 2 _ refl)

pub step_term-tp-requires-clause-names : goal.step_term-tp-requires-clause-names
step_term-tp-requires-clause-names c =
    rw (c.requires.values, c.requires.active) (input-names c.args.book.now c.phase_terms-inputs.ensures.sealed c.phase_terms-inputs.result.now c.phase_terms-inputs.ensures.value 2 _ refl)

pub step_term-fast-requires-clause-place : goal.step_term-fast-requires-clause-place
step_term-fast-requires-clause-place c =
    let d = c.args.book.now in
    (the_book d, c.step_term-tp.ensures.fits (the_book c.args.book.now) (c.step_term-run.ensures.fits (the_book c.args.book.now) (c.step_term-gnd.ensures.fits (the_book c.args.book.now) c.requires.fits)), input-place d c.phase_terms-inputs.ensures.sealed c.phase_terms-inputs.result.now c.phase_terms-inputs.ensures.value 3 _ refl)

pub step_term-fast-requires-clause-names : goal.step_term-fast-requires-clause-names
step_term-fast-requires-clause-names c =
    rw (c.requires.values, c.requires.active) (input-names c.args.book.now c.phase_terms-inputs.ensures.sealed c.phase_terms-inputs.result.now c.phase_terms-inputs.ensures.value 3 _ refl)

pub step_term-high-requires-clause-place : goal.step_term-high-requires-clause-place
step_term-high-requires-clause-place c =
    let d = c.args.book.now in
    (the_book d, c.step_term-fast.ensures.fits (the_book c.args.book.now) (c.step_term-tp.ensures.fits (the_book c.args.book.now) (c.step_term-run.ensures.fits (the_book c.args.book.now) (c.step_term-gnd.ensures.fits (the_book c.args.book.now) c.requires.fits))), input-place d c.phase_terms-inputs.ensures.sealed c.phase_terms-inputs.result.now c.phase_terms-inputs.ensures.value 4 _ refl)

pub step_term-high-requires-clause-names : goal.step_term-high-requires-clause-names
step_term-high-requires-clause-names c =
    rw (c.requires.values, c.requires.active) (input-names c.args.book.now c.phase_terms-inputs.ensures.sealed c.phase_terms-inputs.result.now c.phase_terms-inputs.ensures.value 4 _ refl)

pub step_term-low-requires-clause-place : goal.step_term-low-requires-clause-place
step_term-low-requires-clause-place c =
    let d = c.args.book.now in
    (the_book d, c.step_term-high.ensures.fits (the_book c.args.book.now) (c.step_term-fast.ensures.fits (the_book c.args.book.now) (c.step_term-tp.ensures.fits (the_book c.args.book.now) (c.step_term-run.ensures.fits (the_book c.args.book.now) (c.step_term-gnd.ensures.fits (the_book c.args.book.now) c.requires.fits)))), input-place d c.phase_terms-inputs.ensures.sealed c.phase_terms-inputs.result.now c.phase_terms-inputs.ensures.value 5 _ refl)

pub step_term-low-requires-clause-names : goal.step_term-low-requires-clause-names
step_term-low-requires-clause-names c =
    rw (c.requires.values, c.requires.active) (input-names c.args.book.now c.phase_terms-inputs.ensures.sealed c.phase_terms-inputs.result.now c.phase_terms-inputs.ensures.value 5 _ refl)

pub returns-clause-fits : goal.returns-clause-fits
returns-clause-fits c = c.step_term-low.ensures.fits (the_book c.args.book.now) (c.step_term-high.ensures.fits (the_book c.args.book.now) (c.step_term-fast.ensures.fits (the_book c.args.book.now) (c.step_term-tp.ensures.fits (the_book c.args.book.now) (c.step_term-run.ensures.fits (the_book c.args.book.now) (c.step_term-gnd.ensures.fits (the_book c.args.book.now) c.requires.fits)))))

pub returns-clause-inputs : goal.returns-clause-inputs
returns-clause-inputs c = λ m visited lends half.
    let d = c.args.book.now in
    let t = c.phase_terms-inputs.result.now in
    let same = c.phase_terms-inputs.ensures.value in
    let sealed = c.phase_terms-inputs.ensures.sealed in
    let b = the_book d in
    let gnd-steps = c.step_term-gnd.ensures.steps b c.requires.fits (input-place d sealed t same 0 (placed_of t.gnd) refl) in
    let gnd-fits = c.step_term-gnd.ensures.fits b c.requires.fits in
    let run-steps = c.step_term-run.ensures.steps b gnd-fits (input-place d sealed t same 1 (placed_of t.run) refl) in
    let run-fits = c.step_term-run.ensures.fits b gnd-fits in
    let tp-steps = c.step_term-tp.ensures.steps b run-fits (input-place d sealed t same 2 (placed_of t.tp) refl) in
    let tp-fits = c.step_term-tp.ensures.fits b run-fits in
    let fast-steps = c.step_term-fast.ensures.steps b tp-fits (input-place d sealed t same 3 (placed_of t.fast) refl) in
    let fast-fits = c.step_term-fast.ensures.fits b tp-fits in
    let high-steps = c.step_term-high.ensures.steps b fast-fits (input-place d sealed t same 4 (placed_of t.high) refl) in
    let high-fits = c.step_term-high.ensures.fits b fast-fits in
    let low-steps = c.step_term-low.ensures.steps b high-fits (input-place d sealed t same 5 (placed_of t.low) refl) in
    let h1 = input-stands d sealed t same m c.args.now c.args.env.now lends c.requires.phase c.requires.active 0 (omega arith) (placed_of t.gnd) refl visited _ _ _ gnd-steps half in
    let h2 = input-stands d sealed t same m c.args.now c.args.env.now lends c.requires.phase c.requires.active 1 (omega arith) (placed_of t.run) refl visited _ _ _ run-steps h1 in
    let h3 = input-stands d sealed t same m c.args.now c.args.env.now lends c.requires.phase c.requires.active 2 (omega arith) (placed_of t.tp) refl visited _ _ _ tp-steps h2 in
    let h4 = input-stands d sealed t same m c.args.now c.args.env.now lends c.requires.phase c.requires.active 3 (omega arith) (placed_of t.fast) refl visited _ _ _ fast-steps h3 in
    let h5 = input-stands d sealed t same m c.args.now c.args.env.now lends c.requires.phase c.requires.active 4 (omega arith) (placed_of t.high) refl visited _ _ _ high-steps h4 in
    inputs-are d m c.args.now t _ _ _ _ _ _ same record {
      gnd_is = input-truth d sealed t same m c.args.now c.args.env.now lends c.requires.phase c.requires.active 0 (omega arith) (placed_of t.gnd) refl visited _ _ _ gnd-steps half;
      run_is = input-truth d sealed t same m c.args.now c.args.env.now lends c.requires.phase c.requires.active 1 (omega arith) (placed_of t.run) refl visited _ _ _ run-steps h1;
      tp_is = input-truth d sealed t same m c.args.now c.args.env.now lends c.requires.phase c.requires.active 2 (omega arith) (placed_of t.tp) refl visited _ _ _ tp-steps h2;
      fast_is = input-truth d sealed t same m c.args.now c.args.env.now lends c.requires.phase c.requires.active 3 (omega arith) (placed_of t.fast) refl visited _ _ _ fast-steps h3;
      high_is = input-truth d sealed t same m c.args.now c.args.env.now lends c.requires.phase c.requires.active 4 (omega arith) (placed_of t.high) refl visited _ _ _ high-steps h4;
      low_is = input-truth d sealed t same m c.args.now c.args.env.now lends c.requires.phase c.requires.active 5 (omega arith) (placed_of t.low) refl visited _ _ _ low-steps h5;
    }

pub returns-clause-stands : goal.returns-clause-stands
returns-clause-stands c = λ m visited lends half.
    let d = c.args.book.now in
    let t = c.phase_terms-inputs.result.now in
    let same = c.phase_terms-inputs.ensures.value in
    let sealed = c.phase_terms-inputs.ensures.sealed in
    let b = the_book d in
    let gnd-steps = c.step_term-gnd.ensures.steps b c.requires.fits (input-place d sealed t same 0 (placed_of t.gnd) refl) in
    let gnd-fits = c.step_term-gnd.ensures.fits b c.requires.fits in
    let run-steps = c.step_term-run.ensures.steps b gnd-fits (input-place d sealed t same 1 (placed_of t.run) refl) in
    let run-fits = c.step_term-run.ensures.fits b gnd-fits in
    let tp-steps = c.step_term-tp.ensures.steps b run-fits (input-place d sealed t same 2 (placed_of t.tp) refl) in
    let tp-fits = c.step_term-tp.ensures.fits b run-fits in
    let fast-steps = c.step_term-fast.ensures.steps b tp-fits (input-place d sealed t same 3 (placed_of t.fast) refl) in
    let fast-fits = c.step_term-fast.ensures.fits b tp-fits in
    let high-steps = c.step_term-high.ensures.steps b fast-fits (input-place d sealed t same 4 (placed_of t.high) refl) in
    let high-fits = c.step_term-high.ensures.fits b fast-fits in
    let low-steps = c.step_term-low.ensures.steps b high-fits (input-place d sealed t same 5 (placed_of t.low) refl) in
    let h1 = input-stands d sealed t same m c.args.now c.args.env.now lends c.requires.phase c.requires.active 0 (omega arith) (placed_of t.gnd) refl visited _ _ _ gnd-steps half in
    let h2 = input-stands d sealed t same m c.args.now c.args.env.now lends c.requires.phase c.requires.active 1 (omega arith) (placed_of t.run) refl visited _ _ _ run-steps h1 in
    let h3 = input-stands d sealed t same m c.args.now c.args.env.now lends c.requires.phase c.requires.active 2 (omega arith) (placed_of t.tp) refl visited _ _ _ tp-steps h2 in
    let h4 = input-stands d sealed t same m c.args.now c.args.env.now lends c.requires.phase c.requires.active 3 (omega arith) (placed_of t.fast) refl visited _ _ _ fast-steps h3 in
    let h5 = input-stands d sealed t same m c.args.now c.args.env.now lends c.requires.phase c.requires.active 4 (omega arith) (placed_of t.high) refl visited _ _ _ high-steps h4 in
    let h6 = input-stands d sealed t same m c.args.now c.args.env.now lends c.requires.phase c.requires.active 5 (omega arith) (placed_of t.low) refl visited _ _ _ low-steps h5 in
    h6
