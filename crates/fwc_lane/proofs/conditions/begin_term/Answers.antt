use Rattle.std.proofs.Common.{◌<◌, ◌^◌, length, sym, subst, arith, refl}
use Rattle.std.proofs.lemmas.Option.{slice_get_within}
use Rattle.book_model.specs.Conditions.{places}
use Rattle.condition_codes.specs.IsCodes.{IsCodes}
use Rattle.condition_codes.specs.Places.{nodes_before}
use Rattle.fwc_lane.specs.Conditions.{StepsTerm}
use Rattle.fwc_lane.proofs.Stepping.{is-ready}
use Rattle.fwc_lane.proofs.Running.{noted, noted-run, run-fits, run-steps}
use Rattle.fwc_lane.proofs.conditions.begin_term.Goals as goal

pub start-start-requires : goal.start-start-requires
start-start-requires c =
    let (b, p, fits, here, names) = c.requires.place in
    let coded : IsCodes b c.table-codes.result.now = subst (IsCodes b) (sym c.table-codes.ensures) fits.codes in
    let inside : c.args.number < length (places b) = slice_get_within (places b) c.args.number p here in
    (b, coded, inside)

pub code-steps-requires : goal.code-steps-requires
code-steps-requires c =
    let (b, p, fits, here, names) = c.requires.place in
    let coded : IsCodes b c.table-codes.result.now = subst (IsCodes b) (sym c.table-codes.ensures) fits.codes in
    let inside : c.args.number < length (places b) = slice_get_within (places b) c.args.number p here in
    (b, coded, inside)

pub begin-turn-requires-clause-ready : goal.begin-turn-requires-clause-ready
begin-turn-requires-clause-ready c =
    let (b, p, fits, here, names) = c.requires.place in
    let coded : IsCodes b c.table-codes.result.now = subst (IsCodes b) (sym c.table-codes.ensures) fits.codes in
    let inside : c.args.number < length (places b) = slice_get_within (places b) c.args.number p here in
    (p.tree, p.at, is-ready b c.args.terms.now c.args.number p c.code-steps.result.now c.start-start.result fits here (c.code-steps.ensures b coded p here) (c.start-start.ensures b coded inside), names)

pub note-requires-clause-truths : goal.note-requires-clause-truths
note-requires-clause-truths c =
    let (b, p, fits, here, names) = c.requires.place in
    let inside : c.args.number < length (places b) = slice_get_within (places b) c.args.number p here in
    omega (arith, inside, fits.truths)

pub note-requires-clause-dues : goal.note-requires-clause-dues
note-requires-clause-dues c =
    let (b, p, fits, here, names) = c.requires.place in
    let inside : c.args.number < length (places b) = slice_get_within (places b) c.args.number p here in
    omega (arith, inside, fits.dues)

pub returns-clause-fits : goal.returns-clause-fits
returns-clause-fits c b fits =
    let (b', p, own, here, names) = c.requires.place in
    let coded : IsCodes b' c.table-codes.result.now = subst (IsCodes b') (sym c.table-codes.ensures) own.codes in
    let inside : c.args.number < length (places b') = slice_get_within (places b') c.args.number p here in
    let first = c.start-start.result in
    let ready = is-ready b' c.args.terms.now c.args.number p c.code-steps.result.now first own here (c.code-steps.ensures b' coded p here) (c.start-start.ensures b' coded inside) in
    let begun = c.begin-turn.ensures in
    run-fits b c.args.number first p c.begin-turn.result.holds c.begin-turn.result.due c.args.terms.now c.note.new.terms
    (noted c.args.number first p c.begin-turn.result.holds c.begin-turn.result.due c.args.terms.now c.note.new.terms c.begin-turn.new.self c.note.ensures.rest
    (begun.within p.tree p.at ready) (begun.before p.tree p.at ready) (begun.behind p.tree p.at ready) begun.len begun.owners begun.visits c.note.ensures.truths c.note.ensures.dues)
    fits

pub returns-clause-steps : goal.returns-clause-steps
returns-clause-steps c b p fits here names =
    let coded : IsCodes b c.table-codes.result.now = subst (IsCodes b) (sym c.table-codes.ensures) fits.codes in
    let inside : c.args.number < length (places b) = slice_get_within (places b) c.args.number p here in
    let start = nodes_before (places b) c.args.number in
    let at = c.start-start.ensures b coded inside in
    let ready = is-ready b c.args.terms.now c.args.number p c.code-steps.result.now start fits here (c.code-steps.ensures b coded p here) refl in
    let begun = rw at at c.begin-turn.ensures in
    subst (StepsTerm (places b) c.args.env.now 0 c.args.number p c.args.terms.now c.note.new.terms) (sym c.note.ensures.holds)
    (run-steps b c.args.env.now 0 c.args.number p c.begin-turn.result.holds c.begin-turn.result.due c.args.terms.now c.note.new.terms (let early : 0 < 2 ^ 63 = omega arith in early) here fits
    (noted c.args.number start p c.begin-turn.result.holds c.begin-turn.result.due c.args.terms.now c.note.new.terms c.begin-turn.new.self c.note.ensures.rest
    (begun.within p.tree p.at ready) (begun.before p.tree p.at ready) (begun.behind p.tree p.at ready) begun.len begun.owners begun.visits c.note.ensures.truths c.note.ensures.dues)
    (λ w hit shows tells left.
    noted-run c.args.number start p c.begin-turn.result.holds c.begin-turn.result.due c.args.terms.now c.note.new.terms c.begin-turn.new.self c.note.ensures.rest w 0
    (begun.truth p.tree p.at ready w (shows refl) left.stands) (begun.due p.tree p.at ready w (shows refl) left.stands) (begun.wake p.tree p.at ready)
    (begun.stands p.tree p.at ready w (shows refl) left.stands) (begun.nodes p.tree p.at ready w (shows refl) left.stands)))
