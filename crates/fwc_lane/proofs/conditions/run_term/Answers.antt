use Rattle.std.proofs.Common.{◌≡◌, ◌<◌, ℕ, zero, suc, length, refl, sym, ap, subst, arith}
use Rattle.std.proofs.lemmas.Option.{slice_get_within}
use Rattle.book_model.specs.Conditions.{places}
use Rattle.condition_codes.specs.IsCodes.{IsCodes}
use Rattle.condition_codes.specs.Places.{nodes_before}
use Rattle.fwc_lane.specs.Conditions.{StepsTerm}
use Rattle.fwc_lane.proofs.Stepping.{can-run, moved-asked}
use Rattle.fwc_lane.proofs.Running.{noted, noted-run, run-fits, run-steps}
use Rattle.fwc_lane.proofs.conditions.run_term.Goals as goal

-- a moment that isn't the first has one before it
before-it : (k : ℕ) → 0 < k → (h : ℕ) × (k ≡ suc h)
before-it zero later = absurd (omega (arith, later))
before-it (suc h) later = (h, refl)

pub parts-parts-requires : goal.parts-parts-requires
parts-parts-requires c =
    let (b, p, fits, here) = c.requires.place in
    let coded : IsCodes b c.table-codes.result.now = subst (IsCodes b) (sym c.table-codes.ensures) fits.codes in
    let inside : c.args.number < length (places b) = slice_get_within (places b) c.args.number p here in
    (b, coded, inside)

pub run-turn-requires-clause-ready : goal.run-turn-requires-clause-ready
run-turn-requires-clause-ready c =
    let (b, p, fits, here) = c.requires.place in
    let coded : IsCodes b c.table-codes.result.now = subst (IsCodes b) (sym c.table-codes.ensures) fits.codes in
    let inside : c.args.number < length (places b) = slice_get_within (places b) c.args.number p here in
    let are = c.parts-parts.ensures in
    let parts = c.parts-parts.result in (
      p.tree,
      can-run b c.args.terms.now c.args.number p parts.links.now (length parts.owners.now) parts.first parts.slot fits here
          (are.links b coded p here) (ap length (are.owners b coded p here)) (are.first b coded inside) (are.slot b coded p here),
    )

pub note-requires-clause-truths : goal.note-requires-clause-truths
note-requires-clause-truths c =
    let (b, p, fits, here) = c.requires.place in
    let inside : c.args.number < length (places b) = slice_get_within (places b) c.args.number p here in
    omega (arith, inside, fits.truths)

pub note-requires-clause-dues : goal.note-requires-clause-dues
note-requires-clause-dues c =
    let (b, p, fits, here) = c.requires.place in
    let inside : c.args.number < length (places b) = slice_get_within (places b) c.args.number p here in
    omega (arith, inside, fits.dues)

pub returns-clause-fits : goal.returns-clause-fits
returns-clause-fits c b fits =
    let (b', p, own, here) = c.requires.place in
    let coded : IsCodes b' c.table-codes.result.now = subst (IsCodes b') (sym c.table-codes.ensures) own.codes in
    let inside : c.args.number < length (places b') = slice_get_within (places b') c.args.number p here in
    let parts = c.parts-parts.result in
    let are = c.parts-parts.ensures in
    let first = parts.first in
    let can = can-run b' c.args.terms.now c.args.number p parts.links.now (length parts.owners.now) first p.at own here
    (are.links b' coded p here) (ap length (are.owners b' coded p here)) (are.first b' coded inside) refl in
    let run = rw (are.slot b' coded p here) at c.run-turn.ensures in
    run-fits b c.args.number first p c.run-turn.result.holds c.run-turn.result.due c.args.terms.now c.note.new.terms
    (noted c.args.number first p c.run-turn.result.holds c.run-turn.result.due c.args.terms.now c.note.new.terms c.run-turn.new.self c.note.ensures.rest
    (run.within p.tree can) (run.before p.tree can) (run.behind p.tree can) run.len run.owners run.visits c.note.ensures.truths c.note.ensures.dues)
    fits

pub returns-clause-steps : goal.returns-clause-steps
returns-clause-steps c b p env fits here =
    let coded : IsCodes b c.table-codes.result.now = subst (IsCodes b) (sym c.table-codes.ensures) fits.codes in
    let inside : c.args.number < length (places b) = slice_get_within (places b) c.args.number p here in
    let start = nodes_before (places b) c.args.number in
    let parts = c.parts-parts.result in
    let are = c.parts-parts.ensures in
    let can = can-run b c.args.terms.now c.args.number p parts.links.now (length parts.owners.now) start p.at fits here
    (are.links b coded p here) (ap length (are.owners b coded p here)) refl refl in
    let run = rw (are.first b coded inside, are.slot b coded p here) at c.run-turn.ensures in
    subst (StepsTerm (places b) env c.args.now c.args.number p c.args.terms.now c.note.new.terms) (sym c.note.ensures.holds)
    (run-steps b env c.args.now c.args.number p c.run-turn.result.holds c.run-turn.result.due c.args.terms.now c.note.new.terms c.requires.now here fits
    (noted c.args.number start p c.run-turn.result.holds c.run-turn.result.due c.args.terms.now c.note.new.terms c.run-turn.new.self c.note.ensures.rest
    (run.within p.tree can) (run.before p.tree can) (run.behind p.tree can) run.len run.owners run.visits c.note.ensures.truths c.note.ensures.dues)
    (λ w hit shows tells left.
    let later = before-it c.args.now c.requires.later in
    let h = later.0 in
    let is = later.1 in
    let waits = moved-asked w hit c.args.now h c.args.number start p c.args.terms.now tells (left.later h is) in
    noted-run c.args.number start p c.run-turn.result.holds c.run-turn.result.due c.args.terms.now c.note.new.terms c.run-turn.new.self c.note.ensures.rest w c.args.now
    (run.truth p.tree can w h is left.stands waits) (run.due p.tree can w h is left.stands waits) (run.wake p.tree can w h is left.stands waits)
    (run.stands p.tree can w h is left.stands waits) (run.nodes p.tree can w h is left.stands waits)))
