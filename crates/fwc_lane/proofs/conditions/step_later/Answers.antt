use Rattle.std.proofs.Common.{◌<◌, false, length, sym, ◌∙◌, arith}
use Rattle.std.proofs.lemmas.List.{get_or_default}
use Rattle.std.proofs.lemmas.Option.{slice_get_within}
use Rattle.book_model.specs.Conditions.{places}
use Rattle.condition_codes.specs.Places.{nodes_before}
use Rattle.fwc_lane.proofs.Stepping.{rest-asked, half-rest}
use Rattle.fwc_lane.proofs.conditions.step_later.Goals as goal

pub has-requires : goal.has-requires
has-requires c =
    let (b, p, fits, here) = c.requires.place in
    let inside : c.args.number < length (places b) = slice_get_within (places b) c.args.number p here in
    omega (arith, inside, fits.stirred_room)

pub index-requires : goal.index-requires
index-requires c =
    let (b, p, fits, here) = c.requires.place in
    let inside : c.args.number < length (places b) = slice_get_within (places b) c.args.number p here in
    omega (arith, inside, fits.truths, c.args.terms.now.truths.ok.0)

pub returns-then-not-has-clause-steps : goal.returns-then-not-has-clause-steps
returns-then-not-has-clause-steps c = λ b p env fits here.
    let off = sym c.has.ensures ∙ c.if-not-has.true in
    let inside : c.args.number < length (places b) = slice_get_within (places b) c.args.number p here in
    record {
      truth = λ worlds hit visited at shows tells half.
          c.index.ensures
          ∙ get_or_default c.args.terms.now.truths.items c.args.number c.index.result.now false (omega (arith, inside, fits.truths))
          ∙ (rest-asked (worlds c.args.number) hit c.args.now c.args.number (nodes_before (places b) c.args.number) p c.args.terms.now c.requires.now tells (half.left c.args.number _ (omega arith) at) off).told;
      stands = λ worlds hit visited at apart shows tells half.
          half-rest (places b) worlds c.args.now c.args.number p at hit visited c.args.terms.now c.requires.now tells off half;
    }

pub run_term-requires-clause-woken : goal.run_term-requires-clause-woken
run_term-requires-clause-woken c =
    let (b, p, fits, here) = c.requires.place in
    fits.stirs c.args.number (sym c.has.ensures ∙ c.if-not-has.false)
