use Rattle.std.proofs.Common.{subst}
use Rattle.book_model.specs.Slots.{phase_places}
use Rattle.condition_codes.specs.Pieces.{AddsCodes}
use Rattle.condition_codes.proofs.Walking.{on-ok, inputs-fit, adds-six}
use Rattle.condition_codes.proofs.book.add_phase.Goals as goal

pub add-requires : goal.add-requires
add-requires c =
    let terms = c.phase_terms-terms in
    (inputs-fit c.args.book.now terms.ensures.sealed terms.result.now terms.ensures.value).gnd

pub add-requires-2 : goal.add-requires-2
add-requires-2 c =
    let terms = c.phase_terms-terms in
    (inputs-fit c.args.book.now terms.ensures.sealed terms.result.now terms.ensures.value).run

pub add-requires-3 : goal.add-requires-3
add-requires-3 c =
    let terms = c.phase_terms-terms in
    (inputs-fit c.args.book.now terms.ensures.sealed terms.result.now terms.ensures.value).tp

pub add-requires-4 : goal.add-requires-4
add-requires-4 c =
    let terms = c.phase_terms-terms in
    (inputs-fit c.args.book.now terms.ensures.sealed terms.result.now terms.ensures.value).fast

pub add-requires-5 : goal.add-requires-5
add-requires-5 c =
    let terms = c.phase_terms-terms in
    (inputs-fit c.args.book.now terms.ensures.sealed terms.result.now terms.ensures.value).high

pub add-requires-6 : goal.add-requires-6
add-requires-6 c =
    let terms = c.phase_terms-terms in
    (inputs-fit c.args.book.now terms.ensures.sealed terms.result.now terms.ensures.value).low

pub returns : goal.returns
returns c =
    let terms = c.phase_terms-terms in
    on-ok c.add-6.result _ _
    (λ last.
    subst (λ p. AddsCodes (phase_places p) c.args.pieces.now c.add-6.new.self) terms.ensures.value
    (adds-six terms.result.now c.args.pieces.now c.add.new.self c.add-2.new.self c.add-3.new.self c.add-4.new.self c.add-5.new.self c.add-6.new.self c.in_ok-add.ensures c.in_ok-add-2.ensures c.in_ok-add-3.ensures c.in_ok-add-4.ensures c.in_ok-add-5.ensures last))
    c.add-6.ensures
