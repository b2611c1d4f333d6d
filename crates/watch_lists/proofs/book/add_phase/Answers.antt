use Rattle.std.proofs.Common.{refl}
use Rattle.book_model.specs.Sealed.{the_book}
use Rattle.book_model.specs.Conditions.{places}
use Rattle.watch_lists.proofs.Adding.{on-ok}
use Rattle.watch_lists.proofs.Naming.{few-operands, inputs-within, input-place}
use Rattle.watch_lists.proofs.book.add_phase.Goals as goal

pub add_term-requires-clause-few : goal.add_term-requires-clause-few
add_term-requires-clause-few c = few-operands c.args.book.now c.phase_terms-terms.ensures.sealed c.args.sizes c.requires.sizes

pub add_term-requires-clause-within : goal.add_term-requires-clause-within
add_term-requires-clause-within c = (inputs-within c.args.book.now c.phase_terms-terms.ensures.sealed c.args.sizes c.requires.sizes c.phase_terms-terms.result.now c.phase_terms-terms.ensures.value).gnd

pub add_term-requires-2-clause-few : goal.add_term-requires-2-clause-few
add_term-requires-2-clause-few c = few-operands c.args.book.now c.phase_terms-terms.ensures.sealed c.args.sizes c.requires.sizes

pub add_term-requires-2-clause-within : goal.add_term-requires-2-clause-within
add_term-requires-2-clause-within c = (inputs-within c.args.book.now c.phase_terms-terms.ensures.sealed c.args.sizes c.requires.sizes c.phase_terms-terms.result.now c.phase_terms-terms.ensures.value).run

pub add_term-requires-3-clause-few : goal.add_term-requires-3-clause-few
add_term-requires-3-clause-few c = few-operands c.args.book.now c.phase_terms-terms.ensures.sealed c.args.sizes c.requires.sizes

pub add_term-requires-3-clause-within : goal.add_term-requires-3-clause-within
add_term-requires-3-clause-within c = (inputs-within c.args.book.now c.phase_terms-terms.ensures.sealed c.args.sizes c.requires.sizes c.phase_terms-terms.result.now c.phase_terms-terms.ensures.value).tp

pub add_term-requires-4-clause-few : goal.add_term-requires-4-clause-few
add_term-requires-4-clause-few c = few-operands c.args.book.now c.phase_terms-terms.ensures.sealed c.args.sizes c.requires.sizes

pub add_term-requires-4-clause-within : goal.add_term-requires-4-clause-within
add_term-requires-4-clause-within c = (inputs-within c.args.book.now c.phase_terms-terms.ensures.sealed c.args.sizes c.requires.sizes c.phase_terms-terms.result.now c.phase_terms-terms.ensures.value).fast

pub add_term-requires-5-clause-few : goal.add_term-requires-5-clause-few
add_term-requires-5-clause-few c = few-operands c.args.book.now c.phase_terms-terms.ensures.sealed c.args.sizes c.requires.sizes

pub add_term-requires-5-clause-within : goal.add_term-requires-5-clause-within
add_term-requires-5-clause-within c = (inputs-within c.args.book.now c.phase_terms-terms.ensures.sealed c.args.sizes c.requires.sizes c.phase_terms-terms.result.now c.phase_terms-terms.ensures.value).high

pub add_term-requires-6-clause-few : goal.add_term-requires-6-clause-few
add_term-requires-6-clause-few c = few-operands c.args.book.now c.phase_terms-terms.ensures.sealed c.args.sizes c.requires.sizes

pub add_term-requires-6-clause-within : goal.add_term-requires-6-clause-within
add_term-requires-6-clause-within c = (inputs-within c.args.book.now c.phase_terms-terms.ensures.sealed c.args.sizes c.requires.sizes c.phase_terms-terms.result.now c.phase_terms-terms.ensures.value).low

pub returns-clause-listed : goal.returns-clause-listed
returns-clause-listed c =
    let place = input-place c.args.book.now c.phase_terms-terms.ensures.sealed c.phase_terms-terms.result.now c.phase_terms-terms.ensures.value in
    let ps = places (the_book c.args.book.now) in
    on-ok c.add_term-6.result _ _
    (λ last below.
    last ps (place 5 _ refl)
    (c.in_ok-add_term-5.ensures.listed ps (place 4 _ refl)
    (c.in_ok-add_term-4.ensures.listed ps (place 3 _ refl)
    (c.in_ok-add_term-3.ensures.listed ps (place 2 _ refl) (c.in_ok-add_term-2.ensures.listed ps (place 1 _ refl) (c.in_ok-add_term.ensures.listed ps (place 0 _ refl) below))))))
    c.add_term-6.ensures.listed
