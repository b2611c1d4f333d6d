use Rattle.std.proofs.Common.{◌&&◌, ◌==◌, refl, arith}
use Rattle.book_model.specs.Sealed.{the_book}
use Rattle.fwc_lane.specs.Waking.{CanTurn}
use Rattle.fwc_lane.specs.declared.terms.Terms.{Terms}
use Rattle.fwc_lane.proofs.Awake.{awake-listed, awake-off, can-turn, fits-woken}
use Rattle.fwc_lane.proofs.waking.wake.Goals as goal

pub asking-requires : goal.asking-requires
asking-requires c = (the_book c.args.book.now, c.requires.fits.askers, omega (arith, c.requires.operand))

pub turn_each-requires-clause-can : goal.turn_each-requires-clause-can
turn_each-requires-clause-can c =
    let b = the_book c.args.book.now in
    (b, rw c.table.ensures (can-turn b c.args.terms.now c.args.operand c.asking.result.now c.requires.fits (c.asking.ensures.only b c.requires.fits.askers (omega (arith, c.requires.operand)))))

pub returns-then-other-clause-wakes : goal.returns-then-other-clause-wakes
returns-then-other-clause-wakes c =
    let b = the_book c.args.book.now in
    let old = c.args.terms.now in
    let new : Terms = record old { woken = c.turn_each.new.woken; stirred = c.turn_each.new.stirred; cells = c.turn_each.new.cells } in
    let only = c.asking.ensures.only b c.requires.fits.askers (omega (arith, c.requires.operand)) in
    let can : CanTurn b c.asking.result.now c.table.result.now old.cells.nodes old.woken old.stirred = rw c.table.ensures (can-turn b old c.args.operand c.asking.result.now c.requires.fits only) in
    awake-listed b c.args.operand c.args.reading c.asking.result.now old new c.args.other c.if-other.true refl
    (c.asking.ensures.each b c.requires.fits.askers (omega (arith, c.requires.operand))) only
    (c.turn_each.ensures.turns b can) (c.turn_each.ensures.marks b can) c.turn_each.ensures.stirs

pub returns-then-other-clause-fits : goal.returns-then-other-clause-fits
returns-then-other-clause-fits c =
    let b = the_book c.args.book.now in
    let only = c.asking.ensures.only b c.requires.fits.askers (omega (arith, c.requires.operand)) in
    let old = c.args.terms.now in
    let can : CanTurn b c.asking.result.now c.table.result.now old.cells.nodes old.woken old.stirred = rw c.table.ensures (can-turn b old c.args.operand c.asking.result.now c.requires.fits only) in
    let marks = c.turn_each.ensures.marks b can in
    fits-woken b (λ o. c.args.other && (o == c.args.operand)) (λ o. c.args.reading) c.args.terms.now _ c.requires.fits (returns-then-other-clause-wakes c) (marks.most c.requires.fits.visits)

pub returns-else-other-clause-wakes : goal.returns-else-other-clause-wakes
returns-else-other-clause-wakes c = awake-off (the_book c.args.book.now) c.args.operand (λ o. c.args.reading) c.args.terms.now c.args.other c.if-other.false
