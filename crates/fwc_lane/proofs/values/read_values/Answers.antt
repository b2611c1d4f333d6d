use Rattle.std.proofs.Common.{◌+◌, ◌*◌, length, ◌∙◌, refl, sym, ap, arith}
use Rattle.book_model.specs.Sealed.{the_book}
use Rattle.book_model.proofs.BookLists.{many-parameters}
use Rattle.fwc_lane.proofs.FlagSteps.{left-false, right-false}
use Rattle.fwc_lane.proofs.ValueSteps.{read-none, read-over}
use Rattle.fwc_lane.proofs.values.read_values.Goals as goal

pub loop-place-init : goal.loop-place-init
loop-place-init c =
    let b = the_book c.args.book.now in
    let none = read-none b c.args.params.now c.args.values.now.items c.args.terms.now c.requires.many c.requires.short c.requires.terms in
    let passed = c.next_changed_word-place.ensures in
    record {
      read = read-over b c.args.params.now c.args.values.now.items c.args.terms.now 0 _ _ none (64 * c.next_changed_word-place.result) (omega arith)
          (λ words k stands p low. passed.same words k stands p (omega arith));
      kept = λ e. refl;
    }

pub loop-place-preserved : goal.loop-place-preserved
loop-place-preserved c =
    let b = the_book c.args.book.now in
    let is = c.loop-place.invariant in
    let passed = c.next_changed_word-place-in-loop-place.ensures in
    let read = c.read_word.ensures.read c.args.values.now.items c.args.terms.now is.read in
    record {
      read = read-over b c.args.params.now c.args.values.now.items c.args.terms.now (64 * c.loop-place.place + 64) _ _ read (64 * c.next_changed_word-place-in-loop-place.result) (omega (arith, passed.from))
          (λ words k stands p low. passed.same words k stands p (omega (arith, low)));
      kept = λ off.
          let none = sym c.is_either-any.ensures ∙ off in
          c.read_word.ensures.kept (right-false _ _ none) ∙ is.kept (left-false _ _ none);
    }

pub returns-clause-values : goal.returns-clause-values
returns-clause-values c = λ words k stands before p within on.
    c.loop-place.invariant.read.read words k stands before p
    (omega (arith, within, c.loop-place-test.false, c.div_ceil-words.ensures, ap length c.params.ensures.value, many-parameters c.args.book.now)) within on
