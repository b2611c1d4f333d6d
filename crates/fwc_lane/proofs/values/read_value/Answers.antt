use Rattle.std.proofs.Common.{sym, arith}
use Rattle.book_model.specs.Sealed.{the_book}
use Rattle.book_model.proofs.BookLists.{many-parameters}
use Rattle.fwc_lane.proofs.ValueSteps.{read-same, read-turned}
use Rattle.fwc_lane.proofs.values.read_value.Goals as goal

pub set_value-requires : goal.set_value-requires
set_value-requires c = omega (arith, c.requires.read.2.many, c.requires.param, many-parameters c.args.book.now)

pub returns-then-not-set_value-clause-read : goal.returns-then-not-set_value-clause-read
returns-then-not-set_value-clause-read c = λ was first is.
    read-same (the_book c.args.book.now) c.args.params.now was first c.args.param c.args.values.now.items c.args.terms.now is
    c.set_value.new.values.items c.value-value.result c.set_value.ensures.items (omega (arith, c.requires.param, many-parameters c.args.book.now)) c.value-value.ensures.value c.value-value.ensures.bound
    (sym c.if-not-set_value.ensures.turned)

pub wake-requires-clause-operand : goal.wake-requires-clause-operand
wake-requires-clause-operand c = omega (arith, c.requires.param, many-parameters c.args.book.now)

pub returns-clause-read : goal.returns-clause-read
returns-clause-read c = λ was first is.
    read-turned (the_book c.args.book.now) c.args.params.now was first c.args.param c.args.values.now.items c.args.terms.now is
    c.set_value.new.values.items c.value-value.result c.set_value.ensures.items (omega (arith, c.requires.param, many-parameters c.args.book.now)) c.value-value.ensures.value c.value-value.ensures.bound
    (sym c.if-not-set_value.ensures.turned) c.wake.new.terms c.wake.ensures.fits c.wake.ensures.wakes
