use Rattle.std.proofs.Common.{◌∙◌, arith}
use Rattle.book_model.specs.Sealed.{the_book}
use Rattle.book_model.proofs.BookLists.{many-parameters}
use Rattle.param_table.proofs.Values.{value_before_is, few_sources}
use Rattle.param_table.proofs.table.Params.value_before.Goals as goal

pub overflow_mul-param : goal.overflow_mul-param
overflow_mul-param c = omega (arith, c.requires.fits.routed.rules.count, many-parameters c.args.book.now, c.requires.param, c.args.self.now.routing.rules.items.ok.0)

pub first_value_before-requires-clause-place : goal.first_value_before-requires-clause-place
first_value_before-requires-clause-place c = omega (arith, c.requires.fits.routed.rules.count, many-parameters c.args.book.now, c.requires.param)

pub returns-clause-value : goal.returns-clause-value
returns-clause-value c = λ words k stands.
    let b = the_book c.args.book.now in
    let few = few_sources b c.args.param c.requires.fits.sound (omega (arith, many-parameters c.args.book.now, c.requires.param)) in
    c.first_value_before.ensures.value ∙ value_before_is b words k c.args.self.now c.args.param stands few
