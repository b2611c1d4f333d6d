use Rattle.book_model.specs.Sealed.{the_book}
use Rattle.param_table.proofs.Values.{unchanged_is, few_sources}
use Rattle.param_table.proofs.table.Params.none_changed.Goals as goal

pub returns : goal.returns
returns c = λ on words k stands p within asked.
    let b = the_book c.args._book.now in
    unchanged_is b words k c.args.self.now p stands (few_sources b p c.requires.sound within) asked (c.unmarked.ensures on p)
