use Rattle.book_model.specs.Sealed.{the_book}
use Rattle.param_table.proofs.Summed.{none-later, none-before}
use Rattle.param_table.proofs.Values.{unchanged_is, few_sources}
use Rattle.param_table.proofs.table.Params.next_changed_word.Goals as goal

pub returns-then-later-eq0-clause-same : goal.returns-then-later-eq0-clause-same
returns-then-later-eq0-clause-same c = λ words k stands p low high within asked.
    let b = the_book c.args._book.now in
    let held = c.args.self.now.held in
    unchanged_is b words k c.args.self.now p stands (few_sources b p c.requires.fits.sound within) asked
    (none-later held.changed held.busy c.args.from c.bits_from-later.result c.requires.fits.held.busy c.bits_from-later.ensures.bits c.if-later-eq0.true p low high)

pub returns-clause-same : goal.returns-clause-same
returns-clause-same c = λ words k stands p low high within asked.
    let b = the_book c.args._book.now in
    let held = c.args.self.now.held in
    let later = c.bits_from-later in
    unchanged_is b words k c.args.self.now p stands (few_sources b p c.requires.fits.sound within) asked
    (none-before held.changed held.busy c.args.from later.result c.requires.fits.held.busy later.ensures.bits c.lowest.result later.ensures.fits c.lowest.ensures.set c.lowest.ensures.lowest p low high)
