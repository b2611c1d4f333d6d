use Rattle.std.proofs.Common.{sym, ◌∙◌}
use Rattle.book_model.specs.Sealed.{the_book}
use Rattle.fwc_pair.specs.PairState.{PairFits}
use Rattle.fwc_pair.proofs.Pairs.{heard, unheard}
use Rattle.fwc_pair.proofs.pair.Pair.take_word.Goals as goal

pub returns-then-hears-clause-fits : goal.returns-then-hears-clause-fits
unfolding PairFits
returns-then-hears-clause-fits c = record {
  one = c.hear.ensures.fits;
  two = c.hear-then-hears.ensures.fits;
  together = λ e f. c.hear-then-hears.ensures.moments ∙ c.requires.together e f ∙ sym c.hear.ensures.moments;
  still = c.requires.still;
}

pub returns-then-hears-clause-stands : goal.returns-then-hears-clause-stands
returns-then-hears-clause-stands c = λ h st.
    heard (the_book c.args.book.now) h c.args.bus c.args.bits c.args.self.now c.hear.new.lane c.hear-then-hears.new.lane st (returns-then-hears-clause-fits c) c.hear.ensures.stands c.hear-then-hears.ensures.stands

pub returns-else-hears-clause-stands : goal.returns-else-hears-clause-stands
returns-else-hears-clause-stands c = λ h st.
    unheard (the_book c.args.book.now) h c.args.bus c.args.bits c.args.self.now st (c.hears.ensures c.if-hears.false)

pub hears-requires : goal.hears-requires
unfolding PairFits
hears-requires c = c.requires.one

pub hear-requires : goal.hear-requires
unfolding PairFits
hear-requires c = c.requires.one

pub hear-requires-then-hears : goal.hear-requires-then-hears
unfolding PairFits
hear-requires-then-hears c = c.requires.two
