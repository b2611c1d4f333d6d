use Rattle.std.proofs.Common.{refl, sym, ◌∙◌}
use Rattle.book_model.specs.Sealed.{the_book}
use Rattle.fwc_pair.proofs.Pairs.{begins}
use Rattle.fwc_pair.specs.PairState.{PairFits}
use Rattle.fwc_pair.proofs.pair.Pair.restart.Goals as goal

pub returns-clause-stands : goal.returns-clause-stands
unfolding PairFits
returns-clause-stands c =
    begins (the_book c.args.book.now) _
    (record { one = c.cold.ensures.fits; two = c.cold-2.ensures.fits; together = λ e f. c.cold-2.ensures.moments ∙ sym c.cold.ensures.moments; still = λ on. absurd (let w : ⊥ = cc on in w) })
    refl c.blank-self.ensures refl c.cold.ensures.stands c.cold-2.ensures.stands

pub returns-clause-fits : goal.returns-clause-fits
unfolding PairFits
returns-clause-fits c = record {
  one = c.cold.ensures.fits;
  two = c.cold-2.ensures.fits;
  together = λ e f. c.cold-2.ensures.moments ∙ sym c.cold.ensures.moments;
  still = λ on. absurd (let w : ⊥ = cc on in w);
}

pub cold-requires : goal.cold-requires
unfolding PairFits
cold-requires c = c.requires.one

pub cold-requires-2 : goal.cold-requires-2
unfolding PairFits
cold-requires-2 c = c.requires.two
