use Rattle.std.proofs.Common.{refl, sym, ◌∙◌}
use Rattle.book_model.specs.Sealed.{the_book}
use Rattle.fwc_pair.proofs.Pairs.{begins}
use Rattle.fwc_pair.specs.PairState.{PairFits}
use Rattle.fwc_pair.proofs.pair.Pair.new.Goals as goal

pub returns-clause-fits : goal.returns-clause-fits
unfolding PairFits
returns-clause-fits c =
    record { one = c.in_ok-one.ensures.fits; two = c.in_ok-two.ensures.fits; together = λ e f. c.in_ok-two.ensures.moments ∙ sym c.in_ok-one.ensures.moments; still = λ on. absurd (let w : ⊥ = cc on in w) }

pub returns-clause-stands : goal.returns-clause-stands
returns-clause-stands c =
    begins (the_book c.args.book.now) _ (returns-clause-fits c) refl c.blank.ensures refl c.in_ok-one.ensures.stands c.in_ok-two.ensures.stands
