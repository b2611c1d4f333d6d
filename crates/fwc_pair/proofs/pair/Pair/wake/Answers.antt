use Rattle.std.proofs.Common.{◌||◌, refl, sym}
use Rattle.book_model.specs.Sealed.{the_book}
use Rattle.fwc_pair.proofs.Pairs.{woken, start-beside, or-left, or-right, or-turned}
use Rattle.fwc_pair.specs.PairState.{UpStand, PairFits}
use Rattle.fwc_pair.proofs.pair.Pair.wake.Goals as goal

pub returns-then-computer-eq1-clause-stands : goal.returns-then-computer-eq1-clause-stands
unfolding UpStand
returns-then-computer-eq1-clause-stands c = λ h same up.
    let b = the_book c.args.book.now in
    let old = c.args.self.now in
    record {
      one = λ e. woken b h c.args.computer old.one_up old.two_up same old.one_up old.two_up (old.one_up || old.two_up) old.one old.two c.wake.new.lane refl refl c.wake.ensures.goes_on c.wake.ensures.begins up.one up.two;
      two = λ e. start-beside b h c.args.computer old.one_up old.two_up same old.two (or-right old.one_up old.two_up e) (up.two e);
    }

pub returns-else-computer-eq1-clause-stands : goal.returns-else-computer-eq1-clause-stands
unfolding UpStand
returns-else-computer-eq1-clause-stands c = λ h same up.
    let b = the_book c.args.book.now in
    let old = c.args.self.now in
    let woke = c.wake-else-computer-eq1 in
    record {
      one = λ e. start-beside b h c.args.computer old.one_up old.two_up same old.one (or-left old.one_up old.two_up e) (up.one e);
      two = λ e. woken b h c.args.computer old.one_up old.two_up same old.two_up old.one_up (old.one_up || old.two_up) old.two old.one woke.new.lane refl (or-turned old.one_up old.two_up) woke.ensures.goes_on woke.ensures.begins up.two up.one;
    }

pub returns-then-computer-eq1-clause-fits : goal.returns-then-computer-eq1-clause-fits
unfolding PairFits
returns-then-computer-eq1-clause-fits c = record {
  one = c.wake.ensures.fits;
  two = c.requires.two;
  together = λ e f. sym (c.wake.ensures.together (λ on. sym (c.requires.together on f)) f);
  still = c.requires.still;
}

pub returns-else-computer-eq1-clause-fits : goal.returns-else-computer-eq1-clause-fits
unfolding PairFits
returns-else-computer-eq1-clause-fits c = record {
  one = c.requires.one;
  two = c.wake-else-computer-eq1.ensures.fits;
  together = λ e f. c.wake-else-computer-eq1.ensures.together (λ on. c.requires.together e on) e;
  still = c.requires.still;
}

pub wake-requires-clause-lane : goal.wake-requires-clause-lane
unfolding PairFits
wake-requires-clause-lane c = c.requires.one

pub wake-requires-clause-other : goal.wake-requires-clause-other
unfolding PairFits
wake-requires-clause-other c = c.requires.two

pub wake-requires-else-computer-eq1-clause-lane : goal.wake-requires-else-computer-eq1-clause-lane
unfolding PairFits
wake-requires-else-computer-eq1-clause-lane c = c.requires.two

pub wake-requires-else-computer-eq1-clause-other : goal.wake-requires-else-computer-eq1-clause-other
unfolding PairFits
wake-requires-else-computer-eq1-clause-other c = c.requires.one
