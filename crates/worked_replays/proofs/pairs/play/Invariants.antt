use Rattle.book_model.specs.Sealed.{the_book}
use Rattle.fwc_pair.specs.PairState.{PairFits}
use Rattle.worked_replays.proofs.pairs.play.Given as goal

abbrev pub invariant-loop : goal.invariant-loop
invariant-loop l = PairFits (the_book l.book) l.pair
