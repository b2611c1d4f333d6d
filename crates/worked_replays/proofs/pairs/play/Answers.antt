use Rattle.std.proofs.Common.{sym, subst}
use Rattle.book_model.specs.Sealed.{the_book}
use Rattle.fwc_pair.specs.PairState.{PairFits}
use Rattle.worked_replays.proofs.pairs.play.Goals as goal
use Rattle.worked_replays.proofs.pairs.play.Goals.{else-loop-test, then-loop-test+in-Ok+else-moments-ge200+in-End}

pub returns : goal.returns
returns c = elim c.loop-test.branch [
  | else-loop-test w ↦ subst (PairFits (the_book c.args.book.now)) (sym w.pair-is) c.loop.invariant
  | then-loop-test+in-Ok+else-moments-ge200+in-End w ↦ subst (PairFits (the_book c.args.book.now)) (sym w.pair-is) w.event.ensures.fits
]
