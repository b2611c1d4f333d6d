use Rattle.std.proofs.Common.{length, sym, ap, subst, ◌∙◌, arith}
use Rattle.std.proofs.lemmas.List.{length-set}
use Rattle.ecam_spec.proofs.ListLaws.{distinct}
use Rattle.ecam_spec.proofs.OrderLaws.{distinct-order}
use Rattle.book_model.specs.Sealed.{the_book}
use Rattle.book_model.proofs.BookLimits.{sizes}
use Rattle.book_model.proofs.BookLists.{many-alerts}
use Rattle.crew_marks.specs.Ranks.{AreRanks}
use Rattle.crew_marks.proofs.Ranking.{ArePlaced, place-more, all-placed}
use Rattle.crew_marks.proofs.ranks.ranks_of.Goals as goal

pub overflow_cast-rank : goal.overflow_cast-rank
overflow_cast-rank c =
    let few = (sizes c.args.book.now c.sealed.ensures).alerts in
    omega (arith, c.loop-rank-test.true, c.order-order.ensures.count, few)

pub loop-rank-preserved : goal.loop-rank-preserved
loop-rank-preserved c =
    let order = c.order-order.result.now in
    let i = c.loop-rank.rank in
    let within = c.order-order.ensures.within i 0 c.loop-rank-test.true in
    record {
      many = length-set c.loop-rank.ranks.items _ _ ∙ c.loop-rank.invariant.many;
      placed =
          place-more order c.loop-rank.ranks.items i (ap distinct c.order-order.ensures.value ∙ distinct-order (the_book c.args.book.now))
          c.loop-rank-test.true (omega (arith, within, c.loop-rank.invariant.many, c.order-order.ensures.count)) c.loop-rank.invariant.placed;
    }

pub returns : goal.returns
returns c =
    let b = the_book c.args.book.now in
    let ranks = c.loop-rank.ranks.items in
    let order = c.order-order.result.now in
    let placed : ArePlaced order (length order) ranks = λ r within. c.loop-rank.invariant.placed r (omega (arith, within, c.loop-rank-test.false)) in
    subst (AreRanks _) (sym c.into_boxed_slice.ensures.items)
    (all-placed b ranks (c.loop-rank.invariant.many ∙ c.order-order.ensures.count ∙ sym (many-alerts c.args.book.now))
    (subst (λ xs. ArePlaced xs (length xs) ranks) c.order-order.ensures.value placed))
