use Rattle.std.proofs.Common.{◌+◌}
use Rattle.book_model.specs.Slots.{memo_place}
use Rattle.book_model.specs.Sealed.{the_book}
use Rattle.book_model.specs.Conditions.{memos_from}
use Rattle.book_model.proofs.ConditionPlaces.{memo-place-at}
use Rattle.condition_codes.proofs.Limits.{fits}
use Rattle.condition_codes.proofs.Walking.{adds-next}
use Rattle.condition_codes.proofs.book.add_memos.Goals as goal

pub add-requires : goal.add-requires
add-requires c =
    let d = c.args.book.now in
    let memos = c.memos-memos in
    let i = c.loop-memo.memo-index in
    let x = c.memo-item.result in
    fits d memos.ensures.sealed (memos_from (the_book d) + i) x.when
    (memo-place-at d memos.ensures.sealed memos.result.now i x memos.ensures.value c.loop-memo-test.true c.memo-item.is)

pub loop-memo-preserved : goal.loop-memo-preserved
loop-memo-preserved c = record {
  added = adds-next c.args.pieces.now c.loop-memo.pieces c.add.new.self c.memos-memos.result.now c.loop-memo.memo-index c.memo-item.result c.loop-memo-test.true c.memo-item.is memo_place
      c.loop-memo.invariant.added c.in_ok-add.ensures;
}
