use Rattle.std.proofs.Common.{◌≡◌, [], ◌∷◌, map}
use Rattle.book_model.specs.View.{memo_of}
use Rattle.book_model.specs.Slots.{memo_tree, memo_place}
use Rattle.book_model.proofs.Placing.{Placing}
use Rattle.book_model.proofs.slots.place_memos.Given as goal

abbrev pub invariant-loop-memo : goal.invariant-loop-memo
invariant-loop-memo l = record {
  same : map memo_of l.memo-items ≡ map memo_of l.fn.memos.items;
  placing : Placing (λ m. memo_tree m ∷ []) (λ m. memo_place m ∷ []) l.fn.memos.items l.memo-items l.memo-index l.at l.next;
}
