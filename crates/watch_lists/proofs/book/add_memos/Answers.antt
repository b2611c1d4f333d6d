use Rattle.std.proofs.Common.{◌≡◌, suc, ◌+◌, ◌<◌, length, get_or, slice_get, sym, ap, subst, ◌∙◌, arith}
use Rattle.book_model.specs.Sealed.{the_book}
use Rattle.book_model.specs.Conditions.{places, memos_from}
use Rattle.book_model.proofs.BookLists.{many-memos}
use Rattle.book_model.proofs.BookLimits.{memo-sound}
use Rattle.book_model.proofs.ConditionPlaces.{memo-place-at, all-places}
use Rattle.watch_lists.specs.Listed.{items_of, ListsBelow}
use Rattle.watch_lists.proofs.Naming.{few-operands, own-within}
use Rattle.watch_lists.proofs.book.add_memos.Goals as goal

pub add_term-requires-clause-few : goal.add_term-requires-clause-few
add_term-requires-clause-few c = few-operands c.args.book.now c.memos.ensures.sealed c.args.sizes c.requires.sizes

pub add_term-requires-clause-within : goal.add_term-requires-clause-within
add_term-requires-clause-within c =
    let xs = c.memos.result.now in
    let lt : c.loop-i.i < length xs = omega (arith, c.loop-i-test.true, ap length c.memos.ensures.value, ap length c.memos-i-end.ensures.value) in
    own-within c.args.book.now c.memos.ensures.sealed c.args.sizes c.requires.sizes _
    (memo-sound c.args.book.now c.memos.ensures.sealed xs c.loop-i.i (get_or xs c.loop-i.i c.index-memos-i.result) c.memos.ensures.value lt (ap (get_or xs c.loop-i.i) c.index-memos-i.is)).when.within

pub loop-i-preserved : goal.loop-i-preserved
loop-i-preserved c = record {
  long = c.in_ok-add_term.ensures.len ∙ c.loop-i.invariant.long;
  listed = λ below.
      let d = c.args.book.now in
      let xs = c.memos.result.now in
      let lt : c.loop-i.i < length xs = omega (arith, c.loop-i-test.true, ap length c.memos.ensures.value, ap length c.memos-i-end.ensures.value) in
      let x = get_or xs c.loop-i.i c.index-memos-i.result in
      let place = memo-place-at d c.memos.ensures.sealed xs c.loop-i.i x c.memos.ensures.value lt (ap (get_or xs c.loop-i.i) c.index-memos-i.is) in
      let at : c.first_memo-first.result + c.loop-i.i ≡ memos_from (the_book d) + c.loop-i.i = ap (λ n. n + c.loop-i.i) c.first_memo-first.ensures.value in
      subst (λ n. ListsBelow c.args.sizes (places (the_book d)) n (items_of c.add_term.new.lists.items))
      (let e : suc (c.first_memo-first.result + c.loop-i.i) ≡ memos_from (the_book d) + (c.loop-i.i + 1) = omega (arith, at) in e)
      (c.in_ok-add_term.ensures.listed (places (the_book d)) (ap (slice_get (places (the_book d))) at ∙ place)
      (subst (λ n. ListsBelow c.args.sizes (places (the_book d)) n (items_of c.loop-i.lists.items)) (sym at) (c.loop-i.invariant.listed below)));
}

pub returns-clause-listed : goal.returns-clause-listed
returns-clause-listed c below =
    let d = c.args.book.now in
    subst (λ n. ListsBelow c.args.sizes (places (the_book d)) n (items_of c.loop-i.lists.items))
    (let e : memos_from (the_book d) + c.loop-i.i ≡ length (places (the_book d))
    = omega (arith, c.loop-i-test.false, c.loop-i.auto.i-end, ap length c.memos-i-end.ensures.value, many-memos d, all-places d c.memos-i-end.ensures.sealed) in e)
    (c.loop-i.invariant.listed below)
