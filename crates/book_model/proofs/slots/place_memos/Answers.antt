use Rattle.std.proofs.Common.{◌<◌, length, get_or, ap, ◌∙◌, sym, arith}
use Rattle.std.proofs.Math.Seq.{map-set_same}
use Rattle.std.proofs.lemmas.List.Concat.{flat_map_single}
use Rattle.ecam_spec.specs.TermSize.{trees, placed}
use Rattle.book_model.specs.View.{memo_of}
use Rattle.book_model.specs.Slots.{memo_tree, memo_place}
use Rattle.book_model.proofs.Placing.{placing-more, placing-all, written-items, placed-term, memo_of-when}
use Rattle.book_model.proofs.slots.place_memos.Goals as goal

pub loop-memo-preserved : goal.loop-memo-preserved
loop-memo-preserved c =
    let items = c.loop-memo.memo-items in
    let i = c.loop-memo.memo-index in
    let d = c.memo-item.result in
    let x = get_or items i d in
    let term = c.place_term-next.new.term in
    let within : i < length items = omega arith in
    record {
      same = map-set_same memo_of items i (record x { when = term }) d (memo_of-when x term c.place_term-next.ensures.cond) ∙ c.loop-memo.invariant.same;
      placing = placing-more c.loop-memo.invariant.placing d (record x { when = term }) _ within
          (placed-term term x.when _ c.place_term-next.ensures.cond c.place_term-next.ensures.at) (omega (arith, c.place_term-next.ensures.next));
    }

pub returns-clause-placed : goal.returns-clause-placed
returns-clause-placed c =
    let items = c.loop-memo.memo-items in
    let olds = c.args.memos.now.items in
    rw (written-items c.args.memos.now.len items olds (omega arith) (omega arith)) (
    sym (flat_map_single memo_place items)
    ∙ placing-all c.loop-memo.invariant.placing (omega arith)
    ∙ ap (λ cs. placed c.args.at (trees cs)) (flat_map_single memo_tree olds))
