use Rattle.std.proofs.Common.{get_or, sym, refl, arith}
use Rattle.std.proofs.lemmas.Bool.{lt-leb}
use Rattle.std.proofs.lemmas.Option.{slice_get-get_or}
use Rattle.ecam_spec.specs.LeftZone.{overflow}
use Rattle.book_model.specs.Sealed.{the_book}
use Rattle.book_model.specs.Told.{flagged}
use Rattle.zone_rows.proofs.Filling.{append-none}
use Rattle.warning_display.proofs.Blocks.{appends-block, show-block}
use Rattle.warning_display.proofs.Titles.{overflow-on}
use Rattle.warning_display.proofs.left.put_first.Goals as goal

pub loop-next-init : goal.loop-next-init
unfolding overflow
loop-next-init c = record {
  most = c.next_shown-next.ensures.end;
  whole = c.requires.whole;
  next = c.next_shown-next.ensures.shown;
  rows = λ stands tells. rw c.next_shown-next.ensures.none (append-none 0 7 0 _);
  titles = λ stands tells. rw c.next_shown-next.ensures.none refl;
}

pub loop-next-preserved : goal.loop-next-preserved
loop-next-preserved c =
    let b = the_book c.args.book.now in
    let order = c.order-order.result.now in
    let shown = flagged c.args.shown.now in
    let alert = get_or order c.loop-next.next 0 in
    let here = slice_get-get_or order c.loop-next.next 0 c.loop-next-test.true in
    let is_shown = c.loop-next.invariant.next c.loop-next-test.true in
    record {
      most = c.next_shown-next-in-loop-next.ensures.end;
      whole = c.put_block-count.ensures.whole;
      next = c.next_shown-next-in-loop-next.ensures.shown;
      rows = λ stands tells.
          rw c.next_shown-next-in-loop-next.ensures.none
          (appends-block b stands shown order c.loop-next.next alert here 0 c.loop-next.count c.put_block-count.result _ _ _ (c.loop-next.invariant.rows stands tells)
          (show-block (shown alert) _ _ c.loop-next.count c.put_block-count.result _ _ is_shown refl (c.put_block-count.ensures.rows stands tells)));
      titles = λ stands tells.
          rw c.next_shown-next-in-loop-next.ensures.none
          (sym (overflow-on b stands shown order c.loop-next.next alert here 0 c.loop-next.count 0 _ _ (c.loop-next.invariant.rows stands tells)
          (sym (c.loop-next.invariant.titles stands tells)) (rw (is_shown, lt-leb 7 c.loop-next.count (omega (arith, c.if-count-ge-ZONE.false))) refl)));
    }

pub returns-then-count-ge-ZONE-clause-rows : goal.returns-then-count-ge-ZONE-clause-rows
returns-then-count-ge-ZONE-clause-rows c = λ stands tells. rw c.order-order.ensures.value at c.loop-next.invariant.rows stands tells

pub returns-clause-rows : goal.returns-clause-rows
returns-clause-rows c = λ stands tells. rw c.order-order.ensures.value at c.loop-next.invariant.rows stands tells
