use Rattle.std.proofs.Common.{◌≡◌, ℕ, [], map, length, get_or, ap, sym, subst, arith}
use Rattle.std.specs.Prelude.{filter}
use Rattle.ecam_spec.specs.Picture.{Row}
use Rattle.ecam_spec.specs.Places.{below}
use Rattle.book_model.specs.View.{bytes_of}
use Rattle.book_model.specs.Told.{flagged}
use Rattle.book_model.proofs.BookReads.{view-read}
use Rattle.zone_rows.specs.Tracked.{tracked}
use Rattle.warning_display.specs.Counted.{Adds}
use Rattle.warning_display.specs.RightRows.{system_row}
use Rattle.warning_display.proofs.Adding.{adds-none}
use Rattle.warning_display.proofs.Marks.{systems-on}
use Rattle.warning_display.proofs.right.put_systems.Goals as goal

pub loop-next-init : goal.loop-next-init
unfolding below
loop-next-init c = record {
  most = c.next_set-next.ensures.end;
  set = c.next_set-next.ensures.set;
  whole = c.requires.whole;
  few = omega arith;
  rows =
      let row : ℕ → Row = λ s. system_row (get_or (map bytes_of c.args.systems.now) s []) in
      let start = tracked c.args.rows.now c.args.changed.now in
      subst (λ xs. Adds 7 (map row xs) 0 0 start start) (sym c.next_set-next.ensures.none) (adds-none 7 0 start);
}

pub loop-next-preserved : goal.loop-next-preserved
loop-next-preserved c =
    let row : ℕ → Row = λ s. system_row (get_or (map bytes_of c.args.systems.now) s []) in
    let system = c.index-systems-next.result in
    record {
      most = c.next_set-next-in-loop-next.ensures.end;
      set = c.next_set-next-in-loop-next.ensures.set;
      whole = c.put_system-total.ensures.whole;
      few = omega (arith, c.loop-next.invariant.few, c.put_system-total.ensures.row.count, c.next_set-next-in-loop-next.ensures.from);
      rows =
          subst (λ xs. Adds 7 (map row xs) 0 c.put_system-total.result (tracked c.args.rows.now c.args.changed.now) (tracked c.put_system-total.new.rows c.put_system-total.new.changed))
          (sym c.next_set-next-in-loop-next.ensures.none)
          (systems-on row (flagged c.args.marks.now) c.loop-next.next (system_row system.bytes)
          (ap system_row (view-read bytes_of c.args.systems.now c.loop-next.next system c.loop-next-test.true c.index-systems-next.is [])) (c.loop-next.invariant.set c.loop-next-test.true) 0
          c.loop-next.total c.put_system-total.result _ _ _ c.loop-next.invariant.rows c.put_system-total.ensures.row);
    }

pub returns-clause-rows : goal.returns-clause-rows
returns-clause-rows c =
    let all : c.loop-next.next ≡ length c.args.systems.now = omega (arith, c.loop-next-test.false, c.loop-next.invariant.most) in
    let row : ℕ → Row = λ s. system_row (get_or (map bytes_of c.args.systems.now) s []) in
    subst (λ n. Adds 7 (map row (filter (flagged c.args.marks.now) (below n))) 0 c.loop-next.total (tracked c.args.rows.now c.args.changed.now) (tracked c.loop-next.rows c.loop-next.changed)) all
    c.loop-next.invariant.rows
