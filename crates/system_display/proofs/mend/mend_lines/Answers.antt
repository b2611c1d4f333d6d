use Rattle.std.proofs.Common.{◌+◌, ◌≤◌, List, length, subst, arith}
use Rattle.ecam_spec.specs.Picture as spec
use Rattle.zone_rows.specs.Tracked.{tracked}
use Rattle.zone_rows.specs.Mended.{Mends}
use Rattle.system_display.proofs.PageRows.{sound-line, all-lines}
use Rattle.system_display.proofs.Mended.{next-stands, one-more-mended, none-mended}
use Rattle.system_display.proofs.mend.mend_lines.Goals as goal

pub loop-i-init : goal.loop-i-init
loop-i-init c = record { whole = c.requires.whole; rows = λ d was displays differ stand. none-mended c.args.lines.now d _ }

pub mend_line-requires-clause-line : goal.mend_line-requires-clause-line
mend_line-requires-clause-line c =
    let lines = c.args.lines.now in
    let i = c.loop-i.i in
    let x = c.index-lines-i.result in
    sound-line lines i x c.loop-i-test.true c.index-lines-i.is (length c.args.book.now.params.items) c.requires.lines

pub loop-i-preserved : goal.loop-i-preserved
loop-i-preserved c = record {
  whole = c.mend_line.ensures.whole;
  rows = λ d was displays differ stand.
      let lines = c.args.lines.now in
      let i = c.loop-i.i in
      let x = c.index-lines-i.result in
      let here = c.index-lines-i.is in
      let old = tracked c.args.rows.now c.args.changed.now in
      let mid = tracked c.loop-i.rows c.loop-i.changed in
      let new = tracked c.mend_line.new.rows c.mend_line.new.changed in
      let mended = c.loop-i.invariant.rows d was displays differ stand in
      let room : 16 + length lines ≤ length old.rows = omega (arith, c.requires.whole.rows, c.requires.few) in
      one-more-mended lines i x c.loop-i-test.true here was d old mid new room stand mended
      (c.mend_line.ensures.row d was displays differ (next-stands lines i x c.loop-i-test.true here was d old mid new room stand mended));
}

pub returns-clause-rows : goal.returns-clause-rows
returns-clause-rows c = λ d was displays differ stand.
    let old = tracked c.args.rows.now c.args.changed.now in
    let new = tracked c.loop-i.rows c.loop-i.changed in
    let Rows : List spec.Row → Type 0 = λ rs. Mends 16 rs old new in
    subst Rows (all-lines c.args.lines.now c.loop-i.i d c.loop-i-test.false) (c.loop-i.invariant.rows d was displays differ stand)
