use Rattle.std.proofs.Common.{◌≡◌, ◌∷◌, [], length, map, take, ◌∙◌, ap, subst, List}
use Rattle.ecam_spec.specs.Picture as spec
use Rattle.ecam_spec.specs.SystemDisplay.{page_row}
use Rattle.book_model.specs.View.{row_of}
use Rattle.zone_rows.specs.Tracked.{tracked}
use Rattle.zone_rows.specs.Mended.{Appends}
use Rattle.zone_rows.proofs.Filling.{append-none, append-both}
use Rattle.system_display.specs.Pages.{lines_of}
use Rattle.system_display.proofs.PageRows.{sound-line, one-line-more, all-lines}
use Rattle.system_display.proofs.page.put_lines.Goals as goal

pub write_row-colour-requires-clause-sound : goal.write_row-colour-requires-clause-sound
write_row-colour-requires-clause-sound c =
    sound-line c.args.lines.now c.loop-line.line-index c.line-item.result c.loop-line-test.true c.line-item.is (length c.args.book.now.params.items) c.requires.lines

pub loop-line-init : goal.loop-line-init
loop-line-init c = record { whole = c.requires.whole; put = λ d displays. append-none 15 18 c.args.before _ }

pub loop-line-preserved : goal.loop-line-preserved
loop-line-preserved c = record {
  whole = c.put_next-count.ensures.whole;
  put = λ d displays.
      let lines = c.args.lines.now in
      let line = c.line-item.result in
      let old = tracked c.args.rows.now c.args.changed.now in
      let mid = tracked c.loop-line.rows c.loop-line.changed in
      let new = tracked c.put_next-count.new.rows c.put_next-count.new.changed in
      let drawn : spec.row c.write_row-colour.result c.as_slice.result.now ≡ page_row d (row_of line) line.show =
      ap (spec.row c.write_row-colour.result) c.as_slice.ensures.value ∙ c.write_row-colour.ensures d displays in
      let Row : spec.Row → Type 0 = λ r. Appends 15 18 (r ∷ []) c.loop-line.count c.put_next-count.result mid new in
      let Rows : List spec.Row → Type 0 = λ rs. Appends 15 18 rs c.args.before c.put_next-count.result old new in
      subst Rows (one-line-more lines c.loop-line.line-index line c.loop-line-test.true c.line-item.is d)
      (append-both 15 18 (lines_of d (map row_of (take c.loop-line.line-index lines))) (page_row d (row_of line) line.show ∷ []) c.args.before c.loop-line.count c.put_next-count.result old mid new
      (c.loop-line.invariant.put d displays) (subst Row drawn c.put_next-count.ensures.put));
}

pub returns : goal.returns
returns c = record {
  whole = c.loop-line.invariant.whole;
  put = λ d displays.
      let old = tracked c.args.rows.now c.args.changed.now in
      let new = tracked c.loop-line.rows c.loop-line.changed in
      let Rows : List spec.Row → Type 0 = λ rs. Appends 15 18 rs c.args.before c.loop-line.count old new in
      subst Rows (all-lines c.args.lines.now c.loop-line.line-index d c.loop-line-test.false) (c.loop-line.invariant.put d displays);
}
