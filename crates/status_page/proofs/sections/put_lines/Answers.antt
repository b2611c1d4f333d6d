use Rattle.std.proofs.Common.{◌<◌, map, length, sym, subst, arith}
use Rattle.std.proofs.lemmas.List.{take_all, length-map}
use Rattle.book_model.specs.View.{status_of}
use Rattle.book_model.proofs.BookReads.{view-read}
use Rattle.zone_rows.specs.Tracked.{tracked}
use Rattle.status_page.specs.Behind.{AppendsBehind}
use Rattle.status_page.proofs.SectionRows.{own_rows, own-on}
use Rattle.status_page.proofs.sections.put_lines.Goals as goal

pub loop-i-preserved : goal.loop-i-preserved
loop-i-preserved c = record {
  whole = c.put_line-place.ensures.whole;
  rows =
      let line = status_of c.index-lines-i.result in
      let within : c.loop-i.i < length (map status_of c.args.lines.now) = omega (arith, length-map c.args.lines.now status_of, c.loop-i-test.true) in
      let here = sym (view-read status_of c.args.lines.now c.loop-i.i c.index-lines-i.result c.loop-i-test.true c.index-lines-i.is line) in
      own-on (c.args.section, c.args.colour) (map status_of c.args.lines.now) c.loop-i.i line within here c.args.place c.loop-i.place c.put_line-place.result _ _ _
      c.loop-i.invariant.rows c.put_line-place.ensures.row;
}

pub returns-clause-rows : goal.returns-clause-rows
returns-clause-rows c =
    let all = take_all c.loop-i.i (map status_of c.args.lines.now) (omega (arith, length-map c.args.lines.now status_of, c.loop-i-test.false)) in
    subst (λ ls. AppendsBehind (own_rows (c.args.section, c.args.colour) ls) c.args.place c.loop-i.place (tracked c.args.rows.now c.args.changed.now) (tracked c.loop-i.rows c.loop-i.changed)) all c.loop-i.invariant.rows
