use Rattle.std.proofs.Common.{map, get_or, sym, ap, ◌∙◌, arith}
use Rattle.ecam_spec.specs.Book as plain
use Rattle.ecam_spec.specs.Term.{in_set}
use Rattle.std.proofs.lemmas.List.{length-map}
use Rattle.book_model.specs.View.{page_of}
use Rattle.book_model.proofs.BookReads.{view-read, view-get}
use Rattle.fwc_lane.proofs.PageChoice.{find-past, find-at}
use Rattle.fwc_lane.proofs.display.page_of_phase.Goals as goal

pub returns-then-has-clause-page : goal.returns-then-has-clause-page
returns-then-has-clause-page c =
    let xs = c.args.pages.now in
    let x = get_or xs c.loop-i.i c.index-pages-i.result in
    let here = ap (get_or xs c.loop-i.i) c.index-pages-i.is in
    let test = λ (p : plain.Page). in_set p.phases c.args.phase.number in
    view-get page_of xs c.loop-i.i x c.loop-i-test.true here
    ∙ sym (find-at test (map page_of xs) c.loop-i.i (page_of x) (omega (arith, c.loop-i-test.true, length-map xs page_of)) (sym (view-read page_of xs c.loop-i.i x c.loop-i-test.true here (page_of x)))
    (sym c.has.ensures ∙ c.if-has.true))
    ∙ c.loop-i.invariant.rest

pub loop-i-preserved : goal.loop-i-preserved
loop-i-preserved c =
    let xs = c.args.pages.now in
    let x = get_or xs c.loop-i.i c.index-pages-i.result in
    let here = ap (get_or xs c.loop-i.i) c.index-pages-i.is in
    let test = λ (p : plain.Page). in_set p.phases c.args.phase.number in
    record {
      rest =
          find-past test (map page_of xs) c.loop-i.i (page_of x) (omega (arith, c.loop-i-test.true, length-map xs page_of)) (sym (view-read page_of xs c.loop-i.i x c.loop-i-test.true here (page_of x)))
          (sym c.has.ensures ∙ c.if-has.false)
          ∙ c.loop-i.invariant.rest;
    }
