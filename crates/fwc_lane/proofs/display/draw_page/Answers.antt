use Rattle.fwc_lane.proofs.display.draw_page.Goals as goal

pub returns-then-stays-clause-rows : goal.returns-then-stays-clause-rows
returns-then-stays-clause-rows c = λ d displays stood.
    let there = stood c.if-stays.true in
    c.mend_page.ensures.rows d there.was displays there.differ there.stand
