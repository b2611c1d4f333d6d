use Rattle.std.proofs.Common.{◌≤◌, length, sym, subst, arith}
use Rattle.ecam_spec.specs.Screen.{panel}
use Rattle.ecam_spec.specs.Situation.{strokes_in}
use Rattle.ecam_kinds.specs.KeyState.{KeysStand}
use Rattle.book_model.specs.Sealed.{the_book}
use Rattle.book_model.proofs.BookLists.{many-pages}
use Rattle.book_model.proofs.BookLimits.{sizes}
use Rattle.system_display.proofs.PanelOf.{era-shown}
use Rattle.fwc_lane.proofs.CrewRest.{selects-nothing}
use Rattle.fwc_lane.proofs.crew.step_selection.Goals as goal

pub returns-then-are_idle-clause-stands : goal.returns-then-are_idle-clause-stands
returns-then-are_idle-clause-stands c = λ m k strokes target stands.
    let d = c.args.book.now in
    let b = the_book d in
    let few : length b.pages ≤ 16 = omega (arith, many-pages d, (sizes d c.sealed.ensures).pages) in
    let idle = c.if-are_idle.true in
    c.rest.ensures.stands (panel b m) k
    (selects-nothing b m k c.args.keys.now strokes (c.are_idle.ensures.pressed idle) (c.are_idle.ensures.all idle) few) stands

pub returns-clause-stands : goal.returns-clause-stands
returns-clause-stands c = λ m k strokes target stands.
    let d = c.args.book.now in
    let b = the_book d in
    let few : length b.pages ≤ 16 = omega (arith, many-pages d, (sizes d c.sealed.ensures).pages) in
    c.step.ensures.stands (panel b m) k stands
    (era-shown b m k c.keys.result.now c.args.target few (subst (KeysStand (strokes_in b m) k) (sym c.keys.ensures) strokes) target)
