use Rattle.std.proofs.Common.{◌<◌, IfSome, sym, subst, ◌∙◌}
use Rattle.ecam_spec.specs.Situation.{strokes_in}
use Rattle.ecam_kinds.specs.KeyState.{KeysStand}
use Rattle.book_model.specs.Sealed.{the_book}
use Rattle.book_model.proofs.BookLists.{many-alerts}
use Rattle.fwc_lane.proofs.CrewMoments.{target-told, stays-lit, shown-kept}
use Rattle.fwc_lane.proofs.crew.step_crew.Goals as goal

pub step_selection-requires-clause-target : goal.step_selection-requires-clause-target
step_selection-requires-clause-target c =
    subst (λ n. IfSome c.target.result (λ a. a < n)) (many-alerts c.args.book.now) (c.target.ensures.within (the_book c.args.book.now) c.step_marks.ensures.marks)

pub returns-clause-stands : goal.returns-clause-stands
returns-clause-stands c = λ m k truths strokes enters crew.
    let b = the_book c.args.book.now in
    let marks = c.step_marks.ensures.stands m k truths (subst (KeysStand (strokes_in b m) k) (sym c.keys.ensures) strokes) enters crew.marks in
    record {
      marks = marks;
      lights = c.step_attention.ensures.stands m k truths (subst (KeysStand (strokes_in b m) k) (sym c.keys-2.ensures) strokes) marks
          (λ off. shown-kept b m k _ _ crew.marks marks (c.step_marks.ensures.kept off))
          (λ a lt off. stays-lit b m k a _ _ crew.marks marks (c.step_marks.ensures.others a off) (c.step_marks.ensures.up m k truths a lt off)) crew.lights;
      selection = c.step_selection.ensures.stands m k strokes (c.target.ensures.value ∙ target-told b m k _ marks) crew.selection;
    }
