use Rattle.std.proofs.Common.{length, refl, ap, sym, subst, ◌∙◌}
use Rattle.crew_marks.specs.CrewMarks.{CrewMarks}
use Rattle.crew_marks.specs.MarksState.{MarksFit}
use Rattle.fwc_lane.proofs.FreshLanes.{took-lane}
use Rattle.system_display.specs.Pages.{AreShort}
use Rattle.fwc_lane.proofs.lane.Lane.copy_from.Goals as goal

pub returns-clause-fits : goal.returns-clause-fits
returns-clause-fits c = λ b fits other. record {
  params = c.copy_from.ensures.fits b fits.params other.params;
  truths = c.copy_from-3.ensures.fits b fits.truths other.truths;
  marks = subst (MarksFit b) (sym c.copy_from-4.ensures) other.marks;
  attention = c.copy_from-5.ensures.fits b other.attention;
  selector = other.selector;
  values = ap length (c.copy_from_slice.ensures.items ∙ c.deref.ensures.value) ∙ other.values;
  short = subst AreShort (sym (c.copy_from_slice.ensures.items ∙ c.deref.ensures.value)) other.short;
  terms = c.copy_from-2.ensures.fits b fits.terms;
  lines = ap length (c.copy_from_slice-2.ensures.items ∙ c.deref-2.ensures.value) ∙ other.lines;
  memos = ap length (c.copy_from_slice-3.ensures.items ∙ c.deref-3.ensures.value) ∙ other.memos;
  status_lines = fits.status_lines;
  truths_moments = c.copy_from-3.ensures.moments ∙ other.truths_moments;
  marks_moments = ap (λ (m : CrewMarks). m.moments) c.copy_from-4.ensures ∙ other.marks_moments;
  attention_moments = c.copy_from-5.ensures.moments ∙ other.attention_moments;
  selector_moments = other.selector_moments;
  calm = λ on. absurd (let w : ⊥ = cc in w);
  idle = λ on. absurd (let w : ⊥ = cc in w);
}

pub returns-clause-stands : goal.returns-clause-stands
returns-clause-stands c = λ b e fits other.
    took-lane b e c.args.other.now _ (returns-clause-fits c b fits other.fits) (record {
      moments = refl;
      ticked = refl;
      params = λ words k stands. c.copy_from.ensures.stands b words k fits.params stands;
      keys = c.copy_from-6.ensures;
      terms = c.copy_from-2.ensures.took;
      phases = refl;
      phase = refl;
      truths = λ conditions phases k stands. c.copy_from-3.ensures.stands b conditions phases k fits.truths stands;
      marks = c.copy_from-4.ensures;
      attention = λ a k stands. c.copy_from-5.ensures.stands b a k stands;
      selector = refl;
      values = c.copy_from_slice.ensures.items ∙ c.deref.ensures.value;
      lines = c.copy_from_slice-2.ensures.items ∙ c.deref-2.ensures.value;
      memos = c.copy_from_slice-3.ensures.items ∙ c.deref-3.ensures.value;
      picture = c.copy_from-7.ensures;
      changed = refl;
      counts = refl;
    }) other
