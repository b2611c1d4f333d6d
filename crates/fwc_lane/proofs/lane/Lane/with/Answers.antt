use Rattle.std.proofs.Common.{false, length, get_or, None, refl, sym, ap, subst, ◌∙◌}
use Rattle.std.specs.Prelude.{replicate}
use Rattle.std.proofs.lemmas.List.{length-replicate}
use Rattle.book_model.specs.Sealed.{the_book}
use Rattle.system_display.specs.Pages.{AreShort}
use Rattle.fwc_lane.proofs.FreshLanes.{none-set, fresh-lane}
use Rattle.fwc_lane.proofs.ValueSteps.{none-each, none-short}
use Rattle.fwc_lane.proofs.lane.Lane.with.Goals as goal

pub returns-clause-fits : goal.returns-clause-fits
returns-clause-fits c = record {
  params = c.requires.params_fit;
  truths = c.in_ok-marks.ensures.truths_fit;
  marks = c.in_ok-marks.ensures.marks_fit;
  attention = c.in_ok-marks.ensures.attention_fits;
  selector = c.new-2.ensures.fits (the_book c.args.book.now);
  values = ap length c.in_ok-values.ensures.values ∙ length-replicate _ None;
  short = subst AreShort (sym c.in_ok-values.ensures.values) (none-short _);
  terms = c.requires.fits;
  lines = c.in_ok-values.ensures.lines;
  memos = c.in_ok-values.ensures.memos;
  status_lines = c.has_status_lines.ensures;
  truths_moments = c.in_ok-marks.ensures.truths_moments;
  marks_moments = c.in_ok-marks.ensures.marks_moments;
  attention_moments = c.in_ok-marks.ensures.attention_moments;
  selector_moments = c.new-2.ensures.moments;
  calm = λ on. absurd (let w : ⊥ = cc in w);
  idle = λ on. absurd (let w : ⊥ = cc in w);
}

pub returns-clause-stands : goal.returns-clause-stands
returns-clause-stands c = λ f.
    fresh-lane (the_book c.args.book.now) f _ (returns-clause-fits c) record {
      moments = refl;
      ticked = refl;
      params = c.requires.params_stand;
      values = λ p. ap (λ vs. get_or vs p None) c.in_ok-values.ensures.values ∙ none-each _ p;
      keys = c.new-3.ensures;
      cells = c.requires.stands;
      phases = c.new.ensures;
      truths = c.in_ok-marks.ensures.truths_stand;
      marks = c.in_ok-marks.ensures.marks_stand;
      attention = c.in_ok-marks.ensures.attention_stands;
      selector = c.new-2.ensures.stands;
      picture = c.blank.ensures;
      changed = λ i lt. none-set (replicate 36 false) refl i;
    }
