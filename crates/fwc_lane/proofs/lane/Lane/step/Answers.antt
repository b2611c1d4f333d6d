use Rattle.std.proofs.Common.{false, ◌∙◌}
use Rattle.ecam_spec.specs.Situation.{words_in}
use Rattle.book_model.specs.Sealed.{the_book}
use Rattle.fwc_lane.proofs.Ticks.{has-begun, all-told, values-told}
use Rattle.fwc_lane.proofs.lane.Lane.step.Goals as goal

pub finish-requires-clause-fits : goal.finish-requires-clause-fits
finish-requires-clause-fits c =
    let fits = c.requires.fits in
    let begin = c.begin_moment-values.ensures in
    record {
      params = fits.params;
      truths = fits.truths;
      marks = fits.marks;
      attention = fits.attention;
      selector = fits.selector;
      values = begin.many ∙ fits.values;
      short = begin.short;
      terms = begin.fits;
      lines = fits.lines;
      memos = fits.memos;
      status_lines = fits.status_lines;
      truths_moments = fits.truths_moments;
      marks_moments = fits.marks_moments;
      attention_moments = fits.attention_moments;
      selector_moments = fits.selector_moments;
      calm = λ on.
          let calm = fits.calm on in
          (record { ticked = calm.ticked; restless = calm.restless; steady = calm.steady; normal = calm.normal; changed = calm.changed });
      idle = λ on. absurd (let w : ⊥ = cc in w);
    }

pub returns-clause-whole : goal.returns-clause-whole
returns-clause-whole c = λ m came was.
    let b = the_book c.args.book.now in
    let k = c.args.self.now.moments in
    let begin = c.begin_moment-values.ensures in
    let visited = c.args.self.now.terms.cells.visits in
    c.finish.ensures.whole m visited
    (has-begun b m k visited c.args.one_up c.args.two_up c.begin_moment-values.result c.args.self.now c.begin_moment-values.new.terms c.begin_moment-values.new.values was came
    (begin.begins m came was.terms was.values)
    (λ e. all-told b m k c.begin_moment-values.new.values.items (begin.first e (words_in b m) k came.words))
    (values-told b m k c.begin_moment-values.new.values.items (begin.values (words_in b m) k came.words was.values)) begin.kept false)

pub returns-clause-visits : goal.returns-clause-visits
returns-clause-visits c = λ m came was.
    let b = the_book c.args.book.now in
    let k = c.args.self.now.moments in
    let begin = c.begin_moment-values.ensures in
    let visited = c.args.self.now.terms.cells.visits in
    c.finish.ensures.visits m visited
    (has-begun b m k visited c.args.one_up c.args.two_up c.begin_moment-values.result c.args.self.now c.begin_moment-values.new.terms c.begin_moment-values.new.values was came
    (begin.begins m came was.terms was.values)
    (λ e. all-told b m k c.begin_moment-values.new.values.items (begin.first e (words_in b m) k came.words))
    (values-told b m k c.begin_moment-values.new.values.items (begin.values (words_in b m) k came.words was.values)) begin.kept false)
