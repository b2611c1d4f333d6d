use Rattle.std.proofs.Common.{◌≡◌, false, vec_len, length, get_or, None, refl, sym, ap, subst, ◌∙◌, rules, arith}
use Rattle.std.proofs.lemmas.List.{length-replicate}
use Rattle.std.specs.Prelude.{replicate}
use Rattle.book_model.specs.Sealed.{the_book}
use Rattle.system_display.specs.Pages.{AreShort}
use Rattle.fwc_lane.proofs.FreshLanes.{none-set, fresh-lane}
use Rattle.fwc_lane.proofs.ValueSteps.{none-each, none-short}
use Rattle.fwc_lane.proofs.lane.Lane.cold.Goals as goal

pub returns-clause-fits : goal.returns-clause-fits
returns-clause-fits c = record {
  params = c.clear.ensures.fits (the_book c.args.book.now) c.requires.params;
  truths = c.clear-3.ensures.fits (the_book c.args.book.now) c.requires.truths;
  marks = c.clear-4.ensures.fits (the_book c.args.book.now) c.requires.marks;
  attention = c.clear-5.ensures.fits (the_book c.args.book.now) c.requires.attention;
  selector = c.new-self-2.ensures.fits (the_book c.args.book.now);
  values =
      let all : vec_len c.args.self.now.values ≡ length c.args.self.now.values.items = omega arith in
      ap length (c.fill.ensures.items (λ y same. search rules)) ∙ length-replicate _ None ∙ all ∙ c.requires.values;
  short = subst AreShort (sym (c.fill.ensures.items (λ y same. search rules))) (none-short _);
  terms = c.clear-2.ensures.fits (the_book c.args.book.now) c.requires.terms;
  lines = c.requires.lines;
  memos = c.requires.memos;
  status_lines = c.requires.status_lines;
  truths_moments = c.clear-3.ensures.moments;
  marks_moments = c.clear-4.ensures.moments;
  attention_moments = c.clear-5.ensures.moments;
  selector_moments = c.new-self-2.ensures.moments;
  calm = λ on. absurd (let w : ⊥ = cc in w);
  idle = λ on. absurd (let w : ⊥ = cc in w);
}

pub returns-clause-stands : goal.returns-clause-stands
returns-clause-stands c = λ f.
    let b = the_book c.args.book.now in
    fresh-lane b f _ (returns-clause-fits c) record {
      moments = refl;
      ticked = refl;
      params = λ words none. c.clear.ensures.stands b words c.requires.params none;
      values = λ p. ap (λ vs. get_or vs p None) (c.fill.ensures.items (λ y same. search rules)) ∙ none-each _ p;
      keys = c.new-self-3.ensures;
      cells = c.clear-2.ensures.stands;
      phases = c.new-self.ensures;
      truths = λ conditions phases. c.clear-3.ensures.stands b conditions phases c.requires.truths;
      marks = λ p. c.clear-4.ensures.stands b p c.requires.marks;
      attention = λ a. c.clear-5.ensures.stands b a c.requires.attention;
      selector = c.new-self-2.ensures.stands;
      picture = c.copy_from.ensures ∙ c.blank.ensures;
      changed = λ i lt. none-set (replicate 36 false) refl i;
    }
