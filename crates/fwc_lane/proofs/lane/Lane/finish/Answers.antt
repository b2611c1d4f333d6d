use Rattle.std.proofs.Common.{◌≡◌, ◌<◌, ℕ, suc, true, false, length, get_or, None, refl, sym, ap, ◌∙◌, arith, add-one}
use Rattle.std.proofs.lemmas.Bool.{lt-ltb}
use Rattle.ecam_spec.specs.BookTerms.{lines_of}
use Rattle.ecam_spec.specs.Term.{holds}
use Rattle.ecam_spec.specs.Situation.{words_in, value_in, phase_in, world}
use Rattle.ecam_spec.specs.Screen.{cockpit, line_stands}
use Rattle.book_model.specs.Told.{TellsOf}
use Rattle.book_model.specs.Sealed.{the_book}
use Rattle.book_model.proofs.BookLists.{many-parameters, many-alerts}
use Rattle.fwc_lane.specs.Scenes.{AreTurned}
use Rattle.fwc_lane.proofs.TermsKept.{terms-with}
use Rattle.fwc_lane.proofs.Ticks.{of-last, are-turned, value-kept, lends-from, values-before, terms-after}
use Rattle.fwc_lane.proofs.lane.Lane.finish.Goals as goal

pub step_conditions-stepped-requires-clause-values : goal.step_conditions-stepped-requires-clause-values
step_conditions-stepped-requires-clause-values c = ap length c.deref.ensures.value ∙ c.requires.fits.values ∙ many-parameters c.args.book.now

pub step_conditions-stepped-requires-clause-shown : goal.step_conditions-stepped-requires-clause-shown
step_conditions-stepped-requires-clause-shown c = ap length c.shown.ensures ∙ c.requires.fits.marks.many.shown ∙ many-alerts c.args.book.now

pub returns-clause-fits : goal.returns-clause-fits
returns-clause-fits c =
    let b = the_book c.args.book.now in
    let fits = c.requires.fits in
    let terms = c.step_conditions-stepped.new.terms in
    record {
      params = c.tick.ensures.fits;
      truths = c.step_conditions-stepped.ensures.truths;
      marks = c.step_crew.ensures.marks;
      attention = c.step_crew.ensures.attention;
      selector = c.step_crew.ensures.selector;
      values = fits.values;
      short = fits.short;
      terms = terms-with b terms terms.dues c.follow.new.self c.args.one_up c.args.two_up c.step_conditions-stepped.ensures.terms refl;
      lines = c.step_conditions-stepped.ensures.lines ∙ fits.lines;
      memos = c.step_conditions-stepped.ensures.memos ∙ fits.memos;
      status_lines = fits.status_lines;
      truths_moments = omega (arith, c.step_conditions-stepped.ensures.moments, fits.truths_moments);
      marks_moments = omega (arith, c.step_crew.ensures.marks_moments, fits.marks_moments);
      attention_moments = omega (arith, c.step_crew.ensures.attention_moments, fits.attention_moments);
      selector_moments = omega (arith, c.step_crew.ensures.selector_moments, fits.selector_moments);
      calm = λ on. record {
        ticked = refl;
        restless = c.leaves_calm-self.ensures.restless on;
        steady = c.leaves_calm-self.ensures.steady on;
        normal = c.leaves_calm-self.ensures.normal on;
        changed = c.leaves_calm-self.ensures.changed on;
      };
      idle = λ on. absurd (let no : ⊥ = (let clash : false ≡ true = sym c.requires.idle ∙ on in cc) in no);
    }

pub returns-clause-whole : goal.returns-clause-whole
returns-clause-whole c = λ m visited begun.
    let b = the_book c.args.book.now in
    let k = c.args.self.now.moments in
    let all = c.requires.fits.values in
    let told : k ≡ 0 → (i : ℕ) → i < length c.deref.result.now → get_or c.deref.result.now i None ≡ value_in b m i k =
    λ e i lt. ap (λ vs. get_or vs i None) c.deref.ensures.value ∙ begun.all e i (omega (arith, ap length c.deref.ensures.value, all)) in
    let stepped = c.step_conditions-stepped.ensures.stands m visited (lends-from b m k _ _ _ _ _ _ c.args.self.now.params c.args.self.now.keys c.keys.ensures begun.came told) (record { terms = begun.terms; phases = begun.phases; truths = begun.truths; was = begun.phase; lines = begun.lines; memos = begun.memos }) in
    let phase = c.step_conditions-stepped.ensures.phase m visited (lends-from b m k _ _ _ _ _ _ c.args.self.now.params c.args.self.now.keys c.keys.ensures begun.came told) (record { terms = begun.terms; phases = begun.phases; truths = begun.truths; was = begun.phase; lines = begun.lines; memos = begun.memos }) in
    let lines = c.step_conditions-stepped.ensures.line_flags m visited (lends-from b m k _ _ _ _ _ _ c.args.self.now.params c.args.self.now.keys c.keys.ensures begun.came told) (record { terms = begun.terms; phases = begun.phases; truths = begun.truths; was = begun.phase; lines = begun.lines; memos = begun.memos }) in
    let memos = c.step_conditions-stepped.ensures.memo_flags m visited (lends-from b m k _ _ _ _ _ _ c.args.self.now.params c.args.self.now.keys c.keys.ensures begun.came told) (record { terms = begun.terms; phases = begun.phases; truths = begun.truths; was = begun.phase; lines = begun.lines; memos = begun.memos }) in
    let enters = c.enters_one.ensures b m k begun.ticked phase begun.phase in
    let crew = c.step_crew.ensures.stands m k stepped.truths begun.came.strokes enters (record { marks = begun.marks; lights = begun.attention; selection = begun.selector }) in
    let turned : AreTurned b m k c.of-turned.result =
    are-turned b m k visited c.args.one_up c.args.two_up c.args.self.now c.of-turned.result c.step_conditions-stepped.result.phase c.args.values c.step_conditions-stepped.new.lines.items c.step_conditions-stepped.new.memos.items
    c.step_crew.new.marks c.normal-normal.result c.normal.result begun (record {
      first = c.of-turned.ensures.first;
      phase_kept = c.of-turned.ensures.phase;
      values = c.of-turned.ensures.values;
      lines_kept = λ off a n on has. c.step_conditions-stepped.ensures.lines_kept (sym c.of-turned.ensures.lines ∙ off) a n (ap (λ fs. get_or fs a false) c.shown.ensures ∙ on) has;
      memos_kept = λ off. c.step_conditions-stepped.ensures.memos_kept (sym c.of-turned.ensures.memos ∙ off);
      marks_kept = λ off. c.step_crew.ensures.kept (sym c.changed.ensures ∙ sym c.of-turned.ensures.marks ∙ off);
      normal_kept = c.of-turned.ensures.normal;
      phase_is = phase;
      lines_are = lines;
      memos_are = memos;
      marks_are = crew.marks;
      was_is = c.normal-normal.ensures.answer b (cockpit b m) k begun.marks;
      calm_is = c.normal.ensures.answer b (cockpit b m) (suc k) crew.marks;
    }) in
    record {
      counted = add-one k;
      ticked = sym (lt-ltb 0 (suc k) (omega arith));
      terms = terms-after b m k visited c.step_conditions-stepped.new.terms c.args.self.now.params c.args.self.now.keys c.follow.new.self c.args.one_up c.args.two_up c.follow.ensures stepped.terms begun.came;
      phases = stepped.phases;
      truths = stepped.truths;
      marks = crew.marks;
      attention = crew.lights;
      selector = crew.selection;
      phase = of-last (λ j. c.step_conditions-stepped.result.phase.number ≡ phase_in b m j) k phase;
      values = values-before b m k c.args.self.now.values.items begun.values;
      lines = of-last (λ j. TellsOf c.step_conditions-stepped.new.lines.items (lines_of b.alerts) (line_stands b m j)) k lines;
      memos = of-last (λ j. TellsOf c.step_conditions-stepped.new.memos.items b.memos (λ x. holds (world b m) x.when j)) k memos;
      drawn = c.draw.ensures.drawn m k (record {
        phase = phase;
        values = λ p lt on. ap (λ vs. get_or vs p None) c.deref-2.ensures.value ∙ begun.values p lt on;
        lines = λ i l is. ap (λ fs. get_or fs i false) c.deref-3.ensures.value ∙ lines i l is;
        memos = λ i x is. ap (λ fs. get_or fs i false) c.deref-4.ensures.value ∙ memos i x is;
        turned = λ j e p lt on off. value-kept b m k j e p (c.changed-2.ensures.same b (words_in b m) k begun.came.words p lt off on);
        truths = stepped.truths;
        marks = crew.marks;
        attention = crew.lights;
        selector = crew.selection;
      }) turned begun.drawn;
      changed = c.draw.ensures.changed m k (record {
        phase = phase;
        values = λ p lt on. ap (λ vs. get_or vs p None) c.deref-2.ensures.value ∙ begun.values p lt on;
        lines = λ i l is. ap (λ fs. get_or fs i false) c.deref-3.ensures.value ∙ lines i l is;
        memos = λ i x is. ap (λ fs. get_or fs i false) c.deref-4.ensures.value ∙ memos i x is;
        turned = λ j e p lt on off. value-kept b m k j e p (c.changed-2.ensures.same b (words_in b m) k begun.came.words p lt off on);
        truths = stepped.truths;
        marks = crew.marks;
        attention = crew.lights;
        selector = crew.selection;
      }) turned begun.drawn;
    }

pub returns-clause-visits : goal.returns-clause-visits
returns-clause-visits c = λ m visited begun.
    let b = the_book c.args.book.now in
    let k = c.args.self.now.moments in
    let all = c.requires.fits.values in
    let told : k ≡ 0 → (i : ℕ) → i < length c.deref.result.now → get_or c.deref.result.now i None ≡ value_in b m i k =
    λ e i lt. ap (λ vs. get_or vs i None) c.deref.ensures.value ∙ begun.all e i (omega (arith, ap length c.deref.ensures.value, all)) in
    let stepped = c.step_conditions-stepped.ensures.stands m visited (lends-from b m k _ _ _ _ _ _ c.args.self.now.params c.args.self.now.keys c.keys.ensures begun.came told) (record { terms = begun.terms; phases = begun.phases; truths = begun.truths; was = begun.phase; lines = begun.lines; memos = begun.memos }) in
    stepped.terms.counted
