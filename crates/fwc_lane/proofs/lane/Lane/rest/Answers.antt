use Rattle.std.proofs.Common.{◌≡◌, Bool, true, false, not, length, refl, sym, ap, ◌∙◌, arith}
use Rattle.book_model.specs.Sealed.{the_book}
use Rattle.wakes.specs.Marks.{is_marked}
use Rattle.fwc_lane.proofs.lane.Lane.rest.Goals.{then-is_steady, else-is_steady}
use Rattle.fwc_lane.proofs.TermsKept.{terms-with}
use Rattle.fwc_lane.proofs.Resting.{rest-whole, rest-visits}
use Rattle.fwc_lane.proofs.lane.Lane.rest.Goals as goal

-- what doesn't hold is false
off-where : (b : Bool) → not b ≡ true → b ≡ false
off-where false e = refl
off-where true e = absurd (let no : ⊥ = (let clash : false ≡ true = e in cc) in no)

pub returns-clause-fits : goal.returns-clause-fits
returns-clause-fits c =
    let b = the_book c.args.book.now in
    let old = c.args.self.now in
    let fits = c.requires.fits in
    let calm = c.requires.rest.calm in
    record {
      params = c.tick.ensures.fits;
      truths = c.settle.ensures.fits;
      marks = c.rest-2.ensures.fits b fits.marks;
      attention = c.pass.ensures.fits b fits.attention;
      selector = c.rest-3.ensures.fits b fits.selector;
      values = fits.values;
      short = fits.short;
      terms = terms-with b old.terms c.pass-2.new.self old.terms.keys old.terms.one_up old.terms.two_up fits.terms (ap length c.pass-2.ensures);
      lines = fits.lines;
      memos = fits.memos;
      status_lines = fits.status_lines;
      truths_moments = omega (arith, c.settle.ensures.moments, fits.truths_moments);
      marks_moments = omega (arith, c.rest-2.ensures.moments, fits.marks_moments);
      attention_moments = omega (arith, c.pass.ensures.moments, fits.attention_moments);
      selector_moments = omega (arith, c.rest-3.ensures.moments, fits.selector_moments);
      calm = λ on. record {
        ticked = calm.ticked;
        restless = λ a. ap (λ s. is_marked s a) c.settle.ensures.restless ∙ calm.restless a;
        steady = c.pass.ensures.steady;
        normal = c.rest-2.ensures.normal calm.normal;
        changed = calm.changed;
      };
      idle = λ on. elim c.if-is_steady.branch [
        | then-is_steady w ↦ record {
          calm = record {
            ticked = calm.ticked;
            restless = λ a. ap (λ s. is_marked s a) c.settle.ensures.restless ∙ calm.restless a;
            steady = c.pass.ensures.steady;
            normal = c.rest-2.ensures.normal calm.normal;
            changed = calm.changed;
          };
          pressed = c.requires.rest.pressed;
          rcl = c.requires.rest.rcl;
          all = c.requires.rest.all;
          before = c.requires.rest.before;
          phase = c.is_steady.ensures.phase w.if-is_steady.true;
          state = c.is_steady.ensures.stands w.if-is_steady.true;
          changing = c.settle.ensures.changing;
          changed = sym w.changed.ensures.value ∙ off-where w.changed.result (sym w.self-is ∙ on);
          marks = c.rest-2.ensures.settled;
          lights = c.pass.ensures.changed;
          all_since = c.rest-3.ensures.all_since;
          choice = c.rest-3.ensures.changed;
        }
        | else-is_steady w ↦ absurd (let no : ⊥ = (let clash : false ≡ true = sym w.if-is_steady.false ∙ (sym w.self-is ∙ on) in cc) in no)
      ];
    }

pub returns-clause-whole : goal.returns-clause-whole
returns-clause-whole c = λ m came was.
    rw c.pass-2.ensures (rest-whole c.args.book.now c.sealed.ensures m c.args.self.now c.requires.fits c.requires.goes_on c.requires.rest c.requires.phase c.requires.values came was
    c.rest.new.self c.settle.new.self c.rest-2.new.self c.pass.new.self c.rest-3.new.self
    (record {
      phased = c.rest.ensures;
      settled = c.settle.ensures.stands;
      truths_changed = c.settle.ensures.changed;
      marked = c.rest-2.ensures.stands;
      sets = c.rest-2.ensures.sets;
      normal = c.rest-2.ensures.normal;
      lit = c.pass.ensures.stands;
      lights_changed = c.pass.ensures.changed;
      selected = c.rest-3.ensures.stands;
      selector_changed = c.rest-3.ensures.changed;
    })
    c.tick.new.self c.args.self.now.keys c.if-is_steady.self c.whole.ensures)

pub returns-clause-visits : goal.returns-clause-visits
returns-clause-visits c = λ m came was.
    rest-visits c.args.book.now c.sealed.ensures m c.args.self.now c.requires.fits c.requires.goes_on c.requires.rest c.requires.phase c.requires.values came was
