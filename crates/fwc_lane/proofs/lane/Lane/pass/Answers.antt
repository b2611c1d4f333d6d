use Rattle.std.proofs.Common.{length, ap, ◌∙◌, arith}
use Rattle.book_model.specs.Sealed.{the_book}
use Rattle.wakes.specs.Marks.{is_marked}
use Rattle.fwc_lane.proofs.TermsKept.{terms-with}
use Rattle.fwc_lane.proofs.Resting.{rest-whole, rest-visits}
use Rattle.fwc_lane.proofs.lane.Lane.pass.Goals as goal

pub returns-clause-fits : goal.returns-clause-fits
returns-clause-fits c =
    let b = the_book c.args.book.now in
    let old = c.args.self.now in
    let fits = c.requires.fits in
    let calm = c.requires.rest.calm in
    let idle = c.requires.idle in
    record {
      params = c.pass-5.ensures.fits;
      truths = c.pass.ensures.fits;
      marks = c.pass-2.ensures.fits b fits.marks;
      attention = c.go_on.ensures.fits b fits.attention;
      selector = c.pass-3.ensures.fits b fits.selector;
      values = fits.values;
      short = fits.short;
      terms = terms-with b old.terms c.pass-4.new.self old.terms.keys old.terms.one_up old.terms.two_up fits.terms (ap length c.pass-4.ensures);
      lines = fits.lines;
      memos = fits.memos;
      status_lines = fits.status_lines;
      truths_moments = omega (arith, c.pass.ensures.moments, fits.truths_moments);
      marks_moments = omega (arith, c.pass-2.ensures.moments, fits.marks_moments);
      attention_moments = omega (arith, c.go_on.ensures.moments, fits.attention_moments);
      selector_moments = omega (arith, c.pass-3.ensures.moments, fits.selector_moments);
      calm = λ on. record {
        ticked = calm.ticked;
        restless = λ a. ap (λ s. is_marked s a) c.pass.ensures.restless ∙ calm.restless a;
        steady = c.go_on.ensures.steady;
        normal = c.pass-2.ensures.normal calm.normal;
        changed = calm.changed;
      };
      idle = λ on. record {
        calm = record {
          ticked = calm.ticked;
          restless = λ a. ap (λ s. is_marked s a) c.pass.ensures.restless ∙ calm.restless a;
          steady = c.go_on.ensures.steady;
          normal = c.pass-2.ensures.normal calm.normal;
          changed = calm.changed;
        };
        pressed = idle.pressed;
        rcl = idle.rcl;
        all = idle.all;
        before = idle.before;
        phase = idle.phase;
        state = idle.state;
        changing = c.pass.ensures.changing;
        changed = c.pass.ensures.changed ∙ idle.changing;
        marks = c.pass-2.ensures.settled;
        lights = c.go_on.ensures.changed;
        all_since = c.pass-3.ensures.all_since;
        choice = c.pass-3.ensures.changed;
      };
    }

pub returns-clause-whole : goal.returns-clause-whole
returns-clause-whole c = λ m came was.
    let old = c.args.self.now in
    rw c.pass-4.ensures (rest-whole c.args.book.now c.sealed.ensures m old c.requires.fits c.requires.goes_on c.requires.rest c.requires.idle.phase c.requires.values came was
    old.phase_state c.pass.new.self c.pass-2.new.self c.go_on.new.self c.pass-3.new.self
    (record {
      phased = c.requires.idle.state;
      settled = c.pass.ensures.stands;
      truths_changed = c.pass.ensures.changed;
      marked = c.pass-2.ensures.stands;
      sets = c.pass-2.ensures.sets;
      normal = c.pass-2.ensures.normal;
      lit = c.go_on.ensures.stands;
      lights_changed = c.go_on.ensures.changed;
      selected = c.pass-3.ensures.stands;
      selector_changed = c.pass-3.ensures.changed;
    })
    c.pass-5.new.self old.keys old.idle c.whole.ensures)

pub returns-clause-visits : goal.returns-clause-visits
returns-clause-visits c = λ m came was.
    rest-visits c.args.book.now c.sealed.ensures m c.args.self.now c.requires.fits c.requires.goes_on c.requires.rest c.requires.idle.phase c.requires.values came was
