use Rattle.std.proofs.Common.{refl}
use Rattle.book_model.specs.Sealed.{the_book}
use Rattle.fwc_lane.proofs.Lanes.{tick-lane, tick-visits}
use Rattle.fwc_lane.proofs.Ticks.{came-with}
use Rattle.fwc_lane.proofs.lane.Lane.tick.Goals as goal

pub returns-then-idles-clause-stands : goal.returns-then-idles-clause-stands
returns-then-idles-clause-stands c = λ e up stands.
    let b = the_book c.args.book.now in
    let old = c.args.self.now in
    tick-lane b e c.args.one_up c.args.two_up up old c.pass.new.self stands
    (record {
      params = c.pass.ensures.params;
      keys = c.pass.ensures.keys;
      whole = λ m came was.
          c.pass.ensures.whole m (came-with b m old.moments old.params old.keys _ _ _ _ (c.if-idles.ensures.one_up refl) (c.if-idles.ensures.two_up refl) came) was;
    })
    c.pass.ensures.fits

pub returns-then-idles-clause-visits : goal.returns-then-idles-clause-visits
returns-then-idles-clause-visits c = λ e up stands.
    let b = the_book c.args.book.now in
    let old = c.args.self.now in
    tick-visits b e c.args.one_up c.args.two_up up old c.pass.new.self stands
    (record {
      params = c.pass.ensures.params;
      keys = c.pass.ensures.keys;
      whole = λ m came was.
          c.pass.ensures.whole m (came-with b m old.moments old.params old.keys _ _ _ _ (c.if-idles.ensures.one_up refl) (c.if-idles.ensures.two_up refl) came) was;
    })
    (λ m came was.
    c.pass.ensures.visits m (came-with b m old.moments old.params old.keys _ _ _ _ (c.if-idles.ensures.one_up refl) (c.if-idles.ensures.two_up refl) came) was)

pub returns-clause-stands : goal.returns-clause-stands
returns-clause-stands c = λ e up stands.
    tick-lane (the_book c.args.book.now) e c.args.one_up c.args.two_up up c.args.self.now c.rest_or_step.new.self stands
    (record { params = c.rest_or_step.ensures.params; keys = c.rest_or_step.ensures.keys; whole = c.rest_or_step.ensures.whole }) c.rest_or_step.ensures.fits

pub returns-clause-visits : goal.returns-clause-visits
returns-clause-visits c = λ e up stands.
    tick-visits (the_book c.args.book.now) e c.args.one_up c.args.two_up up c.args.self.now c.rest_or_step.new.self stands
    (record { params = c.rest_or_step.ensures.params; keys = c.rest_or_step.ensures.keys; whole = c.rest_or_step.ensures.whole }) c.rest_or_step.ensures.visits
