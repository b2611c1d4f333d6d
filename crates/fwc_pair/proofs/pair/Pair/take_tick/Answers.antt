use Rattle.std.proofs.Common.{◌+◌, refl, sym, ap, ◌∙◌, subst}
use Rattle.ecam_spec.specs.declared.kinds.Event.TheVariants.{Tick}
use Rattle.ecam_spec.specs.History.{flags_with, begun}
use Rattle.book_model.specs.Sealed.{the_book}
use Rattle.fwc_pair.specs.PairState.{UpStand, PairFits}
use Rattle.fwc_pair.specs.PairVisits.{Visits}
use Rattle.fwc_pair.specs.declared.pair.Pair.{Pair}
use Rattle.fwc_pair.proofs.Fitting.{one-grows, two-grows}
use Rattle.fwc_pair.proofs.Pairs.{are-up, quiet-up, tick-faced, went-on}
use Rattle.fwc_pair.proofs.VisitSteps.{visits-are}
use Rattle.fwc_pair.proofs.pair.Pair.take_tick.Goals as goal

pub returns-clause-fits : goal.returns-clause-fits
unfolding PairFits
returns-clause-fits c = record {
  one = c.tick.ensures.fits;
  two = c.tick-2.ensures.fits;
  together = λ e f. c.tick-2.ensures.moments f ∙ ap (λ n. n + 1) (c.requires.fits.together e f) ∙ sym (c.tick.ensures.moments e);
  still = c.show.ensures.still;
}

pub returns-clause-stands : goal.returns-clause-stands
unfolding UpStand flags_with
returns-clause-stands c = λ h st.
    let b = the_book c.args.book.now in
    let old = c.args.self.now in
    let new : Pair = record old { one = c.tick.new.lane; two = c.tick-2.new.lane; face = c.show.new.face; changed = c.show.new.changed; still = c.show.new.still } in
    let up = quiet-up b h Tick old refl st.up in
    let here = are-up h Tick old.one_up old.two_up st.flags in
    let first = c.tick.ensures.stands (begun h Tick) here up.one in
    let second = c.tick-2.ensures.stands (begun h Tick) here up.two in
    went-on b h Tick old new st (returns-clause-fits c) refl first second
    (tick-faced b h old new st refl first second (record { one = c.show.ensures.one; two = c.show.ensures.two; neither = c.show.ensures.dead }))

pub returns-clause-visits : goal.returns-clause-visits
unfolding UpStand flags_with
returns-clause-visits c = λ h st.
    let b = the_book c.args.book.now in
    let old = c.args.self.now in
    let up = quiet-up b h Tick old refl st.up in
    let here = are-up h Tick old.one_up old.two_up st.flags in (
      subst (λ n. Visits old.one_up n old.one c.tick.new.lane) (visits-are b h) (c.tick.ensures.visits (begun h Tick) here up.one),
      subst (λ n. Visits old.two_up n old.two c.tick-2.new.lane) (visits-are b h) (c.tick-2.ensures.visits (begun h Tick) here up.two),
    )

pub show-requires-clause-one : goal.show-requires-clause-one
show-requires-clause-one c = λ calm. (c.tick.ensures.fits.calm calm).changed

pub show-requires-clause-two : goal.show-requires-clause-two
show-requires-clause-two c = λ calm. (c.tick-2.ensures.fits.calm calm).changed

pub tick-requires-clause-goes_on : goal.tick-requires-clause-goes_on
tick-requires-clause-goes_on c = λ on. one-grows c.args.self.now c.requires.moments on

pub tick-requires-2-clause-goes_on : goal.tick-requires-2-clause-goes_on
unfolding PairFits
tick-requires-2-clause-goes_on c = λ on. two-grows c.args.self.now c.requires.moments c.requires.fits.together on

pub tick-requires-clause-fits : goal.tick-requires-clause-fits
unfolding PairFits
tick-requires-clause-fits c = c.requires.fits.one

pub tick-requires-2-clause-fits : goal.tick-requires-2-clause-fits
unfolding PairFits
tick-requires-2-clause-fits c = c.requires.fits.two
