use Rattle.std.proofs.Common.{◌∷◌, [], ◌++◌, sym, ap, ◌∙◌, subst}
use Rattle.ecam_spec.specs.History.{flags_with, begun}
use Rattle.book_model.specs.Sealed.{the_book}
use Rattle.fwc_pair.specs.PairState.{UpStand, PairFits, PairStands}
use Rattle.fwc_pair.specs.declared.pair.Pair.{Pair}
use Rattle.fwc_pair.proofs.Pairs.{are-up, still-faced, went-on, ended}
use Rattle.fwc_pair.proofs.pair.Pair.take_other.Goals as goal

pub returns-clause-fits : goal.returns-clause-fits
unfolding PairFits
returns-clause-fits c = record {
  one = c.step.ensures.fits;
  two = c.step-2.ensures.fits;
  together = λ e f. c.step-2.ensures.moments ∙ c.note_health.ensures.fits.together e f ∙ sym c.step.ensures.moments;
  still = c.note_health.ensures.fits.still;
}

pub returns-clause-stands : goal.returns-clause-stands
unfolding UpStand
returns-clause-stands c = λ h st.
    let b = the_book c.args.book.now in
    let x = c.args.event.now in
    let old = c.args.self.now in
    let mid = c.note_health.new.self in
    let new : Pair = record mid { one = c.step.new.lane; two = c.step-2.new.lane } in
    let up = c.note_health.ensures.stands h st.flags st.up in
    let flags = c.note_health.ensures.flags in
    let here = are-up h x mid.one_up mid.two_up (flags ∙ ap (λ f. flags_with f x) st.flags) in
    went-on b h x old new st (returns-clause-fits c) flags (c.step.ensures.stands (begun h x) here up.one) (c.step-2.ensures.stands (begun h x) here up.two)
    (still-faced b h x old new st c.requires.quiet c.note_health.ensures.face c.note_health.ensures.changed)

pub returns-clause-end : goal.returns-clause-end
returns-clause-end c = λ is h st.
    let b = the_book c.args.book.now in
    let new : Pair = record c.note_health.new.self { one = c.step.new.lane; two = c.step-2.new.lane } in
    ended b h new (subst (λ x. PairStands b (h ++ x ∷ []) new) is (returns-clause-stands c h st))

pub returns-clause-unvisited : goal.returns-clause-unvisited
returns-clause-unvisited c = (c.step.ensures.unvisited ∙ c.note_health.ensures.unvisited.0, c.step-2.ensures.unvisited ∙ c.note_health.ensures.unvisited.1)

pub step-requires-clause-fits : goal.step-requires-clause-fits
unfolding PairFits
step-requires-clause-fits c = c.note_health.ensures.fits.one

pub step-requires-2-clause-fits : goal.step-requires-2-clause-fits
unfolding PairFits
step-requires-2-clause-fits c = c.note_health.ensures.fits.two
