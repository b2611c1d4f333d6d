use Rattle.std.proofs.Common.{◌≡◌, ◌<◌, true, false, length, refl, sym, ap, subst, ◌∙◌, arith}
use Rattle.ecam_spec.specs.History.{none_up, flags_after}
use Rattle.book_model.specs.Sealed.{the_book}
use Rattle.book_model.proofs.BookLists.{many-alerts}
use Rattle.fwc_lane.specs.LaneFits.{LaneFits}
use Rattle.fwc_pair.proofs.Fitting.{either-fits}
use Rattle.fwc_pair.proofs.Pairs.{some-up}
use Rattle.fwc_pair.proofs.Stood.{standing-by, dead-standing}
use Rattle.fwc_pair.specs.PairState.{PairFits}
use Rattle.fwc_pair.proofs.pair.Pair.standing.Goals as goal

pub returns-in-Some : goal.returns-in-Some
returns-in-Some c = λ h st.
    let b = the_book c.args.book.now in
    let up : none_up (flags_after h) ≡ false = ap none_up (sym st.flags) ∙ some-up c.args.self.now (λ none. let e : true ≡ false = c.in-Some.ensures.none.1 none in let w : ⊥ = cc in w) in
    let within : c.args.alert < length (the_book c.args.book.now).alerts = omega (arith, c.requires.alert, many-alerts c.args.book.now) in
    standing-by b h c.in-Some.lane.now c.args.alert c.standing_by.result up (c.in-Some.ensures.stands b h st) within c.standing_by.ensures.told c.standing_by.ensures.quiet

pub returns-in-None : goal.returns-in-None
returns-in-None c = λ h st. dead-standing (the_book c.args.book.now) h c.args.alert (ap none_up (sym st.flags) ∙ c.in-None.ensures.none.0 refl)

pub standing_by-requires-clause-fits : goal.standing_by-requires-clause-fits
unfolding PairFits
standing_by-requires-clause-fits c =
    let b = the_book c.args.book.now in
    let p = c.args.self.now in
    subst (LaneFits b) (sym c.in-Some.ensures.first) (either-fits b p.one_up p.one p.two c.requires.fits.one c.requires.fits.two)
