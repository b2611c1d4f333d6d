use Rattle.std.proofs.Common.{[], ◌∷◌, ◌++◌, length, refl, sym, ◌∙◌, subst, arith}
use Rattle.ecam_spec.specs.declared.kinds.Event.TheVariants.{Tick}
use Rattle.ecam_spec.specs.History.{era}
use Rattle.ecam_spec.specs.Replay.{moment_of}
use Rattle.ecam_spec.specs.Situation.{value_in}
use Rattle.book_model.specs.Sealed.{the_book}
use Rattle.book_model.proofs.BookLists.{many-parameters}
use Rattle.fwc_lane.specs.LaneStands.{Continues}
use Rattle.callouts.specs.State.{CalloutsStand}
use Rattle.callouts.proofs.LastMoments.{up-kept, ended-count, stood, called-up, called-down, is-down, is-live}
use Rattle.callouts.proofs.state.Callouts.tick.Goals as goal

pub returns-in_err-lane-clause-call : goal.returns-in_err-lane-clause-call
returns-in_err-lane-clause-call c h pair stand =
    let b = the_book c.args.book.now in
    c.from_residual.ensures
    ∙ sym (called-down h b c.args.self.now.param (is-down h b c.args.pair.now pair (c.in_err-lane.ensures.none.0 refl)))

pub returns-in_err-lane-clause-stands : goal.returns-in_err-lane-clause-stands
returns-in_err-lane-clause-stands c h pair stand up =
    let b = the_book c.args.book.now in
    let down = is-down h b c.args.pair.now pair (c.in_err-lane.ensures.none.0 refl) in
    absurd (let same = sym up ∙ sym (up-kept h) ∙ down in cc)

pub returns-clause-call : goal.returns-clause-call
returns-clause-call c h pair stand =
    let b = the_book c.args.book.now in
    let up = is-live h b c.args.pair.now pair c.in_ok-lane.ensures.none.1 in
    let m = moment_of (era (h ++ Tick ∷ [])) in
    let goes : Continues (era (h ++ Tick ∷ [])) m = λ i lt. refl in
    c.step.ensures.call (value_in b m c.args.self.now.param) (length (era h).moments) (stood h b c.args.self.now stand up m goes)
    (c.value_in.ensures h (c.in_ok-lane.ensures.stands b (h ++ Tick ∷ []) pair) m goes)
    ∙ sym (called-up h b c.args.self.now.param up)

pub returns-clause-stands : goal.returns-clause-stands
returns-clause-stands c h pair stand up m goes =
    let b = the_book c.args.book.now in
    let param = c.args.self.now.param in
    let stands = c.step.ensures.stands (value_in b m param) (length (era h).moments)
    (stood h b c.args.self.now stand (up-kept h ∙ up) m goes)
    (c.value_in.ensures h (c.in_ok-lane.ensures.stands b (h ++ Tick ∷ []) pair) m goes) in
    let counted = subst (λ n. CalloutsStand (value_in b m param) n c.step.new.self) (sym (ended-count h)) stands in
    subst (λ p. CalloutsStand (value_in b m p) (length (era (h ++ Tick ∷ [])).moments) c.step.new.self) (sym c.step.ensures.param) counted

pub value_in-requires-clause-fits : goal.value_in-requires-clause-fits
value_in-requires-clause-fits c = (c.in_ok-lane.ensures.stands (the_book c.args.book.now) c.requires.pair.0 c.requires.pair.1).fits

pub value_in-requires-clause-param : goal.value_in-requires-clause-param
value_in-requires-clause-param c = omega (arith, c.requires.param, many-parameters c.args.book.now)
