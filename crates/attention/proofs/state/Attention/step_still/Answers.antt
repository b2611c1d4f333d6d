use Rattle.std.proofs.Common.{refl, ◌∙◌}
use Rattle.book_model.specs.Sealed.{the_book}
use Rattle.attention.proofs.StandsOn.{fits-looked, stands-looked}
use Rattle.attention.proofs.Resting.{still-rests, still-stays, none-pressed-of}
use Rattle.attention.proofs.state.Attention.step_still.Goals as goal

pub step_looked-requires-clause-fits : goal.step_looked-requires-clause-fits
step_looked-requires-clause-fits c = fits-looked _ _ _ c.args.self.now.looked _ _ _ c.clear.ensures.room c.requires.fits

pub returns-then-any-clause-stands : goal.returns-then-any-clause-stands
returns-then-any-clause-stands c = λ a k own brings still stands.
    let b = the_book c.args.book.now in
    c.step_looked.ensures.stands a k own brings (λ i h off. (λ e. c.if-self-eq0.false (stands.moments ∙ e), still-stays a k i still))
    (stands-looked b a k c.args.self.now _ (fits-looked _ _ _ c.args.self.now.looked _ _ _ c.clear.ensures.room c.requires.fits)
    refl refl refl refl refl stands)

pub returns-clause-stands : goal.returns-clause-stands
returns-clause-stands c = λ a k own brings still stands.
    let b = the_book c.args.book.now in
    let off = none-pressed-of a k c.among-presses.result c.any.result
    (record { mw = c.among-presses.ensures.mw ∙ brings.mw; mc = c.among-presses.ensures.mc ∙ brings.mc; emer = c.among-presses.ensures.emer ∙ brings.emer }) c.any.ensures c.if-any.false in
    still-rests b a k c.args.self.now c.rest.new.self (λ e. c.if-self-eq0.false e) still off.0 off.1 off.2 (c.rest.ensures.stands b a) stands
