use Rattle.std.proofs.Common.{◌≡◌, true, false, length, refl, sym, ◌∙◌, ap, arith}
use Rattle.book_model.specs.Sealed.{the_book}
use Rattle.book_model.proofs.BookLists.{many-alerts}
use Rattle.attention.proofs.StandsOn.{fits-looked, stands-looked}
use Rattle.attention.proofs.state.Attention.step.Goals as goal

pub mark_all-requires : goal.mark_all-requires
mark_all-requires c =
    omega (arith, ap length c.alerts.ensures.value, c.requires.fits.looked_room, many-alerts c.args.book.now)

pub step_looked-requires-clause-fits : goal.step_looked-requires-clause-fits
step_looked-requires-clause-fits c = fits-looked _ _ _ c.args.self.now.looked _ _ _ c.mark_all.ensures.room c.requires.fits

pub returns-clause-stands : goal.returns-clause-stands
returns-clause-stands c = λ a k own brings stands.
    let b = the_book c.args.book.now in
    c.step_looked.ensures.stands a k own brings
    (λ i h off.
    let all = c.mark_all.ensures.marks i (omega (arith, h, ap length c.alerts.ensures.value, many-alerts c.args.book.now)) in
    absurd (let clash : true ≡ false = sym all ∙ off in cc))
    (stands-looked b a k c.args.self.now _ (fits-looked _ _ _ c.args.self.now.looked _ _ _ c.mark_all.ensures.room c.requires.fits)
    refl refl refl refl refl stands)
