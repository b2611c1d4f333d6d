use Rattle.std.proofs.Common.{refl, sym, ◌∙◌, ap, arith}
use Rattle.book_model.specs.Sealed.{the_book}
use Rattle.book_model.proofs.BookLists.{many-alerts}
use Rattle.wakes.specs.Marks.{is_marked, room}
use Rattle.attention.proofs.StandsOn.{fits-looked, stands-looked}
use Rattle.attention.proofs.state.Attention.step_turned.Goals as goal

pub copy_from-requires : goal.copy_from-requires
copy_from-requires c = omega (arith, c.requires.turned_room, c.requires.fits.looked_room, many-alerts c.args.book.now)

pub step_looked-requires-clause-fits : goal.step_looked-requires-clause-fits
step_looked-requires-clause-fits c =
    fits-looked _ _ _ c.args.self.now.looked _ _ _
    (ap room c.copy_from.ensures ∙ omega (arith, c.requires.turned_room, c.requires.fits.looked_room, many-alerts c.args.book.now))
    c.requires.fits

pub returns-then-self-eq0-clause-stands : goal.returns-then-self-eq0-clause-stands
returns-then-self-eq0-clause-stands c = λ a k own brings stays stands. c.step.ensures.stands a k own brings stands

pub returns-clause-stands : goal.returns-clause-stands
returns-clause-stands c = λ a k own brings stays stands.
    let b = the_book c.args.book.now in
    c.step_looked.ensures.stands a k own brings
    (λ i h off. (λ e. c.if-self-eq0.false (stands.moments ∙ e), stays i h (sym (ap (λ m. is_marked m i) c.copy_from.ensures) ∙ off)))
    (stands-looked b a k c.args.self.now _
    (fits-looked _ _ _ c.args.self.now.looked _ _ _
    (ap room c.copy_from.ensures ∙ omega (arith, c.requires.turned_room, c.requires.fits.looked_room, many-alerts c.args.book.now))
    c.requires.fits)
    refl refl refl refl refl stands)
