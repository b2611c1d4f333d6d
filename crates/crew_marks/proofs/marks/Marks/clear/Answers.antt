use Rattle.std.proofs.Common.{replicate, false, refl, ◌∙◌, ap}
use Rattle.crew_marks.proofs.Stepping.{blank-fits, blank-stands}
use Rattle.crew_marks.proofs.marks.Marks.clear.Goals as goal

pub returns-clause-fits : goal.returns-clause-fits
returns-clause-fits c = rw (← c.self.view_is) (λ b fits.
    blank-fits b _
    (record {
      order = c.clear.ensures.order ∙ fits.ordered;
      cleared = c.clear.ensures.cleared ∙ ap (λ n. replicate n false) fits.many.cleared;
      cancelled = c.clear.ensures.cancelled ∙ ap (λ n. replicate n false) fits.many.cancelled;
      recalled = c.clear.ensures.recalled ∙ ap (λ n. replicate n false) fits.many.recalled;
      shown = c.clear.ensures.shown ∙ ap (λ n. replicate n false) fits.many.shown;
      target = refl;
      first = refl;
      moments = refl;
      held_since = refl;
      quiet_press = refl;
    }))

pub returns-clause-stands : goal.returns-clause-stands
returns-clause-stands c = rw (← c.self.view_is) (λ b cockpit fits.
    blank-stands b _
    (record {
      order = c.clear.ensures.order ∙ fits.ordered;
      cleared = c.clear.ensures.cleared ∙ ap (λ n. replicate n false) fits.many.cleared;
      cancelled = c.clear.ensures.cancelled ∙ ap (λ n. replicate n false) fits.many.cancelled;
      recalled = c.clear.ensures.recalled ∙ ap (λ n. replicate n false) fits.many.recalled;
      shown = c.clear.ensures.shown ∙ ap (λ n. replicate n false) fits.many.shown;
      target = refl;
      first = refl;
      moments = refl;
      held_since = refl;
      quiet_press = refl;
    }) cockpit)
