use Rattle.std.proofs.Common.{suc, ◌+◌, slice_get, Some, refl, ◌∙◌, ap}
use Rattle.std.specs.Box.{boxed_slice_items}
use Rattle.attention.proofs.StandsOn.{stands-next}
use Rattle.attention.proofs.Resting.{watch-rests, callers-rest, calls-rest}
use Rattle.attention.proofs.state.Attention.rest.Goals as goal

pub returns-clause-fits : goal.returns-clause-fits
returns-clause-fits c = λ b fits.
    rw (c.hear.ensures.watches, c.hear.ensures.still_open, c.hear.ensures.looked, c.hear.ensures.callers, c.hear.ensures.calls) fits

pub returns-clause-stands : goal.returns-clause-stands
returns-clause-stands c = λ b a k nothing stands.
    stands-next b a (suc k) c.args.self.now c.hear.new.self stands c.hear.ensures.changed
    (returns-clause-fits c b stands.fits)
    (c.hear.ensures.moments ∙ ap (λ n. n + 1) stands.moments)
    (λ i h. ap (λ ws. slice_get (boxed_slice_items ws) i) c.hear.ensures.watches ∙ stands.watches i h ∙ ap Some (watch-rests a k nothing i))
    (rw c.hear.ensures.callers (callers-rest a k nothing _ c.args.self.now.callers (stands.callers k refl)))
    (rw c.hear.ensures.calls (calls-rest a k nothing c.args.self.now.calls (stands.calls k refl)))
