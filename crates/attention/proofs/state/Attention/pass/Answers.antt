use Rattle.std.proofs.Common.{suc, ◌+◌, Some, refl, ◌∙◌, ap}
use Rattle.attention.proofs.StandsOn.{stands-next}
use Rattle.attention.proofs.Resting.{watch-rests, callers-rest, calls-rest}
use Rattle.attention.proofs.Steady.{steady-on, steady-tells}
use Rattle.attention.proofs.state.Attention.pass.Goals as goal

pub returns-clause-steady : goal.returns-clause-steady
returns-clause-steady c = steady-on c.args.self.now.calls c.args.self.now.moments c.requires.steady

pub returns-clause-stands : goal.returns-clause-stands
returns-clause-stands c = λ b a k nothing stands.
    stands-next b a (suc k) c.args.self.now _ stands (steady-tells c.args.self.now _ refl refl c.requires.steady refl)
    stands.fits
    (ap (λ n. n + 1) stands.moments)
    (λ i h. stands.watches i h ∙ ap Some (watch-rests a k nothing i))
    (callers-rest a k nothing _ c.args.self.now.callers (stands.callers k refl))
    (calls-rest a k nothing c.args.self.now.calls (stands.calls k refl))
