use Rattle.std.proofs.Common.{sym, ◌∙◌}
use Rattle.flight_phases.proofs.Climbing.{climb-high, climb-begins}
use Rattle.flight_phases.proofs.climb.Climb.first.Goals as goal

pub returns-else-not-inputs : goal.returns-else-not-inputs
returns-else-not-inputs c = λ f k begins inputs. sym (climb-high f k (sym inputs.high ∙ c.if-not-inputs.false))

pub returns-then-not-inputs : goal.returns-then-not-inputs
returns-then-not-inputs c = λ f k begins inputs. sym (climb-begins f k begins (sym inputs.high ∙ c.if-not-inputs.true))
