use Rattle.std.proofs.Common.{◌≡◌, suc, inl, inr, sym, ◌∙◌, ap}
use Rattle.flight_phases.specs.declared.climb.Climb.TheVariants.{Below}
use Rattle.flight_phases.proofs.Climbing.{climb-high, climb-unmarked, begins-go_around, climb-low, lowered}
use Rattle.flight_phases.proofs.climb.Climb.next.Goals as goal

pub returns-then-inputs : goal.returns-then-inputs
returns-then-inputs c = λ f k before is air inputs. sym (climb-high f (suc k) (sym inputs.high ∙ c.if-inputs.true))

pub returns-then-not-inputs : goal.returns-then-not-inputs
returns-then-not-inputs c = λ f k before is air inputs.
    is ∙ sym (climb-unmarked f k before (sym inputs.high ∙ c.if-inputs.false) (sym inputs.low ∙ c.if-not-inputs.true))

pub returns-then-inputs-2 : goal.returns-then-inputs-2
returns-then-inputs-2 c = λ f k before is air inputs.
    let begins = begins-go_around f (suc k) air (sym inputs.high ∙ c.if-inputs.false) (sym inputs.low ∙ c.if-not-inputs.false) (sym inputs.tp ∙ c.if-inputs-2.true) in
    c.first.ensures f (suc k) begins inputs

pub returns-in-Initial : goal.returns-in-Initial
returns-in-Initial c = λ f k before is air inputs.
    ap lowered (sym c.in-Initial.is ∙ is)
    ∙ sym (climb-low f k before (sym inputs.high ∙ c.if-inputs.false) (sym inputs.low ∙ c.if-not-inputs.false) (sym inputs.tp ∙ c.if-inputs-2.false))

pub returns-in-Above : goal.returns-in-Above
returns-in-Above c = λ f k before is air inputs.
    let now = climb-low f k before (sym inputs.high ∙ c.if-inputs.false) (sym inputs.low ∙ c.if-not-inputs.false) (sym inputs.tp ∙ c.if-inputs-2.false) in
    let below : lowered c.args.self ≡ Below = elim c.in-Above.is [ inl above ↦ ap lowered above | inr was ↦ ap lowered was ] in
    sym below ∙ ap lowered is ∙ sym now
