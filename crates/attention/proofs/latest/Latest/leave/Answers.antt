use Rattle.std.proofs.Common.{◌≡◌, true, false, nat_eq, Some, refl, sym, ◌∙◌, ap}
use Rattle.std.specs.Option.{option_eq}
use Rattle.std.proofs.lemmas.Bool.{eq-eqb}
use Rattle.attention.proofs.Turning.{tells-left}
use Rattle.attention.proofs.latest.Latest.leave.Goals as goal

pub returns-else-eq : goal.returns-else-eq
returns-else-eq c = λ others ends tells.
    let o = c.args.onset in
    tells-left others o c.args.self.now ends
    (λ e.
    let clash : false ≡ true = sym c.if-eq.false ∙ c.eq.ensures ∙ ap (λ x. option_eq nat_eq x (Some o)) e ∙ eq-eqb o o refl in
    absurd (let x : ⊥ = cc in x))
    tells
