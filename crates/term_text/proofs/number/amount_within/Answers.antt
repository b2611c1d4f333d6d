use Rattle.std.proofs.Common.{◌≡◌, ◌⊎◌, inl, inr, ◌<◌, sym, ap, ◌∙◌, arith, min, Some}
use Rattle.ecam_spec.specs.TermNumber.{magnitude}
use Rattle.term_text.proofs.Ranges.{amount_negative, amount_in, amount_out, no_minus}
use Rattle.term_text.proofs.number.amount_within.Goals as goal

pub returns-then-amount-gt0-clause-value : goal.returns-then-amount-gt0-clause-value
returns-then-amount-gt0-clause-value c =
    let amount : c.magnitude-amount.result ≡ min (magnitude c.args.text.now) 18446744073709551615 = c.magnitude-amount.ensures in
    amount_negative c.args.low c.args.high c.args.text.now (sym c.is_negative.ensures ∙ c.if-is_negative.true) (omega (arith, amount, c.if-amount-gt0.true))

pub returns-then-amount-high-clause-value : goal.returns-then-amount-high-clause-value
returns-then-amount-high-clause-value c =
    let text = c.args.text.now in
    let small : c.args.high < 18446744073709551615 = c.requires in
    let amount : c.magnitude-amount.result ≡ min (magnitude text) 18446744073709551615 = c.magnitude-amount.ensures in
    let exact : c.magnitude-amount.result ≡ magnitude text = omega (arith, amount, small, c.if-amount-high.true) in
    let none = no_minus c.is_negative.result (magnitude text) c.magnitude-amount.result c.else-is_negative.either amount in
    ap (λ n. Some n) exact
    ∙ amount_in c.args.low c.args.high text (λ e. none (c.is_negative.ensures ∙ e)) (omega (arith, exact, c.if-low-amount.true)) (omega (arith, exact, c.if-amount-high.true))

pub returns-else-low-amount-clause-value : goal.returns-else-low-amount-clause-value
returns-else-low-amount-clause-value c =
    let text = c.args.text.now in
    let small : c.args.high < 18446744073709551615 = c.requires in
    let amount : c.magnitude-amount.result ≡ min (magnitude text) 18446744073709551615 = c.magnitude-amount.ensures in
    let none = no_minus c.is_negative.result (magnitude text) c.magnitude-amount.result c.else-is_negative.either amount in
    let out : (magnitude text < c.args.low) ⊎ (c.args.high < magnitude text) =
    elim c.else-low-amount.either [
      | inl h ↦ inr (omega (arith, amount, h.1))
      | inr h ↦ inl (omega (arith, amount, h, c.ranges.low.fits))
    ] in
    amount_out c.args.low c.args.high text (λ e. none (c.is_negative.ensures ∙ e)) out
