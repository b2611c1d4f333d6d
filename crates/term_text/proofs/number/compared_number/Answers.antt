use Rattle.std.proofs.Common.{rules, ◌≡◌, sym, ap, ◌∙◌, arith, min, Some}
use Rattle.ecam_spec.specs.TermNumber.{magnitude}
use Rattle.term_text.specs.Numbers.{signed, compared_number}
use Rattle.term_text.proofs.Ranges.{compared_far, compared_near}
use Rattle.term_text.proofs.number.compared_number.Goals as goal

pub returns-then-magnitude-gt-GREATEST : goal.returns-then-magnitude-gt-GREATEST
returns-then-magnitude-gt-GREATEST c =
    let amount : c.magnitude-magnitude.result ≡ min (magnitude c.args.text.now) 18446744073709551615 = c.magnitude-magnitude.ensures in
    compared_far c.args.text.now (omega (arith, amount, c.if-magnitude-gt-GREATEST.true))

pub returns-else-magnitude-gt-GREATEST : goal.returns-else-magnitude-gt-GREATEST
returns-else-magnitude-gt-GREATEST c =
    let text = c.args.text.now in
    let amount : c.magnitude-magnitude.result ≡ min (magnitude text) 18446744073709551615 = c.magnitude-magnitude.ensures in
    let exact : c.magnitude-magnitude.result ≡ magnitude text = omega (arith, amount, c.if-magnitude-gt-GREATEST.false) in
    let told : Some c.signed.result ≡ compared_number text =
    ap (λ z. Some z) (c.signed.ensures ∙ ap (signed c.is_negative.result) exact)
    ∙ compared_near text c.is_negative.result (sym c.is_negative.ensures) (omega (arith, exact, c.if-magnitude-gt-GREATEST.false)) in
    search (rules, told)
