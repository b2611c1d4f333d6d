-- After the letters of a page's key its number is read, and any other word is looked up.
use Rattle.std.proofs.Common.{sym, ◌∙◌, rules, arith}
use Rattle.record_lines.proofs.Numbers.{key_of-prefix, key_of-named}
use Rattle.record_lines.proofs.line.key_of.Goals as goal

pub returns-in-None : goal.returns-in-None
returns-in-None c = c.named_key_of.ensures ∙ sym (key_of-named c.args.word.now c.in-None.ensures.cases)

pub returns-in-Some : goal.returns-in-Some
returns-in-Some c =
    let h = c.in-Some.ensures.cases in
    let e = key_of-prefix c.args.word.now c.in-Some.number.now h.0 h.1 (λ k h. omega (arith, c.type_inv.word k)) in
    rw e (search rules)
