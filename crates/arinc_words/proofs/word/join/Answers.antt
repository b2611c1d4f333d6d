use Rattle.std.proofs.Common.{◌<◌, ◌∙◌, sym, subst, arith}
use Rattle.arinc_words.proofs.Composed.{joined_by_shifts, joined-small}
use Rattle.arinc_words.proofs.word.join.Goals as goal

pub returns-clause-word : goal.returns-clause-word
returns-clause-word c =
    let low : c.from-3.result < 256 = omega (arith, c.from-3.ensures, c.reverse_bits.type_inv) in
    rw (c.from.ensures, c.from-2.ensures)
    (joined_by_shifts c.args.label c.args.sdi c.args.field c.args.ssm c.ranges.label.fits c.requires.sdi c.requires.field c.requires.ssm c.from-3.result low (c.from-3.ensures ∙ c.reverse_bits.ensures))

pub returns-clause-open_parity : goal.returns-clause-open_parity
returns-clause-open_parity c =
    subst (λ n. n < 2147483648) (sym (returns-clause-word c))
    (joined-small c.args.label c.args.sdi c.args.field c.args.ssm c.ranges.label.fits c.requires.sdi c.requires.field c.requires.ssm)
