use Rattle.std.proofs.Common.{◌∙◌, arith}
use Rattle.record_maker.proofs.Joined.{word_of-joined, joined-small}
use Rattle.record_maker.proofs.words.word_of.Goals as goal

pub returns-clause-word : goal.returns-clause-word
returns-clause-word c = word_of-joined c.args.label c.args.number c.args.ssm c.from.result c.ranges.label.fits c.requires.number c.requires.ssm (omega (arith, c.from.ensures, c.reverse_bits.type_inv)) (c.from.ensures ∙ c.reverse_bits.ensures)

pub returns-clause-open_parity : goal.returns-clause-open_parity
returns-clause-open_parity c = joined-small c.args.label c.args.number c.args.ssm c.from.result c.ranges.label.fits c.requires.number c.requires.ssm (omega (arith, c.from.ensures, c.reverse_bits.type_inv)) (c.from.ensures ∙ c.reverse_bits.ensures)
