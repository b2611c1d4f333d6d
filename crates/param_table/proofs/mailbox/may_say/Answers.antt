use Rattle.std.proofs.Common.{arith}
use Rattle.param_table.proofs.Masks.{ssm-few}
use Rattle.param_table.proofs.mailbox.may_say.Goals as goal

pub overflow_shr-result : goal.overflow_shr-result
overflow_shr-result c = omega (arith, c.ssm.ensures, ssm-few c.new.result)
