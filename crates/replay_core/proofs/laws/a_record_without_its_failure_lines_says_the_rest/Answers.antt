use Rattle.replay_core.proofs.BareRecords.{drops_failures}
use Rattle.replay_core.proofs.laws.a_record_without_its_failure_lines_says_the_rest.Goals as goal

pub returns : goal.returns
returns c = λ lines limit all within. drops_failures lines limit all within
