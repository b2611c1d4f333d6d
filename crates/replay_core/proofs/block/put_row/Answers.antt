use Rattle.std.proofs.Common.{append_assoc}
use Rattle.ecam_spec.specs.Output as output
use Rattle.replay_core.proofs.block.put_row.Goals as goal

pub returns-clause-line : goal.returns-clause-line
unfolding output.row_line
returns-clause-line c =
    rw (c.put-3.ensures, c.put_text.ensures.text, c.put-2.ensures, c.put.ensures, c.as_bytes.ensures.value) (simp append_assoc)
