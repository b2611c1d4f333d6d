use Rattle.record_lines.proofs.FirstByte.{first-place}
use Rattle.record_lines.proofs.line.place_of.Goals as goal

pub returns : goal.returns
returns c = first-place c.args.byte c.args.bytes.now c.memchr.result c.memchr.ensures
