use Rattle.std.proofs.Common.{refl, []}
use Rattle.record_lines.proofs.Went.{begins}
use Rattle.record_lines.proofs.reader.LineReader.new.Goals as goal

pub returns-clause-reads : goal.returns-clause-reads
returns-clause-reads c = ([], begins c.args.limit _ c.new.ensures c.new-2.ensures refl refl refl)
