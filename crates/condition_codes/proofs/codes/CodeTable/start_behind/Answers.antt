use Rattle.std.proofs.Common.{◌+◌, arith, add-one}
use Rattle.condition_codes.proofs.Linking.{many-starts, start-read}
use Rattle.condition_codes.proofs.codes.CodeTable.start_behind.Goals as goal

pub index-requires : goal.index-requires
index-requires c = omega (arith, many-starts c.requires.0 c.args.self.now c.requires.1, c.requires.2, c.args.self.now.starts.items.ok.0)

pub returns : goal.returns
returns c b coded less = rw (← add-one c.args.number) (start-read b c.args.self.now coded (c.args.number + 1) c.index.result.now (omega arith) c.index.ensures)
