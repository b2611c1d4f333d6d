use Rattle.std.proofs.Common.{arith}
use Rattle.param_table.proofs.Values.{unchanged_is, few_sources}
use Rattle.param_table.proofs.table.Params.changed.Goals as goal

pub returns-clause-room : goal.returns-clause-room
returns-clause-room c = λ b fits. omega (arith, fits.held.room)

pub returns-clause-same : goal.returns-clause-same
returns-clause-same c = λ b words k stands p within unmarked asked.
    unchanged_is b words k c.args.self.now p stands (few_sources b p stands.fits.sound within) asked unmarked
