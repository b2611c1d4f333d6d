use Rattle.std.proofs.Common.{◌≡◌}
use Rattle.std.specs.Io.KnownBytes.{Keeps}
use Rattle.ecam_io.proofs.os.read_counted.Given as goal

abbrev pub invariant-loop-try : goal.invariant-loop-try
invariant-loop-try g l = (l.faults ≡ l.initial.faults) × Keeps (g.R.Read.remaining l.initial.from) (g.R.Read.remaining l.from)
