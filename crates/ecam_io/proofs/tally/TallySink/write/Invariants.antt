use Rattle.std.proofs.Common.{take}
use Rattle.ecam_io.specs.Outside.{Appended}
use Rattle.ecam_io.specs.Tally.{IsTallyOf}
use Rattle.ecam_io.proofs.tally.TallySink.write.Given as goal

abbrev pub invariant-loop-byte : goal.invariant-loop-byte
invariant-loop-byte l = Appended IsTallyOf l.initial.self l.self (take l.byte-index l.bytes)
