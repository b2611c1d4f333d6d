use Rattle.std.proofs.Common.{◌≡◌, take}
use Rattle.ecam_kinds.specs.Shown.{rows_of}
use Rattle.ecam_kinds.proofs.picture.copy_rows.Given as goal

abbrev pub invariant-loop-i : goal.invariant-loop-i
invariant-loop-i l = rows_of (take l.i l.rows) ≡ rows_of (take l.i l.other)
