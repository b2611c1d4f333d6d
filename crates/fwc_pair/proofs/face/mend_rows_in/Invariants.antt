use Rattle.std.proofs.Common.{◌≤◌}
use Rattle.ecam_kinds.specs.Shown.{rows_of}
use Rattle.zone_rows.specs.Tracked.{tracked, IsWhole}
use Rattle.fwc_pair.specs.Faces.{MendsNext}
use Rattle.fwc_pair.proofs.face.mend_rows_in.Given as goal

abbrev pub invariant-loop-i : goal.invariant-loop-i
invariant-loop-i l = record {
  whole : IsWhole (tracked l.rows l.changed);
  mended : MendsNext l.from l.i l.all l.named (rows_of l.picture) (tracked l.fn.rows l.fn.changed) (tracked l.rows l.changed);
}
