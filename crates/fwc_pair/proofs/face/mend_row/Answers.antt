use Rattle.std.proofs.Common.{arith}
use Rattle.ecam_kinds.specs.Shown.{row_of}
use Rattle.zone_rows.specs.Tracked.{tracked}
use Rattle.fwc_pair.proofs.Faces.{mended-as-is}
use Rattle.fwc_pair.proofs.face.mend_row.Goals as goal

pub returns-else-named-clause-row : goal.returns-else-named-clause-row
returns-else-named-clause-row c = λ stood.
    mended-as-is (tracked c.args.rows.now c.args.changed.now) c.args.place (row_of c.args.row.now) (omega (arith, c.requires.whole.rows, c.requires.place)) (stood c.if-named.false)
