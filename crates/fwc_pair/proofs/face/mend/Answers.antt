use Rattle.std.proofs.Common.{◌≡◌, false, ◌∙◌}
use Rattle.std.proofs.lemmas.List.{length-map}
use Rattle.ecam_kinds.specs.Shown.{row_of, rows_of}
use Rattle.zone_rows.specs.Tracked.{tracked}
use Rattle.fwc_pair.proofs.Faces.{mended-stands}
use Rattle.fwc_pair.proofs.face.mend.Goals as goal

pub returns-else-has_any-clause-mended : goal.returns-else-has_any-clause-mended
returns-else-has_any-clause-mended c = λ others.
    let none : c.has_any.result ≡ false = c.if-has_any.false in
    let long = length-map c.args.picture.now row_of ∙ c.requires.picture in
    mended-stands (rows_of c.args.picture.now) (tracked c.args.rows.now c.args.changed.now) c.requires.whole.rows long
    (λ i within. others (c.has_any.ensures.all none) i within (c.has_any.ensures.named none i within))
