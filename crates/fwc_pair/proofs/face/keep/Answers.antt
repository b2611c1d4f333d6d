use Rattle.std.proofs.Common.{◌∙◌}
use Rattle.std.proofs.lemmas.List.{length-map}
use Rattle.ecam_kinds.specs.Shown.{row_of, rows_of}
use Rattle.zone_rows.specs.Tracked.{tracked}
use Rattle.fwc_pair.proofs.Faces.{mended-stands}
use Rattle.fwc_pair.proofs.face.keep.Goals as goal

pub returns : goal.returns
returns c = λ others.
    let long = length-map c.args._picture.now row_of ∙ c.requires.picture in
    mended-stands (rows_of c.args._picture.now) (tracked c.args._rows.now c.args._changed.now) c.requires.whole.rows long
    (λ i within. others i within (c.requires.named i within))
