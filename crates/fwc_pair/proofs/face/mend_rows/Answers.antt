use Rattle.std.proofs.Common.{◌≡◌, length, subst, ◌∙◌, arith}
use Rattle.std.proofs.lemmas.List.{length-map, take_all}
use Rattle.ecam_kinds.specs.Shown.{row_of, rows_of}
use Rattle.zone_rows.specs.Tracked.{tracked}
use Rattle.zone_rows.specs.Mended.{Mends}
use Rattle.fwc_pair.proofs.Faces.{mended-none, mended-all}
use Rattle.fwc_pair.proofs.face.mend_rows.Goals as goal

pub returns-clause-mended : goal.returns-clause-mended
returns-clause-mended c = λ others.
    let picture = rows_of c.args.picture.now in
    let long : length picture ≡ 36 = length-map c.args.picture.now row_of ∙ c.requires.picture in
    let start = tracked c.args.rows.now c.args.changed.now in
    let now = tracked c.mend_zone-5.new.rows c.mend_zone-5.new.changed in
    let whole = c.requires.whole.rows in
    let left = c.mend_zone.ensures.mended start whole others (mended-none picture start) in
    let right = c.mend_zone-2.ensures.mended start whole others left in
    let flags = c.mend_zone-3.ensures.mended start whole others right in
    let display = c.mend_zone-4.ensures.mended start whole others flags in
    let all = c.mend_zone-5.ensures.mended start whole others display in
    mended-all picture start now whole long (subst (λ these. Mends 0 these start now) (take_all 36 picture (omega (arith, long))) all)
