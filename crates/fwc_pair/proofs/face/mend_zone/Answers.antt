use Rattle.std.proofs.Common.{◌-◌, ◌+◌, ◌≡◌, false, take, ◌∙◌, subst, sym, arith}
use Rattle.std.proofs.lemmas.List.{length-map}
use Rattle.ecam_kinds.specs.Shown.{row_of, rows_of}
use Rattle.zone_rows.specs.Tracked.{tracked}
use Rattle.zone_rows.specs.Mended.{Mends}
use Rattle.fwc_pair.proofs.Faces.{mended-kept, or-parts}
use Rattle.fwc_pair.proofs.face.mend_zone.Goals as goal

pub returns-else-any-clause-mended : goal.returns-else-any-clause-mended
returns-else-any-clause-mended c = λ start whole others before.
    let from = c.args.from in
    let picture = rows_of c.args.picture.now in
    let now = tracked c.args.rows.now c.args.changed.now in
    let none = or-parts c.args.all c.has_any_in.result c.if-any.false in
    let long = length-map c.args.picture.now row_of ∙ c.requires.picture in
    let end : c.args.from + (c.args.to - c.args.from) ≡ c.args.to = omega (arith, c.requires.order) in
    subst (λ n. Mends 0 (take n picture) start now) end
    (mended-kept picture from (c.args.to - c.args.from) start now whole long (omega (arith, end, c.requires.within))
    (λ i ge lt. others none.0 i (omega (arith, lt, end, c.requires.within)) (c.has_any_in.ensures none.1 i ge (omega (arith, lt, end))))
    before)
