use Rattle.std.proofs.Common.{◌≡◌, ◌<◌, [], ◌∷◌, length, get_or, sym, ◌∙◌, subst, arith}
use Rattle.std.proofs.lemmas.List.{length-map}
use Rattle.ecam_spec.specs.Picture.{Row, blank_row}
use Rattle.ecam_kinds.specs.Shown.{row_of, rows_of}
use Rattle.book_model.proofs.BookReads.{view-read}
use Rattle.zone_rows.specs.Tracked.{tracked}
use Rattle.zone_rows.specs.Mended.{Mends}
use Rattle.fwc_pair.proofs.Faces.{mended-more, row-waits, or-parts}
use Rattle.fwc_pair.proofs.face.mend_rows_in.Goals as goal

pub loop-i-preserved : goal.loop-i-preserved
loop-i-preserved c =
    let i = c.loop-i.i in
    let picture = rows_of c.args.picture.now in
    let long : length picture ≡ 36 = length-map c.args.picture.now row_of ∙ c.requires.picture in
    let now = tracked c.loop-i.rows c.loop-i.changed in
    let next = tracked c.mend_row.new.rows c.mend_row.new.changed in
    let within : i < 36 = omega (arith, c.loop-i-test.true, c.requires.within) in
    let inside : i < length c.args.picture.now = omega (arith, within, c.requires.picture) in
    let here : get_or picture i blank_row ≡ row_of c.index-picture-i.result = view-read row_of c.args.picture.now i c.index-picture-i.result inside c.index-picture-i.is blank_row in
    record {
      whole = c.mend_row.ensures.whole;
      mended = λ start start_whole others begun.
          let before = c.loop-i.invariant.mended start start_whole others begun in
          mended-more picture i start now next start_whole long within before
          (subst (λ (r : Row). Mends i (r ∷ []) now next) (sym here)
          (c.mend_row.ensures.row
          (λ unnamed.
          let parts = or-parts c.args.all (get_or c.args.named.now i _) unnamed in
          row-waits picture i start now start_whole long within before ∙ others parts.0 i within parts.1 ∙ here)));
    }
