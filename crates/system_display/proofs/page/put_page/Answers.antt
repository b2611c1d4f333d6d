use Rattle.std.proofs.Common.{◌∷◌, [], map, List, ℕ, ◌∙◌, subst}
use Rattle.ecam_spec.specs.declared.kinds.Colour.TheVariants.{White}
use Rattle.ecam_spec.specs.Picture as spec
use Rattle.book_model.specs.View.{row_of}
use Rattle.zone_rows.specs.Tracked.{tracked}
use Rattle.zone_rows.specs.Mended.{IsFilled}
use Rattle.zone_rows.proofs.Filling.{fill-none}
use Rattle.system_display.specs.Pages.{lines_of}
use Rattle.system_display.proofs.page.put_page.Goals as goal

pub returns : goal.returns
returns c = record {
  whole = c.put_lines.ensures.whole;
  put = λ d displays.
      let old = tracked c.args.rows.now c.args.changed.now in
      let mid = tracked c.put_next-count.new.rows c.put_next-count.new.changed in
      let new = tracked c.put_lines.new.rows c.put_lines.new.changed in
      let title = c.args.page.now.title.bytes in
      let Titled : List ℕ → Type 0 = λ t. IsFilled 15 18 (spec.row White t ∷ []) c.put_next-count.result old mid in
      let titled = subst Titled (c.as_bytes.ensures.value ∙ c.deref.ensures.0) (c.put_next-count.ensures.put [] old (fill-none 15 18 old)) in
      let Lines : List _ → Type 0 = λ ls. IsFilled 15 18 (spec.row White title ∷ lines_of d (map row_of ls)) c.put_lines.result old new in
      subst Lines c.deref-2.ensures.value (c.put_lines.ensures.put d displays (spec.row White title ∷ []) old titled);
}
