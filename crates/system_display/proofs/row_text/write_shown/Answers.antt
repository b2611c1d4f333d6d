use Rattle.std.proofs.Common.{◌∙◌, ap, sym}
use Rattle.std.specs.Prelude.{option_map}
use Rattle.ecam_spec.specs.declared.kinds.Colour.TheVariants.{Green, Amber}
use Rattle.ecam_spec.specs.SystemDisplay.{value_row, value_text, shown_value}
use Rattle.book_model.specs.View.{bytes_of, row_of}
use Rattle.system_display.specs.Pages.{IsShort}
use Rattle.system_display.proofs.RowTexts.{passed}
use Rattle.system_display.proofs.row_text.write_shown.Goals as goal

pub returns-in-None : goal.returns-in-None
unfolding shown_value
returns-in-None c = λ d p kind.
    c.write_value.ensures Amber ∙ ap (shown_value d (row_of c.args.row.now) p) (sym c.in-None.is)

pub returns-in-Some : goal.returns-in-Some
unfolding shown_value
returns-in-Some c = λ d p kind.
    let row = c.args.row.now in
    let z = c.in-Some.value in
    let short : IsShort z = rw c.in-Some.is at c.requires.short in
    c.write_known.ensures Green
    ∙ ap (λ v. value_row row.text.bytes (option_map bytes_of row.unit) Green (value_text c.args.kind v)) (passed z short)
    ∙ ap (λ k. value_row row.text.bytes (option_map bytes_of row.unit) Green (value_text k z)) (sym kind)
    ∙ ap (shown_value d (row_of row) p) (sym c.in-Some.is)
