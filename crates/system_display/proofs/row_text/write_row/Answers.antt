use Rattle.std.proofs.Common.{◌<◌, ◌++◌, length, ◌∙◌, ap, sym, arith}
use Rattle.ecam_spec.specs.Picture as spec
use Rattle.ecam_spec.specs.SystemDisplay.{page_row, shown_value}
use Rattle.book_model.specs.Sealed.{the_book}
use Rattle.book_model.specs.View.{row_of}
use Rattle.book_model.proofs.BookLists.{many-parameters}
use Rattle.book_model.proofs.BookReads.{parameter-read}
use Rattle.system_display.proofs.RowTexts.{leaves-room}
use Rattle.system_display.proofs.row_text.write_row.Goals as goal

pub write_shown-requires-clause-room : goal.write_shown-requires-clause-room
write_shown-requires-clause-room c = leaves-room _ c.args.row.now c.in-Some.param c.in-Some.is c.requires.sound

pub returns-in-None : goal.returns-in-None
unfolding page_row
returns-in-None c = λ d displays.
    ap (spec.row c.args.row.now.colour) (c.put.ensures ∙ ap (λ o. o ++ c.as_bytes.result.now) c.clear.ensures ∙ c.as_bytes.ensures.value ∙ c.deref.ensures.0)
    ∙ ap (page_row d (row_of c.args.row.now)) (sym c.in-None.is)

pub returns-in-Some : goal.returns-in-Some
unfolding page_row
returns-in-Some c = λ d displays.
    let book = c.args.book.now in
    let row = c.args.row.now in
    let p = c.in-Some.param in
    let there : p < length book.params.items = rw c.in-Some.is at c.requires.sound.show in
    let known : p < length (the_book book).parameters = omega (arith, many-parameters book) in
    let read = parameter-read book c.params.result.now p c.index-params-param.result c.params.ensures.value (omega (arith, ap length c.params.ensures.value)) c.index-params-param.is in
    c.write_shown.ensures d p (displays.kinds p known ∙ ap (λ x. x.kind) read ∙ ap (λ x. x.kind) c.index-params-param.is)
    ∙ ap (shown_value d (row_of row) p) (sym (displays.values p known))
    ∙ ap (page_row d (row_of row)) (sym c.in-Some.is)
