use Rattle.std.proofs.Common.{◌++◌, ◌∷◌, [], ◌-◌, length, replicate, Some, None, ◌∙◌, ap, sym, append_assoc}
use Rattle.std.specs.Prelude.{option_map}
use Rattle.std.proofs.lemmas.List.{append-nil}
use Rattle.ecam_spec.specs.Picture as spec
use Rattle.ecam_spec.specs.SystemDisplay.{value_row}
use Rattle.book_model.specs.View.{bytes_of}
use Rattle.system_display.proofs.RowTexts.{value-pieces, pieces}
use Rattle.system_display.proofs.row_text.write_value.Goals as goal

pub returns-in-None : goal.returns-in-None
returns-in-None c = λ colour.
    let text = c.args.row.now.text.bytes in
    let value = c.args.value.now in
    let whole = pieces c.new.result.items c.put.new.out.items c.put_blanks.new.out.items c.put-2.new.out.items text c.as_bytes.result.now value c.len.result
    c.new.ensures (c.as_bytes.ensures.value ∙ c.deref.ensures.0) c.len.ensures.value c.put.ensures c.put_blanks.ensures c.put-2.ensures in
    ap (spec.row colour) (whole ∙ sym (append-nil (((text ++ replicate (24 - length text) 32) ++ replicate (8 - length value) 32) ++ value)))
    ∙ value-pieces colour text value None
    ∙ ap (λ u. value_row text (option_map bytes_of u) colour value) (sym c.in-None.is)

pub returns-in-Some : goal.returns-in-Some
returns-in-Some c = λ colour.
    let text = c.args.row.now.text.bytes in
    let value = c.args.value.now in
    let unit = c.in-Some.unit.bytes in
    let whole = pieces c.new.result.items c.put.new.out.items c.put_blanks.new.out.items c.put-2.new.out.items text c.as_bytes.result.now value c.len.result
    c.new.ensures (c.as_bytes.ensures.value ∙ c.deref.ensures.0) c.len.ensures.value c.put.ensures c.put_blanks.ensures c.put-2.ensures in
    let front = ((text ++ replicate (24 - length text) 32) ++ replicate (8 - length value) 32) ++ value in
    ap (spec.row colour)
    (c.put-in-Some-2.ensures
    ∙ ap (λ o. o ++ c.as_bytes-in-Some.result.now) (c.put-in-Some.ensures ∙ ap (λ o. o ++ 32 ∷ []) whole)
    ∙ ap (λ u. (front ++ 32 ∷ []) ++ u) (c.as_bytes-in-Some.ensures.value ∙ c.deref-in-Some.ensures.0)
    ∙ append_assoc front (32 ∷ []) unit)
    ∙ value-pieces colour text value (Some unit)
    ∙ ap (λ u. value_row text (option_map bytes_of u) colour value) (sym c.in-Some.is)
