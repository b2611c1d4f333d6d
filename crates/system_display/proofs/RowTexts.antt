-- The text of a row with a value, as it is built piece by piece.
use Rattle.std.proofs.Common.{◌≡◌, ℕ, ◌+◌, ◌-◌, ◌≤◌, true, ◌&&◌, leb, [], ◌++◌, length, replicate, ℤ, pos, negsuc, ◌≤ℤ◌, Option, Some, None, ◌∙◌, ap, sym, arith, append_assoc}
use Rattle.std.specs.Prelude.{option_map, IfSome}
use Rattle.std.specs.Fmt.{signed_decimal}
use Rattle.std.proofs.lemmas.List.{replicate-append-replicate}
use Rattle.std.proofs.lemmas.Fmt.{length_signed_le}
use Rattle.std.proofs.lemmas.Int.{ints}
use lib.Signed.{mag}
use mir.Syntax.{w64}
use mir.Val.{to_z, of_z}
use Rattle.std.proofs.lemmas.Bool.{leb-true, and_parts}
use Rattle.ecam_spec.specs.declared.kinds.Colour.{Colour}
use Rattle.ecam_spec.specs.Book.{Text}
use Rattle.ecam_spec.specs.BookText.{is_text}
use Rattle.ecam_spec.specs.Picture.{row}
use Rattle.ecam_spec.specs.KeepsLimits.{IsSoundRow}
use Rattle.ecam_spec.specs.SystemDisplay.{value_row, filled, unit_text}
use Rattle.arrayvec.specs.ArrayString.{ArrayString}
use Rattle.book_model.specs.View.{bytes_of, row_of}
use Rattle.book_model.specs.declared.draft.PageRow.{PageRow}
use Rattle.system_display.specs.Pages.{IsShort, LeavesRoom}

-- the pieces are the text of a row with a value
pub value-pieces : (c : Colour) (text value : Text) (unit : Option Text)
    → row c ((((text ++ replicate (24 - length text) 32) ++ replicate (8 - length value) 32) ++ value) ++ unit_text unit) ≡ value_row text unit c value
unfolding value_row
value-pieces c text value unit =
    ap (λ t. row c (t ++ unit_text unit)) (append_assoc (filled 24 text) (replicate (8 - length value) 32) value)

-- the buffer after each piece, where all blanks come at once
pub pieces : (o0 o1 o2 o3 text bytes value : Text) (n : ℕ) → o0 ≡ [] → bytes ≡ text → n ≡ length text → o1 ≡ o0 ++ bytes
    → o2 ≡ o1 ++ replicate (24 - n + (8 - length value)) 32 → o3 ≡ o2 ++ value
    → o3 ≡ ((text ++ replicate (24 - length text) 32) ++ replicate (8 - length value) 32) ++ value
pieces o0 o1 o2 o3 text bytes value n e0 same long e1 e2 e3 =
    let first : o1 ≡ text = e1 ∙ ap (λ o. o ++ bytes) e0 ∙ same in
    let blanks = replicate-append-replicate (24 - length text) (8 - length value) 32 in
    let second : o2 ≡ (text ++ replicate (24 - length text) 32) ++ replicate (8 - length value) 32 =
    e2 ∙ ap (λ o. o ++ replicate (24 - n + (8 - length value)) 32) first
    ∙ ap (λ m. text ++ replicate (24 - m + (8 - length value)) 32) long
    ∙ ap (λ bs. text ++ bs) (sym blanks)
    ∙ sym (append_assoc text (replicate (24 - length text) 32) (replicate (8 - length value) 32)) in
    e3 ∙ ap (λ o. o ++ value) second

mag-short : (z : ℤ) → IsShort z → mag z ≤ 1000000
mag-short (pos n) short =
    let high : pos n ≤ℤ pos 1000000 = short.1 in
    omega (arith, ints)
mag-short (negsuc n) short =
    let low : negsuc 999999 ≤ℤ negsuc n = short.0 in
    omega (arith, ints)

-- a number from -1000000 to 1000000 has at most eight places
pub short-number : (z : ℤ) → IsShort z → length (signed_decimal z) ≤ 8
short-number z short = length_signed_le 7 z (omega (arith, mag-short z short)) (omega (arith, mag-short z short))

-- a text keeps its limit
pub text-short : (most : ℕ) (t : Text) → is_text most t ≡ true → length t ≤ most
unfolding is_text
text-short most t is = leb-true (length t) most ((and_parts (leb 1 (length t)) (leb (length t) most) ((and_parts (leb 1 (length t) && leb (length t) most) _ is).0)).1)

-- a row that shows a value, of a sound book, leaves room for it
pub leaves-room : (params : ℕ) (r : PageRow) (p : ℕ) → r.show ≡ Some p → IsSoundRow params (row_of r) → LeavesRoom r
leaves-room params r p shows sound = record {
  text = text-short 24 r.text.bytes (rw shows at sound.text);
  unit = unit-short r.unit sound.unit;
} where
  unit-short : (u : Option ArrayString) → IfSome (option_map bytes_of u) (λ t. is_text 6 t ≡ true) → IfSome u (λ t. length t.bytes ≤ 6)
  unit-short None h = h
  unit-short (Some u) h = text-short 6 u.bytes h

-- a short number that is passed on is the same
pub passed : (z : ℤ) → IsShort z → to_z w64 (of_z w64 z) ≡ z
passed z short =
    let low : negsuc 999999 ≤ℤ z = short.0 in
    let high : z ≤ℤ pos 1000000 = short.1 in
    omega (arith, ints)
