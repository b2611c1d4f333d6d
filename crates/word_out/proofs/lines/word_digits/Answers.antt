use Rattle.std.proofs.Common.{◌≡◌, ℕ, ◌*◌, length, refl, sym, ◌∙◌, ap, Result, Ok, Err, OnOk}
use Rattle.std.specs.Result.{IsOk}
use Rattle.hex.specs.Hex.{encode_lower}
use Rattle.record_maker.specs.Lines as made
use Rattle.record_maker.proofs.Digits.{word_digits-encoded}
use Rattle.view_spec.specs.OutputWords.{word_digits}
use Rattle.word_out.proofs.lines.word_digits.Goals as goal

on_ok : {T E : Type 0} (r : Result T E) (P : Type 0) → IsOk r → OnOk r P → P
on_ok (Ok v) P is p = p
on_ok (Err e) P is p = absurd (let never : ⊥ = cc in never)

-- the digits of a word are those of a made record
as_made : (w : ℕ) → made.word_digits w ≡ word_digits w
unfolding made.word_digits word_digits
as_made w = refl

pub returns : goal.returns
returns c =
    let fits : 8 ≡ 2 * length c.to_be_bytes.result = ap (λ l. 2 * length l) (sym c.to_be_bytes.ensures) in
    let bytes = c.to_be_bytes.result in
    on_ok c.encode_to_slice.result (c.encode_to_slice.new.output ≡ encode_lower bytes) (c.encode_to_slice.ensures.fits.1 fits) c.encode_to_slice.ensures.written
    ∙ ap encode_lower c.to_be_bytes.ensures ∙ word_digits-encoded c.args.word c.ranges.word.fits ∙ as_made c.args.word
