-- The token of a word, by the bytes that it has.
use Rattle.std.proofs.Common.{◌≡◌, ℕ, suc, ◌+◌, ◌<◌, ◌-◌, Bool, true, false, ◌&&◌, ◌||◌, ◌∷◌, length, take, drop, length-drop, sym, ap, ◌∙◌, arith}
use Rattle.std.proofs.lemmas.List.{drop_more, take_all}
use Rattle.std.specs.Prelude.{slice_range, slice_index, ◌==◌, nat_le}
use Rattle.ecam_spec.specs.Book.{Text}
use Rattle.ecam_spec.specs.declared.terms.Span.{Span}
use Rattle.ecam_spec.specs.declared.terms.Token.{Token}
use Rattle.ecam_spec.specs.declared.terms.Token.TheVariants.{Number}
use Rattle.ecam_spec.specs.Token.{more_bytes, word_token, sign_token, token_at}
use Rattle.ecam_spec.specs.Bytes.{is_letter, is_digit}

-- the token at the front, where it is known whether it begins with a letter
abbrev token_from : ℕ → ℕ → Text → Bool → Token
token_from at b bs letter =
    let more = more_bytes b bs in
    let span : Span = record { at = at; end = at + suc more } in
    elim letter [
      | true ↦ word_token span (b ∷ take more bs)
      | false ↦ elim (is_digit b || (b == 45 && nat_le 1 more)) [
        | true ↦ Number span
        | false ↦ sign_token b (nat_le 1 more)
      ]
    ]

pub letter_token : (at b end : ℕ) (bs word : Text) → is_letter b ≡ true → end ≡ at + suc (more_bytes b bs) → word ≡ b ∷ take (more_bytes b bs) bs
    → word_token (record { at = at; end = end }) word ≡ token_at at b bs
unfolding token_at
letter_token at b end bs word letter ends is =
    ap (λ (n : ℕ). word_token (record { at = at; end = n }) word) ends
    ∙ ap (word_token (record { at = at; end = at + suc (more_bytes b bs) })) is
    ∙ ap (token_from at b bs) (sym letter)

pub word_bytes : (text : Text) (at more : ℕ) → at < length text → slice_range text at (at + 1 + more) ≡ slice_index text at ∷ take more (drop (at + 1) text)
word_bytes text at more within =
    let long : (at + 1 + more) - at ≡ suc more = omega arith in
    ap (λ (n : ℕ). take n (drop at text)) long ∙ ap (take (suc more)) (drop_more text at 0 within)

-- the rest of a text from a place on
pub tail_whole : (text : Text) (at : ℕ) → take (length text - at) (drop at text) ≡ drop at text
tail_whole text at = take_all (length text - at) (drop at text) (omega (arith, length-drop at text))
