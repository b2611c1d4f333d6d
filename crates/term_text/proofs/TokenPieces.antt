-- The tokens of a text that is made of pieces: each piece has its own, wherever the next begins with a byte that
-- ends it.
use Rattle.std.proofs.Common.{◌≡◌, ℕ, suc, ◌+◌, ◌≤◌, Bool, true, false, ◌&&◌, ◌||◌, eqb, leb, List, [], ◌∷◌, ◌++◌, length, take, refl, sym, ◌∙◌, ap, subst, arith, add-zero}
use Rattle.std.specs.Prelude.{slice_index}
use Rattle.std.specs.List.{list_all}
use Rattle.std.proofs.lemmas.Bool.{and_parts, or_parts, or_left, eqb-true, le-leb, false≢true, false_from_ne_true}
use Rattle.std.proofs.lemmas.List.{take_at}
use Rattle.ecam_spec.specs.Book.{Text}
use Rattle.ecam_spec.specs.declared.terms.Token.{Token}
use Rattle.ecam_spec.specs.declared.terms.Token.TheVariants.{Number}
use Rattle.ecam_spec.specs.Token.{Placed, run_length, more_bytes, token_at, word_token, sign_token, tokens_from, may_take_equals, begins_with_equals}
use Rattle.ecam_spec.specs.Bytes.{is_letter, is_digit, is_word_byte}
use Rattle.ecam_spec.specs.TermVerdict.{words_of}

-- the tokens of what stands at a place
abbrev pub words_at : ℕ → Text → List Token
words_at at t = words_of (tokens_from 0 at t)

-- a word or a number ends before this
abbrev pub Ends : Text → Type 0
Ends rest = is_word_byte (slice_index rest 0) ≡ false

-- ---- how far a token goes

run-length : (p : ℕ → Bool) (bs rest : Text) → list_all p bs ≡ true → p (slice_index rest 0) ≡ false → run_length p (bs ++ rest) ≡ length bs
run-length p [] [] all end = refl
run-length p [] (c ∷ rest) all end = ap (λ (x : Bool). elim x as (λ v. ℕ) [ true ↦ suc (run_length p rest) | false ↦ 0 ]) end
run-length p (b ∷ bs) rest all end =
    let parts = and_parts (p b) (list_all p bs) all in
    ap (λ (x : Bool). elim x as (λ v. ℕ) [ true ↦ suc (run_length p (bs ++ rest)) | false ↦ 0 ]) parts.0 ∙ ap suc (run-length p bs rest parts.1 end)

tokens-skipped : (piece rest : Text) (at : ℕ) → tokens_from (length piece) at (piece ++ rest) ≡ tokens_from 0 (at + length piece) rest
unfolding tokens_from
tokens-skipped [] rest at = ap (λ (i : ℕ). tokens_from 0 i rest) (sym (add-zero at))
tokens-skipped (b ∷ bs) rest at =
    let e : suc at + length bs ≡ at + suc (length bs) = omega arith in
    tokens-skipped bs rest (suc at) ∙ ap (λ (i : ℕ). tokens_from 0 i rest) e

token-first : (at b : ℕ) (bs : Text) → eqb b 32 ≡ false → tokens_from 0 at (b ∷ bs) ≡ (at, token_at at b bs) ∷ tokens_from (more_bytes b bs) (suc at) bs
unfolding tokens_from
token-first at b bs e =
    ap (λ (x : Bool). elim x as (λ v. List Placed) [ true ↦ tokens_from 0 (suc at) bs | false ↦ (at, token_at at b bs) ∷ tokens_from (more_bytes b bs) (suc at) bs ]) e

-- a token of a byte and so many others, all that follow it in a piece
token-whole : (at b : ℕ) (bs rest : Text) (t : Token) → eqb b 32 ≡ false → more_bytes b (bs ++ rest) ≡ length bs → token_at at b (bs ++ rest) ≡ t
    → tokens_from 0 at (b ∷ (bs ++ rest)) ≡ (at, t) ∷ tokens_from 0 (at + suc (length bs)) rest
token-whole at b bs rest t blank more is =
    let e : suc at + length bs ≡ at + suc (length bs) = omega arith in
    token-first at b (bs ++ rest) blank
    ∙ ap (λ (n : ℕ). (at, token_at at b (bs ++ rest)) ∷ tokens_from n (suc at) (bs ++ rest)) more
    ∙ ap (λ (x : Token). (at, x) ∷ tokens_from (length bs) (suc at) (bs ++ rest)) is
    ∙ ap (λ (ts : List Placed). (at, t) ∷ ts) (tokens-skipped bs rest (suc at) ∙ ap (λ (i : ℕ). tokens_from 0 i rest) e)

-- ---- words

letter_no_blank : (b : ℕ) → is_letter b ≡ true → eqb b 32 ≡ false
letter_no_blank b h = false_from_ne_true (eqb b 32) (λ e. false≢true (subst (λ (x : ℕ). is_letter x ≡ true) (eqb-true b 32 e) h))

more-letter : (b : ℕ) (bs : Text) → is_letter b ≡ true → more_bytes b bs ≡ run_length is_word_byte bs
more-letter b bs h =
    ap (λ (x : Bool). elim x as (λ v. ℕ) [
      | true ↦ run_length is_word_byte bs
      | false ↦ elim (is_digit b || eqb b 45) as (λ v. ℕ) [
        | true ↦ run_length is_digit bs
        | false ↦ elim (may_take_equals b && begins_with_equals bs) as (λ v. ℕ) [ true ↦ 1 | false ↦ 0 ]
      ]
    ]) h

token-letter : (at b : ℕ) (bs : Text) → is_letter b ≡ true → token_at at b bs ≡ word_token (record { at = at; end = at + suc (more_bytes b bs) }) (b ∷ take (more_bytes b bs) bs)
unfolding token_at
token-letter at b bs h =
    ap (λ (x : Bool). elim x as (λ v. Token) [
      | true ↦ word_token (record { at = at; end = at + suc (more_bytes b bs) }) (b ∷ take (more_bytes b bs) bs)
      | false ↦ elim (is_digit b || (eqb b 45 && leb 1 (more_bytes b bs))) as (λ v. Token) [
        | true ↦ Number (record { at = at; end = at + suc (more_bytes b bs) })
        | false ↦ sign_token b (leb 1 (more_bytes b bs))
      ]
    ]) h

pub word_tokens : (at b : ℕ) (bs rest : Text) → is_letter b ≡ true → list_all is_word_byte bs ≡ true → Ends rest
    → tokens_from 0 at (b ∷ (bs ++ rest)) ≡ (at, word_token (record { at = at; end = at + suc (length bs) }) (b ∷ bs)) ∷ tokens_from 0 (at + suc (length bs)) rest
word_tokens at b bs rest letter all end =
    let more = more-letter b (bs ++ rest) letter ∙ run-length is_word_byte bs rest all end in
    let is : token_at at b (bs ++ rest) ≡ word_token (record { at = at; end = at + suc (length bs) }) (b ∷ bs)
    = token-letter at b (bs ++ rest) letter
    ∙ ap (λ (n : ℕ). word_token (record { at = at; end = at + suc n }) (b ∷ take n (bs ++ rest))) more
    ∙ ap (λ (x : Text). word_token (record { at = at; end = at + suc (length bs) }) (b ∷ x)) (take_at bs rest (length bs) refl)
    in
    token-whole at b bs rest (word_token (record { at = at; end = at + suc (length bs) }) (b ∷ bs)) (letter_no_blank b letter) more is

-- ---- numbers

no_digit : (rest : Text) → Ends rest → is_digit (slice_index rest 0) ≡ false
no_digit rest end =
    let c = slice_index rest 0 in
    (or_parts (is_digit c) (eqb c 95) (or_parts (is_letter c) (is_digit c || eqb c 95) end).1).0

more-number : (b : ℕ) (bs : Text) → is_letter b ≡ false → (is_digit b || eqb b 45) ≡ true → more_bytes b bs ≡ run_length is_digit bs
more-number b bs letter h =
    ap (λ (x : Bool). elim x as (λ v. ℕ) [
      | true ↦ run_length is_word_byte bs
      | false ↦ elim (is_digit b || eqb b 45) as (λ v. ℕ) [
        | true ↦ run_length is_digit bs
        | false ↦ elim (may_take_equals b && begins_with_equals bs) as (λ v. ℕ) [ true ↦ 1 | false ↦ 0 ]
      ]
    ]) letter
    ∙ ap (λ (x : Bool). elim x as (λ v. ℕ) [
      | true ↦ run_length is_digit bs
      | false ↦ elim (may_take_equals b && begins_with_equals bs) as (λ v. ℕ) [ true ↦ 1 | false ↦ 0 ]
    ]) h

token-number : (at b : ℕ) (bs : Text) (n : ℕ) → is_letter b ≡ false → more_bytes b bs ≡ n → (is_digit b || (eqb b 45 && leb 1 n)) ≡ true → token_at at b bs ≡ Number (record { at = at; end = at + suc n })
unfolding token_at
token-number at b bs n letter more h =
    ap (λ (m : ℕ). elim (is_letter b) as (λ v. Token) [
      | true ↦ word_token (record { at = at; end = at + suc m }) (b ∷ take m bs)
      | false ↦ elim (is_digit b || (eqb b 45 && leb 1 m)) as (λ v. Token) [
        | true ↦ Number (record { at = at; end = at + suc m })
        | false ↦ sign_token b (leb 1 m)
      ]
    ]) more
    ∙ ap (λ (x : Bool). elim x as (λ v. Token) [
      | true ↦ word_token (record { at = at; end = at + suc n }) (b ∷ take n bs)
      | false ↦ elim (is_digit b || (eqb b 45 && leb 1 n)) as (λ v. Token) [
        | true ↦ Number (record { at = at; end = at + suc n })
        | false ↦ sign_token b (leb 1 n)
      ]
    ]) letter
    ∙ ap (λ (x : Bool). elim x as (λ v. Token) [
      | true ↦ Number (record { at = at; end = at + suc n })
      | false ↦ sign_token b (leb 1 n)
    ]) h

number_tokens : (at b : ℕ) (bs rest : Text) → eqb b 32 ≡ false → is_letter b ≡ false → (is_digit b || eqb b 45) ≡ true → (is_digit b || (eqb b 45 && leb 1 (length bs))) ≡ true
    → list_all is_digit bs ≡ true → Ends rest
    → tokens_from 0 at (b ∷ (bs ++ rest)) ≡ (at, Number (record { at = at; end = at + suc (length bs) })) ∷ tokens_from 0 (at + suc (length bs)) rest
number_tokens at b bs rest blank letter begins whole all end =
    let more = more-number b (bs ++ rest) letter begins ∙ run-length is_digit bs rest all (no_digit rest end) in
    token-whole at b bs rest (Number (record { at = at; end = at + suc (length bs) })) blank more (token-number at b (bs ++ rest) (length bs) letter more whole)

below_letters : (b : ℕ) → is_digit b ≡ true → is_letter b ≡ false
below_letters b h = grind (arith, and_parts)

pub unsigned_tokens : (at b : ℕ) (bs rest : Text) → is_digit b ≡ true → list_all is_digit bs ≡ true → Ends rest
    → tokens_from 0 at (b ∷ (bs ++ rest)) ≡ (at, Number (record { at = at; end = at + suc (length bs) })) ∷ tokens_from 0 (at + suc (length bs)) rest
unsigned_tokens at b bs rest digit all end =
    number_tokens at b bs rest
    (false_from_ne_true (eqb b 32) (λ e. false≢true (subst (λ (x : ℕ). is_digit x ≡ true) (eqb-true b 32 e) digit)))
    (below_letters b digit) (or_left (is_digit b) (eqb b 45) digit) (or_left (is_digit b) (eqb b 45 && leb 1 (length bs)) digit) all end

pub negative_tokens : (at : ℕ) (bs rest : Text) → 1 ≤ length bs → list_all is_digit bs ≡ true → Ends rest
    → tokens_from 0 at (45 ∷ (bs ++ rest)) ≡ (at, Number (record { at = at; end = at + suc (length bs) })) ∷ tokens_from 0 (at + suc (length bs)) rest
negative_tokens at bs rest some all end = number_tokens at 45 bs rest refl refl refl (le-leb 1 (length bs) some) all end
