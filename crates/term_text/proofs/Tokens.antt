-- The tokens of a text from a place on, and their reading.
use Rattle.std.proofs.Common.{◌≡◌, ℕ, zero, suc, ◌+◌, ◌<◌, ◌≤◌, Bool, true, false, List, [], ◌∷◌, ◌++◌, length, drop, Option, Some, None, Result, Ok, Err, refl, sym, ap, ◌∙◌, arith, append_assoc, drop-drop}
use Rattle.std.proofs.lemmas.List.{drop_more, drop_all, append-nil}
use Rattle.std.specs.Prelude.{slice_index, ◌==◌}
use Rattle.ecam_spec.specs.Book.{Text}
use Rattle.ecam_spec.specs.declared.terms.Token.{Token}
use Rattle.ecam_spec.specs.declared.term_steps.Step.{Step}
use Rattle.ecam_spec.specs.declared.term_steps.Expected.{Expected}
use Rattle.ecam_spec.specs.Token.{more_bytes, token_at, tokens_from, Placed}
use Rattle.ecam_spec.proofs.TermReading.{Move, next_move, is_whole, after_steps, read_on, reading, text_reading}
use Rattle.term_text.specs.Pending.{Moves}
use Rattle.term_text.specs.StepsTold.{TellsSteps}
use Rattle.term_text.specs.declared.error.TermError.{TermError}
use Rattle.term_text.specs.declared.error.TermError.TheVariants.{Syntax, UnknownName, Number, TooDeep, TooLarge, Memory}

-- the tokens from a place on
abbrev pub tokens_at : Text → ℕ → List Placed
tokens_at text at = tokens_from 0 at (drop at text)

-- their reading, with what is expected there
abbrev pub reading_from : Text → ℕ → List Expected → Result (List Step) ℕ
reading_from text at s = reading (length text) s (tokens_at text at)

-- the tokens behind those bytes of a token that are left
skipped : (skip at : ℕ) (bs : Text) → tokens_from skip at bs ≡ tokens_from 0 (at + skip) (drop skip bs)
unfolding tokens_from
skipped zero at [] = refl
skipped zero at (b ∷ bs) =
    let same : at ≡ at + 0 = omega arith in
    ap (λ (n : ℕ). tokens_from 0 n (b ∷ bs)) same
skipped (suc skip) at [] = refl
skipped (suc skip) at (b ∷ bs) =
    let same : suc at + skip ≡ at + suc skip = omega arith in
    skipped skip (suc at) bs ∙ ap (λ (n : ℕ). tokens_from 0 n (drop skip bs)) same

-- the tokens at a byte, where it is known whether that is a blank
front : (at b : ℕ) (bs : Text) (blank : Bool) → (b == 32) ≡ blank
    → tokens_from 0 at (b ∷ bs)
    ≡ elim blank as (λ v. List Placed) [ true ↦ tokens_from 0 (suc at) bs | false ↦ (at, token_at at b bs) ∷ tokens_from (more_bytes b bs) (suc at) bs ]
unfolding tokens_from
front at b bs blank e =
    ap (λ (v : Bool). elim v as (λ v. List Placed) [ true ↦ tokens_from 0 (suc at) bs | false ↦ (at, token_at at b bs) ∷ tokens_from (more_bytes b bs) (suc at) bs ]) e

pub blank_passed : (text : Text) (at : ℕ) → at < length text → (slice_index text at == 32) ≡ true → tokens_at text at ≡ tokens_at text (at + 1)
blank_passed text at within blank =
    let next : suc at ≡ at + 1 = omega arith in
    ap (tokens_from 0 at) (drop_more text at 0 within)
    ∙ front at (slice_index text at) (drop (at + 1) text) true blank
    ∙ ap (λ (n : ℕ). tokens_from 0 n (drop (at + 1) text)) next

pub token_found : (text : Text) (at : ℕ) → at < length text → (slice_index text at == 32) ≡ false
    → tokens_at text at ≡ (at, token_at at (slice_index text at) (drop (at + 1) text)) ∷ tokens_at text (at + suc (more_bytes (slice_index text at) (drop (at + 1) text)))
token_found text at within token =
    let b = slice_index text at in
    let bs = drop (at + 1) text in
    let more = more_bytes b bs in
    let end : suc at + more ≡ at + suc more = omega arith in
    let behind : at + 1 + more ≡ at + suc more = omega arith in
    ap (tokens_from 0 at) (drop_more text at 0 within)
    ∙ front at b bs false token
    ∙ ap (λ (ts : List Placed). (at, token_at at b bs) ∷ ts)
    (skipped more (suc at) bs
    ∙ ap (λ (n : ℕ). tokens_from 0 n (drop more bs)) end
    ∙ ap (tokens_from 0 (at + suc more)) (drop-drop more (at + 1) text ∙ ap (λ (n : ℕ). drop n text) behind))

pub no_more_tokens : (text : Text) (at : ℕ) → length text ≤ at → tokens_at text at ≡ []
unfolding tokens_from
no_more_tokens text at past = ap (tokens_from 0 at) (drop_all at text past)

-- ---- the reading

after-after : (made more : List Step) (r : Result (List Step) ℕ) → after_steps made (after_steps more r) ≡ after_steps (made ++ more) r
after-after made more (Ok ss) = ap (λ (x : List Step). Ok x) (sym (append_assoc made more ss))
after-after made more (Err at) = refl

-- a blank changes nothing
pub blank_read : (text : Text) (at : ℕ) (s : List Expected) → at < length text → (slice_index text at == 32) ≡ true → reading_from text at s ≡ reading_from text (at + 1) s
blank_read text at s within blank = ap (reading (length text) s) (blank_passed text at within blank)

-- the token at a place, and the place behind it
abbrev pub token_in : Text → ℕ → Token
token_in text at = token_at at (slice_index text at) (drop (at + 1) text)

abbrev pub end_in : Text → ℕ → ℕ
end_in text at = at + suc (more_bytes (slice_index text at) (drop (at + 1) text))

module _ (text : Text) (at : ℕ) (s : List Expected) where
  after_token : at < length text → (slice_index text at == 32) ≡ false → reading_from text at s ≡ read_on at (next_move s (token_in text at)) (λ rest. reading_from text (end_in text at) rest)
  unfolding reading
  after_token within token = ap (reading (length text) s) (token_found text at within token)

  -- a token that fits moves on
  pub token_read : at < length text → (slice_index text at == 32) ≡ false → (rest : List Expected) (made : List Step) → next_move s (token_in text at) ≡ Some (rest, made)
      → reading_from text at s ≡ after_steps made (reading_from text (end_in text at) rest)
  token_read within token rest made move =
      after_token within token ∙ ap (λ (m : Option Move). read_on at m (λ rest. reading_from text (end_in text at) rest)) move

  -- one that doesn't is told
  pub token_refused : at < length text → (slice_index text at == 32) ≡ false → next_move s (token_in text at) ≡ None → reading_from text at s ≡ Err at
  token_refused within token move =
      after_token within token ∙ ap (λ (m : Option Move). read_on at m (λ rest. reading_from text (end_in text at) rest)) move

-- at the end of the text
pub end_read : (text : Text) (at : ℕ) (s : List Expected) → length text ≤ at → reading_from text at s ≡ elim (is_whole s) as (λ v. Result (List Step) ℕ) [ true ↦ Ok [] | false ↦ Err (length text) ]
unfolding reading
end_read text at s past = ap (reading (length text) s) (no_more_tokens text at past)

-- ---- what the loop keeps, and what it answers

module _ (text : Text) (at : ℕ) (steps : List Step) (s : List Expected) (so_far : text_reading text ≡ after_steps steps (reading_from text at s)) where
  pub kept_blank : at < length text → (slice_index text at == 32) ≡ true → text_reading text ≡ after_steps steps (reading_from text (at + 1) s)
  kept_blank within blank = so_far ∙ ap (after_steps steps) (blank_read text at s within blank)

  pub kept_token : at < length text → (slice_index text at == 32) ≡ false → (rest : List Expected) (made : List Step) → next_move s (token_in text at) ≡ Some (rest, made)
      → text_reading text ≡ after_steps (steps ++ made) (reading_from text (end_in text at) rest)
  kept_token within token rest made move =
      so_far
      ∙ ap (after_steps steps) (token_read text at s within token rest made move)
      ∙ after-after steps made (reading_from text (end_in text at) rest)

  pub told_refusal : at < length text → (slice_index text at == 32) ≡ false → (rest : List Expected) (e : TermError) → Moves (next_move s (token_in text at)) rest at (Err e) → TellsSteps (text_reading text) (Err e)
  told_refusal within token rest (Syntax place) h =
      so_far ∙ ap (after_steps steps) (token_refused text at s within token h.0) ∙ ap (λ (n : ℕ). Err n) (sym h.1)
  told_refusal within token rest (UnknownName place) h = absurd h
  told_refusal within token rest (Number place) h = absurd h
  told_refusal within token rest TooDeep h = absurd h
  told_refusal within token rest TooLarge h = absurd h
  told_refusal within token rest Memory h = tt

  told_end : length text ≤ at → (whole : Bool) → is_whole s ≡ whole → text_reading text ≡ after_steps steps (elim whole as (λ v. Result (List Step) ℕ) [ true ↦ Ok [] | false ↦ Err (length text) ])
  told_end past whole e =
      so_far
      ∙ ap (after_steps steps) (end_read text at s past ∙ ap (λ (b : Bool). elim b as (λ v. Result (List Step) ℕ) [ true ↦ Ok [] | false ↦ Err (length text) ]) e)

  pub told_whole : length text ≤ at → is_whole s ≡ true → text_reading text ≡ Ok steps
  told_whole past e = told_end past true e ∙ ap (λ (x : List Step). Ok x) (append-nil steps)

  pub told_short : length text ≤ at → is_whole s ≡ false → text_reading text ≡ Err (length text)
  told_short past e = told_end past false e
