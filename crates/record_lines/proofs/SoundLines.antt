-- Texts in which no place is wrong: one more byte, one more line, a wrong byte, the end.
use Rattle.std.proofs.Common.{◌≡◌, ℕ, suc, ◌+◌, Bool, false, not, ◌&&◌, ◌||◌, ◌==◌, List, [], ◌∷◌, ◌++◌, length, Option, Some, None, cond, refl, sym, ◌∙◌, ap, arith, length-append}
use Rattle.std.proofs.Math.Seq.{get_or-append_seam}
use Rattle.std.specs.Option.{option_or}
use Rattle.std.specs.Prelude.{is_some, is_none, unwrap_or, nat_le, if◌then◌else◌}
use Rattle.ecam_spec.specs.declared.kinds.FaultKind.{FaultKind}
use Rattle.ecam_spec.specs.declared.kinds.FaultKind.TheVariants.{Long, Form, AfterEnd, Limit}
use Rattle.ecam_spec.specs.Places.{first_place}
use Rattle.ecam_spec.specs.RecordLine.{event_of, is_end}
use Rattle.ecam_spec.specs.Record.{line_number, ends_record, wrong_at, is_wrong, wrong_place, sound_length, fault_at, fault, events}
use Rattle.record_lines.specs.Reads.{last_line, last_number, is_over}
use Rattle.record_lines.proofs.Prefix.{first_place-suc, first_place-below, first_place-stays, line_before-prefix, line_number-prefix, ended-prefix, wrong_at-prefix}
use Rattle.record_lines.proofs.LinesSaid.{is_feed-here, line_before-suc, line_number-suc, ended-suc, said, said-suc, said-prefix, line_events}

-- ---- what stands at the end of a longer text

pub length-more : (text : List ℕ) (byte : ℕ) → length (text ++ byte ∷ []) ≡ suc (length text)
length-more text byte = omega (arith, length-append text (byte ∷ []))

module _ (text : List ℕ) (byte : ℕ) where
  pub last_line-more : last_line (text ++ byte ∷ []) ≡ cond (byte == 10) [] (last_line text ++ byte ∷ [])
  last_line-more =
      let here = is_feed-here text byte [] in
      let read = get_or-append_seam text byte [] 0 in
      let line = line_before-prefix text (byte ∷ []) (length text) (omega arith) in
      let len = length-more text byte in
      let step = line_before-suc (text ++ byte ∷ []) (length text) (omega arith) in
      cc

  pub last_number-more : last_number (text ++ byte ∷ []) ≡ cond (byte == 10) (last_number text + 1) (last_number text)
  last_number-more =
      let here = is_feed-here text byte [] in
      let number = line_number-prefix text (byte ∷ []) (length text) (omega arith) in
      let len = length-more text byte in
      let step = line_number-suc (text ++ byte ∷ []) (length text) in
      cc

  pub is_over-more : is_over (text ++ byte ∷ []) ≡ ((byte == 10 && is_end (last_line text)) || is_over text)
  unfolding ends_record
  is_over-more =
      let here = is_feed-here text byte [] in
      let line = line_before-prefix text (byte ∷ []) (length text) (omega arith) in
      let over = ended-prefix text (byte ∷ []) (length text) (omega arith) in
      let len = length-more text byte in
      let step = ended-suc (ends_record (text ++ byte ∷ [])) (length text) in
      cc

  pub said-more : said (text ++ byte ∷ []) (length (text ++ byte ∷ [])) ≡ said text (length text) ++ cond (byte == 10) (line_events (last_line text)) []
  said-more =
      let here = is_feed-here text byte [] in
      let line = line_before-prefix text (byte ∷ []) (length text) (omega arith) in
      let before = said-prefix text (byte ∷ []) (length text) (omega arith) in
      let len = length-more text byte in
      let step = said-suc (text ++ byte ∷ []) (length text) in
      cc

-- ---- what is wrong at the next byte

-- the first of the four tests, from what stands at the end of the text before
unfoldable pub verdict : ℕ → ℕ → Bool → Bool → List ℕ → Option FaultKind
verdict limit count over feed line =
    if nat_le limit count then Some Limit
    else (if over then Some AfterEnd
    else (if not feed && length line == 32 then Some Long
    else (if feed && is_none (event_of line) then Some Form
    else None)))

pub wrong_at-here : (text : List ℕ) (byte : ℕ) (more : List ℕ) (limit : ℕ) → wrong_at (text ++ byte ∷ more) limit (length text) ≡ verdict limit (length text) (is_over text) (byte == 10) (last_line text)
unfolding wrong_at verdict
wrong_at-here text byte more limit =
    let here = is_feed-here text byte more in
    let line = line_before-prefix text (byte ∷ more) (length text) (omega arith) in
    let over = ended-prefix text (byte ∷ more) (length text) (omega arith) in
    rw (here, line, over) refl

module _ (limit : ℕ) (text : List ℕ) (sound : wrong_place text limit ≡ None) where
  -- no place of the text is wrong, whatever follows it
  pub sound-prefix : (more : List ℕ) → first_place (is_wrong (text ++ more) limit) (length text) ≡ None
  unfolding wrong_place
  sound-prefix more =
      first_place-below (is_wrong (text ++ more) limit) (is_wrong text limit) (length text)
      (λ i h. ap is_some (wrong_at-prefix text more limit i h))
      ∙ sound

  pub events-sound : events text limit ≡ said text (length text)
  unfolding events sound_length said
  events-sound = ap (λ o. said text (unwrap_or o (length text))) sound

  -- a byte at which nothing is wrong
  pub sound-more : (byte : ℕ) → verdict limit (length text) (is_over text) (byte == 10) (last_line text) ≡ None → wrong_place (text ++ byte ∷ []) limit ≡ None
  unfolding wrong_place
  sound-more byte right =
      let wrong : ℕ → Bool = is_wrong (text ++ byte ∷ []) limit in
      let here : wrong (length text) ≡ false = ap is_some (wrong_at-here text byte [] limit ∙ right) in
      ap (first_place wrong) (length-more text byte)
      ∙ first_place-suc wrong (length text)
      ∙ ap (λ o. option_or o (cond (wrong (length text)) (Some (length text)) None)) (sound-prefix (byte ∷ []))
      ∙ ap (λ b. cond b (Some (length text)) None) here

  -- a byte at which something is wrong is the text's fault, whatever follows
  wrong_place-here : (byte : ℕ) (more : List ℕ) (kind : FaultKind) → verdict limit (length text) (is_over text) (byte == 10) (last_line text) ≡ Some kind → wrong_place (text ++ byte ∷ more) limit ≡ Some (length text)
  unfolding wrong_place
  wrong_place-here byte more kind wrong =
      let here = ap is_some (wrong_at-here text byte more limit ∙ wrong) in
      let len : length (text ++ byte ∷ more) ≡ suc (length text) + length more = omega (arith, length-append text (byte ∷ more)) in
      ap (first_place (is_wrong (text ++ byte ∷ more) limit)) len
      ∙ first_place-stays (is_wrong (text ++ byte ∷ more) limit) (length text) (length more) (sound-prefix (byte ∷ more)) here

  pub fault-here : (byte : ℕ) (more : List ℕ) (kind : FaultKind) → verdict limit (length text) (is_over text) (byte == 10) (last_line text) ≡ Some kind → fault (text ++ byte ∷ more) limit ≡ Some (record { kind = kind; line = last_number text })
  unfolding fault fault_at
  fault-here byte more kind wrong =
      let place = wrong_place-here byte more kind wrong in
      let what : wrong_at (text ++ byte ∷ more) limit (length text) ≡ Some kind = wrong_at-here text byte more limit ∙ wrong in
      let number = line_number-prefix text (byte ∷ more) (length text) (omega arith) in
      ap (fault_at (text ++ byte ∷ more) limit) place
      ∙ ap (λ o. Some (record { kind = unwrap_or o Form; line = line_number (text ++ byte ∷ more) (length text) })) what
      ∙ ap (λ n. Some (record { kind = kind; line = n })) number

  pub events-here : (byte : ℕ) (more : List ℕ) (kind : FaultKind) → verdict limit (length text) (is_over text) (byte == 10) (last_line text) ≡ Some kind → events (text ++ byte ∷ more) limit ≡ events text limit
  unfolding events sound_length said
  events-here byte more kind wrong =
      let place = wrong_place-here byte more kind wrong in
      ap (λ o. said (text ++ byte ∷ more) (unwrap_or o (length (text ++ byte ∷ more)))) place
      ∙ said-prefix text (byte ∷ more) (length text) (omega arith)
      ∙ sym events-sound
