-- Sound texts at the end of the input, and what their events are the start of.
use Rattle.std.proofs.Common.{◌≡◌, ℕ, zero, suc, ◌+◌, ◌-◌, ◌<◌, ◌≤◌, Bool, true, false, List, [], ◌++◌, length, drop, Option, Some, None, cond, refl, sym, ◌∙◌, ap, arith, length-append, append-nil, append_assoc, add-zero, length-drop}
use Rattle.std.proofs.lemmas.Bool.{lt-ltb, le-ltb}
use Rattle.std.proofs.lemmas.List.{take_all}
use Rattle.std.specs.Option.{option_or}
use Rattle.std.specs.Prelude.{unwrap_or, nat_lt}
use Rattle.ecam_spec.specs.declared.kinds.Event.{Event}
use Rattle.ecam_spec.specs.declared.kinds.FaultKind.TheVariants.{Cut, NoEnd}
use Rattle.ecam_spec.specs.Places.{first_place}
use Rattle.ecam_spec.specs.Record.{is_feed, line_start, line_before, is_wrong, wrong_place, sound_length, wrong_end, fault_at, fault, events}
use Rattle.record_lines.specs.Reads.{last_line, last_number, is_over, BeginEvents}
use Rattle.record_lines.proofs.Prefix.{first_place-suc}
use Rattle.record_lines.proofs.LinesSaid.{said, said-suc, said-prefix, line_events}
use Rattle.record_lines.proofs.SoundLines.{sound-prefix, events-sound}

-- ---- at the end of the input

length-last_line : (text : List ℕ) → length (last_line text) ≡ length text - line_start text (length text)
unfolding line_before
length-last_line text =
    ap (λ l. length (drop (line_start text (length text)) l)) (take_all (length text) text (omega arith))
    ∙ length-drop (line_start text (length text)) text

module _ (limit : ℕ) (text : List ℕ) (sound : wrong_place text limit ≡ None) where
  -- nothing is wrong before the end
  fault-end : fault text limit ≡ wrong_end text
  unfolding fault fault_at
  fault-end = ap (fault_at text limit) sound

  -- the last line isn't whole
  pub fault-cut : 0 < length (last_line text) → fault text limit ≡ Some (record { kind = Cut; line = last_number text })
  unfolding wrong_end
  fault-cut begun =
      let len = length-last_line text in
      let inside : nat_lt (line_start text (length text)) (length text) ≡ true = lt-ltb (line_start text (length text)) (length text) (omega arith) in
      fault-end ∙ rw inside refl

  whole_lines : last_line text ≡ [] → nat_lt (line_start text (length text)) (length text) ≡ false
  whole_lines whole =
      let len = length-last_line text in
      let none = ap length whole in
      le-ltb (line_start text (length text)) (length text) (omega arith)

  -- all lines are whole, and one ended the record
  pub fault-none : last_line text ≡ [] → is_over text ≡ true → fault text limit ≡ None
  unfolding wrong_end
  fault-none whole over = let inside = whole_lines whole in fault-end ∙ rw (inside, over) refl

  -- all lines are whole, and none ended the record
  pub fault-no_end : last_line text ≡ [] → is_over text ≡ false → fault text limit ≡ Some (record { kind = NoEnd; line = last_number text })
  unfolding wrong_end
  fault-no_end whole lasting = let inside = whole_lines whole in fault-end ∙ rw (inside, lasting) refl

-- ---- the events of longer texts begin with those of a sound text

said-many : (text : List ℕ) (n m : ℕ) → (later : List Event) × (said text (n + m) ≡ said text n ++ later)
said-many text n zero = ([], ap (said text) (add-zero n) ∙ sym (append-nil (said text n)))
said-many text n (suc m) =
    let earlier = said-many text n m in
    let new : List Event = cond (is_feed text (n + m)) (line_events (line_before text (n + m))) [] in
    let shift : n + suc m ≡ suc (n + m) = omega arith in
    (earlier.0 ++ new, ap (said text) shift ∙ said-suc text (n + m) ∙ ap (λ l. l ++ new) earlier.1 ∙ append_assoc (said text n) earlier.0 new)

-- the first place that passes isn't among places where none does
first_place-after : (p : ℕ → Bool) (n m : ℕ) → first_place p n ≡ None → n ≤ unwrap_or (first_place p (n + m)) (n + m)
first_place-after p n zero none =
    let here : first_place p (n + 0) ≡ None = ap (first_place p) (add-zero n) ∙ none in
    rw here (omega arith)
first_place-after p n (suc m) none =
    let shift : n + suc m ≡ suc (n + m) = omega arith in
    let earlier : n ≤ unwrap_or (first_place p (n + m)) (n + m) = first_place-after p n m none in
    let step : first_place p (n + suc m) ≡ option_or (first_place p (n + m)) (cond (p (n + m)) (Some (n + m)) None) = ap (first_place p) shift ∙ first_place-suc p (n + m) in
    rw step (later (first_place p (n + m)) (p (n + m)) (n + m) (n + suc m) n earlier (omega arith) (omega arith))
  where
    later : (o : Option ℕ) (b : Bool) (k d n : ℕ) → n ≤ unwrap_or o k → n ≤ k → n ≤ d → n ≤ unwrap_or (option_or o (cond b (Some k) None)) d
    later (Some x) b k d n h low top = h
    later None true k d n h low top = low
    later None false k d n h low top = top

module _ (limit : ℕ) (text : List ℕ) (sound : wrong_place text limit ≡ None) where
  -- nothing is wrong in it where more stands behind it
  pub sound_reaches : (more : List ℕ) → length text ≤ sound_length (text ++ more) limit
  unfolding sound_length wrong_place
  sound_reaches more =
      let len : length (text ++ more) ≡ length text + length more = length-append text more in
      rw len (first_place-after (is_wrong (text ++ more) limit) (length text) (length more) (sound-prefix limit text sound more))

  pub begin_events : BeginEvents limit text (events text limit)
  unfolding events sound_length wrong_place said
  begin_events more =
      let p : ℕ → Bool = is_wrong (text ++ more) limit in
      let len : length (text ++ more) ≡ length text + length more = length-append text more in
      let stop : ℕ = unwrap_or (first_place p (length (text ++ more))) (length (text ++ more)) in
      let after : length text ≤ stop = rw len (first_place-after p (length text) (length more) (sound-prefix limit text sound more)) in
      let over : stop ≡ length text + (stop - length text) = omega arith in
      let many = said-many (text ++ more) (length text) (stop - length text) in (
        many.0,
        ap (said (text ++ more)) over
            ∙ many.1
            ∙ ap (λ l. l ++ many.0) (said-prefix text more (length text) (omega arith) ∙ sym (events-sound limit text sound)),
      )
