-- What a reader tells as it goes past a line, keeps a part of one, reads a piece or meets the end.
use Rattle.std.proofs.Common.{◌≡◌, ℕ, ◌+◌, ◌-◌, ◌<◌, ◌≤◌, inl, inr, Bool, true, false, ◌==◌, List, [], ◌∷◌, ◌++◌, length, take, drop, Some, None, Ok, cond, refl, sym, ◌∙◌, ap, subst, arith, length-append, length-drop, append-nil, append_assoc}
use Rattle.std.proofs.lemmas.Bool.{ltb-false, cases_lt}
use Rattle.std.proofs.lemmas.Bool.Decides.{nat_tests}
use Rattle.std.proofs.Math.Seq.{take-append-add}
use Rattle.std.proofs.lemmas.List.{length-take-le}
use Rattle.std.specs.List.{position}
use Rattle.ecam_spec.specs.declared.kinds.Event.{Event}
use Rattle.ecam_spec.specs.declared.kinds.Event.TheVariants.{End}
use Rattle.ecam_spec.specs.RecordLine.{event_of, is_end_event}
use Rattle.ecam_spec.specs.Record.{events}
use Rattle.record_lines.specs.declared.outcome.Stage.TheVariants.{Lines, Closing, Ended}
use Rattle.record_lines.specs.Reader.{ReaderState, room, settled, settled_at, cost, carried, filled}
use Rattle.record_lines.specs.Reads.{last_line, IsWhole, BeginEvents, WentThrough, ReadsAt, Reads, TellsAfter, Goes, Gives, Advances}
use Rattle.ecam_spec.proofs.RecordEvents.{event_of-IsEvent}
use Rattle.record_lines.proofs.Grows.{added, grow, grow_line, is_end-event}
use Rattle.record_lines.proofs.Needs.{needs-ended, needs-carried}
use Rattle.record_lines.proofs.Ends.{fault-none}
use Rattle.record_lines.proofs.Forms.{event_of-empty}
use Rattle.record_lines.proofs.Went.{feedless-nowhere, feedless-before, split_at, inside, is_closing, went, reads_from, taken_is, counts, all_gone, BeginEvents-here}

-- readers with the same fields
pub same_reader : (a b : ReaderState) → a.pending ≡ b.pending → a.line ≡ b.line → a.number ≡ b.number → a.allowance ≡ b.allowance → a.over ≡ b.over → a.stage ≡ b.stage → a ≡ b
same_reader a b p l n w o s = λ i. record { pending = p i; line = l i; number = n i; allowance = w i; over = o i; stage = s i }

-- a line with an event has a byte
pub begun_line : (line : List ℕ) (event : Event) → event_of line ≡ Some event → 0 < length line
begun_line line event some =
    elim (cases_lt 0 (length line)) [
      | inl h ↦ h
      | inr h ↦ absurd (let none = event_of-empty line (omega arith) in let clash : None ≡ Some event = sym none ∙ some in let w : ⊥ = cc in w)
    ]

-- the reader went past the line whose line feed stands at this place of what was left
pub record IsPast (at : ℕ) (old new : ReaderState) : Type 0 where
  pub line_is : new.line ≡ []
  pub pending_is : new.pending ≡ drop (at + 1) old.pending
  pub number_is : new.number ≡ old.number + 1
  pub allowance_is : new.allowance ≡ old.allowance
  pub over_is : new.over ≡ old.over

-- what a reader went through up to that place
pub text_past : ℕ → List ℕ → ReaderState → List ℕ
text_past at gone r = (gone ++ take at r.pending) ++ 10 ∷ []

module _ (at : ℕ) (old new : ReaderState) (event : Event) (feed : position (λ b. b == 10) old.pending ≡ Some at) (fits : length old.line + at ≤ 32) (some : event_of (old.line ++ take at old.pending) ≡ Some event) (past : IsPast at old new) where
  pub passed : (limit : ℕ) (gone taken : List ℕ) (answered : List Event) → WentThrough limit gone taken answered false old
      → WentThrough limit (text_past at gone old) taken (answered ++ added event) (is_end_event event) new
  unfolding text_past
  passed limit gone taken answered w =
      let within = inside old.pending at feed in
      let line = take at old.pending in
      let len : length line ≡ at = length-take-le at old.pending (omega arith) in
      let count = counts limit gone taken answered false old w in
      let size = ap length w.line_is in
      let lasting = grow limit line gone w.sound w.closing_is (feedless-before old.pending at at feed (omega arith)) (omega arith) (omega arith) in
      let text = gone ++ line in
      let text_len = length-append gone line in
      let whole_line : last_line text ≡ old.line ++ line = lasting.line_is ∙ ap (λ l. l ++ line) (sym w.line_is) in
      let longer = grow_line limit text event lasting.sound lasting.over_is (ap event_of whole_line ∙ some) (omega arith) in
      record {
        sound = longer.sound;
        closing_is = longer.over_is;
        answered_is = longer.events_are ∙ ap (λ l. l ++ added event) (lasting.events_are ∙ append-nil (events gone limit) ∙ w.answered_is);
        line_is = past.line_is ∙ sym longer.line_is;
        number_is = past.number_is ∙ ap (λ n. n + 1) (w.number_is ∙ sym lasting.number_is) ∙ sym longer.number_is;
        pending_is = w.pending_is ∙ ap (λ l. gone ++ l) (split_at old.pending at feed) ∙ sym (append_assoc gone line (10 ∷ drop (at + 1) old.pending))
            ∙ sym (append_assoc text (10 ∷ []) (drop (at + 1) old.pending)) ∙ ap (λ l. (text ++ 10 ∷ []) ++ l) (sym past.pending_is);
        allowance_is = past.allowance_is ∙ w.allowance_is;
        over_is = past.over_is ∙ w.over_is;
        near = omega (arith, w.near, text_len, length-append text (10 ∷ []));
      }

  -- an event costs two bytes
  pub two_bytes : room new + 2 ≤ room old
  two_bytes =
      let within = inside old.pending at feed in
      let line = take at old.pending in
      let len : length line ≡ at = length-take-le at old.pending (omega arith) in
      let whole = length-append old.line line in
      let begun : 0 < length (old.line ++ line) = begun_line (old.line ++ line) event some in
      let a = ap length past.line_is in
      let b = ap length past.pending_is in
      let c = length-drop (at + 1) old.pending in
      let d = past.allowance_is in
      omega arith

  -- a line with another event than the end
  pub line_gives : old.stage ≡ Lines → new.stage ≡ Lines → is_end_event event ≡ false → Gives old new (Ok event)
  line_gives before after other = record {
    tells = λ limit taken answered reads.
        let through : ReadsAt Lines limit taken answered old = subst (λ s. ReadsAt s limit taken answered old) before reads in
        let w = passed limit through.0 taken answered through.1 in
        let adds : added event ≡ event ∷ [] = ap (λ b. cond b [] (event ∷ [])) other in
        let W : Bool → List Event → Type 0 = λ b l. WentThrough limit (text_past at through.0 old) taken (answered ++ l) b new in
        let lasting : W false (event ∷ []) = subst (λ b. W b (event ∷ [])) other (subst (λ l. W (is_end_event event) l) adds w) in
        let now : Reads limit taken (answered ++ event ∷ []) new = subst (λ s. ReadsAt s limit taken (answered ++ event ∷ []) new) (sym after) (text_past at through.0 old, lasting) in
        let begin : BeginEvents limit taken (answered ++ event ∷ []) =
        subst (λ l. BeginEvents limit taken l) lasting.answered_is
        (BeginEvents-here limit (text_past at through.0 old) (new.pending ++ drop limit taken) taken lasting.sound (taken_is limit (text_past at through.0 old) taken (answered ++ event ∷ []) false new lasting)) in
        let P : List ℕ → Type 0 = λ l. TellsAfter limit l answered (Ok event) new in
        subst P (sym (append-nil taken)) (rw other (record { reads = now; begin = begin }));
    settled_is = ap settled_at after ∙ sym (ap (λ b. cond b (Some (Ok event)) None) other);
    room_is = let two : cost (Ok event) ≡ 2 = ap (λ b. cond b 0 2) other in let less = two_bytes in omega arith;
    event_is = event_of-IsEvent (old.line ++ take at old.pending) event some;
  }

  -- the line that ends the record
  pub line_ends : old.stage ≡ Lines → new.stage ≡ Closing → is_end_event event ≡ true → Advances old new
  line_ends before after end = record {
    goes = λ limit taken answered reads.
        let through : ReadsAt Lines limit taken answered old = subst (λ s. ReadsAt s limit taken answered old) before reads in
        let w = passed limit through.0 taken answered through.1 in
        let adds : added event ≡ [] = ap (λ b. cond b [] (event ∷ [])) end in
        let W : Bool → List Event → Type 0 = λ b l. WentThrough limit (text_past at through.0 old) taken l b new in
        let closing : W true answered = subst (λ b. W b answered) end (subst (λ l. W (is_end_event event) l) (ap (λ l. answered ++ l) adds ∙ append-nil answered) w) in
        let P : List ℕ → Type 0 = λ l. Reads limit l answered new in
        subst P (sym (append-nil taken)) (subst (λ s. ReadsAt s limit taken answered new) (sym after) (text_past at through.0 old, closing));
    unsettled = ap settled_at after;
    room_is = let less = two_bytes in omega arith;
    allowance_is = past.allowance_is;
    over_is = past.over_is;
    needs_is = needs-ended at old new before after feed past.over_is
        (omega (arith, inside old.pending at feed, ap length past.pending_is, length-drop (at + 1) old.pending))
        (is_end-event (old.line ++ take at old.pending) event some ∙ end);
  }

-- what is left goes to the line
pub carries : (r : ReaderState) → r.stage ≡ Lines → position (λ b. b == 10) r.pending ≡ None → length r.line + length r.pending ≤ 32 → Advances r (carried r)
carries r stage none fits = record {
  goes = λ limit taken answered reads.
      let through : ReadsAt Lines limit taken answered r = subst (λ s. ReadsAt s limit taken answered r) stage reads in
      let gone = through.0 in
      let w = through.1 in
      let count = counts limit gone taken answered false r w in
      let size = ap length w.line_is in
      let lasting = grow limit r.pending gone w.sound w.closing_is (feedless-nowhere r.pending none) (omega arith) (omega arith) in
      let now : WentThrough limit (gone ++ r.pending) taken answered false (carried r) = record {
        sound = lasting.sound;
        closing_is = lasting.over_is;
        answered_is = lasting.events_are ∙ append-nil (events gone limit) ∙ w.answered_is;
        line_is = ap (λ l. l ++ r.pending) w.line_is ∙ sym lasting.line_is;
        number_is = w.number_is ∙ sym lasting.number_is;
        pending_is = w.pending_is ∙ sym (append-nil (gone ++ r.pending));
        allowance_is = w.allowance_is;
        over_is = w.over_is;
        near = omega (arith, w.near, length-append gone r.pending);
      } in
      let P : List ℕ → Type 0 = λ l. Reads limit l answered (carried r) in
      subst P (sym (append-nil taken)) (subst (λ s. ReadsAt s limit taken answered (carried r)) (sym stage) (gone ++ r.pending, now));
  unsettled = ap settled_at stage;
  room_is = let len = length-append r.line r.pending in omega arith;
  allowance_is = refl;
  over_is = refl;
  needs_is = needs-carried r stage none fits;
}

-- a piece was read
pub goes_filled : (r : ReaderState) (bytes : List ℕ) → length bytes ≤ 4096 → settled r ≡ None → r.pending ≡ [] → r.over ≡ false → Goes r (filled bytes r) bytes
goes_filled r bytes piece unsettled none within limit taken answered reads =
    let through = went r.stage limit taken answered r unsettled reads in
    let gone = through.0 in
    let w = through.1 in
    let all : taken ≡ gone = all_gone limit gone taken answered (is_closing r.stage) r w none within in
    let few : length taken ≤ limit = ltb-false limit (length taken) (sym w.over_is ∙ within) in
    let len = length-append taken bytes in
    let allowed : r.allowance ≡ limit - length taken = w.allowance_is in
    let whole : limit ≡ length taken + r.allowance = omega arith in
    reads_from r.stage limit (taken ++ bytes) answered (filled bytes r) unsettled gone (record {
      sound = w.sound;
      closing_is = w.closing_is;
      answered_is = w.answered_is;
      line_is = w.line_is;
      number_is = w.number_is;
      pending_is = ap (λ n. take n (taken ++ bytes)) whole ∙ take-append-add taken bytes r.allowance ∙ ap (λ l. l ++ take r.allowance bytes) all;
      allowance_is = omega arith;
      over_is = grind (arith, nat_tests);
      near = omega (arith, piece, len, ap length all);
    })

-- the source is at its end after the line that ended the record
pub ends : (old new : ReaderState) → old.stage ≡ Closing → new.stage ≡ Ended → room new ≤ room old → old.pending ≡ [] → old.over ≡ false → old.line ≡ [] → Gives old new (Ok End)
ends old new before after less none within whole = record {
  tells = λ limit taken answered reads.
      let through : ReadsAt Closing limit taken answered old = subst (λ s. ReadsAt s limit taken answered old) before reads in
      let gone = through.0 in
      let w = through.1 in
      let all : taken ≡ gone = all_gone limit gone taken answered true old w none within in
      let is : IsWhole limit gone answered = record {
        fault = fault-none limit gone w.sound (sym w.line_is ∙ whole) w.closing_is;
        events = w.answered_is;
      } in
      let is_taken : IsWhole limit taken answered = subst (λ l. IsWhole limit l answered) (sym all) is in
      let P : List ℕ → Type 0 = λ l. TellsAfter limit l answered (Ok End) new in
      subst P (sym (append-nil taken)) (record { reads = subst (λ s. ReadsAt s limit taken answered new) (sym after) is_taken; whole = is_taken });
  settled_is = ap settled_at after;
  room_is = omega arith;
  event_is = tt;
}
