-- The faults that a reader answers are those of what was taken, whatever it took before.
use Rattle.std.proofs.Common.{◌≡◌, ℕ, ◌+◌, ◌-◌, ◌<◌, ◌≤◌, true, false, ◌==◌, List, [], ◌∷◌, ◌++◌, length, get_or, take, drop, Some, None, Err, refl, sym, ◌∙◌, ap, subst, arith, length-append, length-drop, append-nil, append_assoc, take-append-drop}
use Rattle.std.proofs.lemmas.Bool.{ltb-true}
use Rattle.std.proofs.lemmas.List.{drop_more, get_or-take, length-take-le}
use Rattle.std.proofs.lemmas.List.Quantifiers.{position-Some}
use Rattle.std.specs.List.{position}
use Rattle.ecam_spec.specs.declared.kinds.Event.{Event}
use Rattle.ecam_spec.specs.declared.kinds.FaultKind.{FaultKind}
use Rattle.ecam_spec.specs.declared.kinds.FaultKind.TheVariants.{Long, Form, Cut, NoEnd, AfterEnd, Limit}
use Rattle.ecam_spec.specs.declared.kinds.RecordFault.{RecordFault}
use Rattle.ecam_spec.specs.RecordLine.{event_of}
use Rattle.ecam_spec.specs.Record.{events}
use Rattle.record_lines.specs.declared.outcome.Stage.TheVariants.{Lines, Closing, Faulty}
use Rattle.record_lines.specs.declared.outcome.LineError.{LineError}
use Rattle.record_lines.specs.declared.outcome.LineError.TheVariants.{Record}
use Rattle.record_lines.specs.Reader.{ReaderState, room, settled, settled_at, fault_in}
use Rattle.record_lines.specs.Reads.{last_line, is_over, HasFault, ReadsAt, Reads, TellsAfter, Gives}
use Rattle.record_lines.proofs.SoundLines.{verdict}
use Rattle.record_lines.proofs.Grows.{verdict-limit, verdict-after_end, verdict-long, verdict-form, grow}
use Rattle.record_lines.proofs.Ends.{fault-cut, fault-no_end}
use Rattle.record_lines.proofs.Went.{cons_at, feedless-nowhere, feedless-before, split_at, inside, is_closing, went, taken_is, counts, near_wrong, all_gone, HasFault-here}

-- a reader refuses what has this fault whatever it took before
pub refused : (old new : ReaderState) (f : RecordFault) → settled old ≡ None → new.stage ≡ Faulty f → room new ≤ room old
    → ((limit : ℕ) (taken : List ℕ) (answered : List Event) → Reads limit taken answered old → HasFault limit taken answered f) → Gives old new (Err (Record f))
refused old new f unsettled stage less told = record {
  tells = λ limit taken answered reads.
      let faulty = told limit taken answered reads in
      let through = went old.stage limit taken answered old unsettled reads in
      let near = near_wrong limit through.0 taken answered (is_closing old.stage) old through.1 in
      let now : ReadsAt new.stage limit taken answered new = subst (λ s. ReadsAt s limit taken answered new) (sym stage) (faulty, near) in
      let P : List ℕ → Type 0 = λ l. TellsAfter limit l answered (Err (Record f)) new in
      subst P (sym (append-nil taken)) (record { reads = now; faulty = faulty; near = near });
  settled_is = ap settled_at stage;
  room_is = omega arith;
  event_is = tt;
}

-- a fault of the right kind, events and number
pub same_fault : (limit : ℕ) (taken : List ℕ) (a b : List Event) (kind : FaultKind) (n m : ℕ) → a ≡ b → n ≡ m → HasFault limit taken a (record { kind = kind; line = n }) → HasFault limit taken b (record { kind = kind; line = m })
same_fault limit taken a b kind n m events_same number_same h =
    let H : List Event → ℕ → Type 0 = λ e k. HasFault limit taken e (record { kind = kind; line = k }) in
    subst (λ k. H b k) number_same (subst (λ e. H e n) events_same h)

-- a reader fails with a fault of its line
pub fails : (old mid new : ReaderState) (kind : FaultKind) (e : LineError) → settled old ≡ None → e ≡ Record (fault_in kind mid) → new ≡ record mid { stage = Faulty (fault_in kind mid) } → mid.number ≡ old.number → room mid ≤ room old
    → ((limit : ℕ) (taken : List ℕ) (answered : List Event) → Reads limit taken answered old → HasFault limit taken answered (fault_in kind old)) → Gives old new (Err e)
fails old mid new kind e unsettled is state number less told =
    let P : LineError → Type 0 = λ x. Gives old new (Err x) in
    let F : ℕ → Type 0 = λ n. Gives old new (Err (Record (record { kind = kind; line = n }))) in
    let same : new.stage ≡ Faulty (fault_in kind old) = ap (λ r. r.stage) state ∙ ap (λ n. Faulty (record { kind = kind; line = n })) number in
    let size : room new ≡ room mid = ap room state in
    subst P (sym is) (subst F (sym number) (refused old new (fault_in kind old) unsettled same (omega arith) told))

pub after_end : (r : ReaderState) → r.stage ≡ Closing → 0 < length r.pending → (limit : ℕ) (taken : List ℕ) (answered : List Event) → Reads limit taken answered r → HasFault limit taken answered (fault_in AfterEnd r)
after_end r stage some limit taken answered reads =
    let through : ReadsAt Closing limit taken answered r = subst (λ s. ReadsAt s limit taken answered r) stage reads in
    let gone = through.0 in
    let w = through.1 in
    let count = counts limit gone taken answered true r w in
    let over : is_over gone ≡ true = w.closing_is in
    let byte = get_or r.pending 0 0 in
    let wrong : verdict limit (length gone) (is_over gone) (byte == 10) (last_line gone) ≡ Some AfterEnd = rw over (verdict-after_end limit (length gone) (byte == 10) (last_line gone) (omega arith)) in
    let split : taken ≡ gone ++ byte ∷ (drop 1 r.pending ++ drop limit taken) = taken_is limit gone taken answered true r w ∙ ap (λ l. gone ++ (l ++ drop limit taken)) (cons_at r.pending some) in
    same_fault limit taken _ _ AfterEnd _ _ w.answered_is (sym w.number_is) (HasFault-here limit gone w.sound byte (drop 1 r.pending ++ drop limit taken) taken AfterEnd wrong split)

pub beyond_limit : (r : ReaderState) → settled r ≡ None → r.pending ≡ [] → r.over ≡ true → (limit : ℕ) (taken : List ℕ) (answered : List Event) → Reads limit taken answered r → HasFault limit taken answered (fault_in Limit r)
beyond_limit r unsettled none over limit taken answered reads =
    let through = went r.stage limit taken answered r unsettled reads in
    let gone = through.0 in
    let w = through.1 in
    let count = counts limit gone taken answered (is_closing r.stage) r w in
    let empty = ap length none in
    let many : limit < length taken = ltb-true limit (length taken) (sym w.over_is ∙ over) in
    let left = length-drop limit taken in
    let beyond = drop limit taken in
    let byte = get_or beyond 0 0 in
    let wrong = verdict-limit limit (length gone) (is_over gone) (byte == 10) (last_line gone) (omega arith) in
    let split : taken ≡ gone ++ byte ∷ drop 1 beyond =
    taken_is limit gone taken answered (is_closing r.stage) r w ∙ ap (λ l. gone ++ (l ++ beyond)) none ∙ ap (λ l. gone ++ l) (cons_at beyond (omega arith)) in
    same_fault limit taken _ _ Limit _ _ w.answered_is (sym w.number_is) (HasFault-here limit gone w.sound byte (drop 1 beyond) taken Limit wrong split)

pub too_long : (r : ReaderState) → r.stage ≡ Lines → length r.line ≤ 32 → 32 - length r.line < length r.pending → ((k : ℕ) → k ≤ 32 - length r.line → (get_or r.pending k 0 == 10) ≡ false)
    → (limit : ℕ) (taken : List ℕ) (answered : List Event) → Reads limit taken answered r → HasFault limit taken answered (fault_in Long r)
too_long r stage begun many feedless limit taken answered reads =
    let through : ReadsAt Lines limit taken answered r = subst (λ s. ReadsAt s limit taken answered r) stage reads in
    let gone = through.0 in
    let w = through.1 in
    let count = counts limit gone taken answered false r w in
    let n = 32 - length r.line in
    let line = take n r.pending in
    let len : length line ≡ n = length-take-le n r.pending (omega arith) in
    let size = ap length w.line_is in
    let lasting = grow limit line gone w.sound w.closing_is
    (λ k h. ap (λ b. b == 10) (get_or-take n r.pending k 0 (omega arith)) ∙ feedless k (omega arith))
    (omega arith) (omega arith) in
    let byte = get_or r.pending n 0 in
    let other : (byte == 10) ≡ false = feedless n (omega arith) in
    let full : length (last_line (gone ++ line)) ≡ 32 = ap length lasting.line_is ∙ length-append (last_line gone) line ∙ omega arith in
    let text = gone ++ line in
    let text_len = length-append gone line in
    let wrong : verdict limit (length text) (is_over text) (byte == 10) (last_line text) ≡ Some Long = rw (lasting.over_is, other) (verdict-long limit (length text) (last_line text) (omega arith) full) in
    let cut : r.pending ≡ line ++ byte ∷ drop (n + 1) r.pending = sym (take-append-drop n r.pending) ∙ ap (λ l. line ++ l) (drop_more r.pending n 0 many) in
    let rest = drop (n + 1) r.pending ++ drop limit taken in
    let split : taken ≡ text ++ byte ∷ rest =
    taken_is limit gone taken answered false r w ∙ ap (λ l. gone ++ (l ++ drop limit taken)) cut
    ∙ ap (λ l. gone ++ l) (append_assoc line (byte ∷ drop (n + 1) r.pending) (drop limit taken)) ∙ sym (append_assoc gone line (byte ∷ rest)) in
    same_fault limit taken _ _ Long _ _ (lasting.events_are ∙ append-nil (events gone limit) ∙ w.answered_is) (lasting.number_is ∙ sym w.number_is) (HasFault-here limit text lasting.sound byte rest taken Long wrong split)

-- where a line feed stands beyond the line's 32 bytes, or none stands in what is left, which goes on beyond them
abbrev pub GoesBeyond : ReaderState → Type 0
GoesBeyond r = (32 - length r.line < length r.pending) × ((k : ℕ) → k ≤ 32 - length r.line → (get_or r.pending k 0 == 10) ≡ false)

pub beyond_some : (r : ReaderState) (at : ℕ) → position (λ b. b == 10) r.pending ≡ Some at → 32 < length r.line + at → length r.line ≤ 32 → GoesBeyond r
beyond_some r at some far begun =
    let found = position-Some (λ b. b == 10) r.pending at 0 some in
    let within = found.0 in
    (omega arith, λ k h. found.2 k (omega arith))

pub beyond_none : (r : ReaderState) → position (λ b. b == 10) r.pending ≡ None → 32 < length r.line + length r.pending → length r.line ≤ 32 → GoesBeyond r
beyond_none r none far begun = (omega arith, λ k h. feedless-nowhere r.pending none k (omega arith))

-- a line of no form
pub no_form : (r : ReaderState) (at : ℕ) → r.stage ≡ Lines → position (λ b. b == 10) r.pending ≡ Some at → length r.line + at ≤ 32 → event_of (r.line ++ take at r.pending) ≡ None
    → (limit : ℕ) (taken : List ℕ) (answered : List Event) → Reads limit taken answered r → HasFault limit taken answered (fault_in Form r)
no_form r at stage feed fits none limit taken answered reads =
    let through : ReadsAt Lines limit taken answered r = subst (λ s. ReadsAt s limit taken answered r) stage reads in
    let gone = through.0 in
    let w = through.1 in
    let within = inside r.pending at feed in
    let count = counts limit gone taken answered false r w in
    let line = take at r.pending in
    let len : length line ≡ at = length-take-le at r.pending (omega arith) in
    let size = ap length w.line_is in
    let lasting = grow limit line gone w.sound w.closing_is (feedless-before r.pending at at feed (omega arith)) (omega arith) (omega arith) in
    let text = gone ++ line in
    let text_len = length-append gone line in
    let whole_line : last_line text ≡ r.line ++ line = lasting.line_is ∙ ap (λ l. l ++ line) (sym w.line_is) in
    let wrong : verdict limit (length text) (is_over text) true (last_line text) ≡ Some Form = rw lasting.over_is (verdict-form limit (length text) (last_line text) (omega arith) (ap event_of whole_line ∙ none)) in
    let rest = drop (at + 1) r.pending ++ drop limit taken in
    let split : taken ≡ text ++ 10 ∷ rest =
    taken_is limit gone taken answered false r w ∙ ap (λ l. gone ++ (l ++ drop limit taken)) (split_at r.pending at feed)
    ∙ ap (λ l. gone ++ l) (append_assoc line (10 ∷ drop (at + 1) r.pending) (drop limit taken)) ∙ sym (append_assoc gone line (10 ∷ rest)) in
    same_fault limit taken _ _ Form _ _ (lasting.events_are ∙ append-nil (events gone limit) ∙ w.answered_is) (lasting.number_is ∙ sym w.number_is) (HasFault-here limit text lasting.sound 10 rest taken Form wrong split)

-- the source failed where nothing is left of the piece
-- the source is at its end in a line
pub cut_off : (r : ReaderState) → settled r ≡ None → r.pending ≡ [] → r.over ≡ false → 0 < length r.line → (limit : ℕ) (taken : List ℕ) (answered : List Event) → Reads limit taken answered r → HasFault limit taken answered (fault_in Cut r)
cut_off r unsettled none within begun limit taken answered reads more only =
    let through = went r.stage limit taken answered r unsettled reads in
    let gone = through.0 in
    let w = through.1 in
    let all : taken ++ more ≡ gone = ap (λ l. taken ++ l) (only refl) ∙ append-nil taken ∙ all_gone limit gone taken answered (is_closing r.stage) r w none within in
    let size = ap length w.line_is in
    rw all (record {
      fault = fault-cut limit gone w.sound (omega arith) ∙ ap (λ n. Some (record { kind = Cut; line = n })) (sym w.number_is);
      events = w.answered_is;
    })

-- the source is at its end, and no line ended the record
pub no_end : (r : ReaderState) → r.stage ≡ Lines → r.pending ≡ [] → r.over ≡ false → r.line ≡ [] → (limit : ℕ) (taken : List ℕ) (answered : List Event) → Reads limit taken answered r → HasFault limit taken answered (fault_in NoEnd r)
no_end r stage none within whole limit taken answered reads more only =
    let through : ReadsAt Lines limit taken answered r = subst (λ s. ReadsAt s limit taken answered r) stage reads in
    let gone = through.0 in
    let w = through.1 in
    let all : taken ++ more ≡ gone = ap (λ l. taken ++ l) (only refl) ∙ append-nil taken ∙ all_gone limit gone taken answered false r w none within in
    rw all (record {
      fault = fault-no_end limit gone w.sound (sym w.line_is ∙ whole) w.closing_is ∙ ap (λ n. Some (record { kind = NoEnd; line = n })) (sym w.number_is);
      events = w.answered_is;
    })
