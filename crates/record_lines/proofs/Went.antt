-- A reader that went through some bytes: what was taken, and what is wrong or right after them.
use Rattle.std.proofs.Common.{◌≡◌, ℕ, zero, suc, ◌+◌, ◌<◌, ◌≤◌, min, Bool, true, false, ◌==◌, List, [], ◌∷◌, ◌++◌, length, get_or, take, drop, Some, None, refl, sym, ◌∙◌, ap, subst, arith, length-append, length-take, append-nil, append_assoc, take-append-drop}
use Rattle.std.proofs.lemmas.Bool.{ltb-false, eqb-true, le-ltb}
use Rattle.std.proofs.lemmas.List.{take_all, drop_more, get_or-take}
use Rattle.std.proofs.lemmas.List.Quantifiers.{position-Some}
use Rattle.std.proofs.lemmas.List.Sums.{fails_before_first}
use Rattle.std.specs.List.{position}
use Rattle.ecam_spec.specs.declared.kinds.Event.{Event}
use Rattle.ecam_spec.specs.declared.kinds.FaultKind.{FaultKind}
use Rattle.ecam_spec.specs.Record.{wrong_place, sound_length, line_start, line_before, line_number, events}
use Rattle.ecam_spec.specs.Past.{previous}
use Rattle.ecam_spec.specs.Places.{below, first_place}
use Rattle.record_lines.specs.declared.outcome.Stage.{Stage}
use Rattle.record_lines.specs.declared.outcome.Stage.TheVariants.{Lines, Closing, Ended, Faulty}
use Rattle.record_lines.specs.Reader.{ReaderState, settled_at}
use Rattle.record_lines.specs.Reads.{last_line, last_number, is_over, HasFault, IsNear, BeginEvents, WentThrough, ReadsAt}
use Rattle.record_lines.proofs.SoundLines.{verdict, fault-here, events-here}
use Rattle.record_lines.proofs.Grows.{IsFeedless}
use Rattle.record_lines.proofs.Ends.{begin_events, sound_reaches}
use Rattle.record_lines.proofs.Forms.{nowhere-len}

pub cons_at : (xs : List ℕ) → 0 < length xs → xs ≡ get_or xs 0 0 ∷ drop 1 xs
cons_at [] some = absurd (omega arith)
cons_at (x ∷ xs) some = refl

pub feedless-nowhere : (xs : List ℕ) → position (λ b. b == 10) xs ≡ None → IsFeedless xs
feedless-nowhere xs none k within =
    fails_before_first (λ b. b == 10) xs k 0 (let past = nowhere-len (λ b. b == 10) xs none in omega arith)

pub feedless-before : (xs : List ℕ) (at n : ℕ) → position (λ b. b == 10) xs ≡ Some at → n ≤ at → IsFeedless (take n xs)
feedless-before xs at n some low k within =
    let found = position-Some (λ b. b == 10) xs at 0 some in
    let len = length-take n xs in
    ap (λ b. b == 10) (get_or-take n xs k 0 (omega arith)) ∙ found.2 k (omega arith)

-- the list at its first line feed
pub split_at : (xs : List ℕ) (at : ℕ) → position (λ b. b == 10) xs ≡ Some at → xs ≡ take at xs ++ 10 ∷ drop (at + 1) xs
split_at xs at some =
    let found = position-Some (λ b. b == 10) xs at 0 some in
    let byte : get_or xs at 0 ≡ 10 = eqb-true (get_or xs at 0) 10 found.1 in
    sym (take-append-drop at xs) ∙ ap (λ l. take at xs ++ l) (drop_more xs at 0 found.0 ∙ ap (λ b. b ∷ drop (at + 1) xs) byte)

pub inside : (xs : List ℕ) (at : ℕ) → position (λ b. b == 10) xs ≡ Some at → at < length xs
inside xs at some = (position-Some (λ b. b == 10) xs at 0 some).0

pub is_closing : Stage → Bool
is_closing Closing = true
is_closing _ = false

pub went : (s : Stage) (limit : ℕ) (taken : List ℕ) (answered : List Event) (r : ReaderState) → settled_at s ≡ None → ReadsAt s limit taken answered r
    → (gone : List ℕ) × WentThrough limit gone taken answered (is_closing s) r
unfolding is_closing
went Lines limit taken answered r unsettled reads = reads
went Closing limit taken answered r unsettled reads = reads
went Ended limit taken answered r unsettled reads = absurd (let clash : settled_at Ended ≡ None = unsettled in let w : ⊥ = cc in w)
went (Faulty f) limit taken answered r unsettled reads = absurd (let clash : settled_at (Faulty f) ≡ None = unsettled in let w : ⊥ = cc in w)

pub reads_from : (s : Stage) (limit : ℕ) (taken : List ℕ) (answered : List Event) (r : ReaderState) → settled_at s ≡ None → (gone : List ℕ) → WentThrough limit gone taken answered (is_closing s) r
    → ReadsAt s limit taken answered r
unfolding is_closing
reads_from Lines limit taken answered r unsettled gone w = (gone, w)
reads_from Closing limit taken answered r unsettled gone w = (gone, w)
reads_from Ended limit taken answered r unsettled gone w = absurd (let clash : settled_at Ended ≡ None = unsettled in let w : ⊥ = cc in w)
reads_from (Faulty f) limit taken answered r unsettled gone w = absurd (let clash : settled_at (Faulty f) ≡ None = unsettled in let w : ⊥ = cc in w)

module _ (limit : ℕ) (gone taken : List ℕ) (answered : List Event) (closing : Bool) (r : ReaderState) (w : WentThrough limit gone taken answered closing r) where
  -- what was taken is what it went through, what is left of the piece, and what is beyond the limit
  pub taken_is : taken ≡ gone ++ (r.pending ++ drop limit taken)
  taken_is = sym (take-append-drop limit taken) ∙ ap (λ l. l ++ drop limit taken) w.pending_is ∙ append_assoc gone r.pending (drop limit taken)

  pub counts : length gone + length r.pending ≡ min limit (length taken)
  counts = sym (length-append gone r.pending) ∙ sym (ap length w.pending_is) ∙ length-take limit taken

  -- it took no more than a piece behind the first that is wrong
  pub near_wrong : IsNear limit taken
  near_wrong =
      let rest = r.pending ++ drop limit taken in
      let reach : length gone ≤ sound_length taken limit = subst (λ t. length gone ≤ sound_length t limit) (sym taken_is) (sound_reaches limit gone w.sound rest) in
      omega (arith, reach, w.near)

  -- it went through all bytes that were taken
  pub all_gone : r.pending ≡ [] → r.over ≡ false → taken ≡ gone
  all_gone none within =
      let few : length taken ≤ limit = ltb-false limit (length taken) (sym w.over_is ∙ within) in
      sym (take_all limit taken few) ∙ w.pending_is ∙ ap (λ l. gone ++ l) none ∙ append-nil gone

-- a wrong byte after a sound text
pub HasFault-here : (limit : ℕ) (text : List ℕ) (sound : wrong_place text limit ≡ None) (byte : ℕ) (rest taken : List ℕ) (kind : FaultKind) → verdict limit (length text) (is_over text) (byte == 10) (last_line text) ≡ Some kind → taken ≡ text ++ byte ∷ rest
    → HasFault limit taken (events text limit) (record { kind = kind; line = last_number text })
HasFault-here limit text sound byte rest taken kind wrong split more only =
    let whole : taken ++ more ≡ text ++ byte ∷ (rest ++ more) = ap (λ l. l ++ more) split ∙ append_assoc text (byte ∷ rest) more in
    rw whole (record {
      fault = fault-here limit text sound byte (rest ++ more) kind wrong;
      events = events-here limit text sound byte (rest ++ more) kind wrong;
    })

-- the events of a sound text begin those of what was taken after it
pub BeginEvents-here : (limit : ℕ) (text rest taken : List ℕ) → wrong_place text limit ≡ None → taken ≡ text ++ rest → BeginEvents limit taken (events text limit)
BeginEvents-here limit text rest taken sound split more =
    let whole : taken ++ more ≡ text ++ (rest ++ more) = ap (λ l. l ++ more) split ∙ append_assoc text rest more in
    let begin = begin_events limit text sound (rest ++ more) in
    (begin.0, ap (λ l. events l limit) whole ∙ begin.1)

-- nothing was taken yet
pub begins : (limit : ℕ) (r : ReaderState) → r.pending ≡ [] → r.line ≡ [] → r.number ≡ 1 → r.allowance ≡ limit → r.over ≡ false → WentThrough limit [] [] [] false r
unfolding wrong_place events sound_length line_before line_number line_start first_place previous below
begins limit r pending line number allowance over = record {
  sound = refl;
  closing_is = refl;
  answered_is = refl;
  line_is = line;
  number_is = number;
  pending_is = take_all limit [] (omega arith) ∙ sym pending;
  allowance_is = omega arith;
  over_is = over ∙ sym (le-ltb limit 0 (omega arith));
  near = omega arith;
}

-- a number by a test
pub pos_from : (n : ℕ) → (n == 0) ≡ false → 0 < n
pos_from zero none_left = absurd (let w : ⊥ = cc in w)
pos_from (suc n) some_left = omega arith

pub empty_from : (xs : List ℕ) → (length xs == 0) ≡ true → xs ≡ []
empty_from [] none_left = refl
empty_from (x ∷ xs) none_left = absurd (let zero_length = eqb-true (length (x ∷ xs)) 0 none_left in let w : ⊥ = omega arith in w)

-- a reader that isn't at the end or at a fault, and not in the lines, is after the line that ends the record
pub closing_from : (s : Stage) → settled_at s ≡ None → (s ≡ Lines → ⊥) → s ≡ Closing
closing_from Lines unsettled other = absurd (other refl)
closing_from Closing unsettled other = refl
closing_from Ended unsettled other = absurd (let clash : settled_at Ended ≡ None = unsettled in let w : ⊥ = cc in w)
closing_from (Faulty f) unsettled other = absurd (let clash : settled_at (Faulty f) ≡ None = unsettled in let w : ⊥ = cc in w)

pub lines_from : (s : Stage) → settled_at s ≡ None → (s ≡ Closing → ⊥) → s ≡ Lines
lines_from Lines unsettled other = refl
lines_from Closing unsettled other = absurd (other refl)
lines_from Ended unsettled other = absurd (let clash : settled_at Ended ≡ None = unsettled in let w : ⊥ = cc in w)
lines_from (Faulty f) unsettled other = absurd (let clash : settled_at (Faulty f) ≡ None = unsettled in let w : ⊥ = cc in w)
