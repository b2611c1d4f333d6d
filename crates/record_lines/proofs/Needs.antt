-- Whether a reader's next call has to read.
use Rattle.std.proofs.Common.{◌≡◌, ℕ, suc, ◌+◌, ◌-◌, ◌<◌, ◌≤◌, Bool, true, false, not, ◌&&◌, ◌==◌, cond, List, [], ◌∷◌, ◌++◌, length, take, Option, Some, None, refl, sym, ◌∙◌, ap, arith, length-append}
use Rattle.std.proofs.lemmas.Bool.{le-leb, lt-leb, eq-eqb, ne_eqb}
use Rattle.std.proofs.lemmas.Bool.Decides.{nat_tests}
use Rattle.std.proofs.lemmas.List.{length-take-le}
use Rattle.std.proofs.lemmas.Slice.Eq.{bytes_eq-Decides}
use Rattle.std.specs.Str.{bytes_eq}
use Rattle.std.specs.List.{position}
use Rattle.std.specs.Prelude.{codes}
use Rattle.std.proofs.Math.Bool.{and-false, and-true}
use Rattle.ecam_spec.specs.declared.kinds.Event.{Event}
use Rattle.ecam_spec.specs.declared.kinds.Event.TheVariants.{Tick, End}
use Rattle.ecam_spec.specs.RecordLine.{event_of, is_end}
use Rattle.record_lines.specs.declared.outcome.Stage.{Stage}
use Rattle.record_lines.specs.declared.outcome.Stage.TheVariants.{Lines, Closing, Ended, Faulty}
use Rattle.record_lines.specs.Reader.{ReaderState, settled_at, carried, lacks_line, lacks_bytes, reads_next}
use Rattle.record_lines.proofs.Grows.{event_of-cases}

and-none : (a b : Bool) → (a && (b && false)) ≡ false
and-none true true = refl
and-none true false = refl
and-none false b = refl

same-test : (a : Bool) → a ≡ cond a true false
same-test true = refl
same-test false = refl

suc-not : (n : ℕ) → (suc n == 0) ≡ false
suc-not n = ne_eqb (suc n) 0 (λ e. omega arith)

no-test : (a : Bool) → false ≡ cond a false false
no-test true = refl
no-test false = refl

-- ---- the line that ends the record

-- it has one byte
long-no_end : (line : List ℕ) → 1 < length line → is_end line ≡ false
unfolding is_end
long-no_end line long = by (is_end line) refl where
  by : (b : Bool) → is_end line ≡ b → b ≡ false
  by false is = refl
  by true is = absurd (let same : line ≡ codes "E" = (bytes_eq-Decides line (codes "E")).0 is in let w : ⊥ = omega (arith, ap length same) in w)

-- it has a form
pub formless-no_end : (line : List ℕ) → event_of line ≡ None → is_end line ≡ false
formless-no_end line none = by (bytes_eq line (codes "T")) (is_end line) _ (sym (event_of-cases line) ∙ none) where
  by : (t e : Bool) (rest : Option Event) → cond t (Some Tick) (cond e (Some End) rest) ≡ None → e ≡ false
  by true e rest is = absurd (let w : ⊥ = cc in w)
  by false true rest is = absurd (let w : ⊥ = cc in w)
  by false false rest is = refl

-- in two parts
pub end_across : (line rest : List ℕ) → is_end (line ++ rest) ≡ cond (length line == 0) (bytes_eq rest (codes "E")) (cond (bytes_eq line (codes "E")) (length rest == 0) false)
unfolding is_end
end_across [] rest = refl
end_across (x ∷ []) [] = same-test ((x == 69) && true)
end_across (x ∷ []) (y ∷ rest) =
    and-false (x == 69) ∙ no-test ((x == 69) && true) ∙ ap (λ b. cond ((x == 69) && true) b false) (sym (suc-not (length rest)))
end_across (x ∷ y ∷ line) rest =
    and-false (x == 69) ∙ sym (ap (λ b. cond b (length rest == 0) false) (and-false (x == 69)))
    ∙ ap (λ b. cond b (bytes_eq rest (codes "E")) (cond (bytes_eq (x ∷ y ∷ line) (codes "E")) (length rest == 0) false)) (sym (suc-not (suc (length line))))

-- more bytes than a line may have hold a whole line that doesn't end the record, or one that is too long
pub lacks_long : (r : ReaderState) → 32 < length r.pending → lacks_line (position (λ b. b == 10) r.pending) r ≡ false
lacks_long r long = by (position (λ b. b == 10) r.pending) where
  at_end : (at : ℕ) (b : Bool) → (length r.pending == at + 1) ≡ b → ((length r.pending == at + 1) && is_end (r.line ++ take at r.pending)) ≡ false
  at_end at false is = ap (λ b. b && is_end (r.line ++ take at r.pending)) is
  at_end at true is =
      ap (λ b. b && is_end (r.line ++ take at r.pending)) is
      ∙ long-no_end (r.line ++ take at r.pending)
      (let count : length r.pending ≡ at + 1 = grind (arith, nat_tests) in
      let all = length-append r.line (take at r.pending) in
      let len : length (take at r.pending) ≡ at = length-take-le at r.pending (omega arith) in omega arith)

  by : (at : Option ℕ) → lacks_line at r ≡ false
  by None = lt-leb (length r.pending) (32 - length r.line) (omega arith)
  by (Some at) = at_end at (length r.pending == at + 1) refl

module _ (r : ReaderState) (lines : r.stage ≡ Lines) where
  at_line : (at : Option ℕ) → position (λ b. b == 10) r.pending ≡ at → reads_next r ≡ (not r.over && lacks_line at r)
  at_line at feed = ap (λ s. not r.over && lacks_bytes s r) lines ∙ ap (λ p. not r.over && lacks_line p r) feed

  -- a whole line that doesn't end the record needs no reading
  pub needs-line : (at : ℕ) → position (λ b. b == 10) r.pending ≡ Some at → is_end (r.line ++ take at r.pending) ≡ false → reads_next r ≡ false
  needs-line at feed other = at_line (Some at) feed ∙ ap (λ b. not r.over && ((length r.pending == at + 1) && b)) other ∙ and-none (not r.over) (length r.pending == at + 1)

  -- nor does one that is too long
  pub needs-long : (at : ℕ) → position (λ b. b == 10) r.pending ≡ Some at → at < length r.pending → 32 < length r.line + at → reads_next r ≡ false
  needs-long at feed within long =
      needs-line at feed (long-no_end (r.line ++ take at r.pending)
      (let all = length-append r.line (take at r.pending) in let len : length (take at r.pending) ≡ at = length-take-le at r.pending (omega arith) in omega arith))

  pub needs-endless : position (λ b. b == 10) r.pending ≡ None → 32 < length r.line + length r.pending → length r.line ≤ 32 → reads_next r ≡ false
  needs-endless none long some = at_line None none ∙ ap (λ b. not r.over && b) (lt-leb (length r.pending) (32 - length r.line) (omega (arith, long, some))) ∙ and-false (not r.over)

-- what is left goes to the line
pub needs-carried : (r : ReaderState) → r.stage ≡ Lines → position (λ b. b == 10) r.pending ≡ None → length r.line + length r.pending ≤ 32 → reads_next (carried r) ≡ reads_next r
needs-carried r lines none fits =
    at_line (carried r) lines None refl ∙ ap (λ b. not r.over && b) (le-leb 0 (32 - length (r.line ++ r.pending)) (omega arith))
    ∙ sym (at_line r lines None none ∙ ap (λ b. not r.over && b) (le-leb (length r.pending) (32 - length r.line) (omega arith)))

-- the line that ends the record
pub needs-ended : (at : ℕ) (old new : ReaderState) → old.stage ≡ Lines → new.stage ≡ Closing → position (λ b. b == 10) old.pending ≡ Some at → new.over ≡ old.over
    → (length old.pending ≡ at + 1 + length new.pending) → is_end (old.line ++ take at old.pending) ≡ true → reads_next new ≡ reads_next old
needs-ended at old new lines closing feed over left end =
    let same : (length new.pending == 0) ≡ (length old.pending == at + 1) = grind (arith, nat_tests) in
    ap (λ s. not new.over && lacks_bytes s new) closing ∙ ap (λ o. not o && (length new.pending == 0)) over ∙ ap (λ b. not old.over && b) (same ∙ sym (and-true (length old.pending == at + 1)))
    ∙ sym (at_line old lines (Some at) feed ∙ ap (λ b. not old.over && ((length old.pending == at + 1) && b)) end)

-- ---- behind the lines

pub needs-behind : (r : ReaderState) → r.stage ≡ Closing → 0 < length r.pending → reads_next r ≡ false
needs-behind r closing some =
    ap (λ s. not r.over && lacks_bytes s r) closing ∙ ap (λ b. not r.over && b) (ne_eqb (length r.pending) 0 (λ e. omega arith)) ∙ and-false (not r.over)

pub needs-over : (r : ReaderState) → r.over ≡ true → reads_next r ≡ false
needs-over r over = ap (λ o. not o && lacks_bytes r.stage r) over

pub needs-piece : (r : ReaderState) → settled_at r.stage ≡ None → r.pending ≡ [] → r.over ≡ false → reads_next r ≡ true
needs-piece r unsettled none within = ap (λ o. not o && lacks_bytes r.stage r) within ∙ by r.stage unsettled where
  by : (s : Stage) → settled_at s ≡ None → lacks_bytes s r ≡ true
  by Lines unset = ap (λ l. lacks_line (position (λ b. b == 10) l) r) none ∙ le-leb (length r.pending) (32 - length r.line) (let empty = ap length none in omega arith)
  by Closing unset = eq-eqb (length r.pending) 0 (ap length none)
  by Ended unset = absurd (let w : ⊥ = cc in w)
  by (Faulty f) unset = absurd (let w : ⊥ = cc in w)
