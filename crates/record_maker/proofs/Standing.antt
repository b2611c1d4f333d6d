-- Texts of whole lines that stay without a fault as lines are added.
use Rattle.std.proofs.Common.{◌≡◌, ℕ, zero, suc, ◌+◌, ◌≤◌, Bool, true, false, not, ◌&&◌, ◌==◌, List, [], ◌∷◌, ◌++◌, length, Option, Some, None, cond, leb, refl, sym, ◌∙◌, ap, subst, arith, append-nil, append_assoc, length-append}
use Rattle.std.proofs.lemmas.Bool.{and_parts, leb-true}
use Rattle.std.proofs.lemmas.List.Sums.{sum_by-append}
use Rattle.std.specs.List.{list_all}
use Rattle.ecam_spec.specs.declared.kinds.Event.{Event}
use Rattle.ecam_spec.specs.Book.{Text}
use Rattle.ecam_spec.specs.Output.{line}
use Rattle.ecam_spec.specs.Past.{previous}
use Rattle.ecam_spec.specs.Places.{below, first_place}
use Rattle.ecam_spec.specs.RecordLine.{event_of, is_end_event}
use Rattle.ecam_spec.specs.Record.{line_start, line_before, wrong_place, sound_length, events}
use Rattle.ecam_spec.specs.Replay.{is_tick, tick_count}
use Rattle.record_lines.specs.Reads.{last_line, is_over}
use Rattle.record_lines.proofs.Grows.{IsFeedless, added, grow, grow_line}
use Rattle.record_maker.specs.Record.{text_of}
use Rattle.record_maker.proofs.GoodLines.{is_quiet, is_feedless, is_good}

pub tick_count-append : (xs ys : List Event) → tick_count (xs ++ ys) ≡ tick_count xs + tick_count ys
unfolding tick_count
tick_count-append xs ys = sum_by-append (λ e. cond (is_tick e) 1 0) xs ys

-- no place of these lines is wrong, they end the record or don't, and they have so many Ticks
pub record Stands (limit : ℕ) (text : List ℕ) (over : Bool) (ticks : ℕ) : Type 0 where
  pub sound : wrong_place text limit ≡ None
  pub whole : last_line text ≡ []
  pub over_is : is_over text ≡ over
  pub ticks_are : tick_count (events text limit) ≡ ticks

pub stands-none : (limit : ℕ) → Stands limit [] false 0
unfolding wrong_place first_place line_before line_start previous events sound_length below tick_count
stands-none limit = record { sound = refl; whole = refl; over_is = refl; ticks_are = refl }

not-true : (b : Bool) → not b ≡ true → b ≡ false
not-true true h = sym h
not-true false h = refl

-- an event that is quiet adds no Tick
no_tick : (ticks : ℕ) (event : Event) → is_end_event event ≡ false → is_tick event ≡ false → ticks + tick_count (added event) ≡ ticks
unfolding tick_count
no_tick ticks event other still =
    ap (λ b. ticks + tick_count (cond b [] (event ∷ []))) other ∙ ap (λ b. ticks + (0 + cond b 1 0)) still ∙ omega arith

feedless : (bytes : List ℕ) → list_all (λ b. not (b == 10)) bytes ≡ true → IsFeedless bytes
feedless [] all k within = absurd (omega arith)
feedless (b ∷ bytes) all zero within = not-true (b == 10) (and_parts (not (b == 10)) (list_all (λ b. not (b == 10)) bytes) all).0
feedless (b ∷ bytes) all (suc k) within = feedless bytes (and_parts (not (b == 10)) (list_all (λ b. not (b == 10)) bytes) all).1 k (omega arith)

module _ (limit : ℕ) where
  -- by a line of some event
  pub stands-line : (text bytes : List ℕ) (ticks : ℕ) (event : Event) → Stands limit text false ticks → event_of bytes ≡ Some event → length bytes ≤ 32 → IsFeedless bytes
      → length text + length (line bytes) ≤ limit → Stands limit (text ++ line bytes) (is_end_event event) (ticks + tick_count (added event))
  stands-line text bytes ticks event stands some short plain within =
      let size = length-append bytes (10 ∷ []) in
      let longer = length-append text bytes in
      let empty : length (last_line text) ≡ 0 = ap length stands.whole in
      let begun = grow limit bytes text stands.sound stands.over_is plain (omega arith) (omega arith) in
      let own : last_line (text ++ bytes) ≡ bytes = begun.line_is ∙ ap (λ l. l ++ bytes) stands.whole in
      let ended = grow_line limit (text ++ bytes) event begun.sound begun.over_is (ap event_of own ∙ some) (omega arith) in
      subst (λ t. Stands limit t (is_end_event event) (ticks + tick_count (added event))) (append_assoc text bytes (10 ∷ [])) (record {
        sound = ended.sound;
        whole = ended.line_is;
        over_is = ended.over_is;
        ticks_are = ap tick_count (ended.events_are ∙ ap (λ l. l ++ added event) (begun.events_are ∙ append-nil (events text limit)))
            ∙ tick_count-append (events text limit) (added event) ∙ ap (λ n. n + tick_count (added event)) stands.ticks_are;
      })

  -- by one that is quiet
  stands-quiet : (text bytes : List ℕ) (ticks : ℕ) (o : Option Event) → Stands limit text false ticks → event_of bytes ≡ o → is_quiet o ≡ true → length bytes ≤ 32 → IsFeedless bytes
      → length text + length (line bytes) ≤ limit → Stands limit (text ++ line bytes) false ticks
  unfolding is_quiet
  stands-quiet text bytes ticks None stands some quiet short plain within = absurd (let never : ⊥ = cc in never)
  stands-quiet text bytes ticks (Some event) stands some quiet short plain within =
      let parts = and_parts (not (is_end_event event)) (not (is_tick event)) quiet in
      let other : is_end_event event ≡ false = not-true (is_end_event event) parts.0 in
      let still : is_tick event ≡ false = not-true (is_tick event) parts.1 in
      let none : ticks + tick_count (added event) ≡ ticks = no_tick ticks event other still in
      subst (λ n. Stands limit (text ++ line bytes) false n) none
      (subst (λ b. Stands limit (text ++ line bytes) b (ticks + tick_count (added event))) other (stands-line text bytes ticks event stands some short plain within))

  -- by several good lines
  pub stands-good : (lines : List Text) (text : List ℕ) (ticks : ℕ) → Stands limit text false ticks → list_all is_good lines ≡ true
      → length text + length (text_of lines) ≤ limit → Stands limit (text ++ text_of lines) false ticks
  unfolding is_good is_feedless text_of
  stands-good [] text ticks stands good within = subst (λ t. Stands limit t false ticks) (sym (append-nil text)) stands
  stands-good (l ∷ lines) text ticks stands good within =
      let parts = and_parts (is_good l) (list_all is_good lines) good in
      let own = and_parts (is_quiet (event_of l)) (leb (length l) 32 && is_feedless l) parts.0 in
      let form = and_parts (leb (length l) 32) (is_feedless l) own.1 in
      let size = length-append (line l) (text_of lines) in
      let first = stands-quiet text l ticks (event_of l) stands refl own.0 (leb-true (length l) 32 form.0) (feedless l form.1) (omega arith) in
      subst (λ t. Stands limit t false ticks) (append_assoc text (line l) (text_of lines))
      (stands-good lines (text ++ line l) ticks first parts.1 (omega (arith, length-append text (line l))))
