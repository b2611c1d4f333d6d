-- A record without the lines on which computers fail and come up has no fault, and says the other events.
use Rattle.std.proofs.Common.{◌≡◌, ℕ, zero, suc, ◌+◌, ◌≤◌, Bool, true, false, not, ◌&&◌, ◌==◌, List, [], ◌∷◌, ◌++◌, length, Option, Some, None, cond, leb, refl, sym, ◌∙◌, ap, subst, arith, append-nil, append_assoc, length-append}
use Rattle.std.proofs.lemmas.Bool.{and_parts, leb-true}
use Rattle.std.specs.List.{list_all, cons_option}
use Rattle.std.specs.Prelude.{filter_map, flat_map, codes}
use Rattle.ecam_spec.specs.declared.kinds.Event.{Event}
use Rattle.ecam_spec.specs.declared.limits.TheConstants.{RECORD_LINE}
use Rattle.ecam_spec.specs.declared.kinds.Event.TheVariants.{End}
use Rattle.ecam_spec.specs.Book.{Text}
use Rattle.ecam_spec.specs.Computers.{without_failures}
use Rattle.ecam_spec.specs.History.{changes_computers}
use Rattle.ecam_spec.specs.Output.{line}
use Rattle.ecam_spec.specs.Past.{previous}
use Rattle.ecam_spec.specs.Places.{below, first_place}
use Rattle.ecam_spec.specs.RecordLine.{event_of, is_end, is_end_event}
use Rattle.ecam_spec.specs.Record.{line_start, line_before, wrong_place, sound_length, fault, events}
use Rattle.record_lines.specs.Reads.{last_line, is_over}
use Rattle.record_lines.proofs.Ends.{fault-none}
use Rattle.record_lines.proofs.Grows.{IsFeedless, added, grow, grow_line}
use Rattle.replay_core.specs.RecordLines.{says_event, is_line, is_failure, without_failure_lines, record_of}
use Rattle.replay_core.specs.Unaffected.{DropsFailures}

-- no place of these lines is wrong, they end the record or don't, and say these events
record Holds (limit : ℕ) (text : List ℕ) (over : Bool) (h : List Event) : Type 0 where
  sound : wrong_place text limit ≡ None
  whole : last_line text ≡ []
  over_is : is_over text ≡ over
  events_are : events text limit ≡ h

holds-none : (limit : ℕ) → Holds limit [] false []
unfolding wrong_place first_place line_before line_start previous events sound_length below
holds-none limit = record { sound = refl; whole = refl; over_is = refl; events_are = refl }

not-true : (b : Bool) → not b ≡ true → b ≡ false
not-true true h = sym h
not-true false h = refl

feedless : (bytes : List ℕ) → list_all (λ b. not (b == 10)) bytes ≡ true → IsFeedless bytes
feedless [] all k within = absurd (omega arith)
feedless (b ∷ bytes) all zero within = not-true (b == 10) (and_parts (not (b == 10)) (list_all (λ b. not (b == 10)) bytes) all).0
feedless (b ∷ bytes) all (suc k) within = feedless bytes (and_parts (not (b == 10)) (list_all (λ b. not (b == 10)) bytes) all).1 k (omega arith)

end_line : event_of (codes "E") ≡ Some End
unfolding event_of is_end
end_line = refl

module _ (limit : ℕ) where
  -- by a line of some event
  holds-line : (text bytes : List ℕ) (h : List Event) (event : Event) → Holds limit text false h → event_of bytes ≡ Some event → length bytes ≤ 32 → IsFeedless bytes
      → length text + length (line bytes) ≤ limit → Holds limit (text ++ line bytes) (is_end_event event) (h ++ added event)
  holds-line text bytes h event holds some short plain within =
      let size = length-append bytes (10 ∷ []) in
      let longer = length-append text bytes in
      let empty : length (last_line text) ≡ 0 = ap length holds.whole in
      let begun = grow limit bytes text holds.sound holds.over_is plain (omega arith) (omega arith) in
      let own : last_line (text ++ bytes) ≡ bytes = begun.line_is ∙ ap (λ l. l ++ bytes) holds.whole in
      let ended = grow_line limit (text ++ bytes) event begun.sound begun.over_is (ap event_of own ∙ some) (omega arith) in
      subst (λ t. Holds limit t (is_end_event event) (h ++ added event)) (append_assoc text bytes (10 ∷ [])) (record {
        sound = ended.sound;
        whole = ended.line_is;
        over_is = ended.over_is;
        events_are = ended.events_are ∙ ap (λ l. l ++ added event) (begun.events_are ∙ append-nil (events text limit) ∙ holds.events_are);
      })

  -- by one that doesn't end the record
  holds-event : (text bytes : List ℕ) (h : List Event) (o : Option Event) → Holds limit text false h → event_of bytes ≡ o → says_event o ≡ true → length bytes ≤ 32 → IsFeedless bytes
      → length text + length (line bytes) ≤ limit → Holds limit (text ++ line bytes) false (h ++ cons_option o [])
  holds-event text bytes h None holds some says short plain within = absurd (let never : ⊥ = cc in never)
  holds-event text bytes h (Some event) holds some says short plain within =
      let other : is_end_event event ≡ false = not-true (is_end_event event) says in
      subst (λ b. Holds limit (text ++ line bytes) b (h ++ cond b [] (event ∷ []))) other (holds-line text bytes h event holds some short plain within)

  snoc : (o : Option Event) (h es : List Event) → (h ++ cons_option o []) ++ es ≡ h ++ cons_option o es
  snoc None h es = ap (λ l. l ++ es) (append-nil h)
  snoc (Some e) h es = append_assoc h (e ∷ []) es

  -- by several
  holds-lines : (lines : List Text) (text : List ℕ) (h : List Event) → Holds limit text false h → list_all is_line lines ≡ true
      → length text + length (flat_map line lines) ≤ limit → Holds limit (text ++ flat_map line lines) false (h ++ filter_map event_of lines)
  unfolding is_line
  holds-lines [] text h holds all within =
      subst (λ t. Holds limit t false (h ++ [])) (sym (append-nil text)) (subst (Holds limit text false) (sym (append-nil h)) holds)
  holds-lines (l ∷ lines) text h holds all within =
      let parts = and_parts (is_line l) (list_all is_line lines) all in
      let own = and_parts (says_event (event_of l)) (leb (length l) RECORD_LINE && list_all (λ b. not (b == 10)) l) parts.0 in
      let form = and_parts (leb (length l) RECORD_LINE) (list_all (λ b. not (b == 10)) l) own.1 in
      let size = length-append (line l) (flat_map line lines) in
      let first = holds-event text l h (event_of l) holds refl own.0 (leb-true (length l) RECORD_LINE form.0) (feedless l form.1) (omega arith) in
      let rest = holds-lines lines (text ++ line l) (h ++ cons_option (event_of l) []) first parts.1 (omega (arith, length-append text (line l))) in
      subst (λ t. Holds limit t false (h ++ cons_option (event_of l) (filter_map event_of lines))) (append_assoc text (line l) (flat_map line lines))
      (subst (Holds limit ((text ++ line l) ++ flat_map line lines) false) (snoc (event_of l) h (filter_map event_of lines)) rest)

  module _ (lines : List Text) (all : list_all is_line lines ≡ true) (within : length (record_of lines) ≤ limit) where
    holds-record : Holds limit (record_of lines) true (filter_map event_of lines)
    unfolding record_of
    holds-record =
        let size = length-append (flat_map line lines) (line (codes "E")) in
        let front = holds-lines lines [] [] (holds-none limit) all (omega arith) in
        let whole = holds-line (flat_map line lines) (codes "E") (filter_map event_of lines) End front end_line (omega arith) (feedless (codes "E") refl) (omega arith) in
        subst (Holds limit (flat_map line lines ++ line (codes "E")) true) (append-nil (filter_map event_of lines)) whole

    faultless : fault (record_of lines) limit ≡ None
    faultless = let holds = holds-record in fault-none limit (record_of lines) holds.sound holds.whole holds.over_is

    says : events (record_of lines) limit ≡ filter_map event_of lines
    says = let holds = holds-record in holds.events_are

-- what is said without those lines
kept-says : (lines : List Text) → filter_map event_of (without_failure_lines lines) ≡ without_failures (filter_map event_of lines)
kept-says [] = refl
kept-says (l ∷ lines) = by (event_of l) (kept-says lines) refl where
  by : (o : Option Event) → filter_map event_of (without_failure_lines lines) ≡ without_failures (filter_map event_of lines)
      → event_of l ≡ o → filter_map event_of (cond (not (is_failure o)) (l ∷ without_failure_lines lines) (without_failure_lines lines)) ≡ without_failures (cons_option o (filter_map event_of lines))
  by None rest some = ap (λ o. cons_option o (filter_map event_of (without_failure_lines lines))) some ∙ rest
  by (Some e) rest some = elim (changes_computers e) as (λ b. filter_map event_of (cond (not b) (l ∷ without_failure_lines lines) (without_failure_lines lines)) ≡ cond (not b) (e ∷ without_failures (filter_map event_of lines)) (without_failures (filter_map event_of lines))) [
    | true ↦ rest
    | false ↦ ap (λ o. cons_option o (filter_map event_of (without_failure_lines lines))) some ∙ ap (λ es. e ∷ es) rest
  ]

kept-lines : (lines : List Text) → list_all is_line lines ≡ true → list_all is_line (without_failure_lines lines) ≡ true
kept-lines [] all = refl
kept-lines (l ∷ lines) all =
    let parts = and_parts (is_line l) (list_all is_line lines) all in
    elim (not (is_failure (event_of l))) as (λ b. list_all is_line (cond b (l ∷ without_failure_lines lines) (without_failure_lines lines)) ≡ true) [
      | true ↦ rw parts.0 (kept-lines lines parts.1)
      | false ↦ kept-lines lines parts.1
    ]

kept-short : (lines : List Text) → length (flat_map line (without_failure_lines lines)) ≤ length (flat_map line lines)
kept-short [] = omega arith
kept-short (l ∷ lines) =
    let rest = kept-short lines in
    let all = length-append (line l) (flat_map line lines) in
    elim (not (is_failure (event_of l))) as (λ b. length (flat_map line (cond b (l ∷ without_failure_lines lines) (without_failure_lines lines))) ≤ length (line l ++ flat_map line lines)) [
      | true ↦ omega (arith, length-append (line l) (flat_map line (without_failure_lines lines)))
      | false ↦ omega arith
    ]

module _ (lines : List Text) (limit : ℕ) (all : list_all is_line lines ≡ true) (within : length (record_of lines) ≤ limit) where
  kept-within : length (record_of (without_failure_lines lines)) ≤ limit
  unfolding record_of
  kept-within =
      let few = kept-short lines in
      omega (arith, length-append (flat_map line lines) (line (codes "E")), length-append (flat_map line (without_failure_lines lines)) (line (codes "E")))

  pub drops_failures : DropsFailures (record_of lines) (record_of (without_failure_lines lines)) limit
  drops_failures =
      let kept = without_failure_lines lines in
      record {
        faultless = faultless limit kept (kept-lines lines all) kept-within;
        others = says limit kept (kept-lines lines all) kept-within ∙ kept-says lines ∙ sym (ap without_failures (says limit lines all within));
      }
