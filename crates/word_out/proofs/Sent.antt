-- Words that are written at some Ticks, and the record that their lines are: whatever is written, and whenever.
use Rattle.std.proofs.Common.{◌≡◌, ℕ, zero, suc, ◌+◌, ◌≤◌, Bool, true, false, not, ◌==◌, List, [], ◌∷◌, ◌++◌, length, Some, None, cond, refl, sym, ap, ◌∙◌, subst, arith, append-nil, append_assoc, length-append}
use Rattle.std.proofs.lemmas.Bool.{and_parts}
use Rattle.std.specs.List.{list_all}
use Rattle.std.specs.Prelude.{codes, flat_map}
use Rattle.ecam_spec.specs.declared.kinds.Event.{Event}
use Rattle.ecam_spec.specs.declared.kinds.Event.TheVariants.{Word, Tick}
use Rattle.ecam_spec.specs.Book.{Text}
use Rattle.ecam_spec.specs.Output.{line}
use Rattle.ecam_spec.specs.Past.{previous}
use Rattle.ecam_spec.specs.Places.{below, first_place}
use Rattle.ecam_spec.specs.RecordLine.{event_of, is_end_event}
use Rattle.ecam_spec.specs.Record.{line_start, line_before, wrong_place, sound_length, events}
use Rattle.record_lines.specs.Reads.{last_line, is_over}
use Rattle.record_lines.proofs.Grows.{IsFeedless, added, grow, grow_line}
use Rattle.view_spec.specs.OutputWords.{word_line}

-- ---- a text of whole lines

-- no place of it is wrong, its lines are whole, they end the record or don't, and say these events
pub record ReadsAs (limit : ℕ) (text : Text) (over : Bool) (es : List Event) : Type 0 where
  pub sound : wrong_place text limit ≡ None
  pub whole : last_line text ≡ []
  pub over_is : is_over text ≡ over
  pub events_are : events text limit ≡ es

pub reads_none : (limit : ℕ) → ReadsAs limit [] false []
unfolding wrong_place first_place line_before line_start previous events sound_length below
reads_none limit = record { sound = refl; whole = refl; over_is = refl; events_are = refl }

not_true : (b : Bool) → not b ≡ true → b ≡ false
not_true true h = sym h
not_true false h = refl

feedless : (bytes : List ℕ) → list_all (λ b. not (b == 10)) bytes ≡ true → IsFeedless bytes
feedless [] all k within = absurd (omega arith)
feedless (b ∷ bytes) all zero within = not_true (b == 10) (and_parts (not (b == 10)) (list_all (λ b. not (b == 10)) bytes) all).0
feedless (b ∷ bytes) all (suc k) within = feedless bytes (and_parts (not (b == 10)) (list_all (λ b. not (b == 10)) bytes) all).1 k (omega arith)

module _ (limit : ℕ) where
  -- one line more
  pub reads_line : (text bytes : Text) (es : List Event) (event : Event) → ReadsAs limit text false es → event_of bytes ≡ Some event → length bytes ≤ 32 → list_all (λ b. not (b == 10)) bytes ≡ true
      → length text + length (line bytes) ≤ limit → ReadsAs limit (text ++ line bytes) (is_end_event event) (es ++ added event)
  reads_line text bytes es event stands some short plain within =
      let size = length-append bytes (10 ∷ []) in
      let longer = length-append text bytes in
      let empty : length (last_line text) ≡ 0 = ap length stands.whole in
      let begun = grow limit bytes text stands.sound stands.over_is (feedless bytes plain) (omega arith) (omega arith) in
      let own : last_line (text ++ bytes) ≡ bytes = begun.line_is ∙ ap (λ l. l ++ bytes) stands.whole in
      let ended = grow_line limit (text ++ bytes) event begun.sound begun.over_is (ap event_of own ∙ some) (omega arith) in
      subst (λ t. ReadsAs limit t (is_end_event event) (es ++ added event)) (append_assoc text bytes (10 ∷ [])) (record {
        sound = ended.sound;
        whole = ended.line_is;
        over_is = ended.over_is;
        events_are = ended.events_are ∙ ap (λ l. l ++ added event) (begun.events_are ∙ append-nil (events text limit)) ∙ ap (λ l. l ++ added event) stands.events_are;
      })

-- ---- the lines of Ticks

-- which words are written at which Tick, and what they are
module _ (written : ℕ → ℕ → Bool) (word : ℕ → ℕ → ℕ) (count : ℕ) where
  unfoldable pub sent_lines : ℕ → ℕ → Text
  sent_lines t n = flat_map (λ i. cond (written t i) (word_line (word t i)) []) (below n)

  unfoldable pub sent_events : ℕ → ℕ → List Event
  sent_events t n = flat_map (λ i. cond (written t i) (Word 15 (word t i) ∷ []) []) (below n)

  abbrev pub sent_text : ℕ → Text
  sent_text t = sent_lines t count ++ line (codes "T")

  unfoldable pub all_events : ℕ → List Event
  all_events zero = []
  all_events (suc t) = (all_events t ++ sent_events t count) ++ Tick ∷ []
