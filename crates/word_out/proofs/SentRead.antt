-- The record of words that are written has no fault, and says them.
use Rattle.std.proofs.Common.{◌≡◌, ℕ, zero, suc, ◌+◌, ◌^◌, ◌<◌, ◌≤◌, Bool, true, false, List, [], ◌∷◌, ◌++◌, length, None, cond, refl, sym, ap, ◌∙◌, subst, arith, append-nil, append_assoc, length-append}
use Rattle.std.proofs.lemmas.List.Concat.{flat_map-append}
use Rattle.std.specs.Prelude.{codes}
use Rattle.ecam_spec.specs.declared.kinds.Event.{Event}
use Rattle.ecam_spec.specs.declared.kinds.Event.TheVariants.{Word, Tick, End}
use Rattle.ecam_spec.specs.Book.{Text}
use Rattle.ecam_spec.specs.Output.{line}
use Rattle.ecam_spec.specs.Places.{below}
use Rattle.ecam_spec.specs.Record.{fault, events}
use Rattle.record_lines.proofs.Ends.{fault-none}
use Rattle.view_spec.specs.Ticks.{texts}
use Rattle.view_spec.specs.OutputWords.{word_digits, word_line}
use Rattle.word_out.proofs.LineRead.{length-digits, line_back, line_feedless, tick_back, end_back}
use Rattle.word_out.proofs.Sent.{ReadsAs, reads_none, reads_line, sent_lines, sent_events, sent_text, all_events}

module _ (limit : ℕ) (written : ℕ → ℕ → Bool) (word : ℕ → ℕ → ℕ) (count : ℕ) (small : (t n : ℕ) → n < count → word t n < 2 ^ 32) where
  abbrev lines : ℕ → ℕ → Text
  lines = sent_lines written word count

  abbrev said : ℕ → ℕ → List Event
  said = sent_events written word count

  lines_next : (t n : ℕ) → lines t (suc n) ≡ lines t n ++ cond (written t n) (word_line (word t n)) []
  unfolding sent_lines below
  lines_next t n = flat_map-append _ (below n) (n ∷ []) ∙ ap (λ l. lines t n ++ l) (append-nil (cond (written t n) (word_line (word t n)) []))

  said_next : (t n : ℕ) → said t (suc n) ≡ said t n ++ cond (written t n) (Word 15 (word t n) ∷ []) []
  unfolding sent_events below
  said_next t n = flat_map-append _ (below n) (n ∷ []) ∙ ap (λ l. said t n ++ l) (append-nil (cond (written t n) (Word 15 (word t n) ∷ []) []))

  -- a word more, if it is written
  reads_word : (text : Text) (es : List Event) (t n : ℕ) (is : Bool) → n < count → ReadsAs limit text false es → length text + length (cond is (word_line (word t n)) []) ≤ limit
      → ReadsAs limit (text ++ cond is (word_line (word t n)) []) false (es ++ cond is (Word 15 (word t n) ∷ []) [])
  unfolding word_line
  reads_word text es t n true known stands within =
      let digits = length-append (codes "W 15 ") (word_digits (word t n)) in
      reads_line limit text (codes "W 15 " ++ word_digits (word t n)) es (Word 15 (word t n)) stands (line_back (word t n) (small t n known)) (omega (arith, digits, length-digits (word t n))) (line_feedless (word t n)) within
  reads_word text es t n false known stands within =
      subst (λ x. ReadsAs limit x false (es ++ [])) (sym (append-nil text)) (subst (λ x. ReadsAs limit text false x) (sym (append-nil es)) stands)

  reads_words : (n : ℕ) (text : Text) (es : List Event) (t : ℕ) → n ≤ count → ReadsAs limit text false es → length text + length (lines t n) ≤ limit
      → ReadsAs limit (text ++ lines t n) false (es ++ said t n)
  unfolding sent_lines sent_events below
  reads_words zero text es t known stands within =
      subst (λ x. ReadsAs limit x false (es ++ [])) (sym (append-nil text)) (subst (λ x. ReadsAs limit text false x) (sym (append-nil es)) stands)
  reads_words (suc n) text es t known stands within =
      let more : Text = cond (written t n) (word_line (word t n)) [] in
      let event : List Event = cond (written t n) (Word 15 (word t n) ∷ []) [] in
      let size = ap length (lines_next t n) in
      let parts = length-append (lines t n) more in
      let before = reads_words n text es t (omega arith) stands (omega arith) in
      let longer = length-append text (lines t n) in
      let one = reads_word (text ++ lines t n) (es ++ said t n) t n (written t n) (omega arith) before (omega arith) in
      let text_is : (text ++ lines t n) ++ more ≡ text ++ lines t (suc n) = append_assoc text (lines t n) more ∙ ap (λ l. text ++ l) (sym (lines_next t n)) in
      let events_are : (es ++ said t n) ++ event ≡ es ++ said t (suc n) = append_assoc es (said t n) event ∙ ap (λ l. es ++ l) (sym (said_next t n)) in
      subst (λ x. ReadsAs limit x false (es ++ said t (suc n))) text_is (subst (λ x. ReadsAs limit ((text ++ lines t n) ++ more) false x) events_are one)

  abbrev of_tick : ℕ → Text
  of_tick = sent_text written word count

  abbrev all : ℕ → List Event
  all = all_events written word count

  pub reads_ticks : (n : ℕ) → length (texts of_tick n) ≤ limit → ReadsAs limit (texts of_tick n) false (all n)
  unfolding texts all_events
  reads_ticks zero within = reads_none limit
  reads_ticks (suc t) within =
      let own : Text = lines t count in
      let outer = length-append (texts of_tick t) (own ++ line (codes "T")) in
      let inner = length-append own (line (codes "T")) in
      let before = reads_ticks t (omega arith) in
      let words = reads_words count (texts of_tick t) (all t) t (omega arith) before (omega arith) in
      let longer = length-append (texts of_tick t) own in
      let ticked = reads_line limit (texts of_tick t ++ own) (codes "T") (all t ++ said t count) Tick words tick_back (omega arith) refl (omega arith) in
      subst (λ x. ReadsAs limit x false ((all t ++ said t count) ++ Tick ∷ [])) (append_assoc (texts of_tick t) own (line (codes "T"))) ticked

  -- the whole record
  module _ (n : ℕ) (within : length (texts of_tick n ++ line (codes "E")) ≤ limit) where
    reads_all : ReadsAs limit (texts of_tick n ++ line (codes "E")) true (all n ++ [])
    reads_all =
        let size = length-append (texts of_tick n) (line (codes "E")) in
        reads_line limit (texts of_tick n) (codes "E") (all n) End (reads_ticks n (omega arith)) end_back (omega arith) refl (omega arith)

    pub sent_sound : fault (texts of_tick n ++ line (codes "E")) limit ≡ None
    sent_sound = let stands = reads_all in fault-none limit (texts of_tick n ++ line (codes "E")) stands.sound stands.whole stands.over_is

    pub sent_said : events (texts of_tick n ++ line (codes "E")) limit ≡ all n
    sent_said = reads_all.events_are ∙ append-nil (all n)
