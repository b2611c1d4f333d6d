-- Sound texts that grow: by the bytes of a line, and by the line feed that ends it.
use Rattle.std.proofs.Common.{◌≡◌, ℕ, suc, ◌+◌, ◌<◌, ◌≤◌, Bool, true, false, not, ◌&&◌, ◌||◌, ◌==◌, List, [], ◌∷◌, ◌++◌, length, get_or, Option, Some, None, cond, refl, sym, ◌∙◌, ap, subst, arith, length-append, append-nil, append_assoc}
use Rattle.std.proofs.lemmas.Bool.{lt-leb, le-leb, ne_eqb, eq-eqb}
use Rattle.std.specs.List.{filter}
use Rattle.std.specs.Option.{option_to_list, option_map, option_and_then}
use Rattle.std.specs.Str.{bytes_eq}
use Rattle.std.specs.Prelude.{codes, if◌then◌else◌, drop}
use Rattle.std.proofs.lemmas.Slice.Eq.{bytes_eq-Decides}
use Rattle.std.proofs.Math.Bool.{or-false}
use Rattle.ecam_spec.specs.declared.kinds.Event.{Event}
use Rattle.ecam_spec.specs.declared.kinds.Event.TheVariants.{Word, Tick, Press, Release, Fail, Up, End}
use Rattle.ecam_spec.specs.declared.kinds.FaultKind.TheVariants.{Long, Form, AfterEnd, Limit}
use Rattle.ecam_spec.specs.RecordLine.{event_of, is_end, is_end_event, begins_with, word_event, key_of, computer_of, bits_of, bus_of}
use Rattle.ecam_spec.specs.Record.{wrong_place, events}
use Rattle.record_lines.specs.Reads.{last_line, last_number, is_over}
use Rattle.record_lines.proofs.LinesSaid.{said, line_events}
use Rattle.record_lines.proofs.SoundLines.{verdict, sound-more, events-sound, last_line-more, last_number-more, is_over-more, said-more}

-- ---- the verdict on a byte

pub verdict-limit : (limit count : ℕ) (over feed : Bool) (line : List ℕ) → limit ≤ count → verdict limit count over feed line ≡ Some Limit
unfolding verdict
verdict-limit limit count over feed line beyond = let e = le-leb limit count beyond in rw e refl

pub verdict-after_end : (limit count : ℕ) (feed : Bool) (line : List ℕ) → count < limit → verdict limit count true feed line ≡ Some AfterEnd
unfolding verdict
verdict-after_end limit count feed line within = let e = lt-leb limit count within in rw e refl

pub verdict-long : (limit count : ℕ) (line : List ℕ) → count < limit → length line ≡ 32 → verdict limit count false false line ≡ Some Long
unfolding verdict
verdict-long limit count line within full =
    let e = lt-leb limit count within in
    let l = eq-eqb (length line) 32 full in
    rw (e, l) refl

pub verdict-form : (limit count : ℕ) (line : List ℕ) → count < limit → event_of line ≡ None → verdict limit count false true line ≡ Some Form
unfolding verdict
verdict-form limit count line within none =
    let e = lt-leb limit count within in
    rw (e, none) refl

verdict-byte : (limit count : ℕ) (line : List ℕ) → count < limit → length line < 32 → verdict limit count false false line ≡ None
unfolding verdict
verdict-byte limit count line within short =
    let e = lt-leb limit count within in
    let l = ne_eqb (length line) 32 (λ full. omega arith) in
    rw (e, l) refl

verdict-feed : (limit count : ℕ) (line : List ℕ) (event : Event) → count < limit → event_of line ≡ Some event → verdict limit count false true line ≡ None
unfolding verdict
verdict-feed limit count line event within some =
    let e = lt-leb limit count within in
    rw (e, some) refl

-- ---- which line is the end

-- an event that an option has is none that ends
abbrev IsNoEnd : Option Event → Type 0
IsNoEnd o = (e : Event) → o ≡ Some e → is_end_event e ≡ false

no_end-none : IsNoEnd None
no_end-none e h = cc

no_end-some : (x : Event) → is_end_event x ≡ false → IsNoEnd (Some x)
no_end-some x none_end e h = let same : x ≡ e = cc in subst (λ y. is_end_event y ≡ false) same none_end

no_end-map : {X : Type 0} (f : X → Event) (o : Option X) → ((x : X) → is_end_event (f x) ≡ false) → IsNoEnd (option_map f o)
no_end-map f (Some x) none_end = no_end-some (f x) (none_end x)
no_end-map f None none_end = no_end-none

no_end-bus : (bus : Option ℕ) (bits : Option ℕ) → IsNoEnd (option_and_then (λ b. option_map (λ w. Word b w) bits) bus)
no_end-bus (Some b) bits = no_end-map (λ w. Word b w) bits (λ w. refl)
no_end-bus None bits = no_end-none

no_end-cond : (b : Bool) (x y : Option Event) → IsNoEnd x → IsNoEnd y → IsNoEnd (cond b x y)
no_end-cond true x y p q = p
no_end-cond false x y p q = q

no_end-word : (words : List ℕ) → IsNoEnd (word_event words)
unfolding word_event
no_end-word words = no_end-bus (bus_of _) (bits_of _)

-- the forms after the first two
pub forms_after : List ℕ → Option Event
forms_after line =
    if begins_with (codes "W ") line then word_event (drop 2 line)
    else (if begins_with (codes "P ") line then option_map Press (key_of (drop 2 line))
    else (if begins_with (codes "R ") line then option_map Release (key_of (drop 2 line))
    else (if begins_with (codes "F ") line then option_map Fail (computer_of (drop 2 line))
    else (if begins_with (codes "U ") line then option_map Up (computer_of (drop 2 line))
    else None))))

no_end-after : (line : List ℕ) → IsNoEnd (forms_after line)
unfolding forms_after
no_end-after line =
    no_end-cond _ _ _ (no_end-word (drop 2 line))
    (no_end-cond _ _ _ (no_end-map Press (key_of (drop 2 line)) (λ k. refl))
    (no_end-cond _ _ _ (no_end-map Release (key_of (drop 2 line)) (λ k. refl))
    (no_end-cond _ _ _ (no_end-map Fail (computer_of (drop 2 line)) (λ k. refl))
    (no_end-cond _ _ _ (no_end-map Up (computer_of (drop 2 line)) (λ k. refl)) no_end-none))))

pub event_of-cases : (line : List ℕ) → event_of line ≡ cond (bytes_eq line (codes "T")) (Some Tick) (cond (is_end line) (Some End) (forms_after line))
unfolding event_of forms_after
event_of-cases line = refl

is_end-cases : (t e : Bool) (rest : Option Event) (event : Event) → (e ≡ true → t ≡ false) → IsNoEnd rest → cond t (Some Tick) (cond e (Some End) rest) ≡ Some event → e ≡ is_end_event event
is_end-cases true true rest event apart none_end some = let h : true ≡ false = apart refl in cc
is_end-cases true false rest event apart none_end some = sym (no_end-some Tick refl event some)
is_end-cases false true rest event apart none_end some = let same : End ≡ event = cc in ap is_end_event same
is_end-cases false false rest event apart none_end some = sym (none_end event some)

-- the line that ends the record is the one whose event is the end
pub is_end-event : (line : List ℕ) (event : Event) → event_of line ≡ Some event → is_end line ≡ is_end_event event
unfolding is_end
is_end-event line event some =
    is_end-cases (bytes_eq line (codes "T")) (is_end line) (forms_after line) event
    (λ e. let h : line ≡ codes "E" = (bytes_eq-Decides line (codes "E")).0 e in ap (λ l. bytes_eq l (codes "T")) h)
    (no_end-after line)
    (sym (event_of-cases line) ∙ some)

-- the events that one event adds
abbrev pub added : Event → List Event
added e = if is_end_event e then [] else e ∷ []

line_events-some : (line : List ℕ) (event : Event) → event_of line ≡ Some event → line_events line ≡ added event
unfolding line_events
line_events-some line event some =
    ap (λ o. filter (λ e. not (is_end_event e)) (option_to_list o)) some
    ∙ elim (is_end_event event) as (λ b. cond (not b) (event ∷ []) [] ≡ (if b then [] else event ∷ [])) [ true ↦ refl | false ↦ refl ]

-- ---- longer texts

-- a text stays sound as it grows, and this stands at its end
pub record Grows (limit : ℕ) (text longer line : List ℕ) (number : ℕ) (over : Bool) (new : List Event) : Type 0 where
  pub sound : wrong_place longer limit ≡ None
  pub line_is : last_line longer ≡ line
  pub number_is : last_number longer ≡ number
  pub over_is : is_over longer ≡ over
  pub events_are : events longer limit ≡ events text limit ++ new

-- no line feed stands in these bytes
abbrev pub IsFeedless : List ℕ → Type 0
IsFeedless bytes = (k : ℕ) → k < length bytes → (get_or bytes k 0 == 10) ≡ false

module _ (limit : ℕ) where
  grow_byte : (text : List ℕ) (byte : ℕ) → wrong_place text limit ≡ None → is_over text ≡ false → (byte == 10) ≡ false → length (last_line text) < 32 → length text < limit
      → Grows limit text (text ++ byte ∷ []) (last_line text ++ byte ∷ []) (last_number text) false []
  grow_byte text byte sound lasting other short within =
      let right : verdict limit (length text) (is_over text) (byte == 10) (last_line text) ≡ None = rw (lasting, other) (verdict-byte limit (length text) (last_line text) within short) in
      let longer = sound-more limit text sound byte right in
      record {
        sound = longer;
        line_is = last_line-more text byte ∙ ap (λ b. cond b [] (last_line text ++ byte ∷ [])) other;
        number_is = last_number-more text byte ∙ ap (λ b. cond b (last_number text + 1) (last_number text)) other;
        over_is = is_over-more text byte ∙ ap (λ b. (b && is_end (last_line text)) || is_over text) other ∙ lasting;
        events_are = events-sound limit (text ++ byte ∷ []) longer ∙ said-more text byte ∙ ap (λ b. said text (length text) ++ cond b (line_events (last_line text)) []) other
            ∙ ap (λ l. l ++ []) (sym (events-sound limit text sound));
      }

  -- by the bytes of a line
  pub grow : (bytes text : List ℕ) → wrong_place text limit ≡ None → is_over text ≡ false → IsFeedless bytes → length (last_line text) + length bytes ≤ 32 → length text + length bytes ≤ limit
      → Grows limit text (text ++ bytes) (last_line text ++ bytes) (last_number text) false []
  grow [] text sound lasting other short within =
      rw (append-nil text, append-nil (last_line text)) (record {
        sound = sound;
        line_is = refl;
        number_is = refl;
        over_is = lasting;
        events_are = sym (append-nil (events text limit));
      })
  grow (b ∷ bytes) text sound lasting other short within =
      let first : (b == 10) ≡ false = other 0 (omega arith) in
      let one = grow_byte text b sound lasting first (omega arith) (omega arith) in
      let line = ap length one.line_is in
      let rest = grow bytes (text ++ b ∷ []) one.sound one.over_is (λ k h. other (suc k) (omega arith)) (omega (arith, length-append (last_line text) (b ∷ []))) (omega (arith, length-append text (b ∷ []))) in
      let whole : (text ++ b ∷ []) ++ bytes ≡ text ++ b ∷ bytes = append_assoc text (b ∷ []) bytes in
      record {
        sound = rw whole at rest.sound;
        line_is = (rw whole at rest.line_is) ∙ ap (λ l. l ++ bytes) one.line_is ∙ append_assoc (last_line text) (b ∷ []) bytes;
        number_is = (rw whole at rest.number_is) ∙ one.number_is;
        over_is = rw whole at rest.over_is;
        events_are = (rw whole at rest.events_are) ∙ ap (λ l. l ++ []) one.events_are ∙ append_assoc (events text limit) [] [];
      }

  -- by the line feed after a line of some form
  pub grow_line : (text : List ℕ) (event : Event) → wrong_place text limit ≡ None → is_over text ≡ false → event_of (last_line text) ≡ Some event → length text < limit
      → Grows limit text (text ++ 10 ∷ []) [] (last_number text + 1) (is_end_event event) (added event)
  grow_line text event sound lasting some within =
      let right : verdict limit (length text) (is_over text) true (last_line text) ≡ None = rw lasting (verdict-feed limit (length text) (last_line text) event within some) in
      let longer = sound-more limit text sound 10 right in
      record {
        sound = longer;
        line_is = last_line-more text 10;
        number_is = last_number-more text 10;
        over_is = is_over-more text 10 ∙ ap (λ b. is_end (last_line text) || b) lasting ∙ or-false (is_end (last_line text)) ∙ is_end-event (last_line text) event some;
        events_are = events-sound limit (text ++ 10 ∷ []) longer ∙ said-more text 10 ∙ ap (λ l. said text (length text) ++ l) (line_events-some (last_line text) event some)
            ∙ ap (λ l. l ++ added event) (sym (events-sound limit text sound));
      }
