-- What is written of a history, read as a record.
use Rattle.std.proofs.Common.{◌≡◌, ℕ, suc, ◌+◌, ◌*◌, ◌/◌, ◌%◌, ◌^◌, ◌<◌, ◌≤◌, Bool, true, false, ◌&&◌, ◌==◌, List, ◌++◌, length, get_or, take, drop, map, ℤ, pos, Option, Some, None, cond, refl, sym, ap, ◌∙◌, subst, arith}
use Rattle.std.proofs.lemmas.Bool.{eq-eqb}
use Rattle.std.proofs.lemmas.List.{get_or-map, get_or-take, get_or-drop}
use Rattle.std.specs.Option.{option_or}
use Rattle.std.specs.Prelude.{codes}
use Rattle.ecam_spec.specs.declared.kinds.Event.{Event}
use Rattle.ecam_spec.specs.declared.limits.TheConstants.{ALERTS}
use Rattle.ecam_spec.specs.Book.{Book, Source, Parameter}
use Rattle.ecam_spec.specs.Command.{no_limit}
use Rattle.ecam_spec.specs.History.{Moment, era}
use Rattle.ecam_spec.specs.Output.{line}
use Rattle.ecam_spec.specs.Places.{first_of}
use Rattle.ecam_spec.specs.Reading.{discrete}
use Rattle.ecam_spec.specs.Record.{fault, events}
use Rattle.ecam_spec.specs.Replay.{tick_count, through, moment_of}
use Rattle.ecam_spec.specs.Situation.{words_in}
use Rattle.ecam_spec.specs.Screen.{alert_numbers, is_shown_in}
use Rattle.ecam_spec.specs.Value.{BusWord, takes, has_sdi, source_value, value}
use Rattle.ecam_spec.specs.Word.{bit, label}
use Rattle.ecam_spec.proofs.OrderLaws.{length-below}
use Rattle.ecam_spec.proofs.ValueAgree.{value-below}
use Rattle.view_spec.specs.Ticks.{texts, is_up, last_moment, live, era_at, moment_at}
use Rattle.view_spec.specs.OutputWords.{groups, word_count, label_of, sdi_of, group_data, shown_flags, data_in, word, is_written, words_text, words_end}
use Rattle.word_out.specs.ReadBack.{ReadsAlert, word_for, alert_value}
use Rattle.word_out.proofs.OwnWords.{few_sdis, same_word, Carries, carries, carried-small, carried-label, carried-sdi, carried-ssm, carried-odd, written_when_due, same_when_not, words_text-sent}
use Rattle.word_out.proofs.PairTold.{get_or-below}
use Rattle.word_out.proofs.Sent.{sent_text, all_events}
use Rattle.word_out.proofs.SentMoments.{on_bus, sent_words, hold_all}
use Rattle.word_out.proofs.SentRead.{sent_sound, sent_said}
use Rattle.word_out.proofs.Taken.{source_gives}
use Rattle.word_out.proofs.WordFields.{composed-bit, number_of-bit}

-- a list of one says what that one says
only : (o : Option ℤ) → option_or o None ≡ o
only None = refl
only (Some x) = refl

-- ---- the bit of an alert

module _ (b : Book) (m : ℕ → Moment) (k a : ℕ) (within : a < length b.alerts) where
  -- it stands in its group's data
  alert_bit : data_in b m k (word_for a) / 2 ^ (a % 16) % 2 ≡ cond (is_shown_in b m a k) 1 0
  unfolding data_in group_data shown_flags
  alert_bit =
      let f : ℕ → Bool = λ i. is_shown_in b m i k in
      let g : ℕ = a / 16 in
      let i : ℕ = a % 16 in
      let flags : List Bool = map f (alert_numbers b) in
      let group : data_in b m k (1 + g) ≡ group_data flags g = ap (data_in b m k) (let e : 1 + g ≡ suc g = omega arith in e) in
      ap (λ n. n / 2 ^ i % 2) group
      ∙ number_of-bit (take 16 (drop (16 * g) flags)) i
      ∙ ap (λ x. cond x 1 0)
      (get_or-take 16 (drop (16 * g) flags) i false (omega arith)
      ∙ get_or-drop (16 * g) flags i false
      ∙ ap (λ n. get_or flags n false) (let e : 16 * g + i ≡ a = omega arith in e)
      ∙ get_or-map f (alert_numbers b) a 0 false (let size = length-below (length b.alerts) in omega arith)
      ∙ ap f (get_or-below (length b.alerts) a 0 within))

-- what a discrete reads in a word
module _ (n w field i : ℕ) (within : i < 19) (known : n ≤ 129) where
  in_operation : Carries n w field 0 → discrete (11 + i) w ≡ Some (pos (field / 2 ^ i % 2))
  unfolding discrete
  in_operation c =
      ap (λ s. cond (s == 0) (Some (pos (bit (11 + i) w))) None) (carried-ssm n w field 0 c known)
      ∙ ap (λ x. Some (pos x)) (ap (bit (11 + i)) c.is ∙ composed-bit (label_of n) (sdi_of n) field 0 (few_sdis n) c.few (omega arith) i within)

  not_computed : Carries n w field 1 → discrete (11 + i) w ≡ None
  unfolding discrete
  not_computed c = ap (λ s. cond (s == 0) (Some (pos (bit (11 + i) w))) None) (carried-ssm n w field 1 c known)

module _ (b : Book) (few : length b.alerts ≤ ALERTS) (h : List Event) where
  few_words : word_count b ≤ 129
  unfolding word_count groups
  few_words = omega arith

  abbrev written : ℕ → ℕ → Bool
  written = is_written b h

  abbrev what : ℕ → ℕ → ℕ
  what = word b h

  carried : (t n : ℕ) → Carries n (what t n) (cond (is_up (through (t + 1) h)) (data_in b (moment_of (era (through (t + 1) h))) (last_moment (era (through (t + 1) h))) n) 0) (cond (is_up (through (t + 1) h)) 0 1)
  unfolding word
  carried t n = carries b (through (t + 1) h) n

  small : (t n : ℕ) → n < word_count b → what t n < 2 ^ 32
  small t n known = carried-small n (what t n) _ _ (carried t n)

  -- ---- the alert's value at a Tick

  module _ (t a : ℕ) (within : a < length b.alerts) where
    known : word_for a < word_count b
    unfolding word_count groups
    known = omega arith

    told : discrete (11 + a % 16) (what t (word_for a)) ≡ alert_value b h t a
    unfolding alert_value live era_at moment_at
    told = by (is_up (through (t + 1) h)) (carried t (word_for a)) where
      by : (up : Bool) → Carries (word_for a) (what t (word_for a)) (cond up (data_in b (moment_of (era (through (t + 1) h))) (last_moment (era (through (t + 1) h))) (word_for a)) 0) (cond up 0 1)
          → discrete (11 + a % 16) (what t (word_for a)) ≡ cond up (Some (pos (cond (is_shown_in b (moment_of (era (through (t + 1) h))) a (last_moment (era (through (t + 1) h)))) 1 0))) None
      by true c =
          in_operation (word_for a) (what t (word_for a)) (data_in b (moment_of (era (through (t + 1) h))) (last_moment (era (through (t + 1) h))) (word_for a)) (a % 16) (omega arith) (omega (arith, known, few_words)) c
          ∙ ap (λ x. Some (pos x)) (alert_bit b (moment_of (era (through (t + 1) h))) (last_moment (era (through (t + 1) h))) a within)
      by false c = not_computed (word_for a) (what t (word_for a)) 0 (a % 16) (omega arith) (omega (arith, known, few_words)) c

  -- ---- which words the discrete's source takes

  module _ (s : Source) (a : ℕ) (bus : s.bus ≡ 15) (its_label : s.label ≡ label_of (word_for a)) (its_sdi : s.sdi ≡ Some (sdi_of (word_for a))) where
    takes_own : (t n : ℕ) → n < word_count b → takes s (on_bus (what t n)) ≡ (n == word_for a)
    unfolding takes
    takes_own t n below_count =
        let c = carried t n in
        let odd = carried-odd n (what t n) _ _ c (omega (arith, few_words)) in
        let l = carried-label n (what t n) _ _ c (omega (arith, few_words)) in
        let d = carried-sdi n (what t n) _ _ c (omega (arith, few_words)) in
        let on : (15 == s.bus) ≡ true = eq-eqb 15 s.bus (sym bus) in
        ap (λ x. x && (15 == s.bus) && label (what t n) == s.label && has_sdi s.sdi (what t n)) odd
        ∙ ap (λ x. x && label (what t n) == s.label && has_sdi s.sdi (what t n)) on
        ∙ ap (λ x. (x == s.label) && has_sdi s.sdi (what t n)) l
        ∙ ap (λ x. (label_of n == x) && has_sdi s.sdi (what t n)) its_label
        ∙ ap (λ x. (label_of n == label_of (word_for a)) && has_sdi x (what t n)) its_sdi
        ∙ ap (λ x. (label_of n == label_of (word_for a)) && (x == sdi_of (word_for a))) d
        ∙ same_word n (word_for a)

  -- ---- the record

  module _ (short : length (words_text b h ++ words_end) ≤ no_limit) where
    text_is : words_text b h ++ words_end ≡ texts (sent_text written what (word_count b)) (tick_count h) ++ line (codes "E")
    text_is = ap (λ x. x ++ line (codes "E")) (words_text-sent b h)

    room : length (texts (sent_text written what (word_count b)) (tick_count h) ++ line (codes "E")) ≤ no_limit
    room = subst (λ x. length x ≤ no_limit) text_is short

    events_are : events (words_text b h ++ words_end) no_limit ≡ all_events written what (word_count b) (tick_count h)
    events_are = ap (λ x. events x no_limit) text_is ∙ sent_said no_limit written what (word_count b) small (tick_count h) room

    sound_record : fault (words_text b h ++ words_end) no_limit ≡ None
    sound_record = ap (λ x. fault x no_limit) text_is ∙ sent_sound no_limit written what (word_count b) small (tick_count h) room

    many_moments : length (era (events (words_text b h ++ words_end) no_limit)).moments ≡ tick_count h
    many_moments = ap (λ es. length (era es).moments) events_are ∙ (hold_all written what (word_count b) (tick_count h)).many

    words_are : (k : ℕ) → k < tick_count h → (moment_of (era (events (words_text b h ++ words_end) no_limit)) k).words ≡ sent_words written what (word_count b) k (word_count b)
    words_are k before = ap (λ es. (moment_of (era es) k).words) events_are ∙ (hold_all written what (word_count b) (tick_count h)).before k before

    alert_read : (t a : ℕ) (p : Parameter) (s : Source) → t < tick_count h → a < length b.alerts → ReadsAlert a p s
        → value p (words_in b (moment_of (era (events (words_text b h ++ words_end) no_limit)))) t ≡ alert_value b h t a
    unfolding value
    alert_read t a p s before within reads =
        let words : ℕ → List BusWord = λ k. sent_words written what (word_count b) k (word_count b) in
        value-below (words_in b (moment_of (era (events (words_text b h ++ words_end) no_limit)))) words t (λ i upto. words_are i (omega arith)) p
        ∙ ap (λ ss. first_of (map (λ x. source_value p.kind p.stale x words t) ss)) reads.source
        ∙ only (source_value p.kind p.stale s words t)
        ∙ ap (λ kind. source_value kind p.stale s words t) reads.kind
        ∙ source_gives s (word_for a) (word_count b) written what (known t a within) (takes_own s a reads.bus reads.label reads.sdi)
        (λ k due. written_when_due b h k (word_for a) due)
        (λ k off. same_when_not b h k (word_for a) off)
        p.stale t reads.stale
        ∙ ap (λ x. discrete x (what t (word_for a))) reads.bit
        ∙ told t a within

pub record_sound : (b : Book) (h : List Event) → length b.alerts ≤ ALERTS → length (words_text b h ++ words_end) ≤ no_limit → fault (words_text b h ++ words_end) no_limit ≡ None
record_sound b h few short = sound_record b few h short

pub record_moments : (b : Book) (h : List Event) → length b.alerts ≤ ALERTS → length (words_text b h ++ words_end) ≤ no_limit → length (era (events (words_text b h ++ words_end) no_limit)).moments ≡ tick_count h
record_moments b h few short = many_moments b few h short

pub record_values : (b : Book) (h : List Event) → length b.alerts ≤ ALERTS → length (words_text b h ++ words_end) ≤ no_limit → (t a : ℕ) (p : Parameter) (s : Source) → t < tick_count h → a < length b.alerts → ReadsAlert a p s
    → value p (words_in b (moment_of (era (events (words_text b h ++ words_end) no_limit)))) t ≡ alert_value b h t a
record_values b h few short = alert_read b few h short
