-- A made record has no fault, and so many Ticks as it has moments.
use Rattle.std.proofs.Common.{◌≡◌, ℕ, zero, suc, ◌+◌, ◌*◌, ◌/◌, ◌%◌, ◌<◌, ◌≤◌, Bool, true, false, cond, ◌==◌, List, [], ◌∷◌, ◌++◌, length, Some, None, refl, sym, ◌∙◌, ap, subst, arith, append_assoc, append-nil, length-append, inl, inr}
use Rattle.std.proofs.lemmas.Bool.{cases_eq, cases_lt}
use Rattle.std.proofs.lemmas.List.Folds.{list_all-append}
use Rattle.std.proofs.lemmas.Fmt.{decimal_digit}
use Rattle.std.specs.List.{list_all, flat_map}
use Rattle.std.specs.Prelude.{codes, decimal}
use Rattle.ecam_spec.specs.declared.kinds.Event.TheVariants.{Tick, End}
use Rattle.ecam_spec.specs.Book.{Text}
use Rattle.ecam_spec.specs.Output.{line}
use Rattle.ecam_spec.specs.RecordLine.{event_of, is_end}
use Rattle.ecam_spec.specs.Record.{fault, events}
use Rattle.ecam_spec.specs.Replay.{tick_count}
use Rattle.record_lines.proofs.Grows.{IsFeedless}
use Rattle.record_lines.proofs.Ends.{fault-none}
use Rattle.record_maker.specs.Draws.{draw, start_of, moved_right}
use Rattle.record_maker.specs.Words.{flags_word, drawn_word}
use Rattle.record_maker.specs.Lines.{word_digits, word_line, key_word, key_lines, computer_lines, moment_lines}
use Rattle.record_maker.specs.Record.{text_of, moments, made}
use Rattle.record_maker.proofs.Texts.{text_of-nil, text_of-one, text_of-cons, text_of-append, short_keys, fails, comes_up, no_computer}
use Rattle.record_maker.proofs.Moments.{moments-next, moments-none}
use Rattle.record_maker.proofs.GoodLines.{is_good, length-word_digits, good-word, good-keys, good-computers}
use Rattle.record_maker.proofs.Standing.{Stands, stands-none, stands-line, stands-good}

-- ---- how long the lines are

length-word : (word bus : ℕ) → bus < 10 → length (line (word_line bus word)) ≡ 13
unfolding word_line
length-word word bus small =
    let digit = decimal_digit bus small in
    let begin : length (codes "W " ++ decimal bus) ≡ 3 = rw digit refl in
    omega (arith, length-append ((codes "W " ++ decimal bus) ++ 32 ∷ word_digits word) (10 ∷ []), length-append (codes "W " ++ decimal bus) (32 ∷ word_digits word), length-word_digits word)

module _ (r : ℕ) where
  keys-short : length (text_of (key_lines r)) ≤ 8
  unfolding key_lines text_of
  keys-short = by (r % 50 == 0) (moved_right r 32 % 2 == 0) where
    word : Text
    word = key_word (r / 50 % 24)

    by : (b c : Bool) → length (flat_map line (cond b ((cond c (codes "P ") (codes "R ") ++ word) ∷ []) [])) ≤ 8
    by true true = omega (arith, length-append (word ++ 10 ∷ []) [], length-append word (10 ∷ []), short_keys (r / 50 % 24) (omega arith))
    by true false = omega (arith, length-append (word ++ 10 ∷ []) [], length-append word (10 ∷ []), short_keys (r / 50 % 24) (omega arith))
    by false c = omega arith

  computers-short : length (text_of (computer_lines r)) ≤ 4
  computers-short = elim (cases_eq (r % 400) 0) [
    | inl here ↦ let e = ap length (fails r here) in omega arith
    | inr other ↦ elim (cases_lt 8 (r % 400)) [
      | inl many ↦ let e = ap length (ap text_of (no_computer r many) ∙ text_of-nil) in omega arith
      | inr few ↦ let e = ap length (comes_up r other few) in omega arith
    ]
  ]

-- ---- a moment

one-feedless : (b : ℕ) → (b == 10) ≡ false → IsFeedless (b ∷ [])
one-feedless b other zero within = other
one-feedless b other (suc k) within = absurd (omega arith)

tick_line : event_of (codes "T") ≡ Some Tick
unfolding event_of
tick_line = refl

module _ (m s : ℕ) where
  -- the lines before the one that ends the moment
  words : List Text
  words = word_line 0 (flags_word m) ∷ word_line (1 + draw s 1 % 3) (drawn_word (draw s 1)) ∷ key_lines (draw s 2)

  before : List Text
  before = words ++ computer_lines (draw s 3)

  text_are : text_of (moment_lines m s) ≡ text_of before ++ line (codes "T")
  unfolding moment_lines before words
  text_are = text_of-append before (codes "T" ∷ []) ∙ ap (λ t. text_of before ++ t) (text_of-one (codes "T"))

  before-good : list_all is_good before ≡ true
  unfolding before words
  before-good =
      let one = good-word (flags_word m) 0 (omega arith) in
      let two = good-word (drawn_word (draw s 1)) (1 + draw s 1 % 3) (omega arith) in
      let rest = list_all-append is_good (key_lines (draw s 2)) (computer_lines (draw s 3)) in
      let keys = good-keys (draw s 2) in
      let computers = good-computers (draw s 3) in
      rw (one, two, rest, keys, computers) refl

  moment-short : length (text_of (moment_lines m s)) ≤ 40
  unfolding before words
  moment-short =
      let first = word_line 0 (flags_word m) in
      let second = word_line (1 + draw s 1 % 3) (drawn_word (draw s 1)) in
      let keys = key_lines (draw s 2) in
      let begin : text_of words ≡ line first ++ (line second ++ text_of keys) = text_of-cons first (second ∷ keys) ∙ ap (λ t. line first ++ t) (text_of-cons second keys) in
      let whole = ap length (text_are ∙ ap (λ t. t ++ line (codes "T")) (text_of-append words (computer_lines (draw s 3)) ∙ ap (λ t. t ++ text_of (computer_lines (draw s 3))) begin)) in
      omega (
        arith,
        whole,
        length-append ((line first ++ (line second ++ text_of keys)) ++ text_of (computer_lines (draw s 3))) (line (codes "T")),
        length-append (line first ++ (line second ++ text_of keys)) (text_of (computer_lines (draw s 3))),
        length-append (line first) (line second ++ text_of keys),
        length-append (line second) (text_of keys),
        length-word (flags_word m) 0 (omega arith),
        length-word (drawn_word (draw s 1)) (1 + draw s 1 % 3) (omega arith),
        keys-short (draw s 2),
        computers-short (draw s 3),
      )

  stands-moment : (limit : ℕ) (text : List ℕ) (ticks : ℕ) → Stands limit text false ticks → length text + length (text_of (moment_lines m s)) ≤ limit
      → Stands limit (text ++ text_of (moment_lines m s)) false (ticks + 1)
  unfolding tick_count
  stands-moment limit text ticks stands within =
      let size = ap length text_are in
      let parts = length-append (text_of before) (line (codes "T")) in
      let first = stands-good limit before text ticks stands before-good (omega arith) in
      let longer = length-append text (text_of before) in
      let all = stands-line limit (text ++ text_of before) (codes "T") ticks Tick first tick_line (omega arith) (one-feedless 84 refl) (omega arith) in
      subst (λ t. Stands limit t false (ticks + 1)) (append_assoc text (text_of before) (line (codes "T")) ∙ ap (λ t. text ++ t) (sym text_are)) all

-- ---- the record

moments-short : (count m s : ℕ) → length (moments m s count) ≤ 40 * count
moments-short zero m s = let e = ap length (moments-none m s) in omega arith
moments-short (suc count) m s =
    let next = ap length (moments-next m s count) in
    omega (arith, length-append (text_of (moment_lines m s)) (moments (m + 1) (draw s 3) count), moment-short m s, moments-short count (m + 1) (draw s 3))

stands-moments : (limit count m s : ℕ) (text : List ℕ) (ticks : ℕ) → Stands limit text false ticks → length text + length (moments m s count) ≤ limit
    → Stands limit (text ++ moments m s count) false (ticks + count)
stands-moments limit zero m s text ticks stands within =
    let same : text ++ moments m s 0 ≡ text = ap (λ l. text ++ l) (moments-none m s) ∙ append-nil text in
    let none : ticks + 0 ≡ ticks = omega arith in
    rw (same, none) stands
stands-moments limit (suc count) m s text ticks stands within =
    let first : List ℕ = text_of (moment_lines m s) in
    let rest : List ℕ = moments (m + 1) (draw s 3) count in
    let both : text ++ moments m s (suc count) ≡ (text ++ first) ++ rest = ap (λ l. text ++ l) (moments-next m s count) ∙ sym (append_assoc text first rest) in
    let size = ap length (moments-next m s count) in
    let parts = length-append first rest in
    let longer = length-append text first in
    let one = stands-moment m s limit text ticks stands (omega arith) in
    let all = stands-moments limit count (m + 1) (draw s 3) (text ++ first) (ticks + 1) one (omega arith) in
    let sum : ticks + suc count ≡ (ticks + 1) + count = omega arith in
    rw (both, sum) all

module _ (seed count : ℕ) where
  pub made_short : length (made seed count) ≤ 40 * count + 2
  unfolding made
  made_short = omega (arith, length-append (moments 0 (start_of seed) count) (line (codes "E")), moments-short count 0 (start_of seed))

  end_line : event_of (codes "E") ≡ Some End
  unfolding event_of is_end
  end_line = refl

  module _ (limit : ℕ) (within : 40 * count + 2 ≤ limit) where
    stands-made : Stands limit (made seed count) true count
    unfolding made tick_count
    stands-made =
        let short = moments-short count 0 (start_of seed) in
        let most = stands-moments limit count 0 (start_of seed) [] 0 (stands-none limit) (omega arith) in
        let all = stands-line limit (moments 0 (start_of seed) count) (codes "E") (0 + count) End most end_line (omega arith) (one-feedless 69 refl) (omega arith) in
        let sum : 0 + count + 0 ≡ count = omega arith in
        subst (λ n. Stands limit (moments 0 (start_of seed) count ++ line (codes "E")) true n) sum all

    pub made_sound : fault (made seed count) limit ≡ None
    made_sound = let stands = stands-made in fault-none limit (made seed count) stands.sound stands.whole stands.over_is

    pub made_ticks : tick_count (events (made seed count) limit) ≡ count
    made_ticks = let stands = stands-made in stands.ticks_are
