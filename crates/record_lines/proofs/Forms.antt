-- The forms of a line by its letter.
use Rattle.std.proofs.Common.{◌≡◌, ℕ, ◌+◌, ◌<◌, ◌≤◌, ◌==◌, Bool, List, [], ◌∷◌, length, get_or, take, drop, Option, Some, None, cond, refl, sym, ◌∙◌, ap, arith, inl, inr, length-take}
use Rattle.std.proofs.lemmas.Bool.{ne_eqb, cases_lt, lt-ltb, le-ltb}
use Rattle.std.proofs.lemmas.List.{drop_all, get_or-take}
use Rattle.std.specs.Option.{option_map, option_and_then}
use Rattle.std.specs.List.{position, position_or_len, before_first, after_first}
use Rattle.std.proofs.Math.Bool.{and-false}
use Rattle.ecam_spec.specs.declared.kinds.Event.TheVariants.{Word, Tick, Press, Release, Fail, Up, End}
use Rattle.ecam_spec.specs.RecordLine.{event_of, is_end, word_event, bits_of, bus_of, key_of, computer_of}
use Rattle.record_lines.specs.Line.{number_within}
use Rattle.record_lines.proofs.Numbers.{AreBytes, bus_of-within}

pub event_of-none : event_of [] ≡ None
unfolding event_of is_end
event_of-none = refl

pub event_of-tick : event_of (84 ∷ []) ≡ Some Tick
unfolding event_of is_end
event_of-tick = refl

pub event_of-end : event_of (69 ∷ []) ≡ Some End
unfolding event_of is_end
event_of-end = refl

pub event_of-letter : (l : ℕ) → (l ≡ 84 → ⊥) → (l ≡ 69 → ⊥) → event_of (l ∷ []) ≡ None
unfolding event_of is_end
event_of-letter l t e =
    let no_t = ne_eqb l 84 t in
    let no_e = ne_eqb l 69 e in
    simp (no_t, no_e, and-false) refl

pub event_of-word : (words : List ℕ) → event_of (87 ∷ 32 ∷ words) ≡ word_event words
unfolding event_of is_end
event_of-word words = refl

pub event_of-press : (words : List ℕ) → event_of (80 ∷ 32 ∷ words) ≡ option_map Press (key_of words)
unfolding event_of is_end
event_of-press words = refl

pub event_of-release : (words : List ℕ) → event_of (82 ∷ 32 ∷ words) ≡ option_map Release (key_of words)
unfolding event_of is_end
event_of-release words = refl

pub event_of-fail : (words : List ℕ) → event_of (70 ∷ 32 ∷ words) ≡ option_map Fail (computer_of words)
unfolding event_of is_end
event_of-fail words = refl

pub event_of-up : (words : List ℕ) → event_of (85 ∷ 32 ∷ words) ≡ option_map Up (computer_of words)
unfolding event_of is_end
event_of-up words = refl

pub event_of-words : (l : ℕ) (words : List ℕ) → (l ≡ 87 → ⊥) → (l ≡ 80 → ⊥) → (l ≡ 82 → ⊥) → (l ≡ 70 → ⊥) → (l ≡ 85 → ⊥) → event_of (l ∷ 32 ∷ words) ≡ None
unfolding event_of is_end
event_of-words l words w p r f u =
    let no_w = ne_eqb l 87 w in
    let no_p = ne_eqb l 80 p in
    let no_r = ne_eqb l 82 r in
    let no_f = ne_eqb l 70 f in
    let no_u = ne_eqb l 85 u in
    simp (no_w, no_p, no_r, no_f, no_u, and-false) refl

-- no form has another second byte
pub event_of-far : (line : List ℕ) → (length line ≡ 1 → ⊥) → (get_or line 1 0 ≡ 32 → ⊥) → event_of line ≡ None
unfolding event_of is_end
event_of-far [] one far = event_of-none
event_of-far (a ∷ []) one far = absurd (one refl)
event_of-far (a ∷ b ∷ words) one far = let no_blank = ne_eqb b 32 far in simp (no_blank, and-false) refl

pub event_of-empty : (line : List ℕ) → length line ≡ 0 → event_of line ≡ None
event_of-empty [] empty = event_of-none
event_of-empty (a ∷ line) empty = absurd (omega arith)

-- ---- a bus and a word's digits

abbrev is_blank : ℕ → Bool
is_blank b = b == 32

pub nowhere-len : {X : Type 0} (p : X → Bool) (xs : List X) → position p xs ≡ None → length xs ≤ position_or_len p xs
nowhere-len p xs none =
    elim (cases_lt (position_or_len p xs) (length xs)) [
      | inl inside ↦ let some = ap (λ b. cond b (Some (position_or_len p xs)) None) (lt-ltb (position_or_len p xs) (length xs) inside) in let clash : None ≡ Some (position_or_len p xs) = sym none ∙ some in cc
      | inr outside ↦ outside
    ]

pub somewhere-len : {X : Type 0} (p : X → Bool) (xs : List X) (i : ℕ) → position p xs ≡ Some i → position_or_len p xs ≡ i
somewhere-len p xs i some =
    elim (cases_lt (position_or_len p xs) (length xs)) [
      | inl inside ↦ let is = ap (λ b. cond b (Some (position_or_len p xs)) None) (lt-ltb (position_or_len p xs) (length xs) inside) in let same : Some (position_or_len p xs) ≡ Some i = sym is ∙ some in cc
      | inr outside ↦ let is = ap (λ b. cond b (Some (position_or_len p xs)) None) (le-ltb (position_or_len p xs) (length xs) outside) in let clash : None ≡ Some i = sym is ∙ some in cc
    ]

bytes_taken : (words : List ℕ) (i : ℕ) → AreBytes words → AreBytes (take i words)
bytes_taken words i bytes k within =
    let len = length-take i words in
    let read = get_or-take i words k 0 (omega arith) in
    let known : get_or words k 0 < 256 = bytes k (omega arith) in
    omega arith

no_bits : (bus : Option ℕ) → option_and_then (λ b. option_map (λ w. Word b w) None) bus ≡ None
no_bits (Some b) = refl
no_bits None = refl

-- no word without a blank
pub word_event-nowhere : (words : List ℕ) → position (λ b. b == 32) words ≡ None → word_event words ≡ None
unfolding word_event bits_of
word_event-nowhere words none =
    let past = nowhere-len is_blank words none in
    let empty : after_first is_blank words ≡ [] = drop_all (position_or_len is_blank words + 1) words (omega arith) in
    ap (λ l. option_and_then (λ b. option_map (λ w. Word b w) (bits_of l)) (bus_of (before_first is_blank words))) empty
    ∙ no_bits (bus_of (before_first is_blank words))

-- a word whose first blank is there
pub word_event-at : (words : List ℕ) (i : ℕ) → position (λ b. b == 32) words ≡ Some i → AreBytes words → word_event words ≡ option_and_then (λ b. option_map (λ w. Word b w) (bits_of (drop (i + 1) words))) (number_within 0 15 (take i words))
unfolding word_event
word_event-at words i some bytes =
    let here = somewhere-len is_blank words i some in
    ap (λ n. option_and_then (λ b. option_map (λ w. Word b w) (bits_of (drop (n + 1) words))) (bus_of (take n words))) here
    ∙ ap (option_and_then (λ b. option_map (λ w. Word b w) (bits_of (drop (i + 1) words)))) (bus_of-within (take i words) (bytes_taken words i bytes))
