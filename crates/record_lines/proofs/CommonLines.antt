-- The lines of which a record has most: eight digits by what each is worth, and where their line feed stands.
use Rattle.std.proofs.Common.{◌≡◌, ℕ, zero, suc, ◌+◌, ◌-◌, ◌*◌, ◌^◌, ◌<◌, ◌≤◌, Bool, true, false, not, ◌==◌, ◌&&◌, inl, inr, List, [], ◌∷◌, ◌++◌, length, get_or, take, drop, Option, Some, None, cond, refl, sym, ◌∙◌, ap, subst, arith, length-append}
use Rattle.std.specs.Prelude.{fold, nat_le, nat_lt}
use Rattle.std.specs.List.{list_all, position, position_or_len}
use Rattle.std.specs.Option.{option_map, option_and_then}
use Rattle.std.proofs.lemmas.Bool.{cases_Bool, and_parts, lt-ltb, le-ltb}
use Rattle.std.proofs.lemmas.Bool.Decides.{nat_tests}
use Rattle.std.proofs.lemmas.List.{drop_more}
use Rattle.std.proofs.lemmas.Option.{same_Some}
use Rattle.ecam_spec.specs.declared.kinds.Event.{Event}
use Rattle.ecam_spec.specs.declared.kinds.Event.TheVariants.{Word, Tick}
use Rattle.ecam_spec.specs.RecordLine.{digit_of, bits_of, bus_of, event_of, word_event, is_end_event}
use Rattle.record_lines.specs.Line.{digit_value, kept_within, number_within, worth, IsCommon}
use Rattle.record_lines.proofs.Numbers.{AreBytes, bus_of-within}
use Rattle.record_lines.proofs.Forms.{event_of-tick, event_of-word}

abbrev is_digit : ℕ → Bool
is_digit c = nat_le (digit_of c) 15

-- ---- eight digits

digits_after : ℕ → List ℕ → ℕ
digits_after n word = fold (λ n c. n * 16 + digit_of c) n word

worths_after : ℕ → List ℕ → ℕ
worths_after n word = fold (λ n c. n * 16 + worth c) n word

bound_after : ℕ → List ℕ → ℕ
bound_after n word = fold (λ n c. n * 16) n word

worth-digit : (c : ℕ) → is_digit c ≡ true → worth c ≡ digit_of c
unfolding worth
worth-digit c is = ap (λ b. cond b (digit_of c) (2 ^ 32)) is

pub worth_small : (c : ℕ) → worth c ≤ 2 ^ 32
unfolding worth
worth_small c = grind (arith, nat_tests)

worth-other : (c : ℕ) → is_digit c ≡ false → worth c ≡ 2 ^ 32
unfolding worth
worth-other c is = ap (λ b. cond b (digit_of c) (2 ^ 32)) is

-- digits alone are worth their number, which is small
same : (word : List ℕ) (n : ℕ) → list_all is_digit word ≡ true → worths_after n word ≡ digits_after n word
unfolding worths_after digits_after
same [] n all = refl
same (c ∷ word) n all =
    let parts = and_parts (is_digit c) (list_all is_digit word) all in
    ap (λ w. worths_after (n * 16 + w) word) (worth-digit c parts.0) ∙ same word (n * 16 + digit_of c) parts.1

small : (word : List ℕ) (n m : ℕ) → n < m → list_all is_digit word ≡ true → digits_after n word < bound_after m word
unfolding digits_after bound_after
small [] n m less all = less
small (c ∷ word) n m less all =
    let parts = and_parts (is_digit c) (list_all is_digit word) all in
    let few : digit_of c ≤ 15 = grind (arith, nat_tests, parts.0) in
    small word (n * 16 + digit_of c) (m * 16) (omega arith) parts.1

-- another byte is worth more than they can be
grows : (word : List ℕ) (n : ℕ) → n ≤ worths_after n word
unfolding worths_after
grows [] n = omega arith
grows (c ∷ word) n = let more = grows word (n * 16 + worth c) in omega arith

large : (word : List ℕ) (n : ℕ) → list_all is_digit word ≡ false → 2 ^ 32 ≤ worths_after n word
unfolding worths_after
large [] n other = absurd (let w : ⊥ = cc in w)
large (c ∷ word) n other = elim (cases_Bool (is_digit c)) [
  | inl is ↦ large word (n * 16 + worth c) (sym (ap (λ b. b && list_all is_digit word) is) ∙ other)
  | inr is_not ↦ let more = grows word (n * 16 + worth c) in let much = worth-other c is_not in omega arith
]

read_bits : (word : List ℕ) → length word ≡ 8 → bound_after 1 word ≡ 2 ^ 32 → cond (nat_lt (worths_after 0 word) (2 ^ 32)) (Some (worths_after 0 word)) None ≡ bits_of word
unfolding bits_of digits_after
read_bits word len bound = elim (cases_Bool (list_all is_digit word)) [
  | inl all ↦
      let number = same word 0 all in
      let few = small word 0 1 (omega arith) all in
      let less = lt-ltb (worths_after 0 word) (2 ^ 32) (omega arith) in
      rw (len, all, less) (ap Some number)
  | inr other ↦
      let less = le-ltb (worths_after 0 word) (2 ^ 32) (large word 0 other) in
      rw (len, other, less) refl
]

pub bits-worth : (a b c d e f g h n : ℕ)
    → n ≡ 65536 * (4096 * worth a + 256 * worth b + 16 * worth c + worth d) + (4096 * worth e + 256 * worth f + 16 * worth g + worth h)
    → cond (nat_lt n (2 ^ 32)) (Some n) None ≡ bits_of (a ∷ b ∷ c ∷ d ∷ e ∷ f ∷ g ∷ h ∷ [])
unfolding worths_after bound_after
bits-worth a b c d e f g h n is =
    let word = a ∷ b ∷ c ∷ d ∷ e ∷ f ∷ g ∷ h ∷ [] in
    let whole : n ≡ worths_after 0 word = omega arith in
    ap (λ n. cond (nat_lt n (2 ^ 32)) (Some n) None) whole ∙ read_bits word refl refl

-- ---- where the line feed stands

-- no byte of these passes
abbrev none_passes : (ℕ → Bool) → List ℕ → Bool
none_passes p line = list_all (λ c. not (p c)) line

len_before : (p : ℕ → Bool) (line : List ℕ) (x : ℕ) (rest : List ℕ) → none_passes p line ≡ true → p x ≡ true → position_or_len p (line ++ x ∷ rest) ≡ length line
len_before p [] x rest none here = rw here refl
len_before p (c ∷ line) x rest none here =
    let parts = and_parts (not (p c)) (none_passes p line) none in
    let later = len_before p line x rest parts.1 here in
    rw parts.0 (omega arith)

position_at : (p : ℕ → Bool) (line : List ℕ) (x : ℕ) (rest : List ℕ) → none_passes p line ≡ true → p x ≡ true → position p (line ++ x ∷ rest) ≡ Some (length line)
position_at p line x rest none here =
    let len = len_before p line x rest none here in
    let all = length-append line (x ∷ rest) in
    let within = lt-ltb (position_or_len p (line ++ x ∷ rest)) (length (line ++ x ∷ rest)) (omega arith) in
    rw within (ap Some len)

take_line : (line rest : List ℕ) → take (length line) (line ++ rest) ≡ line
take_line [] rest = refl
take_line (c ∷ line) rest = ap (λ l. c ∷ l) (take_line line rest)

-- such a line is what stands before the first line feed
is_common : (line rest : List ℕ) (event : Event) → none_passes (λ b. b == 10) line ≡ true → event_of line ≡ Some event → is_end_event event ≡ false → length line ≤ 32 → IsCommon (line ++ 10 ∷ rest) (event, length line)
is_common line rest event none says other few = record {
  feed = position_at (λ b. b == 10) line 10 rest none refl;
  event = ap event_of (take_line line (10 ∷ rest)) ∙ says;
  other = other;
  few = few;
}

-- digits are no line feeds
digit_feedless : (c : ℕ) → is_digit c ≡ true → not (c == 10) ≡ true
unfolding digit_of
digit_feedless c is = grind (arith, nat_tests)

digits_feedless : (word : List ℕ) → list_all is_digit word ≡ true → none_passes (λ b. b == 10) word ≡ true
digits_feedless [] all = refl
digits_feedless (c ∷ word) all =
    let parts = and_parts (is_digit c) (list_all is_digit word) all in
    rw (digit_feedless c parts.0) (digits_feedless word parts.1)

digits_from : (word : List ℕ) (n : ℕ) → bits_of word ≡ Some n → list_all is_digit word ≡ true
unfolding bits_of
digits_from word n some = by (length word == 8) (list_all is_digit word) _ some where
  by : (l all : Bool) (n' : Option ℕ) → cond (l && all) n' None ≡ Some n → all ≡ true
  by true true n' is = refl
  by true false n' is = absurd (let w : ⊥ = cc in w)
  by false all n' is = absurd (let w : ⊥ = cc in w)

-- a bus of one digit
record IsBus (u bus : ℕ) : Type 0 where
  small : bus ≤ 15
  byte : u < 256
  no_blank : not (u == 32) ≡ true
  no_feed : not (u == 10) ≡ true

bus_from : (u bus : ℕ) → digit_value u ≡ Some bus → IsBus u bus
bus_from u bus some = elim (cases_Bool (nat_le 48 u && nat_le u 57)) [
  | inl is ↦
      let value : Some (u - 48) ≡ Some bus = sym (ap (λ b. cond b (Some (u - 48)) None) is) ∙ some in
      let same : u - 48 ≡ bus = same_Some (u - 48) bus value in
      record { small = grind (arith, nat_tests); byte = grind (arith, nat_tests); no_blank = grind (arith, nat_tests); no_feed = grind (arith, nat_tests) }
  | inr is_not ↦ absurd (let none : None ≡ Some bus = sym (ap (λ b. cond b (Some (u - 48)) None) is_not) ∙ some in let w : ⊥ = cc in w)
]

bytes_one : (u : ℕ) → u < 256 → AreBytes (u ∷ [])
bytes_one u small zero within = small
bytes_one u small (suc k) within = absurd (omega arith)

word_says : (u bus bits : ℕ) (word : List ℕ) → digit_value u ≡ Some bus → bits_of word ≡ Some bits → event_of (87 ∷ 32 ∷ u ∷ 32 ∷ word) ≡ Some (Word bus bits)
unfolding word_event
word_says u bus bits word is_bus is_bits =
    let b = bus_from u bus is_bus in
    let words = u ∷ 32 ∷ word in
    let blank : position_or_len (λ b. b == 32) words ≡ 1 = len_before (λ b. b == 32) (u ∷ []) 32 word (rw b.no_blank refl) refl in
    let small = b.small in
    let test : (nat_le 0 bus && nat_le bus 15) ≡ true = grind (arith, nat_tests) in
    let within : number_within 0 15 (u ∷ []) ≡ Some bus = ap (kept_within 0 15) is_bus ∙ ap (λ t. cond t (Some bus) None) test in
    event_of-word words
    ∙ ap (λ n. option_and_then (λ b. option_map (λ w. Word b w) (bits_of (drop (n + 1) words))) (bus_of (take n words))) blank
    ∙ ap (option_and_then (λ b. option_map (λ w. Word b w) (bits_of word))) (bus_of-within (u ∷ []) (bytes_one u b.byte) ∙ within)
    ∙ ap (option_map (λ w. Word bus w)) is_bits

-- the first of some bytes, one by one
first_one : (xs : List ℕ) (i : ℕ) (l : List ℕ) → i < length xs → drop (i + 1) xs ≡ l → drop i xs ≡ get_or xs i 0 ∷ l
first_one xs i l within rest = drop_more xs i 0 within ∙ ap (λ l. get_or xs i 0 ∷ l) rest

pub tick_line : (xs : List ℕ) → 2 ≤ length xs → get_or xs 0 0 ≡ 84 → get_or xs 1 0 ≡ 10 → IsCommon xs (Tick, 1)
tick_line xs long t feed =
    let whole : xs ≡ get_or xs 0 0 ∷ get_or xs 1 0 ∷ drop 2 xs = first_one xs 0 _ (omega arith) (first_one xs 1 _ (omega arith) refl) in
    let line : xs ≡ (84 ∷ []) ++ 10 ∷ drop 2 xs = whole ∙ ap (λ a. a ∷ get_or xs 1 0 ∷ drop 2 xs) t ∙ ap (λ b. 84 ∷ b ∷ drop 2 xs) feed in
    subst (λ l. IsCommon l (Tick, 1)) (sym line) (is_common (84 ∷ []) (drop 2 xs) Tick refl event_of-tick refl (omega arith))

pub word_line : (xs : List ℕ) (bus bits : ℕ) → 13 ≤ length xs → get_or xs 0 0 ≡ 87 → get_or xs 1 0 ≡ 32 → get_or xs 3 0 ≡ 32 → get_or xs 12 0 ≡ 10
    → digit_value (get_or xs 2 0) ≡ Some bus
    → bits_of (get_or xs 4 0 ∷ get_or xs 5 0 ∷ get_or xs 6 0 ∷ get_or xs 7 0 ∷ get_or xs 8 0 ∷ get_or xs 9 0 ∷ get_or xs 10 0 ∷ get_or xs 11 0 ∷ []) ≡ Some bits
    → IsCommon xs (Word bus bits, 12)
word_line xs bus bits long w one two feed is_bus is_bits =
    let u = get_or xs 2 0 in
    let word = get_or xs 4 0 ∷ get_or xs 5 0 ∷ get_or xs 6 0 ∷ get_or xs 7 0 ∷ get_or xs 8 0 ∷ get_or xs 9 0 ∷ get_or xs 10 0 ∷ get_or xs 11 0 ∷ [] in
    let rest = drop 13 xs in
    let whole : xs ≡ get_or xs 0 0 ∷ get_or xs 1 0 ∷ u ∷ get_or xs 3 0 ∷ (word ++ get_or xs 12 0 ∷ rest) =
    first_one xs 0 _ (omega arith) (first_one xs 1 _ (omega arith) (first_one xs 2 _ (omega arith) (first_one xs 3 _ (omega arith)
    (first_one xs 4 _ (omega arith) (first_one xs 5 _ (omega arith) (first_one xs 6 _ (omega arith) (first_one xs 7 _ (omega arith)
    (first_one xs 8 _ (omega arith) (first_one xs 9 _ (omega arith) (first_one xs 10 _ (omega arith) (first_one xs 11 _ (omega arith)
    (first_one xs 12 _ (omega arith) refl)))))))))))) in
    let line : xs ≡ (87 ∷ 32 ∷ u ∷ 32 ∷ word) ++ 10 ∷ rest =
    whole ∙ ap (λ a. a ∷ get_or xs 1 0 ∷ u ∷ get_or xs 3 0 ∷ (word ++ get_or xs 12 0 ∷ rest)) w
    ∙ ap (λ a. 87 ∷ a ∷ u ∷ get_or xs 3 0 ∷ (word ++ get_or xs 12 0 ∷ rest)) one
    ∙ ap (λ a. 87 ∷ 32 ∷ u ∷ a ∷ (word ++ get_or xs 12 0 ∷ rest)) two
    ∙ ap (λ a. 87 ∷ 32 ∷ u ∷ 32 ∷ (word ++ a ∷ rest)) feed in
    let feedless : none_passes (λ b. b == 10) (87 ∷ 32 ∷ u ∷ 32 ∷ word) ≡ true =
    ap (λ b. b && none_passes (λ b. b == 10) word) (bus_from u bus is_bus).no_feed ∙ digits_feedless word (digits_from word bits is_bits) in
    subst (λ l. IsCommon l (Word bus bits, 12)) (sym line)
    (is_common (87 ∷ 32 ∷ u ∷ 32 ∷ word) rest (Word bus bits) feedless (word_says u bus bits word is_bus is_bits) refl (omega arith))
