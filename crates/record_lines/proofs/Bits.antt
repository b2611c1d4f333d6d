-- Eight hexadecimal digits, as `hex` decodes them.
use Rattle.std.proofs.Common.{◌≡◌, ℕ, zero, suc, ◌+◌, ◌*◌, Bool, true, false, ◌⊎◌, inl, inr, List, [], ◌∷◌, length, Some, None, refl, sym, ◌∙◌, ap, subst, arith, w32, Ok, Err, Result}
use Rattle.std.proofs.lemmas.Bool.{cases_eq}
use Rattle.std.proofs.lemmas.Bool.Decides.{nat_tests}
use Rattle.std.specs.Prelude.{fold, MatchResult, nat_le}
use Rattle.std.specs.List.{list_all}
use Rattle.std.specs.Int.{from_be_bytes}
use Rattle.std.proofs.Math.Bool.{and-false}
use Rattle.hex.specs.declared.error.FromHexError.{FromHexError}
use Rattle.hex.specs.Hex.{◌>>=◌, decode_pairs, decode_sized, hex_digit_value}
use Rattle.ecam_spec.specs.RecordLine.{digit_of, bits_of}

-- a digit by both readings
digit_cases : (c : ℕ) → ((hex_digit_value c ≡ Some (digit_of c)) × (nat_le (digit_of c) 15 ≡ true)) ⊎ ((hex_digit_value c ≡ None) × (nat_le (digit_of c) 15 ≡ false))
unfolding digit_of
digit_cases c = grind (arith, nat_tests)

all_digits : List ℕ → Bool
all_digits word = list_all (λ c. nat_le (digit_of c) 15) word

-- the number of digits after another number, and the number of bytes after another
digits_after : ℕ → List ℕ → ℕ
digits_after n word = fold (λ n c. n * 16 + digit_of c) n word

bytes_after : ℕ → List ℕ → ℕ
bytes_after n bytes = fold (λ n b. n * 256 + b) n bytes

-- what the decoding of pairs of digits tells of them
record Decodes (n : ℕ) (word bytes : List ℕ) : Type 0 where
  all : all_digits word ≡ true
  length_is : length bytes ≡ n
  value : (m : ℕ) → digits_after m word ≡ bytes_after m bytes

abbrev TellsDigits : ℕ → List ℕ → Result (List ℕ) FromHexError → Type 0
TellsDigits n word r = MatchResult r (λ bytes. Decodes n word bytes) (λ _. all_digits word ≡ false)

one_pair : (n high low : ℕ) (rest : List ℕ) (r : Result (List ℕ) FromHexError) → nat_le (digit_of high) 15 ≡ true → nat_le (digit_of low) 15 ≡ true → TellsDigits n rest r
    → TellsDigits (suc n) (high ∷ low ∷ rest) (r >>= (λ bytes. Ok ((digit_of high * 16 + digit_of low) ∷ bytes)))
unfolding all_digits digits_after bytes_after
one_pair n high low rest (Ok bytes) h l told = record {
  all = rw (h, l) told.all;
  length_is = ap suc told.length_is;
  value = λ m.
      let shift : (m * 16 + digit_of high) * 16 + digit_of low ≡ m * 256 + (digit_of high * 16 + digit_of low) = omega arith in
      told.value ((m * 16 + digit_of high) * 16 + digit_of low) ∙ ap (λ k. fold (λ n b. n * 256 + b) k bytes) shift;
}
one_pair n high low rest (Err e) h l told = rw (h, l) told

pairs : (i n : ℕ) (word : List ℕ) → length word ≡ 2 * n → TellsDigits n word (decode_pairs i word)
unfolding decode_pairs all_digits digits_after bytes_after
pairs i n [] len = record { all = refl; length_is = omega arith; value = λ m. refl }
pairs i n (d ∷ []) len = absurd (omega arith)
pairs i zero (high ∷ low ∷ rest) len = absurd (omega arith)
pairs i (suc n) (high ∷ low ∷ rest) len =
    elim (digit_cases high) [
      | inl h ↦ elim (digit_cases low) [
        | inl l ↦ rw (h.0, l.0) (one_pair n high low rest (decode_pairs (i + 2) rest) h.1 l.1 (pairs (i + 2) n rest (omega arith)))
        | inr l ↦ rw (h.0, l.0, l.1) (and-false (nat_le (digit_of high) 15))
      ]
      | inr h ↦ rw (h.0, h.1) refl
    ]

-- four bytes, highest first
four_bytes : (bytes : List ℕ) → length bytes ≡ 4 → bytes_after 0 bytes ≡ from_be_bytes w32 bytes
unfolding bytes_after
four_bytes (a ∷ b ∷ c ∷ d ∷ []) len = omega arith
four_bytes [] len = absurd (omega arith)
four_bytes (a ∷ []) len = absurd (omega arith)
four_bytes (a ∷ b ∷ []) len = absurd (omega arith)
four_bytes (a ∷ b ∷ c ∷ []) len = absurd (omega arith)
four_bytes (a ∷ b ∷ c ∷ d ∷ e ∷ more) len = absurd (omega arith)

-- eight digits where the text decodes to four bytes, and else none
abbrev TellsBits : List ℕ → Result (List ℕ) FromHexError → Type 0
TellsBits word r = MatchResult r (λ bytes. bits_of word ≡ Some (from_be_bytes w32 bytes)) (λ _. bits_of word ≡ None)

from_digits : (word : List ℕ) (r : Result (List ℕ) FromHexError) → length word ≡ 8 → TellsDigits 4 word r → TellsBits word r
unfolding bits_of all_digits digits_after
from_digits word (Ok bytes) len told =
    let number : digits_after 0 word ≡ from_be_bytes w32 bytes = told.value 0 ∙ four_bytes bytes told.length_is in
    let all = told.all in
    rw (len, all) (ap Some number)
from_digits word (Err e) len told = rw (len, told) refl

bits-decoded : (word : List ℕ) → TellsBits word (decode_sized word 4)
unfolding bits_of
bits-decoded word =
    elim (cases_eq (length word) 8) [
      | inl eight ↦
          let sized : decode_sized word 4 ≡ decode_pairs 0 word = rw eight refl in
          subst (TellsBits word) (sym sized) (from_digits word (decode_pairs 0 word) eight (pairs 0 4 word eight))
      | inr other ↦ grind (arith, nat_tests)
    ]

-- what a call of the decoder answered and wrote
abbrev Decoded : List ℕ → Result (Unit {0}) FromHexError → Result (List ℕ) FromHexError → Type 0
Decoded out answer r = MatchResult r (λ bytes. (answer ≡ Ok tt) × (out ≡ bytes)) (λ e. answer ≡ Err e)

ok_from : (word out : List ℕ) (answer : Result (Unit {0}) FromHexError) (u : Unit {0}) (r : Result (List ℕ) FromHexError) → Decoded out answer r → TellsBits word r → answer ≡ Ok u → Some (from_be_bytes w32 out) ≡ bits_of word
ok_from word out answer u (Ok bytes) was told ok = ap (λ b. Some (from_be_bytes w32 b)) was.1 ∙ sym told
ok_from word out answer u (Err e) was told ok = cc

err_from : (word out : List ℕ) (answer : Result (Unit {0}) FromHexError) (e : FromHexError) (r : Result (List ℕ) FromHexError) → Decoded out answer r → TellsBits word r → answer ≡ Err e → None ≡ bits_of word
err_from word out answer e (Ok bytes) was told err = let h : Ok tt ≡ Err e = sym was.0 ∙ err in cc
err_from word out answer e (Err other) was told err = sym told

pub bits_of-Ok : (word out : List ℕ) (answer : Result (Unit {0}) FromHexError) (u : Unit {0}) → Decoded out answer (decode_sized word 4) → answer ≡ Ok u → Some (from_be_bytes w32 out) ≡ bits_of word
bits_of-Ok word out answer u was ok = ok_from word out answer u (decode_sized word 4) was (bits-decoded word) ok

pub bits_of-Err : (word out : List ℕ) (answer : Result (Unit {0}) FromHexError) (e : FromHexError) → Decoded out answer (decode_sized word 4) → answer ≡ Err e → None ≡ bits_of word
bits_of-Err word out answer e was err = err_from word out answer e (decode_sized word 4) was (bits-decoded word) err
