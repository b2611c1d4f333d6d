-- Each line of a moment is one of a record's forms, short, and without a line feed inside.
use Rattle.std.proofs.Common.{◌≡◌, ℕ, zero, suc, ◌+◌, ◌*◌, ◌/◌, ◌%◌, ◌^◌, ◌-◌, ◌<◌, Bool, true, false, not, ◌&&◌, ◌==◌, List, [], ◌∷◌, ◌++◌, length, get_or, Option, Some, None, cond, leb, refl, arith}
use Rattle.std.proofs.lemmas.Bool.{and_parts}
use Rattle.std.specs.Fmt.{digits}
use Rattle.std.specs.List.{list_all}
use Rattle.std.specs.Prelude.{codes, decimal, map, fold, nat_le}
use Rattle.ecam_spec.specs.declared.kinds.Event.{Event}
use Rattle.ecam_spec.specs.Book.{Text}
use Rattle.ecam_spec.specs.Places.{below}
use Rattle.ecam_spec.specs.RecordLine.{digit_of, key_words, key_of, computer_of, bus_of, bits_of, word_event, is_end, event_of, is_end_event}
use Rattle.ecam_spec.specs.Replay.{is_tick}
use Rattle.record_maker.specs.Draws.{moved_right}
use Rattle.record_maker.specs.Lines.{word_digits, word_line, key_word, key_lines, computer_lines}
use Rattle.record_maker.proofs.Texts.{each_below}

-- an event that neither ends a moment nor the record
unfoldable pub is_quiet : Option Event → Bool
is_quiet (Some e) = not (is_end_event e) && not (is_tick e)
is_quiet None = false

unfoldable pub is_feedless : Text → Bool
is_feedless line = list_all (λ b. not (b == 10)) line

-- such a line
unfoldable pub is_good : Text → Bool
is_good line = is_quiet (event_of line) && (leb (length line) 32 && is_feedless line)

-- ---- a word

all-mapped : (p : ℕ → Bool) (f : ℕ → ℕ) (xs : List ℕ) → ((x : ℕ) → p (f x) ≡ true) → list_all p (map f xs) ≡ true
all-mapped p f [] each = refl
all-mapped p f (x ∷ xs) each = let here = each x in rw here (all-mapped p f xs each)

-- a digit is one, and no line feed
digits-good : list_all (λ d. nat_le (digit_of (get_or (codes "0123456789abcdef") d 0)) 15 && not (get_or (codes "0123456789abcdef") d 0 == 10)) (below 16) ≡ true
unfolding below digit_of
digits-good = refl

digit-good : (n : ℕ) → (nat_le (digit_of (get_or (codes "0123456789abcdef") (n % 16) 0)) 15 && not (get_or (codes "0123456789abcdef") (n % 16) 0 == 10)) ≡ true
digit-good n = each_below (λ d. nat_le (digit_of (get_or (codes "0123456789abcdef") d 0)) 15 && not (get_or (codes "0123456789abcdef") d 0 == 10)) 16 digits-good (n % 16) (omega arith)

module _ (word : ℕ) where
  pub length-word_digits : length (word_digits word) ≡ 8
  unfolding word_digits below
  length-word_digits = refl

  digits-are : list_all (λ c. nat_le (digit_of c) 15) (word_digits word) ≡ true
  unfolding word_digits
  digits-are = all-mapped (λ c. nat_le (digit_of c) 15) _ (below 8) (λ i. (and_parts _ _ (digit-good (word / 16 ^ (7 - i)))).0)

  digits-feedless : list_all (λ b. not (b == 10)) (word_digits word) ≡ true
  unfolding word_digits
  digits-feedless = all-mapped (λ b. not (b == 10)) _ (below 8) (λ i. (and_parts _ _ (digit-good (word / 16 ^ (7 - i)))).1)

  bits-some : bits_of (word_digits word) ≡ Some (fold (λ n c. n * 16 + digit_of c) 0 (word_digits word))
  unfolding bits_of
  bits-some = rw (length-word_digits, digits-are) refl

  pub good-word : (bus : ℕ) → bus < 4 → is_good (word_line bus word) ≡ true
  unfolding is_good is_quiet is_feedless word_line event_of is_end word_event bus_of below digits
  good-word zero within = rw (bits-some, length-word_digits, digits-feedless) refl
  good-word (suc zero) within = rw (bits-some, length-word_digits, digits-feedless) refl
  good-word (suc (suc zero)) within = rw (bits-some, length-word_digits, digits-feedless) refl
  good-word (suc (suc (suc zero))) within = rw (bits-some, length-word_digits, digits-feedless) refl
  good-word (suc (suc (suc (suc n)))) within = absurd (omega arith)

-- ---- a key, a computer

presses-good : list_all (λ n. is_good (codes "P " ++ key_word n)) (below 24) ≡ true
unfolding is_good is_quiet is_feedless event_of is_end word_event key_of key_word key_words below digits
presses-good = refl

releases-good : list_all (λ n. is_good (codes "R " ++ key_word n)) (below 24) ≡ true
unfolding is_good is_quiet is_feedless event_of is_end word_event key_of key_word key_words below digits
releases-good = refl

pub good-key : (n : ℕ) (down : Bool) → n < 24 → is_good (cond down (codes "P ") (codes "R ") ++ key_word n) ≡ true
good-key n true within = each_below (λ n. is_good (codes "P " ++ key_word n)) 24 presses-good n within
good-key n false within = each_below (λ n. is_good (codes "R " ++ key_word n)) 24 releases-good n within

computers-good : list_all (λ n. is_good (codes "F " ++ decimal (1 + n)) && is_good (codes "U " ++ decimal (1 + n))) (below 2) ≡ true
unfolding is_good is_quiet is_feedless event_of is_end word_event computer_of below digits
computers-good = refl

module _ (n : ℕ) where
  computer-good : (is_good (codes "F " ++ decimal (1 + n % 2)) && is_good (codes "U " ++ decimal (1 + n % 2))) ≡ true
  computer-good = each_below (λ n. is_good (codes "F " ++ decimal (1 + n)) && is_good (codes "U " ++ decimal (1 + n))) 2 computers-good (n % 2) (omega arith)

  good-failure : is_good (codes "F " ++ decimal (1 + n % 2)) ≡ true
  good-failure = (and_parts (is_good (codes "F " ++ decimal (1 + n % 2))) _ computer-good).0

  good-start : is_good (codes "U " ++ decimal (1 + n % 2)) ≡ true
  good-start = (and_parts (is_good (codes "F " ++ decimal (1 + n % 2))) _ computer-good).1

-- ---- lines of a draw

module _ (r : ℕ) where
  pub good-keys : list_all is_good (key_lines r) ≡ true
  unfolding key_lines
  good-keys = by (r % 50 == 0) where
    by : (b : Bool) → list_all is_good (cond b ((cond (moved_right r 32 % 2 == 0) (codes "P ") (codes "R ") ++ key_word (r / 50 % 24)) ∷ []) []) ≡ true
    by true = let good = good-key (r / 50 % 24) (moved_right r 32 % 2 == 0) (omega arith) in rw good refl
    by false = refl

  pub good-computers : list_all is_good (computer_lines r) ≡ true
  unfolding computer_lines
  good-computers = by (r % 400 == 0) (nat_le (r % 400) 8) where
    by : (b d : Bool) → list_all is_good (cond b ((codes "F " ++ decimal (1 + r / 400 % 2)) ∷ []) (cond d ((codes "U " ++ decimal (1 + r / 400 % 2)) ∷ []) [])) ≡ true
    by true d = let good = good-failure (r / 400) in rw good refl
    by false true = let good = good-start (r / 400) in rw good refl
    by false false = refl
