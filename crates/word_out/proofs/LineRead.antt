-- The line of a word, read back as a record's line.
use Rattle.std.proofs.Common.{◌≡◌, ℕ, ◌+◌, ◌*◌, ◌/◌, ◌%◌, ◌<◌, ◌^◌, ◌-◌, Bool, true, false, not, ◌&&◌, List, [], ◌∷◌, ◌++◌, length, get_or, Some, refl, arith}
use Rattle.std.proofs.lemmas.Bool.{eqb-true, le-leb}
use Rattle.std.specs.Fmt.{digits}
use Rattle.std.specs.List.{list_all}
use Rattle.std.specs.Prelude.{codes, map, fold, nat_le, ◌==◌}
use Rattle.ecam_spec.specs.declared.kinds.Event.TheVariants.{Word, Tick, End}
use Rattle.ecam_spec.specs.Book.{Text}
use Rattle.ecam_spec.specs.Places.{below}
use Rattle.ecam_spec.specs.RecordLine.{digit_of, bus_of, bits_of, word_event, is_end, event_of}
use Rattle.record_maker.proofs.Texts.{each_below}
use Rattle.view_spec.specs.OutputWords.{word_digits}

-- ---- one digit

abbrev sixteen : Text
sixteen = codes "0123456789abcdef"

table : list_all (λ d. (digit_of (get_or (codes "0123456789abcdef") d 0) == d) && not (get_or (codes "0123456789abcdef") d 0 == 10)) (below 16) ≡ true
unfolding below digit_of
table = refl

both : (a b : Bool) → (a && b) ≡ true → (a ≡ true) × (b ≡ true)
both true b e = (refl, e)
both false b e = absurd (let w : ⊥ = cc in w)

at_digit : (n : ℕ) → ((digit_of (get_or (codes "0123456789abcdef") (n % 16) 0) == n % 16) ≡ true) × (not (get_or (codes "0123456789abcdef") (n % 16) 0 == 10) ≡ true)
at_digit n = both _ _ (each_below (λ d. (digit_of (get_or (codes "0123456789abcdef") d 0) == d) && not (get_or (codes "0123456789abcdef") d 0 == 10)) 16 table (n % 16) (omega arith))

-- a digit is worth what it was written for
digit_back : (n : ℕ) → digit_of (get_or (codes "0123456789abcdef") (n % 16) 0) ≡ n % 16
digit_back n = eqb-true _ _ (at_digit n).0

digit_low : (n : ℕ) → nat_le (digit_of (get_or (codes "0123456789abcdef") (n % 16) 0)) 15 ≡ true
digit_low n = le-leb _ 15 (omega (arith, digit_back n))

all_mapped : (p : ℕ → Bool) (f : ℕ → ℕ) (xs : List ℕ) → ((x : ℕ) → p (f x) ≡ true) → list_all p (map f xs) ≡ true
all_mapped p f [] each = refl
all_mapped p f (x ∷ xs) each = let here = each x in rw here (all_mapped p f xs each)

-- ---- eight digits

module _ (w : ℕ) where
  pub length-digits : length (word_digits w) ≡ 8
  unfolding word_digits below
  length-digits = refl

  digits_low : list_all (λ c. nat_le (digit_of c) 15) (word_digits w) ≡ true
  unfolding word_digits
  digits_low = all_mapped (λ c. nat_le (digit_of c) 15) _ (below 8) (λ i. digit_low (w / 16 ^ (7 - i)))

  pub digits_feedless : list_all (λ b. not (b == 10)) (word_digits w) ≡ true
  unfolding word_digits
  digits_feedless = all_mapped (λ b. not (b == 10)) _ (below 8) (λ i. (at_digit (w / 16 ^ (7 - i))).1)

  module _ (small : w < 2 ^ 32) where
    value_back : fold (λ n c. n * 16 + digit_of c) 0 (word_digits w) ≡ w
    unfolding word_digits below
    value_back =
        let a = digit_back (w / 268435456) in
        let b = digit_back (w / 16777216) in
        let c = digit_back (w / 1048576) in
        let d = digit_back (w / 65536) in
        let e = digit_back (w / 4096) in
        let f = digit_back (w / 256) in
        let g = digit_back (w / 16) in
        let h = digit_back (w / 1) in
        rw (a, b, c, d, e, f, g, h) (omega arith)

    bits_back : bits_of (word_digits w) ≡ Some w
    unfolding bits_of
    bits_back = rw (length-digits, digits_low, value_back) refl

    -- the line says the word on bus 15
    pub line_back : event_of (codes "W 15 " ++ word_digits w) ≡ Some (Word 15 w)
    unfolding event_of is_end word_event bus_of below digits
    line_back = rw bits_back refl

  pub line_feedless : list_all (λ b. not (b == 10)) (codes "W 15 " ++ word_digits w) ≡ true
  line_feedless = digits_feedless

pub tick_back : event_of (codes "T") ≡ Some Tick
unfolding event_of
tick_back = refl

pub end_back : event_of (codes "E") ≡ Some End
unfolding event_of is_end
end_back = refl
