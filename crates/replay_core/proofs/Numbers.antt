-- Which words spell a number.
use Rattle.std.proofs.Common.{◌≡◌, ◌≢◌, ℕ, ◌<◌, ◌≤◌, true, false, length, cond, Some, None, take, sym, get_or, refl, ◌∙◌, ap, subst, arith}
use Rattle.std.specs.Prelude.{nat_le, ◌==◌}
use Rattle.std.specs.Char.{is_ascii_digit}
use Rattle.std.specs.List.{list_all}
use Rattle.std.proofs.lemmas.List.{take_all}
use Rattle.std.proofs.lemmas.Bool.{lt-leb, le-leb, eqb-true, eqb-false}
use Rattle.std.proofs.lemmas.List.Folds.{list_all_at}
use Rattle.ecam_spec.specs.Book.{Text}
use Rattle.ecam_spec.specs.TermNumber.{digits_value}
use Rattle.ecam_spec.specs.Command.{number_of}

module _ (longest most : ℕ) where
  -- a word without a byte, with too many, or with one that is no digit
  pub number-empty : (w d : Text) → d ≡ w → (length d == 0) ≡ true → number_of longest most w ≡ None
  unfolding number_of
  number-empty w d e none = let h : length d ≡ 0 = eqb-true (length d) 0 none in rw (lt-leb 1 (length w) (omega (arith, ap length e))) refl

  pub number-long : (w : Text) → 1 ≤ length w → longest < length w → number_of longest most w ≡ None
  unfolding number_of
  number-long w some h = rw (le-leb 1 (length w) some, lt-leb (length w) longest h) refl

  pub number-letter : (w d : Text) → d ≡ w → (i : ℕ) → i < length d → length d ≤ longest → is_ascii_digit (get_or d i 0) ≡ false → number_of longest most w ≡ None
  unfolding number_of
  number-letter w d e i within many letter =
      subst (λ w. number_of longest most w ≡ None) e
      (rw (le-leb 1 (length d) (omega arith), le-leb (length d) longest many, list_all_at is_ascii_digit d i 0 within letter) refl)

  -- a word of digits, gone through to its end
  module _ (w d : Text) (e : d ≡ w) (i n : ℕ) (few : 1 ≤ length d) (many : length d ≤ longest) (end : length d ≤ i)
      (digits : list_all is_ascii_digit (take i d) ≡ true) (value : n ≡ digits_value (take i d)) where
    whole_digits : list_all is_ascii_digit d ≡ true
    whole_digits = ap (list_all is_ascii_digit) (sym (take_all i d end)) ∙ digits

    whole_value : digits_value d ≡ n
    whole_value = sym (value ∙ ap digits_value (take_all i d end))

    spells : number_of longest most d ≡ cond (nat_le n most) (Some n) None
    unfolding number_of
    spells = rw (le-leb 1 (length d) few, le-leb (length d) longest many, whole_digits, whole_value) refl

    pub number-small : n ≤ most → number_of longest most w ≡ Some n
    number-small small = subst (λ w. number_of longest most w ≡ Some n) e (spells ∙ ap (λ b. cond b (Some n) None) (le-leb n most small))

    pub number-large : most < n → number_of longest most w ≡ None
    number-large large = subst (λ w. number_of longest most w ≡ None) e (spells ∙ ap (λ b. cond b (Some n) None) (lt-leb n most large))

-- a text that isn't empty has a byte
pub some-byte : (d : Text) → (length d == 0) ≡ false → 1 ≤ length d
some-byte d some = let h : length d ≢ 0 = eqb-false (length d) 0 some in omega arith
