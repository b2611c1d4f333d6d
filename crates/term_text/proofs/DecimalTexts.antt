-- Numbers in decimal: their digits, and the number that they spell.
use Rattle.std.proofs.Common.{◌≡◌, ℕ, suc, ◌+◌, ◌-◌, ◌*◌, ◌/◌, ◌%◌, ◌^◌, ◌<◌, ◌≤◌, Bool, true, false, eqb, leb, List, [], ◌∷◌, ◌++◌, length, drop, ℤ, pos, negsuc, length-append, refl, sym, ◌∙◌, ap, subst, arith}
use Rattle.std.specs.Prelude.{decimal, fold, neg_ℤ}
use Rattle.std.specs.List.{list_all}
use Rattle.std.proofs.lemmas.Bool.{and_parts, and_from, eqb-true, le-leb, false≢true, false_from_ne_true}
use Rattle.std.proofs.lemmas.Fmt.{decimal_by_steps}
use Rattle.ecam_spec.specs.Book.{Text}
use Rattle.ecam_spec.specs.Bytes.{is_digit}
use Rattle.ecam_spec.specs.TermNumber.{digits_value, is_negative, magnitude, value}

fold-push : (f : ℕ → ℕ → ℕ) (a : ℕ) (xs : List ℕ) (x : ℕ) → fold f a (xs ++ x ∷ []) ≡ f (fold f a xs) x
fold-push f a [] x = refl
fold-push f a (y ∷ xs) x = fold-push f (f a y) xs x

all-push : (p : ℕ → Bool) (xs : List ℕ) (x : ℕ) → list_all p xs ≡ true → p x ≡ true → list_all p (xs ++ x ∷ []) ≡ true
all-push p [] x all is = and_from (p x) true is refl
all-push p (y ∷ xs) x all is = let parts = and_parts (p y) (list_all p xs) all in and_from (p y) (list_all p (xs ++ x ∷ [])) parts.0 (all-push p xs x parts.1 is)

-- a text spells a number by its digits
pub record Spells (n : ℕ) (ds : Text) : Type 0 where
  pub some : 1 ≤ length ds
  pub digits : list_all is_digit ds ≡ true
  pub value : digits_value ds ≡ n

digit-byte : (d : ℕ) → d < 10 → is_digit (48 + d) ≡ true
digit-byte d small = and_from (leb 48 (48 + d)) (leb (48 + d) 57) (le-leb 48 (48 + d) (omega arith)) (le-leb (48 + d) 57 (omega arith))

one-digit : (n : ℕ) → n < 10 → Spells n ((48 + n) ∷ [])
one-digit n small = record { some = omega arith; digits = and_from (is_digit (48 + n)) true (digit-byte n small) refl; value = omega arith }

more-digits : (n : ℕ) (ds : Text) → 10 ≤ n → Spells (n / 10) ds → Spells n (ds ++ (48 + n % 10) ∷ [])
more-digits n ds large h = record {
  some = simp length-append (omega arith);
  digits = all-push is_digit ds (48 + n % 10) h.digits (digit-byte (n % 10) (omega arith));
  value = fold-push (λ m d. m * 10 + (d - 48)) 0 ds (48 + n % 10) ∙ ap (λ (m : ℕ). m * 10 + ((48 + n % 10) - 48)) h.value ∙ omega arith;
}

pub decimal_spells : (n : ℕ) → n < 2 ^ 64 → Spells n (decimal n)
decimal_spells n fits = decimal_by_steps Spells one-digit more-digits n fits

-- a digit, and further ones
pub record Digits (ds : Text) : Type 0 where
  pub first : ℕ
  pub others : Text
  pub is : ds ≡ first ∷ others
  pub first_digit : is_digit first ≡ true
  pub other_digits : list_all is_digit others ≡ true

digits-of : (ds : Text) → 1 ≤ length ds → list_all is_digit ds ≡ true → Digits ds
digits-of [] some all = absurd (omega arith)
digits-of (b ∷ bs) some all = let parts = and_parts (is_digit b) (list_all is_digit bs) all in record { first = b; others = bs; is = refl; first_digit = parts.0; other_digits = parts.1 }

pub decimal_digits : (n : ℕ) → n < 2 ^ 64 → Digits (decimal n)
decimal_digits n fits = let s = decimal_spells n fits in digits-of (decimal n) s.some s.digits

no_sign : (ds : Text) → Digits ds → is_negative ds ≡ false
no_sign ds d =
    subst (λ (x : Text). is_negative x ≡ false) (sym d.is)
    (false_from_ne_true (eqb d.first 45) (λ e. false≢true (subst (λ (x : ℕ). is_digit x ≡ true) (eqb-true d.first 45 e) d.first_digit)))

pub magnitude-decimal : (n : ℕ) → n < 2 ^ 64 → magnitude (decimal n) ≡ n
unfolding magnitude
magnitude-decimal n fits =
    ap (λ (x : Bool). digits_value (elim x as (λ v. Text) [ true ↦ drop 1 (decimal n) | false ↦ decimal n ])) (no_sign (decimal n) (decimal_digits n fits))
    ∙ (decimal_spells n fits).value

pub value-decimal : (n : ℕ) → n < 2 ^ 64 → value (decimal n) ≡ pos n
unfolding value
value-decimal n fits =
    ap (λ (x : Bool). elim x as (λ v. ℤ) [ true ↦ neg_ℤ (pos (magnitude (decimal n))) | false ↦ pos (magnitude (decimal n)) ]) (no_sign (decimal n) (decimal_digits n fits))
    ∙ ap pos (magnitude-decimal n fits)

pub value-negative : (n : ℕ) → suc n < 2 ^ 64 → value (45 ∷ decimal (suc n)) ≡ negsuc n
unfolding value magnitude
value-negative n fits = ap (λ (m : ℕ). neg_ℤ (pos m)) (decimal_spells (suc n) fits).value
