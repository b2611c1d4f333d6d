-- What is known of a field that was read: it passes its test.
use Rattle.std.proofs.Common.{◌≡◌, ℕ, ◌+◌, ◌<◌, ◌≤◌, ℤ, pos, negsuc, Bool, true, false, ◌&&◌, cond, leb, List, [], ◌∷◌, length, Option, Some, None, refl, sym, ap, ◌∙◌, inl, inr, arith}
use Rattle.std.specs.List.{position_from}
use Rattle.std.proofs.lemmas.Bool.{cases_Bool, leb-true, and_parts}
use Rattle.std.proofs.lemmas.Option.{option_and_then_some}
use Rattle.toml.specs.Data.{Data, Members, get_member, as_str, as_integer}
use Rattle.ecam_spec.specs.Book.{Text}
use Rattle.ecam_spec.specs.BookText.{is_name, is_text}
use Rattle.ecam_spec.specs.Bytes.{is_between, same_text, place_of}
use Rattle.book_spec.specs.Fields.{◌>>=◌, passing, string_at, name_at, text_in, text_at, number_from, number_at, label_from, label_at, is_octal}

pub passed : {A : Type 0} (test : A → Bool) (x y : A) → passing test x ≡ Some y → test y ≡ true
passed test x y h =
    elim (cases_Bool (test x)) [
      | inl pass ↦ let e : Some x ≡ Some y = sym (rw pass refl) ∙ h in let same : x ≡ y = cc in ap test (sym same) ∙ pass
      | inr fail ↦ let e : None ≡ Some y = sym (rw fail refl) ∙ h in absurd (cc)
    ]

pub kept : {A : Type 0} (test : A → Bool) (o : Option A) (y : A) → (o >>= passing test) ≡ Some y → test y ≡ true
kept test o y h = option_and_then_some (passing test) o y h (λ x e k. passed test x y k)

pub between : (low high n : ℕ) → is_between low high n ≡ true → (low ≤ n) × (n ≤ high)
between low high n h =
    let parts = and_parts (leb low n) (leb n high) h in
    (leb-true low n parts.0, leb-true n high parts.1)

pub name_read : (key : Text) (table : Members) (n : Text) → name_at key table ≡ Some n → is_name n ≡ true
unfolding name_at
name_read key table n h = kept is_name (string_at key table) n h

pub text_read : (most : ℕ) (value : Data) (t : Text) → text_in most value ≡ Some t → is_text most t ≡ true
unfolding text_in
text_read most value t h = kept (is_text most) (as_str value) t h

pub text_at_read : (most : ℕ) (key : Text) (table : Members) (t : Text) → text_at most key table ≡ Some t → is_text most t ≡ true
unfolding text_at
text_at_read most key table t h = option_and_then_some (text_in most) (get_member key table) t h (λ v e k. text_read most v t k)

pub number_within : (low high : ℕ) (z : ℤ) (n : ℕ) → number_from low high z ≡ Some n → (low ≤ n) × (n ≤ high)
number_within low high (pos m) n h = between low high n (passed (is_between low high) m n h)
number_within low high (negsuc m) n h = absurd (cc)

pub number_read : (low high : ℕ) (key : Text) (table : Members) (n : ℕ) → number_at low high key table ≡ Some n → (low ≤ n) × (n ≤ high)
unfolding number_at
number_read low high key table n h =
    option_and_then_some (number_from low high) (get_member key table >>= as_integer) n h (λ z e k. number_within low high z n k)

label_digits : (b : Bool) (m n : ℕ) → cond b (passing (λ x. leb x 255) m) None ≡ Some n → n ≤ 255
label_digits true m n h = leb-true n 255 (passed (λ x. leb x 255) m n h)
label_digits false m n h = absurd (cc)

label_within : (text : Text) (n : ℕ) → label_from text ≡ Some n → n ≤ 255
unfolding label_from
label_within [] n h = absurd (cc)
label_within (a ∷ []) n h = absurd (cc)
label_within (a ∷ b ∷ []) n h = absurd (cc)
label_within (a ∷ b ∷ c ∷ []) n h = label_digits (is_octal a && (is_octal b && is_octal c)) _ n h
label_within (a ∷ b ∷ c ∷ d ∷ rest) n h = absurd (cc)

pub label_read : (key : Text) (table : Members) (n : ℕ) → label_at key table ≡ Some n → n ≤ 255
unfolding label_at
label_read key table n h = option_and_then_some label_from (string_at key table) n h (λ t e k. label_within t n k)

place_within : (test : Text → Bool) (i : ℕ) (names : List Text) (p : ℕ) → position_from test i names ≡ Some p → p < i + length names
place_within test i [] p h = absurd (cc)
place_within test i (n ∷ names) p h =
    elim (cases_Bool (test n)) [
      | inl pass ↦ let e : Some i ≡ Some p = sym (rw pass refl) ∙ h in let same : i ≡ p = cc in omega arith
      | inr fail ↦ let e : position_from test (i + 1) names ≡ Some p = sym (rw fail refl) ∙ h in omega (arith, place_within test (i + 1) names p e)
    ]

pub place_read : (names : List Text) (o : Option Text) (p : ℕ) → (o >>= place_of names) ≡ Some p → p < length names
place_read names o p h =
    option_and_then_some (place_of names) o p h (λ t e k. omega (arith, place_within (same_text t) 0 names p k))
