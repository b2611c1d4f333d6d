-- What stands in a table of a document: a value of a type at a key, in a range or form, or nothing.
use Rattle.std.specs.Prelude.{ℕ, ◌+◌, ◌-◌, ◌*◌, ℤ, pos, negsuc, Bool, ◌&&◌, nat_le, List, [], ◌∷◌, Option, Some, None, if◌then◌else◌}
use Rattle.std.specs.Option.{option_and_then}
use Rattle.std.specs.List.{list_any, list_all}
use Rattle.toml.specs.Data.{Data, Members, no_members, member, get_member, as_str, as_integer}
use Rattle.ecam_spec.specs.Book.{Text}
use Rattle.ecam_spec.specs.BookText.{is_name, is_text, is_term_text}
use Rattle.ecam_spec.specs.Bytes.{same_text, is_between}

-- what follows from a value that is there
infixl 10 ◌>>=◌
abbrev pub ◌>>=◌ : {A B : Type 0} → Option A → (A → Option B) → Option B
o >>= f = option_and_then f o

-- a value that passes a test
abbrev pub passing : {A : Type 0} → (A → Bool) → A → Option A
passing test x = if test x then Some x else None

-- the keys of a table
abbrev pub keys : Members → List Text
keys no_members = []
keys (member key value rest) = key ∷ keys rest

-- a table has no key but these
abbrev pub has_only : List Text → Members → Bool
has_only known table = list_all (λ key. list_any (same_text key) known) (keys table)

-- a string at a key
unfoldable pub string_at : Text → Members → Option Text
string_at key table = get_member key table >>= as_str

-- a name at a key
unfoldable pub name_at : Text → Members → Option Text
name_at key table = string_at key table >>= passing is_name

-- a text of at most so many bytes
unfoldable pub text_in : ℕ → Data → Option Text
text_in most value = as_str value >>= passing (is_text most)

-- the text of a condition
abbrev pub term_text_in : Data → Option Text
term_text_in value = as_str value >>= passing is_term_text

-- a text of at most so many bytes at a key
unfoldable pub text_at : ℕ → Text → Members → Option Text
text_at most key table = get_member key table >>= text_in most

-- a whole number as one from low to high
abbrev pub number_from : ℕ → ℕ → ℤ → Option ℕ
number_from low high (pos n) = passing (is_between low high) n
number_from low high (negsuc n) = None

-- a whole number from low to high at a key
unfoldable pub number_at : ℕ → ℕ → Text → Members → Option ℕ
number_at low high key table = get_member key table >>= as_integer >>= number_from low high

abbrev pub is_octal : ℕ → Bool
is_octal = is_between 48 55

-- a label: three octal digits, at most 377
unfoldable pub label_from : Text → Option ℕ
label_from (a ∷ b ∷ c ∷ []) =
    if is_octal a && (is_octal b && is_octal c) then passing (λ n. nat_le n 255) ((a - 48) * 64 + (b - 48) * 8 + (c - 48)) else None
label_from _ = None

-- a label at a key
unfoldable pub label_at : Text → Members → Option ℕ
label_at key table = string_at key table >>= label_from
