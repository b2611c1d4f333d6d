-- What a key of a table is read as keeps its bounds, whatever the table holds.
use Rattle.std.proofs.Common.{◌≡◌, ◌≢◌, ℕ, suc, ◌<◌, ◌≤◌, Bool, true, false, List, [], ◌∷◌, length, Option, Some, None, refl, subst, arith}
use Rattle.std.specs.Prelude.{find, fold, option_map, unwrap_or, bit_or, nat_le}
use Rattle.std.specs.Option.{IfSome}
use Rattle.std.specs.List.{All, filter_map, cons_option}
use Rattle.std.proofs.lemmas.Bool.{leb-true}
use Rattle.std.proofs.lemmas.Nat.{or_lt}
use Rattle.std.proofs.lemmas.Option.{option_and_then_some}
use Rattle.std.proofs.lemmas.List.Elements.{All-cons, All-nil, All-head, All-tail, All-from_recursion}
use Rattle.toml.specs.Data.{Data, Members, as_str, as_integer}
use Rattle.ecam_spec.specs.declared.kinds.Colour.{Colour}
use Rattle.ecam_spec.specs.declared.kinds.Colour.TheVariants.{Blank}
use Rattle.ecam_spec.specs.Book.{Text}
use Rattle.ecam_spec.specs.BookText.{is_text}
use Rattle.ecam_spec.specs.Bytes.{same_text, place_of}
use Rattle.ecam_spec.specs.TermNumber.{one_phase}
use Rattle.book_spec.specs.Fields.{◌>>=◌, string_at, text_at, number_at, number_from, label_at}
use Rattle.book_spec.specs.Schema.{meaning, colour_words, section_words}
use Rattle.book_spec.specs.Rules.{list_in}
use Rattle.book_spec.specs.Defaults.{number_or_least, word_or, phase_from, phases_at, short_name}
use Rattle.book_spec.proofs.FieldFacts.{text_at_read, number_read, number_within, label_read, place_read}
use Rattle.book_spec.proofs.TermKeys.{found_so}
use Rattle.book_spec.proofs.TermRanges.{phase_below}

-- ---- what may be missing

-- what is so of each value that may be there, and of the default
or_so : {X : Type 0} (P : X → Type 0) (o : Option X) (default : X) → ((x : X) → o ≡ Some x → P x) → P default → P (unwrap_or o default)
or_so P None default there missing = missing
or_so P (Some x) default there missing = there x refl

if_so : {X : Type 0} (P : X → Type 0) (o : Option X) → ((x : X) → o ≡ Some x → P x) → IfSome o P
if_so P None there = tt
if_so P (Some x) there = there x refl

-- ---- numbers

pub number_bounds : (low high : ℕ) (key : Text) (table : Members) → low ≤ high → (low ≤ number_or_least low high key table) × (number_or_least low high key table ≤ high)
number_bounds low high key table h =
    or_so (λ n. (low ≤ n) × (n ≤ high)) (number_at low high key table) low (number_read low high key table) (omega arith, h)

pub number_below : (high : ℕ) (key : Text) (table : Members) → IfSome (number_at 0 high key table) (λ n. n < suc high)
number_below high key table =
    if_so (λ n. n < suc high) (number_at 0 high key table) (λ n e. let within = number_read 0 high key table n e in omega (arith, within.1))

pub label_bound : (key : Text) (table : Members) → unwrap_or (label_at key table) 0 < 256
label_bound key table = or_so (λ n. n < 256) (label_at key table) 0 (λ n e. omega (arith, label_read key table n e)) (omega arith)

-- ---- texts and names that may be missing

pub text_there : (most : ℕ) (key : Text) (table : Members) → IfSome (text_at most key table) (λ t. is_text most t ≡ true)
text_there most key table = if_so (λ t. is_text most t ≡ true) (text_at most key table) (text_at_read most key table)

pub place_there : (names : List Text) (name : Option Text) → IfSome (name >>= place_of names) (λ p. p < length names)
place_there names name = if_so (λ p. p < length names) (name >>= place_of names) (place_read names name)

short_or_empty : (short : Bool) (name : Text) → nat_le (length name) 24 ≡ short → length (elim short as (λ b. Text) [ true ↦ name | false ↦ [] ]) ≤ 24
short_or_empty true name h = leb-true (length name) 24 h
short_or_empty false name h = omega arith

pub short_bound : (value : Data) → length (short_name value) ≤ 24
short_bound value =
    elim (as_str value) as (λ o. length (elim o as (λ x. Text) [ None ↦ [] | Some name ↦ elim (nat_le (length name) 24) as (λ b. Text) [ true ↦ name | false ↦ [] ] ]) ≤ 24) [
      | None ↦ omega arith
      | Some name ↦ short_or_empty (nat_le (length name) 24) name refl
    ]

-- ---- words

meaning_so : {A : Type 0} (P : A → Type 0) (list : List (Text × A)) → All (λ w. P w.1) list → (word : Text) (x : A) → meaning list word ≡ Some x → P x
meaning_so P list all word x h =
    elim (find (λ w. same_text word w.0) list) as (λ o. find (λ w. same_text word w.0) list ≡ o → option_map (λ w. w.1) o ≡ Some x → P x) [
      | None ↦ λ e k. absurd (cc)
      | Some w ↦ λ e k. let same : w.1 ≡ x = cc in subst P same (found_so (λ v. P v.1) (λ v. same_text word v.0) list all w e)
    ] refl h

-- what is so of what each word of a list stands for, and of the default
word_so : {A : Type 0} (P : A → Type 0) (default : A) (list : List (Text × A)) → P default → All (λ w. P w.1) list → (key : Text) (table : Members) → P (word_or default list key table)
word_so P default list missing all key table =
    or_so P (string_at key table >>= meaning list) default
    (λ x e. option_and_then_some (meaning list) (string_at key table) x e (λ word is found. meaning_so P list all word x found)) missing

pub colour_told : (default : Colour) → default ≢ Blank → (key : Text) (table : Members) → word_or default colour_words key table ≢ Blank
unfolding colour_words
colour_told default shows key table =
    word_so (λ c. c ≢ Blank) default colour_words shows
    (All-from_recursion (λ w. w.1 ≢ Blank) colour_words ((λ e. cc), ((λ e. cc), ((λ e. cc), ((λ e. cc), ((λ e. cc), ((λ e. cc), tt))))))) key table

pub section_bound : (key : Text) (table : Members) → word_or 0 section_words key table < 5
unfolding section_words
section_bound key table =
    word_so (λ n. n < 5) 0 section_words (omega arith)
    (All-from_recursion (λ w. w.1 < 5) section_words (omega arith, (omega arith, (omega arith, (omega arith, (omega arith, tt)))))) key table

-- ---- phases

filtered_so : {X Y : Type 0} (P : Y → Type 0) (read : X → Option Y) → ((x : X) (y : Y) → read x ≡ Some y → P y) → (xs : List X) → All P (filter_map read xs)
filtered_so P read there [] = All-nil P
filtered_so P read there (x ∷ xs) =
    elim (read x) as (λ o. read x ≡ o → All P (cons_option o (filter_map read xs))) [
      | None ↦ λ e. filtered_so P read there xs
      | Some y ↦ λ e. All-cons P y (filter_map read xs) (there x y e) (filtered_so P read there xs)
    ] refl

set_below : (set : ℕ) (ps : List ℕ) → set < 1024 → All (λ p. p ≤ 10) ps → fold (λ s p. bit_or s (one_phase p)) set ps < 1024
set_below set [] h all = h
set_below set (p ∷ ps) h all =
    set_below (bit_or set (one_phase p)) ps (or_lt 10 set (one_phase p) h (phase_below p (All-head (λ p. p ≤ 10) p ps all))) (All-tail (λ p. p ≤ 10) p ps all)

phase_most : (value : Data) (p : ℕ) → phase_from value ≡ Some p → p ≤ 10
phase_most value p h = option_and_then_some (number_from 1 10) (as_integer value) p h (λ z e k. (number_within 1 10 z p k).1)

pub phases_bound : (key : Text) (table : Members) → phases_at key table < 1024
unfolding phases_at
phases_bound key table = set_below 0 (filter_map phase_from (list_in key table)) (omega arith) (filtered_so (λ p. p ≤ 10) phase_from phase_most (list_in key table))
