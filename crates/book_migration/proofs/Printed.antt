-- The table of a book as one of version 2, and what reading it back gives.
use Rattle.std.proofs.Common.{◌≡◌, pos, List, [], ◌∷◌, Some, None, String, Global, string_bytes, nat_cmp, Bool, cond, refl, ap, sym, ◌∙◌, inl, inr}
use Rattle.std.specs.Prelude.{codes, IsUtf8, if◌then◌else◌}
use Rattle.std.specs.Str.{is_utf8}
use Rattle.std.specs.Map.{lookup, set_value}
use Rattle.std.specs.BTreeMap.{is_at}
use Rattle.std.specs.Cmp.Lexicographic.{slice_cmp}
use Rattle.std.proofs.lemmas.Bool.{cases_Bool}
use Rattle.std.proofs.lemmas.Str.{is_utf8-from_IsUtf8, IsUtf8-from_is_utf8}
use Rattle.toml.specs.Data.{Members, member, integer}
use Rattle.toml.specs.Parse.{parse_document}
use Rattle.toml.specs.View.{view, members_view}
use Rattle.toml.specs.declared.value.Value.{Value}
use Rattle.toml.proofs.Views.{Entry}
use Rattle.ecam_spec.specs.Book.{Text}
use Rattle.book_spec.specs.BookBytes.{table_of_text}
use Rattle.book_migration.specs.Migrated.{in_version_2}

-- whether a key is `version`
abbrev pub is_version : String Global → Bool
is_version = is_at (λ k. slice_cmp nat_cmp (codes "version") (string_bytes k))

pub version_set : (es : List Entry) (value : Value) → view value ≡ integer (pos 2) → members_view (set_value is_version es value) ≡ in_version_2 (members_view es)
unfolding in_version_2
version_set [] value is = refl
version_set (e ∷ es) value is =
    elim (cases_Bool (is_version e.0)) [
      | inl here ↦ rw (here, is) refl
      | inr later ↦ rw (later, version_set es value is) refl
    ]

pub version_missing : (es : List Entry) → lookup is_version es ≡ None → members_view es ≡ in_version_2 (members_view es)
unfolding in_version_2
version_missing [] none = refl
version_missing (e ∷ es) none =
    elim (cases_Bool (is_version e.0)) [
      | inl here ↦ absurd (let some : Some e.1 ≡ None = sym (ap (λ b. cond b (Some e.1) (lookup is_version es)) here) ∙ none in cc)
      | inr later ↦ rw later (ap (λ ms. member (string_bytes e.0) (view e.1) ms) (version_missing es (sym (ap (λ b. cond b (Some e.1) (lookup is_version es)) later) ∙ none)))
    ]

pub parsed : (text : Text) → IsUtf8 text → table_of_text text ≡ parse_document text
parsed text is = rw (is_utf8-from_IsUtf8 text is) refl

-- a text that is a document
pub is_text : (bytes : Text) (table : Members) → table_of_text bytes ≡ Some table → IsUtf8 bytes × (parse_document bytes ≡ Some table)
is_text bytes table is =
    elim (cases_Bool (is_utf8 bytes)) [
      | inl so ↦ (let text = IsUtf8-from_is_utf8 bytes so in (text, sym (parsed bytes text) ∙ is))
      | inr other ↦ absurd (let none : None ≡ Some table = sym (ap (λ b. if b then parse_document bytes else None) other) ∙ is in cc)
    ]
