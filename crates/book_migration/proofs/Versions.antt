-- What stands in a document of version 2: all but the version is as it was.
use Rattle.std.proofs.Common.{◌≡◌, true, false, ◌∷◌, Option, Some, Ordering, Less, Equal, Greater, nat_cmp, is_eq, pos, refl, ap, sym, ◌∙◌, inl, inr}
use Rattle.std.specs.Prelude.{codes}
use Rattle.std.specs.Cmp.Lexicographic.{slice_cmp, bytes_decides}
use Rattle.std.specs.Ordering.{match_ordering}
use Rattle.std.proofs.lemmas.Bool.{cases_Bool}
use Rattle.std.proofs.lemmas.Map.Text.{is_eq-slice_cmp}
use Rattle.toml.specs.Data.{Data, Members, no_members, member, get_member, integer, same_key}
use Rattle.ecam_spec.specs.Book.{Text}
use Rattle.book_spec.specs.Fields.{keys}
use Rattle.book_migration.specs.Migrated.{in_version_2}

at_equal : (o : Ordering) (x y : Option Data) → is_eq o ≡ true → match_ordering o x y x ≡ y
at_equal Less x y h = absurd (cc)
at_equal Equal x y h = refl
at_equal Greater x y h = absurd (cc)

at_other : (o : Ordering) (x y : Option Data) → is_eq o ≡ false → match_ordering o x y x ≡ x
at_other Less x y h = refl
at_other Equal x y h = absurd (cc)
at_other Greater x y h = refl

version_key : (key : Text) → same_key (codes "version") key ≡ true → codes "version" ≡ key
version_key key h = (bytes_decides (codes "version") key).0 (sym (is_eq-slice_cmp (codes "version") key) ∙ h)

-- another key holds what it held
pub same_at : (top : Members) (key : Text) → same_key key (codes "version") ≡ false → get_member key (in_version_2 top) ≡ get_member key top
unfolding in_version_2
same_at no_members key other = refl
same_at (member l d ms) key other =
    elim (cases_Bool (same_key (codes "version") l)) [
      | inl here ↦
          let apart : is_eq (slice_cmp nat_cmp key l) ≡ false = ap (λ k. same_key key k) (sym (version_key l here)) ∙ other in
          rw here (at_other (slice_cmp nat_cmp key l) (get_member key ms) (Some (integer (pos 2))) apart ∙ sym (at_other (slice_cmp nat_cmp key l) (get_member key ms) (Some d) apart))
      | inr later ↦ rw (later, same_at ms key other) refl
    ]

-- the version is 2, where there was one
pub version_at : (top : Members) (value : Data) → get_member (codes "version") top ≡ Some value → get_member (codes "version") (in_version_2 top) ≡ Some (integer (pos 2))
unfolding in_version_2
version_at no_members value h = absurd (cc)
version_at (member l d ms) value h =
    let o = slice_cmp nat_cmp (codes "version") l in
    elim (cases_Bool (same_key (codes "version") l)) [
      | inl here ↦ rw here (at_equal o (get_member (codes "version") ms) (Some (integer (pos 2))) here)
      | inr later ↦
          let there = sym (at_other o (get_member (codes "version") ms) (Some d) later) ∙ h in
          rw later (at_other o (get_member (codes "version") (in_version_2 ms)) (Some d) later ∙ version_at ms value there)
    ]

-- it has the same keys
pub same_keys : (top : Members) → keys (in_version_2 top) ≡ keys top
unfolding in_version_2
same_keys no_members = refl
same_keys (member l d ms) =
    elim (cases_Bool (same_key (codes "version") l)) [
      | inl here ↦ rw here refl
      | inr later ↦ rw later (ap (λ ks. l ∷ ks) (same_keys ms))
    ]
