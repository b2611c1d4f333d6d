-- The items and the keys of what was read, as the lists that the code goes through.
use Rattle.std.proofs.Common.{◌≡◌, ℕ, Bool, ◌&&◌, ◌||◌, List, [], ◌∷◌, string_bytes, refl, ap}
use Rattle.std.specs.List.{list_any, list_all}
use Rattle.std.specs.Map.{keys_of}
use Rattle.std.specs.Borrow.{Bor}
use Rattle.toml.proofs.Views.{Entry}
use Rattle.toml.specs.declared.value.Value.{Value}
use Rattle.toml.specs.Data.{Data}
use Rattle.toml.specs.View.{view, items_view, members_view}
use Rattle.ecam_spec.specs.Bytes.{same_text}
use Rattle.book_spec.specs.Fields.{keys}
use Rattle.book_spec.specs.Rules.{values}
use Rattle.book_tables.specs.Reading.{texts_of, views}

-- the members of a list, as the definitions and as the code see them
pub views_items : (vs : List Value) → values (items_view vs) ≡ views vs
views_items [] = refl
views_items (v ∷ vs) = ap (λ ds. view v ∷ ds) (views_items vs)

-- a test on each key
pub all_keys : (test : List ℕ → Bool) (es : List Entry) → list_all test (keys (members_view es)) ≡ list_all (λ k. test (string_bytes k)) (keys_of es)
all_keys test [] = refl
all_keys test (e ∷ es) = ap (λ b. test (string_bytes e.0) && b) (all_keys test es)

-- a text among the texts that strings are
pub any_text : (text : List ℕ) (known : List (Bor (List ℕ))) → list_any (same_text text) (texts_of known) ≡ list_any (λ s. same_text text s.now) known
any_text text [] = refl
any_text text (s ∷ known) = ap (λ b. same_text text s.now || b) (any_text text known)

-- a test on each value
pub any_views : (test : Data → Bool) (vs : List Value) → list_any test (views vs) ≡ list_any (λ v. test (view v)) vs
any_views test [] = refl
any_views test (v ∷ vs) = ap (λ b. test (view v) || b) (any_views test vs)
