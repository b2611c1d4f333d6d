-- Tests on the keys of a table, as the definitions and as the code go through them.
use Rattle.std.proofs.Common.{◌≡◌, Bool, ◌||◌, List, [], ◌∷◌, refl, ap}
use Rattle.std.specs.List.{list_any}
use Rattle.ecam_spec.specs.Book.{Text}
use Rattle.book_spec.specs.Schema as schema
use Rattle.book_faults.specs.declared.keys.Key.{Key}
use Rattle.book_faults.specs.Keys.{key_of, keys_of, key_names}

pub any_keys : {S : Type 0} (test : schema.Key S → Bool) (ks : List (Key S)) → list_any test (keys_of ks) ≡ list_any (λ k. test (key_of k)) ks
any_keys test [] = refl
any_keys test (k ∷ ks) = ap (λ b. test (key_of k) || b) (any_keys test ks)

pub any_key_names : {S : Type 0} (test : Text → Bool) (ks : List (Key S)) → list_any test (key_names ks) ≡ list_any (λ k. test k.name.now) ks
any_key_names test [] = refl
any_key_names test (k ∷ ks) = ap (λ b. test k.name.now || b) (any_key_names test ks)
