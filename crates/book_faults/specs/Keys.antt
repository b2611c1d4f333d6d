-- The keys of the code, as those of the definitions.
use Rattle.std.specs.Prelude.{List, map}
use Rattle.ecam_spec.specs.Book.{Text}
use Rattle.book_spec.specs.Schema as schema
use Rattle.book_faults.specs.declared.keys.Key.{Key}

abbrev pub key_of : {S : Type 0} → Key S → schema.Key S
key_of k = record { name = k.name.now; needed = k.needed; holds = k.holds }

abbrev pub keys_of : {S : Type 0} → List (Key S) → List (schema.Key S)
keys_of keys = map key_of keys

-- the names of keys
abbrev pub key_names : {S : Type 0} → List (Key S) → List Text
key_names keys = map (λ k. k.name) (keys_of keys)
