-- What the program knows of the keys, and when that is what the definitions say of the strokes so far.
use Rattle.std.specs.Prelude.{◌≡◌, ℕ, Bool, false, List, slice_index_or}
use Rattle.ecam_spec.specs.declared.kinds.Key.{Key}
use Rattle.ecam_spec.specs.History.{Stroke}
use Rattle.ecam_spec.specs.Keys as spec
pub use Rattle.ecam_spec.specs.Keys.{IsKey}
use Rattle.ecam_kinds.specs.declared.keys.Keys.{Keys}

-- the key counts as pressed, and as held
abbrev pub is_pressed : Keys → Key → Bool
is_pressed keys key = slice_index_or keys.pressed (spec.key_number key) false

abbrev pub is_held : Keys → Key → Bool
is_held keys key = slice_index_or keys.held (spec.key_number key) false

-- in moment k, which hasn't ended, each key is pressed and held by the strokes so far
pub record KeysStand (strokes : ℕ → List Stroke) (k : ℕ) (keys : Keys) : Type 0 where
  pub pressed : (key : Key) → IsKey key → is_pressed keys key ≡ spec.pressed strokes key k
  pub held : (key : Key) → IsKey key → is_held keys key ≡ spec.held strokes key k
