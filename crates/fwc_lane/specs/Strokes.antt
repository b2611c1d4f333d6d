-- Keys of which none is pressed.
use Rattle.std.specs.Prelude.{◌≡◌, false}
use Rattle.ecam_spec.specs.declared.kinds.Key.{Key}
use Rattle.ecam_kinds.specs.declared.keys.Keys.{Keys}
use Rattle.ecam_kinds.specs.KeyState.{IsKey, is_pressed}

-- no key counts as pressed
abbrev pub NonePressed : Keys → Type 0
NonePressed keys = (key : Key) → IsKey key → is_pressed keys key ≡ false
