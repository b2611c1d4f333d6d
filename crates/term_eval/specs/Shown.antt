-- What an environment shows of a world in one moment.
use Rattle.std.specs.Prelude.{◌≡◌, ℕ, ◌<◌, Bool, false, ℤ, Option, None, length, slice_index_or}
use Rattle.ecam_spec.specs.declared.kinds.Key.{Key}
use Rattle.ecam_spec.specs.Keys.{IsKey}
use Rattle.ecam_spec.specs.Term.{World}
use Rattle.ecam_kinds.specs.KeyState.{is_pressed}
use Rattle.term_eval.specs.declared.env.Env.{Env}

-- the value of a parameter, and whether an alert is active
abbrev pub value_of : Env → ℕ → Option ℤ
value_of env param = slice_index_or env.values.now param None

abbrev pub is_active : Env → ℕ → Bool
is_active env alert = slice_index_or env.active.now alert false

-- the environment lends what the world has in moment k
pub record Shows (env : Env) (w : World) (k : ℕ) : Type 0 where
  pub values : (p : ℕ) → p < length env.values.now → value_of env p ≡ w.values p k
  pub phase : env.phase.number ≡ w.phase k
  pub active : (a : ℕ) → a < length env.active.now → is_active env a ≡ w.active a k
  pub pressed : (key : Key) → IsKey key → is_pressed env.keys.now key ≡ w.pressed key k
  pub one_up : env.one_up ≡ w.up 1 k
  pub two_up : env.two_up ≡ w.up 2 k
