-- What a moment brings to a computer.
use Rattle.std.specs.Prelude.{◌≡◌, ℕ, ◌<◌, Bool, true, ℤ, List, Option, None, length, slice_index_or}
use Rattle.ecam_spec.specs.declared.kinds.Key.{Key}
use Rattle.ecam_spec.specs.Keys.{IsKey, pressed}
use Rattle.ecam_spec.specs.Book.{Book}
use Rattle.ecam_spec.specs.History.{Moment}
use Rattle.ecam_spec.specs.Situation.{words_in, strokes_in, value_in, computer_up, parameter_at}
use Rattle.ecam_spec.specs.Value.{BusWord}
use Rattle.ecam_spec.specs.Term.{World}
use Rattle.ecam_kinds.specs.KeyState.{is_pressed, KeysStand}
use Rattle.ecam_kinds.specs.declared.keys.Keys.{Keys}
use Rattle.param_table.specs.Asked.{is_asked_for}
use Rattle.param_table.specs.TableState.{ParamsStand, value_before}
use Rattle.param_table.specs.declared.table.Params.{Params}
use Rattle.term_eval.specs.declared.env.Env.{Env}
use Rattle.term_eval.specs.Shown.{value_of, Shows}

-- the environment lends what came in moment k: the keys, which computers are up, and in the first moment the values. Of the
-- phase and of the alerts nothing is said
pub record Lends (b : Book) (m : ℕ → Moment) (k : ℕ) (env : Env) : Type 0 where
  pub values : k ≡ 0 → (p : ℕ) → p < length env.values.now → value_of env p ≡ value_in b m p k
  pub pressed : (key : Key) → IsKey key → is_pressed env.keys.now key ≡ pressed (strokes_in b m) key k
  pub one_up : env.one_up ≡ computer_up b m 1 k
  pub two_up : env.two_up ≡ computer_up b m 2 k

-- where moment k is the first, the environment shows the world in it: in a later one no condition looks at the environment
abbrev pub ShowsFirst : Env → World → ℕ → Type 0
ShowsFirst env w k = k ≡ 0 → Shows env w k

-- this came in moment k: the words and the strokes so far, and which computers are up at its end
pub record Came (b : Book) (m : ℕ → Moment) (k : ℕ) (params : Params) (keys : Keys) (one two : Bool) : Type 0 where
  pub words : ParamsStand b (words_in b m) k params
  pub strokes : KeysStand (strokes_in b m) k keys
  pub one_up : one ≡ computer_up b m 1 k
  pub two_up : two ≡ computer_up b m 2 k

-- these are the values of the moment before k of the parameters that the book asks for; before moment 0 there is none
abbrev pub AreBefore : Book → (ℕ → List BusWord) → ℕ → List (Option ℤ) → Type 0
AreBefore b words k values =
    (p : ℕ) → p < length b.parameters → is_asked_for b p ≡ true → slice_index_or values p None ≡ value_before (parameter_at b p) words k
