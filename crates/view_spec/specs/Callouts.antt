-- Radio-height callouts at a descent: a height is called in the moment in which the value comes down to it. The heights,
-- in feet, and the margin are this project's own.
use Rattle.std.specs.Prelude.{ℕ, ◌+◌, Bool, not, ◌&&◌, ℤ, pos, int_lt, int_le, List, [], ◌∷◌, ◌++◌, find, codes, decimal, Option, Some, None, if◌then◌else◌}
use Rattle.ecam_spec.specs.declared.kinds.Event.{Event}
use Rattle.ecam_spec.specs.Past.{Signal, since, previous}
use Rattle.ecam_spec.specs.Term.{is_so}
use Rattle.ecam_spec.specs.Book.{Text, Book}
use Rattle.ecam_spec.specs.History.{era}
use Rattle.ecam_spec.specs.Replay.{tick_count, moment_of}
use Rattle.ecam_spec.specs.Situation.{value_in}
use Rattle.ecam_spec.specs.Output.{line, end_line}
use Rattle.view_spec.specs.Ticks.{is_up, last_moment, each_tick}

-- the heights that are called, the least first
unfoldable pub heights : List ℕ
heights = 10 ∷ 20 ∷ 30 ∷ 40 ∷ 50 ∷ 100 ∷ 200 ∷ 300 ∷ 400 ∷ 500 ∷ 1000 ∷ 2500 ∷ []

-- by more than this the value has to be above a height before that is called
abbrev pub margin : ℕ
margin = 10

-- there is a value, and it is above this height
abbrev pub is_above : ℕ → Option ℤ → Bool
is_above h = is_so (int_lt (pos h))

-- there is a value, and it is at most this height
abbrev pub is_at_most : ℕ → Option ℤ → Bool
is_at_most h = is_so (λ v. int_le v (pos h))

-- the values of a parameter by the numbers of the moments; a moment without a value counts for nothing
module _ (values : ℕ → Option ℤ) where
  -- the value was above the height by more than the margin, and hasn't been at most the height since
  unfoldable pub armed : ℕ → Signal
  armed h = since (λ k. is_above (h + margin) (values k)) (λ k. not (is_at_most h (values k)))

  -- the value is at most the height, for the first time since it was above it by more than the margin
  unfoldable pub crossed : ℕ → Signal
  crossed h k = is_at_most h (values k) && previous (armed h) k

  -- the least of the heights that are crossed, if there is one
  unfoldable pub call : ℕ → Option ℕ
  call k = find (λ h. crossed h k) heights

-- the line of Tick number t at which this height is called, if any is
abbrev pub call_line : ℕ → Option ℕ → Text
call_line t None = []
call_line t (Some h) = line (64 ∷ decimal t ++ codes " CALL " ++ decimal h)

-- the callouts of a parameter, by its place in a book
module _ (b : Book) (param : ℕ) where
  -- the height that is called at the Tick that ends a history: by the values of its era, and none while no computer is up
  unfoldable pub called : List Event → Option ℕ
  called h = if is_up h then call (value_in b (moment_of (era h)) param) (last_moment (era h)) else None

  -- what Tick number t tells, which ends the history: the line of its call, if there is one
  abbrev pub tells : ℕ → List Event → Text
  tells t h = call_line t (called h)

  -- what is written of a history
  abbrev pub text : List Event → Text
  text = each_tick tells

-- what is written where the record ends
abbrev pub closing : List Event → Text
closing h = end_line (tick_count h)
