-- What the views of a history speak of: its Ticks, numbered from 0 over all eras, and what each of them tells.
use Rattle.std.specs.Prelude.{ℕ, zero, suc, ◌+◌, ◌-◌, Bool, not, ◌&&◌, List, [], ◌++◌, length, if◌then◌else◌}
use Rattle.ecam_spec.specs.declared.kinds.Event.{Event}
use Rattle.ecam_spec.specs.Book.{Text}
use Rattle.ecam_spec.specs.Past.{Signal}
use Rattle.ecam_spec.specs.History.{none_up, flags_after, comes_up, Era, era}
use Rattle.ecam_spec.specs.Replay.{tick_count, through}

-- a computer is up after a history
abbrev pub is_up : List Event → Bool
is_up h = not (none_up (flags_after h))

-- an event after a history begins an era: a computer comes up while both were down
abbrev pub begins_anew : List Event → Event → Bool
begins_anew h e = comes_up e && none_up (flags_after h)

-- the number of the last whole moment of an era
abbrev pub last_moment : Era → ℕ
last_moment e = length e.moments - 1

-- Tick t is live: a computer is up at it
unfoldable pub live : List Event → Signal
live h t = is_up (through (t + 1) h)

-- the era that Tick t is in
unfoldable pub era_at : List Event → ℕ → Era
era_at h t = era (through (t + 1) h)

-- which moment of that era it ends
unfoldable pub moment_at : List Event → ℕ → ℕ
moment_at h t = last_moment (era_at h t)

-- the texts of the first n numbers, in order
unfoldable pub texts : (ℕ → Text) → ℕ → Text
texts f zero = []
texts f (suc t) = texts f t ++ f t

-- the texts of all Ticks of a history, in order, where f tells that of a Tick by its number and by the history up to it
unfoldable pub each_tick : (ℕ → List Event → Text) → List Event → Text
each_tick f h = texts (λ t. f t (through (t + 1) h)) (tick_count h)

-- of how many of the first n numbers this is so
unfoldable pub count_below : Signal → ℕ → ℕ
count_below p zero = 0
count_below p (suc t) = count_below p t + (if p t then 1 else 0)

-- of how many Ticks of a history this is so, which is told by the history up to the Tick
unfoldable pub count_ticks : (List Event → Bool) → List Event → ℕ
count_ticks p h = count_below (λ t. p (through (t + 1) h)) (tick_count h)
