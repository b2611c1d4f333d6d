-- What a cell holds after some moments, and what it tells of them.
use Rattle.std.specs.Prelude.{ℕ, zero, suc, ◌+◌, ◌-◌, ◌^◌, min, Bool, true, false, List, Option, Some, None, slice_index_or, if◌then◌else◌}
use Rattle.ecam_spec.specs.Past.{Signal, last, start_of}
use Rattle.term_eval.specs.declared.memory.Cell.{Cell}
use Rattle.term_eval.specs.declared.memory.Cell.TheVariants.{Off, On, At}

-- the number of a moment that never comes
abbrev pub never : ℕ
never = 2 ^ 64 - 1

abbrev pub cell_at : List Cell → ℕ → Cell
cell_at cells i = slice_index_or cells i Off

abbrev pub on_if : Bool → Cell
on_if true = On
on_if false = Off

abbrev pub is_on : Cell → Bool
is_on Off = false
is_on On = true
is_on (At j) = false

abbrev pub at_last : Option ℕ → Cell
at_last None = Off
at_last (Some j) = At j

-- after k moments: where p held in the last of them, the moment in which its unbroken stretch started
unfoldable pub stretch : Signal → ℕ → Cell
stretch p zero = Off
stretch p (suc k) = if p k then At (start_of p k) else Off

-- after k moments: on where p held in the last of them, else the last one in which it did
unfoldable pub lasted : Signal → ℕ → Cell
lasted p zero = Off
lasted p (suc k) = if p k then On else at_last (last p k)

-- the start of a stretch that goes on in moment k, and the last moment before k, as a cell tells them
abbrev pub start_by : Cell → ℕ → ℕ
start_by Off k = k
start_by On k = k
start_by (At j) k = j

abbrev pub last_by : Cell → ℕ → Option ℕ
last_by Off k = None
last_by On k = Some (k - 1)
last_by (At j) k = Some j

-- the first moment that comes more than n moments after the last one
abbrev pub end_of : Option ℕ → ℕ → ℕ
end_of None n = 0
end_of (Some j) n = min (j + n + 1) never
