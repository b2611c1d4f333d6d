-- What callers see of a sink in memory.
use Rattle.std.specs.Prelude.{ℕ, List}

-- What was appended so far; the numbers of the calls that fail, and the most bytes that a write takes; the most
-- bytes that it holds; and how many calls and faults there were.
pub record SinkState : Type 0 where
  pub bytes : List ℕ
  pub failing : List ℕ
  pub piece : ℕ
  pub room : ℕ
  pub calls : ℕ
  pub faults : ℕ
