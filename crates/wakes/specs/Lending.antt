-- What is lent of a set of marks.
use Rattle.std.specs.Prelude.{ℕ, List, length}
use Rattle.std.specs.List.{refill}
use Rattle.std.specs.Borrow.{Lends, MutBor, Fml, Array, u64}
use Rattle.wakes.specs.contracts.marked.Marked.{the_row}

-- the set ends with the words that the reference shows last
abbrev pub LendsWords : MutBor (List ℕ) → MutBor (List ℕ) → Fml
LendsWords s r = Lends the_row (Array u64 0) s r (refill (length s.now) s.now)
