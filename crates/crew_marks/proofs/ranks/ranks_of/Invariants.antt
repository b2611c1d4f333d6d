use Rattle.std.proofs.Common.{◌≡◌, length}
use Rattle.crew_marks.proofs.Ranking.{ArePlaced}
use Rattle.crew_marks.proofs.ranks.ranks_of.Given as goal

abbrev pub invariant-loop-rank : goal.invariant-loop-rank
invariant-loop-rank l = record { many : length l.ranks.items ≡ length l.order; placed : ArePlaced l.order l.rank l.ranks.items }
