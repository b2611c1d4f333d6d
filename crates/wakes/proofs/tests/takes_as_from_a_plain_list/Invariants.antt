use Rattle.std.proofs.Common.{◌≡◌, length}
use Rattle.wakes.proofs.tests.takes_as_from_a_plain_list.Given as goal

abbrev pub invariant-loop-step : goal.invariant-loop-step
invariant-loop-step g l = length l.wakes ≡ 150

abbrev pub invariant-loop-turn : goal.invariant-loop-turn
invariant-loop-turn g l = length l.wakes ≡ 150

abbrev pub invariant-loop : goal.invariant-loop
invariant-loop g l = length l.wakes ≡ 150
