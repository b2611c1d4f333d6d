use Rattle.std.proofs.Common.{◌≡◌, ℕ, List, Option, length}
use Rattle.condition_codes.specs.Chains.{AreChains, AreAskers}
use Rattle.condition_codes.proofs.chains.list_chains.Given as goal

abbrev pub invariant-loop-first : goal.invariant-loop-first
invariant-loop-first l = (ws : List (Option ℕ)) → length ws ≡ length l.nexts → AreChains ws 0 l.firsts l.nexts → AreAskers ws l.nodes l.first-index l.starts.items l.askers.items
