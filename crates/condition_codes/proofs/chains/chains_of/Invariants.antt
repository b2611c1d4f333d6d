use Rattle.std.proofs.Common.{◌≡◌, ℕ, ◌<◌, ◌≤◌, map, length, slice_index}
use Rattle.watch_lists.specs.Naming.{operand_count}
use Rattle.condition_codes.specs.Chains.{wanted, AreChains}
use Rattle.condition_codes.proofs.chains.chains_of.Given as goal

abbrev pub invariant-loop-node : goal.invariant-loop-node
invariant-loop-node l = record {
  within : l.node ≤ length l.steps;
  operands : length l.firsts.items ≡ operand_count l.sizes;
  nodes : length l.nexts.items ≡ length l.steps;
  chains : AreChains (map (wanted l.sizes) l.steps) l.node l.firsts.items l.nexts.items;
  forward : (m : ℕ) → m < length l.nexts.items → m < slice_index l.nexts.items m;
}

abbrev pub decreases-loop-node : goal.decreases-loop-node
decreases-loop-node l = l.node
