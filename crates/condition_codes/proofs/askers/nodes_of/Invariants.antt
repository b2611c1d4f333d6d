use Rattle.std.proofs.Common.{◌≡◌, ◌+◌, ◌<◌, ◌≤◌, ◌^◌, length, slice_index}
use Rattle.ecam_spec.specs.declared.limits.TheConstants.{TERM_NODES}
use Rattle.condition_codes.specs.IsCodes.{node_starts}
use Rattle.condition_codes.proofs.Numbering.{AreNumbered}
use Rattle.condition_codes.proofs.askers.nodes_of.Given as goal

abbrev pub invariant-loop-term : goal.invariant-loop-term
invariant-loop-term l = record {
  many : length l.nodes.items ≡ slice_index (node_starts l.starts) l.term;
  numbered : AreNumbered (node_starts l.starts) l.steps l.links l.nodes.items;
}

abbrev pub invariant-loop-node : goal.invariant-loop-node
invariant-loop-node l = record {
  many : length l.nodes.items ≡ slice_index (node_starts l.starts) l.term + l.node;
  numbered : AreNumbered (node_starts l.starts) l.steps l.links l.nodes.items;
  from : l.first ≡ slice_index (node_starts l.starts) l.term;
  end : l.first + l.size ≡ slice_index (node_starts l.starts) (l.term + 1);
  few : l.first + l.size < 2 ^ 32;
  small : l.size ≤ TERM_NODES;
  inside : l.first + l.size ≤ length l.steps;
}
