use Rattle.std.proofs.Common.{◌≡◌, ◌+◌, ◌<◌, ℕ, true, length}
use Rattle.term_eval.specs.Slots.{wakes_of}
use Rattle.term_eval.specs.Climb.{climb, link_at}
use Rattle.term_eval.specs.NodeState.{state_at}
use Rattle.term_eval.specs.Woken.{differ}
use Rattle.term_eval.proofs.climb.climb.Given as goal

-- the node turns, and has this link
abbrev pub invariant-up : goal.invariant-up
invariant-up l = record {
  within : l.node < length l.links;
  link : l.link ≡ link_at l.links l.node;
  turns : differ (state_at l.states (l.first + l.node)).told l.holds ≡ true;
  nodes : length l.states ≡ length l.initial.states;
  kept : l.slots ≡ l.initial.slots;
  rest : (fuel : ℕ) × (l.node < fuel) × (climb fuel l.links l.first l.node l.holds l.states (wakes_of l.slots)
      ≡ climb (l.fn.node + 1) l.links l.first l.fn.node l.fn.holds l.initial.states (wakes_of l.initial.slots));
}

abbrev pub decreases-up : goal.decreases-up
decreases-up l = l.node
