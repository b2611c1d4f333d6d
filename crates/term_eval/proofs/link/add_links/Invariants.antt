use Rattle.std.proofs.Common.{◌≡◌, ◌++◌, map}
use Rattle.std.specs.List.{range_with_len}
use Rattle.term_eval.specs.Links.{link_from}
use Rattle.term_eval.proofs.link.add_links.Given as goal

-- the links of the nodes so far stand behind those that were there
abbrev pub invariant-loop-node : goal.invariant-loop-node
invariant-loop-node l = l.links.items ≡ l.fn.links.items ++ map (link_from l.steps) (range_with_len 0 l.node)
