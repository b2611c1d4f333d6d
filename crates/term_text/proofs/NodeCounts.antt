-- Conditions have at least a node each.
use Rattle.std.proofs.Common.{◌≤◌, arith}
use Rattle.ecam_spec.specs.Book.{Tree, Trees, constant, discrete, valid, compared, in_phase, alert, press, computer, negation, all, any, at_least, confirmed, held, risen, latched, none, more}
use Rattle.ecam_spec.specs.KeepsLimits.{count_of}
use Rattle.ecam_spec.specs.TermSize.{nodes, nodes_of}

pub some_nodes : (c : Tree) → 1 ≤ nodes c
unfolding nodes
some_nodes (constant b) = omega arith
some_nodes (discrete p) = omega arith
some_nodes (valid p) = omega arith
some_nodes (compared p op x) = omega arith
some_nodes (in_phase set) = omega arith
some_nodes (alert a) = omega arith
some_nodes (press key) = omega arith
some_nodes (computer n) = omega arith
some_nodes (negation c) = omega arith
some_nodes (all cs) = omega arith
some_nodes (any cs) = omega arith
some_nodes (at_least n cs) = omega arith
some_nodes (confirmed c n) = omega arith
some_nodes (held c n) = omega arith
some_nodes (risen c) = omega arith
some_nodes (latched s r) = omega arith

pub counted_nodes : (cs : Trees) → count_of cs ≤ nodes_of cs
unfolding nodes
counted_nodes none = omega arith
counted_nodes (more c cs) = omega (arith, some_nodes c, counted_nodes cs)
