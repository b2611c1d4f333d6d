-- What the conditions of the program mean: trees of plain data.
use Rattle.std.specs.Prelude.{List, map}
use Rattle.ecam_spec.specs.Book.{Tree, Trees, constant, discrete, valid, compared, in_phase, alert, press, computer, negation, all, any, at_least, confirmed, held, risen, latched}
use Rattle.ecam_spec.specs.Book as book
use Rattle.ecam_spec.specs.TermSize.{trees}
use Rattle.term_tree.specs.declared.cond.Cond.{Cond}
use Rattle.term_tree.specs.declared.cond.Cond.TheOpen.{Cond-F, Const, Disc, Valid, Cmp, InPhase, Alert, Press, Fwc, Not, All, Any, AtLeast, Conf, Hold, Rise, Latch}
use Rattle.term_tree.specs.declared.cond.Cond.TheFolds.{fold-Cond}
use Rattle.term_tree.specs.declared.named_term.NamedTerm.{NamedTerm}

-- one node, whose children are trees already
abbrev pub tree_step : Cond-F Tree → Tree
tree_step (Const b) = constant b
tree_step (Disc p) = discrete p
tree_step (Valid p) = valid p
tree_step (Cmp p op x) = compared p op x
tree_step (InPhase set) = in_phase set.0
tree_step (Alert a) = alert a
tree_step (Press key) = press key
tree_step (Fwc n) = computer n
tree_step (Not c) = negation c.value
tree_step (All cs) = all (trees cs.items)
tree_step (Any cs) = any (trees cs.items)
tree_step (AtLeast n cs) = at_least n (trees cs.items)
tree_step (Conf c n) = confirmed c.value n
tree_step (Hold c n) = held c.value n
tree_step (Rise c) = risen c.value
tree_step (Latch s r) = latched s.value r.value

-- the tree of a condition
abbrev pub tree_of : Cond → Tree
tree_of = fold-Cond Tree tree_step

-- the trees of some conditions
abbrev pub trees_of : List Cond → Trees
trees_of cs = trees (map tree_of cs)

-- a condition and its name
abbrev pub named_term : NamedTerm → book.NamedTerm
named_term n = record { name = n.name.bytes; tree = tree_of n.cond }

abbrev pub named_terms : List NamedTerm → List book.NamedTerm
named_terms = map named_term
