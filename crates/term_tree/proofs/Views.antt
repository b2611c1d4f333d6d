-- The tree of each kind of node, from those of its children.
use Rattle.std.proofs.Common.{◌≡◌, ℕ, Bool, List, sym, ◌∙◌, ap, Box, Vec, Global}
use Rattle.std.specs.Prelude.{ℤ}
use Rattle.ecam_spec.specs.declared.kinds.Key.{Key}
use Rattle.ecam_spec.specs.declared.kinds.Op.{Op}
use Rattle.ecam_spec.specs.Book.{Tree, Trees, constant, discrete, valid, compared, in_phase, alert, press, computer, negation, all, any, at_least, confirmed, held, risen, latched}
use Rattle.ecam_kinds.specs.declared.phase.PhaseSet.{PhaseSet}
use Rattle.term_tree.specs.declared.cond.Cond.{Cond}
use Rattle.term_tree.specs.declared.cond.Cond.TheOpen as layer
use Rattle.term_tree.specs.declared.cond.Cond.TheVariants.{Const, Disc, Valid, Cmp, InPhase, Alert, Press, Fwc, Not, All, Any, AtLeast, Conf, Hold, Rise, Latch, rolls-Const, rolls-Disc, rolls-Valid, rolls-Cmp, rolls-InPhase, rolls-Alert, rolls-Press, rolls-Fwc, rolls-Not, rolls-All, rolls-Any, rolls-AtLeast, rolls-Conf, rolls-Hold, rolls-Rise, rolls-Latch}
use Rattle.term_tree.specs.declared.cond.Cond.TheFolds.{fold-roll-Cond}
use Rattle.term_tree.specs.View.{tree_step, tree_of, trees_of}

pub tree_of-Const : (b : Bool) → tree_of (Const b) ≡ constant b
tree_of-Const b = ap tree_of (sym (rolls-Const b)) ∙ fold-roll-Cond Tree tree_step (layer.Const b)

pub tree_of-Disc : (p : ℕ) → tree_of (Disc p) ≡ discrete p
tree_of-Disc p = ap tree_of (sym (rolls-Disc p)) ∙ fold-roll-Cond Tree tree_step (layer.Disc p)

pub tree_of-Valid : (p : ℕ) → tree_of (Valid p) ≡ valid p
tree_of-Valid p = ap tree_of (sym (rolls-Valid p)) ∙ fold-roll-Cond Tree tree_step (layer.Valid p)

pub tree_of-Cmp : (p : ℕ) (op : Op) (x : ℤ) → tree_of (Cmp p op x) ≡ compared p op x
tree_of-Cmp p op x = ap tree_of (sym (rolls-Cmp p op x)) ∙ fold-roll-Cond Tree tree_step (layer.Cmp p op x)

pub tree_of-InPhase : (set : PhaseSet) → tree_of (InPhase set) ≡ in_phase set.0
tree_of-InPhase set = ap tree_of (sym (rolls-InPhase set)) ∙ fold-roll-Cond Tree tree_step (layer.InPhase set)

pub tree_of-Alert : (a : ℕ) → tree_of (Alert a) ≡ alert a
tree_of-Alert a = ap tree_of (sym (rolls-Alert a)) ∙ fold-roll-Cond Tree tree_step (layer.Alert a)

pub tree_of-Press : (key : Key) → tree_of (Press key) ≡ press key
tree_of-Press key = ap tree_of (sym (rolls-Press key)) ∙ fold-roll-Cond Tree tree_step (layer.Press key)

pub tree_of-Fwc : (n : ℕ) → tree_of (Fwc n) ≡ computer n
tree_of-Fwc n = ap tree_of (sym (rolls-Fwc n)) ∙ fold-roll-Cond Tree tree_step (layer.Fwc n)

pub tree_of-Not : (c : Box Cond Global) → tree_of (Not c) ≡ negation (tree_of c.value)
tree_of-Not c = ap tree_of (sym (rolls-Not c)) ∙ fold-roll-Cond Tree tree_step (layer.Not c)

pub tree_of-All : (cs : Vec Cond Global) → tree_of (All cs) ≡ all (trees_of cs.items)
tree_of-All cs = ap tree_of (sym (rolls-All cs)) ∙ fold-roll-Cond Tree tree_step (layer.All cs)

pub tree_of-Any : (cs : Vec Cond Global) → tree_of (Any cs) ≡ any (trees_of cs.items)
tree_of-Any cs = ap tree_of (sym (rolls-Any cs)) ∙ fold-roll-Cond Tree tree_step (layer.Any cs)

pub tree_of-AtLeast : (n : ℕ) (cs : Vec Cond Global) → tree_of (AtLeast n cs) ≡ at_least n (trees_of cs.items)
tree_of-AtLeast n cs = ap tree_of (sym (rolls-AtLeast n cs)) ∙ fold-roll-Cond Tree tree_step (layer.AtLeast n cs)

pub tree_of-Conf : (c : Box Cond Global) (n : ℕ) → tree_of (Conf c n) ≡ confirmed (tree_of c.value) n
tree_of-Conf c n = ap tree_of (sym (rolls-Conf c n)) ∙ fold-roll-Cond Tree tree_step (layer.Conf c n)

pub tree_of-Hold : (c : Box Cond Global) (n : ℕ) → tree_of (Hold c n) ≡ held (tree_of c.value) n
tree_of-Hold c n = ap tree_of (sym (rolls-Hold c n)) ∙ fold-roll-Cond Tree tree_step (layer.Hold c n)

pub tree_of-Rise : (c : Box Cond Global) → tree_of (Rise c) ≡ risen (tree_of c.value)
tree_of-Rise c = ap tree_of (sym (rolls-Rise c)) ∙ fold-roll-Cond Tree tree_step (layer.Rise c)

pub tree_of-Latch : (s : Box Cond Global) (r : Box Cond Global) → tree_of (Latch s r) ≡ latched (tree_of s.value) (tree_of r.value)
tree_of-Latch s r = ap tree_of (sym (rolls-Latch s r)) ∙ fold-roll-Cond Tree tree_step (layer.Latch s r)
