-- The trees of a list of conditions, one by one, and the measures of those that are left.
use Rattle.std.proofs.Common.{◌≡◌, ℕ, suc, ◌+◌, ◌<◌, ◌≤◌, max, List, length, get_or, drop, sym, ◌∙◌, ap, add-one}
use Rattle.std.proofs.lemmas.List.{drop_all}
use Rattle.std.proofs.Math.Seq.{drop-cons}
use Rattle.ecam_spec.specs.Book.{none, more}
use Rattle.ecam_spec.specs.TermSize.{nodes, nodes_of, depth, depth_of, slots, slots_of}
use Rattle.term_tree.specs.declared.cond.Cond.{Cond}
use Rattle.term_tree.specs.View.{tree_of, trees_of}

-- no member is left
pub trees_of-end : (cs : List Cond) (i : ℕ) → length cs ≤ i → trees_of (drop i cs) ≡ none
trees_of-end cs i after = ap trees_of (drop_all i cs after)

-- the next member, and those behind it
pub trees_of-next : (cs : List Cond) (i : ℕ) (c : Cond) → i < length cs → c ≡ get_or cs i c → trees_of (drop i cs) ≡ more (tree_of c) (trees_of (drop (i + 1) cs))
trees_of-next cs i c within is =
    ap trees_of (drop-cons cs i c within) ∙ ap (λ x. more (tree_of x) (trees_of (drop (suc i) cs))) (sym is)
    ∙ ap (λ j. more (tree_of c) (trees_of (drop j cs))) (sym (add-one i))

pub nodes-end : (cs : List Cond) (i : ℕ) → length cs ≤ i → nodes_of (trees_of (drop i cs)) ≡ 0
unfolding nodes
nodes-end cs i after = ap nodes_of (trees_of-end cs i after)

pub nodes-next : (cs : List Cond) (i : ℕ) (c : Cond) → i < length cs → c ≡ get_or cs i c → nodes_of (trees_of (drop i cs)) ≡ nodes (tree_of c) + nodes_of (trees_of (drop (i + 1) cs))
unfolding nodes
nodes-next cs i c within is = ap nodes_of (trees_of-next cs i c within is)

pub depth-end : (cs : List Cond) (i : ℕ) → length cs ≤ i → depth_of (trees_of (drop i cs)) ≡ 0
unfolding depth
depth-end cs i after = ap depth_of (trees_of-end cs i after)

pub depth-next : (cs : List Cond) (i : ℕ) (c : Cond) → i < length cs → c ≡ get_or cs i c → depth_of (trees_of (drop i cs)) ≡ max (depth (tree_of c)) (depth_of (trees_of (drop (i + 1) cs)))
unfolding depth
depth-next cs i c within is = ap depth_of (trees_of-next cs i c within is)

pub slots-end : (cs : List Cond) (i : ℕ) → length cs ≤ i → slots_of (trees_of (drop i cs)) ≡ 0
unfolding slots
slots-end cs i after = ap slots_of (trees_of-end cs i after)

pub slots-next : (cs : List Cond) (i : ℕ) (c : Cond) → i < length cs → c ≡ get_or cs i c → slots_of (trees_of (drop i cs)) ≡ slots (tree_of c) + slots_of (trees_of (drop (i + 1) cs))
unfolding slots
slots-next cs i c within is = ap slots_of (trees_of-next cs i c within is)
