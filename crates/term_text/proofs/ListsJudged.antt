-- The conditions of a list, taken from the last to the first.
use Rattle.std.proofs.Common.{◌≡◌, suc, ◌+◌, ◌≤◌, min, max, List, [], ◌∷◌, ◌++◌, length, length-append, Option, None, refl, sym, ap, ◌∙◌, subst, arith}
use Rattle.std.proofs.lemmas.List.{reverse-append}
use Rattle.std.specs.Prelude.{reverse, pos}
use Rattle.ecam_spec.specs.declared.terms.Span.{Span}
use Rattle.ecam_spec.specs.Book.{Text, Tree, Trees, constant, discrete, valid, compared, in_phase, alert, press, computer, negation, all, any, at_least, confirmed, held, risen, latched, more}
use Rattle.ecam_spec.specs.Grammar.{Form, Forms, all_of, any_of, at_least_of, no_more, and_then, how_many}
use Rattle.ecam_spec.specs.TermSize.{nodes, nodes_of, depth, depth_of}
use Rattle.ecam_spec.specs.TermText.{TermNames, Flaw, earliest, flaws, flaws_of_all, tree_of_form, trees_of_forms, number_flaw, amount}
use Rattle.term_tree.specs.declared.cond.Cond.{Cond}
use Rattle.term_tree.specs.View.{tree_of, trees_of}
use Rattle.term_text.specs.declared.part.Part.{Part}
use Rattle.term_text.specs.declared.members.Members.{Members}
use Rattle.term_text.specs.Flaws.{flaw_in, earlier_of}
use Rattle.term_text.specs.Parts.{Judges, JudgesForm, JudgesForms, Measures, most}
use Rattle.term_text.proofs.Flawed.{earliest-append}
use Rattle.term_text.proofs.Judged.{none_both}

module _ (names : TermNames) (text : Text) where
  pub nothing_judged : (m : Members) → flaw_in m.flaw ≡ None → m.depth ≡ 0 → m.size ≡ 0 → m.conds.items ≡ [] → JudgesForms names text m no_more
  unfolding flaws_of_all trees_of_forms nodes_of depth_of
  nothing_judged m clean flat small empty = record {
    wrong_is = clean;
    depth_is = flat;
    size_is = small;
    count_is = ap length empty;
    trees_is = λ none shallow few. ap (λ (cs : List Cond). trees_of (reverse cs)) empty;
  }

  pub one_more_judged : (old new : Members) (p : Part) (f : Form) (fs : Forms) → JudgesForm names text p f → JudgesForms names text old fs
      → flaw_in new.flaw ≡ earlier_of (flaw_in p.flaw) (flaw_in old.flaw) → new.depth ≡ max old.depth p.depth → new.size ≡ min (old.size + p.size) most → new.conds.items ≡ old.conds.items ++ p.cond ∷ []
      → JudgesForms names text new (and_then f fs)
  unfolding flaws_of_all trees_of_forms nodes_of depth_of
  one_more_judged old new p f fs h k wrong deep large conds =
      let t = tree_of_form names text f in
      let ts = trees_of_forms names text fs in
      let one = earliest (flaws names text f) in
      let others = earliest (flaws_of_all names text fs) in
      let joined : earliest (flaws names text f ++ flaws_of_all names text fs) ≡ earlier_of one others = earliest-append (flaws names text f) (flaws_of_all names text fs) in
      let deep_one : p.depth ≡ min (depth t) most = h.tree_is.depth_is in
      let deep_others : old.depth ≡ min (depth_of ts) most = k.depth_is in
      let large_one : p.size ≡ min (nodes t) most = h.tree_is.size_is in
      let large_others : old.size ≡ min (nodes_of ts) most = k.size_is in
      let counted : length old.conds.items ≡ how_many fs = k.count_is in
      let longer : length new.conds.items ≡ length old.conds.items + 1 = ap length conds ∙ length-append old.conds.items (p.cond ∷ []) in
      record {
        wrong_is = wrong ∙ ap (λ (w : Option Flaw). earlier_of w (flaw_in old.flaw)) h.wrong_is ∙ ap (earlier_of one) k.wrong_is ∙ sym joined;
        depth_is = omega arith;
        size_is = omega arith;
        count_is = omega arith;
        trees_is = λ none shallow few.
            let clean = none_both one others (sym joined ∙ none) in
            let low_one : depth t ≤ 16 = omega arith in
            let low_others : depth_of ts ≤ 16 = omega arith in
            let few_one : nodes t ≤ 64 = omega arith in
            let few_others : nodes_of ts ≤ 64 = omega arith in
            ap (λ (cs : List Cond). trees_of (reverse cs)) conds
            ∙ ap trees_of (reverse-append old.conds.items (p.cond ∷ []))
            ∙ ap (λ (x : Tree). more x (trees_of (reverse old.conds.items))) (h.tree_is.tree_is clean.0 low_one few_one)
            ∙ ap (more t) (k.trees_is clean.1 low_others few_others);
      }

-- each condition has a node
node_at_least : (t : Tree) → 1 ≤ nodes t
unfolding nodes
node_at_least (constant b) = omega arith
node_at_least (discrete p) = omega arith
node_at_least (valid p) = omega arith
node_at_least (compared p op x) = omega arith
node_at_least (in_phase set) = omega arith
node_at_least (alert a) = omega arith
node_at_least (press key) = omega arith
node_at_least (computer n) = omega arith
node_at_least (negation c) = omega arith
node_at_least (all cs) = omega arith
node_at_least (any cs) = omega arith
node_at_least (at_least n cs) = omega arith
node_at_least (confirmed c n) = omega arith
node_at_least (held c n) = omega arith
node_at_least (risen c) = omega arith
node_at_least (latched s r) = omega arith

module _ (names : TermNames) (text : Text) where
  many_nodes : (fs : Forms) → how_many fs ≤ nodes_of (trees_of_forms names text fs)
  unfolding trees_of_forms nodes_of
  many_nodes no_more = omega arith
  many_nodes (and_then f fs) =
      let one : 1 ≤ nodes (tree_of_form names text f) = node_at_least (tree_of_form names text f) in
      let others : how_many fs ≤ nodes_of (trees_of_forms names text fs) = many_nodes fs in
      omega arith

  -- a node over the conditions of a list
  pub list_over : (m : Members) (fs : Forms) (p : Part) (kept wrong : Option Flaw) (node : Cond) (t : Tree) → kept ≡ wrong
      → ((tree : Tree) → Measures kept (min (m.depth + 1) most) (min (m.size + 1) most) node tree → Judges p kept tree)
      → (wrong ≡ None → earliest (flaws_of_all names text fs) ≡ None) → depth t ≡ depth_of (trees_of_forms names text fs) + 1 → nodes t ≡ nodes_of (trees_of_forms names text fs) + 1
      → (wrong ≡ None → how_many fs ≤ 64 → trees_of (reverse m.conds.items) ≡ trees_of_forms names text fs → tree_of node ≡ t)
      → JudgesForms names text m fs → Judges p wrong t
  list_over m fs p kept wrong node t e told clean deeper larger tree h =
      let ts = trees_of_forms names text fs in
      let deep : m.depth ≡ min (depth_of ts) most = h.depth_is in
      let large : m.size ≡ min (nodes_of ts) most = h.size_is in
      let many : how_many fs ≤ nodes_of ts = many_nodes fs in
      let measures : Measures wrong (min (m.depth + 1) most) (min (m.size + 1) most) node t =
      record {
        depth_is = omega arith;
        size_is = omega arith;
        tree_is = λ none shallow small.
            let few : how_many fs ≤ 64 = omega arith in
            tree none few (h.trees_is (clean none) (omega arith) (omega arith));
      } in
      subst (λ (w : Option Flaw). Judges p w t) e (told t (subst (λ (w : Option Flaw). Measures w (min (m.depth + 1) most) (min (m.size + 1) most) node t) (sym e) measures))

  pub all_over : (m : Members) (f : Form) (fs : Forms) (p : Part) (kept : Option Flaw) (node : Cond) → kept ≡ flaw_in m.flaw
      → ((tree : Tree) → Measures kept (min (m.depth + 1) most) (min (m.size + 1) most) node tree → Judges p kept tree)
      → ((ts : Trees) → trees_of (reverse m.conds.items) ≡ ts → tree_of node ≡ all ts)
      → JudgesForms names text m (and_then f fs) → JudgesForm names text p (all_of f fs)
  unfolding flaws flaws_of_all tree_of_form trees_of_forms depth nodes
  all_over m f fs p kept node e told tree h =
      list_over m (and_then f fs) p kept _ node _ (e ∙ h.wrong_is) told (λ none. none) refl refl (λ none few same. tree _ same) h

  pub any_over : (m : Members) (f : Form) (fs : Forms) (p : Part) (kept : Option Flaw) (node : Cond) → kept ≡ flaw_in m.flaw
      → ((tree : Tree) → Measures kept (min (m.depth + 1) most) (min (m.size + 1) most) node tree → Judges p kept tree)
      → ((ts : Trees) → trees_of (reverse m.conds.items) ≡ ts → tree_of node ≡ any ts)
      → JudgesForms names text m (and_then f fs) → JudgesForm names text p (any_of f fs)
  unfolding flaws flaws_of_all tree_of_form trees_of_forms depth nodes
  any_over m f fs p kept node e told tree h =
      list_over m (and_then f fs) p kept _ node _ (e ∙ h.wrong_is) told (λ none. none) refl refl (λ none few same. tree _ same) h

  pub at_least_over : (m : Members) (n : Span) (f : Form) (fs : Forms) (p : Part) (kept : Option Flaw) (node : Cond)
      → kept ≡ earlier_of (flaw_in m.flaw) (earliest (number_flaw names text (pos 1) (pos (suc (how_many fs))) n))
      → ((tree : Tree) → Measures kept (min (m.depth + 1) most) (min (m.size + 1) most) node tree → Judges p kept tree)
      → (earliest (number_flaw names text (pos 1) (pos (suc (how_many fs))) n) ≡ None → suc (how_many fs) ≤ 64 → (ts : Trees) → trees_of (reverse m.conds.items) ≡ ts → tree_of node ≡ at_least (amount names text n) ts)
      → JudgesForms names text m (and_then f fs) → JudgesForm names text p (at_least_of n f fs)
  unfolding flaws flaws_of_all tree_of_form trees_of_forms depth nodes
  at_least_over m n f fs p kept node e told tree h =
      let members = flaws names text f ++ flaws_of_all names text fs in
      let own = number_flaw names text (pos 1) (pos (suc (how_many fs))) n in
      let joined : earliest (members ++ own) ≡ earlier_of (earliest members) (earliest own) = earliest-append members own in
      let wrong : kept ≡ earliest (members ++ own) = e ∙ ap (λ (w : Option Flaw). earlier_of w (earliest own)) h.wrong_is ∙ sym joined in
      list_over m (and_then f fs) p kept (earliest (members ++ own)) node _ wrong told
      (λ none. (none_both (earliest members) (earliest own) (sym joined ∙ none)).0)
      refl refl
      (λ none few same. tree (none_both (earliest members) (earliest own) (sym joined ∙ none)).1 few _ same)
      h
