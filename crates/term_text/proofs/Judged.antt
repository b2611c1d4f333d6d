-- A part that is made of others is judged by them.
use Rattle.std.proofs.Common.{◌≡◌, ℕ, ◌+◌, ◌≤◌, min, max, Option, Some, None, refl, sym, subst, arith}
use Rattle.ecam_spec.specs.Book.{Tree, in_phase, negation, risen, confirmed, held, latched}
use Rattle.ecam_spec.specs.TermSize.{nodes, depth}
use Rattle.ecam_spec.specs.TermText.{Flaw}
use Rattle.term_tree.specs.declared.cond.Cond.{Cond}
use Rattle.term_tree.specs.View.{tree_of}
use Rattle.term_text.specs.declared.part.Part.{Part}
use Rattle.term_text.specs.Flaws.{earlier_of}
use Rattle.term_text.specs.Parts.{Judges, Measures, most}

pub none_both : (a b : Option Flaw) → earlier_of a b ≡ None → (a ≡ None) × (b ≡ None)
none_both None b e = (refl, e)
none_both (Some a) b e = absurd cc

-- ---- one node above another

above_one : (wrong all : Option Flaw) (d s : ℕ) (c node : Cond) (t t2 : Tree) → (all ≡ None → wrong ≡ None) → depth t2 ≡ depth t + 1 → nodes t2 ≡ nodes t + 1 → (all ≡ None → tree_of c ≡ t → tree_of node ≡ t2)
    → Measures wrong d s c t → Measures all (min (d + 1) most) (min (s + 1) most) node t2
above_one wrong all d s c node t t2 clean deeper larger tree m =
    let deep : d ≡ min (depth t) most = m.depth_is in
    let large : s ≡ min (nodes t) most = m.size_is in
    record {
      depth_is = omega arith;
      size_is = omega arith;
      tree_is = λ none shallow small. tree none (m.tree_is (clean none) (omega arith) (omega arith));
    }

-- what a part tells of what is wrong with it, by the flaws that are meant
judge : (p : Part) (kept wrong : Option Flaw) (d s : ℕ) (c : Cond) (t : Tree) → kept ≡ wrong → ((tree : Tree) → Measures kept d s c tree → Judges p kept tree) → Measures wrong d s c t → Judges p wrong t
judge p kept wrong d s c t e told m = subst (λ (w : Option Flaw). Judges p w t) e (told t (subst (λ (w : Option Flaw). Measures w d s c t) (sym e) m))

pub node_over : (self p : Part) (kept wrong all : Option Flaw) (node : Cond) (t t2 : Tree) → kept ≡ all → ((tree : Tree) → Measures kept (min (self.depth + 1) most) (min (self.size + 1) most) node tree → Judges p kept tree)
    → (all ≡ None → wrong ≡ None) → depth t2 ≡ depth t + 1 → nodes t2 ≡ nodes t + 1 → (all ≡ None → tree_of self.cond ≡ t → tree_of node ≡ t2) → Judges self wrong t → Judges p all t2
node_over self p kept wrong all node t t2 e told clean deeper larger tree h =
    judge p kept all (min (self.depth + 1) most) (min (self.size + 1) most) node t2 e told (above_one wrong all self.depth self.size self.cond node t t2 clean deeper larger tree h.tree_is)

module _ (t : Tree) where
  pub negation-depth : depth (negation t) ≡ depth t + 1
  unfolding depth
  negation-depth = refl

  pub negation-nodes : nodes (negation t) ≡ nodes t + 1
  unfolding nodes
  negation-nodes = refl

  pub risen-depth : depth (risen t) ≡ depth t + 1
  unfolding depth
  risen-depth = refl

  pub risen-nodes : nodes (risen t) ≡ nodes t + 1
  unfolding nodes
  risen-nodes = refl

module _ (t : Tree) (n : ℕ) where
  pub confirmed-depth : depth (confirmed t n) ≡ depth t + 1
  unfolding depth
  confirmed-depth = refl

  pub confirmed-nodes : nodes (confirmed t n) ≡ nodes t + 1
  unfolding nodes
  confirmed-nodes = refl

  pub held-depth : depth (held t n) ≡ depth t + 1
  unfolding depth
  held-depth = refl

  pub held-nodes : nodes (held t n) ≡ nodes t + 1
  unfolding nodes
  held-nodes = refl

-- ---- a latch

latch_measures : (wrong other : Option Flaw) (d1 s1 d2 s2 deep large : ℕ) (c1 c2 node : Cond) (t1 t2 : Tree) → deep ≡ max d1 d2 → large ≡ min (s1 + s2) most
    → (tree_of c1 ≡ t1 → tree_of c2 ≡ t2 → tree_of node ≡ latched t1 t2) → Measures wrong d1 s1 c1 t1 → Measures other d2 s2 c2 t2
    → Measures (earlier_of wrong other) (min (deep + 1) most) (min (large + 1) most) node (latched t1 t2)
unfolding depth nodes
latch_measures wrong other d1 s1 d2 s2 deep large c1 c2 node t1 t2 deepest sum tree m n =
    let deep1 : d1 ≡ min (depth t1) most = m.depth_is in
    let deep2 : d2 ≡ min (depth t2) most = n.depth_is in
    let large1 : s1 ≡ min (nodes t1) most = m.size_is in
    let large2 : s2 ≡ min (nodes t2) most = n.size_is in
    record {
      depth_is = omega arith;
      size_is = omega arith;
      tree_is = λ none shallow small.
          let clean = none_both wrong other none in
          let low1 : depth t1 ≤ 16 = omega arith in
          let low2 : depth t2 ≤ 16 = omega arith in
          let few1 : nodes t1 ≤ 64 = omega arith in
          let few2 : nodes t2 ≤ 64 = omega arith in
          tree (m.tree_is clean.0 low1 few1) (n.tree_is clean.1 low2 few2);
    }

pub latch_over : (self reset p : Part) (kept wrong other : Option Flaw) (deep large : ℕ) (node : Cond) (t1 t2 : Tree) → kept ≡ earlier_of wrong other → deep ≡ max self.depth reset.depth → large ≡ min (self.size + reset.size) most
    → ((tree : Tree) → Measures kept (min (deep + 1) most) (min (large + 1) most) node tree → Judges p kept tree)
    → (tree_of self.cond ≡ t1 → tree_of reset.cond ≡ t2 → tree_of node ≡ latched t1 t2) → Judges self wrong t1 → Judges reset other t2 → Judges p (earlier_of wrong other) (latched t1 t2)
latch_over self reset p kept wrong other deep large node t1 t2 e deepest sum told tree h k =
    judge p kept (earlier_of wrong other) (min (deep + 1) most) (min (large + 1) most) node (latched t1 t2) e told
    (latch_measures wrong other self.depth self.size reset.depth reset.size deep large self.cond reset.cond node t1 t2 deepest sum tree h.tree_is k.tree_is)

-- ---- one atom in place of another

atom_for : (wrong all : Option Flaw) (d s : ℕ) (c c2 : Cond) (t t2 : Tree) → (all ≡ None → wrong ≡ None) → depth t2 ≡ depth t → nodes t2 ≡ nodes t → (all ≡ None → tree_of c ≡ t → tree_of c2 ≡ t2) → Measures wrong d s c t → Measures all d s c2 t2
atom_for wrong all d s c c2 t t2 clean same alike tree m =
    let deep : d ≡ min (depth t) most = m.depth_is in
    let large : s ≡ min (nodes t) most = m.size_is in
    record {
      depth_is = omega arith;
      size_is = omega arith;
      tree_is = λ none shallow small. tree none (m.tree_is (clean none) (omega arith) (omega arith));
    }

pub atom_over : (self p : Part) (kept wrong all : Option Flaw) (c : Cond) (t t2 : Tree) → kept ≡ all → ((tree : Tree) → Measures kept self.depth self.size c tree → Judges p kept tree)
    → (all ≡ None → wrong ≡ None) → depth t2 ≡ depth t → nodes t2 ≡ nodes t → (all ≡ None → tree_of self.cond ≡ t → tree_of c ≡ t2) → Judges self wrong t → Judges p all t2
atom_over self p kept wrong all c t t2 e told clean same alike tree h =
    judge p kept all self.depth self.size c t2 e told (atom_for wrong all self.depth self.size self.cond c t t2 clean same alike tree h.tree_is)

pub phases-depth : (a b : ℕ) → depth (in_phase a) ≡ depth (in_phase b)
unfolding depth
phases-depth a b = refl

pub phases-nodes : (a b : ℕ) → nodes (in_phase a) ≡ nodes (in_phase b)
unfolding nodes
phases-nodes a b = refl

-- ---- an atom

pub atom_judged : (p : Part) (kept wrong : Option Flaw) (c : Cond) (t : Tree) → kept ≡ wrong → ((tree : Tree) → depth tree ≡ 1 → nodes tree ≡ 1 → (kept ≡ None → tree_of c ≡ tree) → Judges p kept tree)
    → depth t ≡ 1 → nodes t ≡ 1 → (kept ≡ None → tree_of c ≡ t) → Judges p wrong t
atom_judged p kept wrong c t e told deep large same = subst (λ (w : Option Flaw). Judges p w t) e (told t deep large same)
