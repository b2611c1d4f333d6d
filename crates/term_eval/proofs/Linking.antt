-- The links of a condition's code by its parts: what stands above what, what a climb asks for, and that no count of children
-- overflows.
use Rattle.std.proofs.Common.{◌≡◌, ℕ, suc, ◌+◌, ◌-◌, ◌<◌, ◌≤◌, ◌⊎◌, Bool, true, false, List, length, eqb, inl, inr, Some, refl, sym, ◌∙◌, ap, arith}
use Rattle.std.specs.List.{slice_get}
use Rattle.std.proofs.lemmas.List.FromFn.{length-map-range_with_len, get_or-map-range_with_len}
use Rattle.std.proofs.lemmas.Option.{slice_get_within, get_or_from_slice_get}
use Rattle.std.proofs.lemmas.Bool.{cases_lt}
use Rattle.std.proofs.lemmas.Bool.Decides.{nat_tests}
use Rattle.ecam_spec.specs.Book.{Tree, Trees, constant, discrete, valid, compared, in_phase, alert, press, computer, negation, all, any, at_least, confirmed, held, risen, latched, none, more}
use Rattle.ecam_spec.specs.Term.{World}
use Rattle.ecam_spec.specs.TermSize.{nodes}
use Rattle.term_eval.specs.declared.code.Step.{Step}
use Rattle.term_eval.specs.declared.link.Link.{Link}
use Rattle.term_eval.specs.declared.link.Gate.TheVariants.{Temporal, Top}
use Rattle.term_eval.specs.declared.code.Node.{Node}
use Rattle.term_eval.specs.declared.code.Node.TheVariants as node
use Rattle.term_eval.specs.Memory.{NodeMemory}
use Rattle.term_eval.specs.Code.{code, many}
use Rattle.term_eval.specs.Links.{gate_of, number_of, link_below, link_from, links}
use Rattle.term_eval.specs.Linked.{AreLinked}
use Rattle.term_eval.specs.Climb.{step_at, link_at, is_top, CanClimb}
use Rattle.term_eval.specs.Parts.{Part, Heads, is_temporal}
use Rattle.term_eval.specs.NodeState.{one_if, says, said}
use Rattle.term_eval.proofs.Inside.{node_at}
use Rattle.term_eval.proofs.PartLaws.{slots-within}
use Rattle.term_eval.proofs.NodeKinds.{own-slot}
use Rattle.term_eval.proofs.Codes.{length-code}
use Rattle.term_eval.proofs.CodeParts.{heads-one, heads-within, heads-node, heads-up, heads-alone}

-- ---- a link is that of its node

pub length-links : (c : Tree) (at : ℕ) (own : List Link) → own ≡ links at c → length own ≡ nodes c
length-links c at own is = ap length is ∙ length-map-range_with_len (link_from (code at 0 c)) 0 (length (code at 0 c))
    ∙ length-code c at 0

pub link-at : (c : Tree) (at : ℕ) (own : List Link) → own ≡ links at c → (i : ℕ) → i < nodes c →
    link_at own i ≡ link_from (code at 0 c) i
link-at c at own is i within =
    ap (λ l. link_at l i) is
    ∙ get_or-map-range_with_len (link_from (code at 0 c)) 0 (length (code at 0 c)) i i _
    (let long = length-code c at 0 in omega arith) (omega arith)

below-some : (up : ℕ) (above : Node) → 0 < up → link_below up above
    ≡ record { number = number_of above; up = up; gate = gate_of above }
below-some up above some = let e : eqb up 0 ≡ false = grind (arith, nat_tests) in rw e refl

below-up : (up : ℕ) (above : Node) → (link_below up above).up ≡ up
below-up up above = elim (cases_lt 0 up) [
  | inl some ↦ ap (λ (l : Link). l.up) (below-some up above some)
  | inr least ↦ let e : up ≡ 0 = omega arith in ap (λ u. (link_below u above).up) e ∙ sym e
]

-- of a condition that is linked
module _ (c : Tree) (at first : ℕ) (n : NodeMemory) (own : List Link) (ready : AreLinked own n c at first) where
  heads-link : (j : ℕ) (y : Part) → Heads c at j y → link_at own j ≡ link_below y.up (step_at (code at 0 c) (j - y.up)).node
  heads-link j y heads =
      link-at c at own ready.links j (heads-within c at j y heads)
      ∙ ap (λ (s : Step). link_below s.up (step_at (code at 0 c) (j - s.up)).node)
      (heads-node c at (code at 0 c) ready.held.code j y heads)

  pub link-up : (j : ℕ) (y : Part) → Heads c at j y → (link_at own j).up ≡ y.up
  link-up j y heads = ap (λ (l : Link). l.up) (heads-link j y heads) ∙ below-up y.up (step_at (code at 0 c) (j - y.up)).node

  pub link-top : (j : ℕ) (y : Part) → Heads c at j y → y.up ≡ 0 → (link_at own j).gate ≡ Top
  link-top j y heads alone = ap (λ (l : Link). l.gate) (heads-link j y heads
      ∙ ap (λ u. link_below u (step_at (code at 0 c) (j - u)).node) alone)

  -- where node j stands so far before node k as the link of that says, the gate is node j's
  pub link-gate : (k j : ℕ) (y : Part) → k < nodes c → Heads c at j y → (link_at own k).up + j ≡ k → j < k →
      link_at own k ≡ record {
        number = number_of (node_at y.at y.tree);
        up = (link_at own k).up;
        gate =
            gate_of (node_at y.at y.tree);
      }
  link-gate k j y within heads far before =
      let x = heads-one c at k within in
      let up = link-up k x.0 x.1 in
      let e : k - x.0.up ≡ j = omega arith in
      heads-link k x.0 x.1 ∙ ap (λ m. link_below x.0.up (step_at (code at 0 c) m).node) e
      ∙ ap (λ (s : Step). link_below x.0.up s.node) (heads-node c at (code at 0 c) ready.held.code j y heads)
      ∙ below-some x.0.up (node_at y.at y.tree) (omega arith)
      ∙ ap (λ u. record { number = number_of (node_at y.at y.tree); up = u; gate = gate_of (node_at y.at y.tree) }) (sym up)

  -- a node stands below another, or it is the first
  pub record StandsBelow (k : ℕ) : Type 0 where
    pub above : ℕ
    pub part : Part
    pub heads : Heads c at above part
    pub before : above < k
    pub far : (link_at own k).up + above ≡ k
    pub gate : (link_at own k).gate ≡ gate_of (node_at part.at part.tree)
    pub number : (link_at own k).number ≡ number_of (node_at part.at part.tree)

  stands-below : (k j : ℕ) (y : Part) → k < nodes c → Heads c at j y → j < k → (link_at own k).up + j ≡ k → StandsBelow k
  stands-below k j y within heads before far =
      let is = link-gate k j y within heads far before in
      record {
        above = j;
        part = y;
        heads = heads;
        before = before;
        far = far;
        gate = ap (λ (l : Link). l.gate) is;
        number = ap (λ (l : Link). l.number) is;
      }

  pub link-kind : (k : ℕ) → k < nodes c → ((k ≡ 0) × ((link_at own k).gate ≡ Top)) ⊎ StandsBelow k
  link-kind k within =
      let x = heads-one c at k within in
      let up = link-up k x.0 x.1 in
      let reach = heads-up c at k x.0 x.1 in
      elim (cases_lt 0 x.0.up) [
        | inl some ↦
            let above : ℕ = k - x.0.up in
            let y = heads-one c at above (omega arith) in
            inr (stands-below k above y.0 within y.1 (omega arith) (omega arith))
        | inr least ↦
            let alone : x.0.up ≡ 0 = omega arith in
            inl (heads-alone c at k x.0 x.1 alone, link-top k x.0 x.1 alone)
      ]

-- ---- what a climb asks for

-- where a climb stops at a slot, a temporal node has it
pub slot-of : (c : Tree) (at : ℕ) → gate_of (node_at at c) ≡ Temporal → (is_temporal c ≡ true) × (at ≡ number_of (node_at at c))
unfolding is_temporal
slot-of (constant b) at is = absurd (let f : ⊥ = cc in f)
slot-of (discrete x) at is = absurd (let f : ⊥ = cc in f)
slot-of (valid x) at is = absurd (let f : ⊥ = cc in f)
slot-of (compared x op n) at is = absurd (let f : ⊥ = cc in f)
slot-of (in_phase set) at is = absurd (let f : ⊥ = cc in f)
slot-of (alert a) at is = absurd (let f : ⊥ = cc in f)
slot-of (press key) at is = absurd (let f : ⊥ = cc in f)
slot-of (computer n) at is = absurd (let f : ⊥ = cc in f)
slot-of (negation c) at is = absurd (let f : ⊥ = cc in f)
slot-of (all cs) at is = absurd (let f : ⊥ = cc in f)
slot-of (any cs) at is = absurd (let f : ⊥ = cc in f)
slot-of (at_least n cs) at is = absurd (let f : ⊥ = cc in f)
slot-of (confirmed c n) at is = (refl, refl)
slot-of (held c n) at is = (refl, refl)
slot-of (risen c) at is = (refl, refl)
slot-of (latched s r) at is = (refl, refl)

-- the gate of a node is none that a first node has
pub gate-below : (node : Node) → is_top (gate_of node) ≡ false
gate-below (node.Const b) = refl
gate-below (node.Disc x) = refl
gate-below (node.Valid x) = refl
gate-below (node.Cmp x op n) = refl
gate-below (node.InPhase set) = refl
gate-below (node.Alert a) = refl
gate-below (node.Press key) = refl
gate-below (node.Fwc n) = refl
gate-below node.Not = refl
gate-below (node.All m) = refl
gate-below node.Any = refl
gate-below (node.AtLeast n) = refl
gate-below (node.Conf n slot) = refl
gate-below (node.Hold n slot) = refl
gate-below (node.Rise slot) = refl
gate-below (node.Latch slot) = refl

pub can-climb : (c : Tree) (at first : ℕ) (n : NodeMemory) (own : List Link) → AreLinked own n c at first → CanClimb own first (length n.states) (length n.wakes)
can-climb c at first n own ready =
    let long : length own ≡ nodes c = length-links c at own ready.links in
    record {
      room = omega (arith, ready.held.nodes);
      ups = λ i l is.
          let one = heads-one c at i (let within = slice_get_within own i l is in omega arith) in
          let far = heads-up c at i one.0 one.1 in
          let up = link-up c at first n own ready i one.0 one.1 in
          let same = ap (λ (t : Link). t.up) (same-link i l is) in
          omega arith;
      above = λ i l is some.
          let within : i < nodes c = (let w = slice_get_within own i l is in omega arith) in
          let same = ap (λ (t : Link). t.up) (same-link i l is) in
          elim (link-kind c at first n own ready i within) [
            | inl top ↦ absurd (some (sym (ap (λ (t : Link). t.gate) (same-link i l is)) ∙ top.1))
            | inr b ↦ omega (arith, same, b.far, b.before)
          ];
      held = λ i l is stops.
          let within : i < nodes c = (let w = slice_get_within own i l is in omega arith) in
          elim (link-kind c at first n own ready i within) [
            | inl top ↦ absurd (let f : ⊥ = (let e = sym top.1 ∙ ap (λ (t : Link). t.gate) (same-link i l is) ∙ stops in
                cc) in f)
            | inr b ↦
                let place = slot-of b.part.tree b.part.at
                (sym b.gate ∙ ap (λ (t : Link). t.gate) (same-link i l is) ∙ stops) in
                let number : l.number ≡ b.part.at = sym (ap (λ (t : Link). t.number) (same-link i l is)) ∙ b.number
                ∙ sym place.1 in
                let some = own-slot b.part.tree place.0 in
                let high = slots-within at 0 c b.above b.part b.heads in
                omega (arith, number, some, high.1, ready.held.slots)
          ];
    }
  where
    same-link : (i : ℕ) (l : Link) → slice_get own i ≡ Some l → link_at own i ≡ l
    same-link i l is = get_or_from_slice_get own i l _ is

-- ---- how many hold

one-more : (b : Bool) (m l : ℕ) → m ≤ l → one_if b + m ≤ suc l
one-more true m l fits = omega arith
one-more false m l fits = omega arith

-- not more of some conditions say that they hold than there are
pub said-many : (w : World) (h : ℕ) (updated : ℕ → Bool) (cs : Trees) (p : ℕ) → said w h updated cs p ≤ many cs
unfolding said many
said-many w h updated none p = omega arith
said-many w h updated (more c cs) p = one-more (says w h updated c p) _ _ (said-many w h updated cs (p + nodes c))
