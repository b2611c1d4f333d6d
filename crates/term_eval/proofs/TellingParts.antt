-- What is given of each part of a condition, and how far a climb has come that goes through it: it stopped in the part, or it
-- comes to the part's own node with what that says now.
use Rattle.std.proofs.Common.{◌≡◌, ◌≢◌, ℕ, suc, ◌+◌, ◌<◌, ◌≤◌, ◌⊎◌, Bool, true, false, List, length, inl, inr, refl, sym, ◌∙◌, ap, subst, arith}
use Rattle.std.specs.Prelude.{slice_index, slice_set}
use Rattle.std.proofs.lemmas.List.{length-set, get_or-set_other}
use Rattle.ecam_spec.specs.Book.{Tree, Trees, none}
use Rattle.ecam_spec.specs.Term.{World, holds}
use Rattle.ecam_spec.specs.TermSize.{nodes, nodes_of, slots, slots_of, children}
use Rattle.ecam_spec.specs.declared.limits.TheConstants.{TERM_NODES}
use Rattle.term_eval.specs.declared.nodes.NodeState.{NodeState}
use Rattle.term_eval.specs.declared.link.Link.{Link}
use Rattle.term_eval.specs.declared.link.Gate.TheVariants.{Top}
use Rattle.term_eval.specs.Links.{gate_of, number_of}
use Rattle.term_eval.specs.Memory.{NodeMemory}
use Rattle.term_eval.specs.Climb.{Climbed, climb, link_at}
use Rattle.term_eval.specs.OwnDue.{own_due}
use Rattle.term_eval.specs.Parts.{Part, parts, parts_of, is_temporal}
use Rattle.term_eval.specs.NodeState.{state_at, unasked, one_if, says, said, IsKept, Wakes, SayTheSame, also}
use Rattle.term_eval.proofs.Inside.{node_at, inside, nodes-is}
use Rattle.term_eval.proofs.PartLaws.{parts-ends, slots-within, slots-within_of, spoken, says-is, said-by}
use Rattle.term_eval.proofs.NodeKinds.{is_gate, spoken-own, own-slot}
use Rattle.term_eval.proofs.KeptSame.{also-own, also-other, kept-same, kept-by, Each, each-own, each-inner, each-whole}
use Rattle.term_eval.proofs.ClimbSteps.{told_in}

pub none-inside : (c : Tree) → children c ≡ none → nodes c ≡ 1
unfolding nodes
none-inside c is = nodes-is c ∙ ap (λ cs. nodes_of cs + 1) is

module _ (w : World) (h : ℕ) (updated : ℕ → Bool) (links : List Link) (first i end : ℕ) (n : NodeMemory) (start : Climbed) where
  -- ---- what is given of each node

  -- of the one that is told
  pub record ToTell (y : Part) : Type 0 where
    pub told : (state_at n.states (first + i)).told ≡ says w h updated y.tree i
    pub count : (state_at n.states (first + i)).count ≡ said w h updated (children y.tree) (i + 1)
    pub wake : is_temporal y.tree ≡ true → slice_index n.wakes y.at ≡ own_due w y.tree (suc h)
    pub own : is_gate y.tree ≡ false
    pub ends : end ≡ y.at
    pub starts : start ≡ climb (suc i) links first i (holds w y.tree (suc h)) n.states n.wakes

  pub record Given (j : ℕ) (y : Part) : Type 0 where
    pub link : (link_at links j).up ≡ y.up
    pub top : y.up ≡ 0 → (link_at links j).gate ≡ Top
    pub gate : (k : ℕ) → k ≤ i → (link_at links k).up + j ≡ k → j < k →
        link_at links k ≡ record {
          number = number_of (node_at y.at y.tree);
          up = (link_at links k).up;
          gate =
              gate_of (node_at y.at y.tree);
        }
    pub few : nodes y.tree ≤ TERM_NODES
    pub room : first + (j + nodes y.tree) ≤ length n.states
    pub slot : is_temporal y.tree ≡ true → y.at < length n.wakes
    pub free : j < i → is_temporal y.tree ≡ true → updated j ≡ false
    pub kept : j ≢ i → IsKept w h updated y first j n
    pub own : j ≡ i → ToTell y

  -- ---- what comes of them

  abbrev pub Kept : NodeMemory → ℕ → Part → Type 0
  Kept m j y = IsKept w h (also i updated) y first j m

  abbrev pub now : List NodeState → NodeMemory
  now states = record { states = states; wakes = n.wakes }

  -- nothing changed but nodes from a place up to the one that was told, and slots from a place up to its own
  pub record Leaves (low at high : ℕ) (m : NodeMemory) : Type 0 where
    pub nodes : length m.states ≡ length n.states
    pub slots : length m.wakes ≡ length n.wakes
    pub states : (s : ℕ) → (s < first + low) ⊎ (first + i < s) → state_at m.states s ≡ state_at n.states s
    pub wakes : (s : ℕ) → (s < at) ⊎ (end ≤ s) → slice_index m.wakes s ≡ slice_index n.wakes s
    pub over : at ≤ end
    pub reach : end ≤ high

  pub record Stops (c : Tree) (at up p : ℕ) : Type 0 where
    pub memory : NodeMemory
    pub stirs : Bool
    pub is : start ≡ record { states = memory.states; wakes = memory.wakes; stirs = stirs }
    pub kept : Each (Kept memory) p (parts at up c)
    pub same : says w h (also i updated) c p ≡ says w h updated c p
    pub leaves : Leaves p at (at + slots c) memory

  pub record Comes (c : Tree) (at up p : ℕ) : Type 0 where
    pub states : List NodeState
    pub fuel : ℕ
    pub is : start ≡ climb (suc fuel) links first p (says w h (also i updated) c p) states n.wakes
    pub enough : p ≤ fuel
    pub told : (state_at states (first + p)).told ≡ says w h updated c p
    pub count : (state_at states (first + p)).count ≡ said w h (also i updated) (children c) (p + 1)
    pub wake : is_temporal c ≡ true → Wakes w h (also i updated) c p (slice_index n.wakes at) (also i updated p)
    pub inner : Each (Kept (now states)) (p + 1) (parts_of (inside at c) 1 (children c))
    pub leaves : Leaves p at (at + slots c) (now states)

  pub record StopsIn (cs : Trees) (at up q : ℕ) : Type 0 where
    pub memory : NodeMemory
    pub stirs : Bool
    pub is : start ≡ record { states = memory.states; wakes = memory.wakes; stirs = stirs }
    pub kept : Each (Kept memory) q (parts_of at up cs)
    pub same : said w h (also i updated) cs q ≡ said w h updated cs q
    pub all_same : SayTheSame w h updated cs q → SayTheSame w h (also i updated) cs q
    pub leaves : Leaves q at (at + slots_of cs) memory

  -- it comes to one of them, which stands so far behind their parent
  pub record ComesIn (cs : Trees) (at up q : ℕ) : Type 0 where
    pub node : ℕ
    pub far : ℕ
    pub before : Bool
    pub says_now : Bool
    pub states : List NodeState
    pub fuel : ℕ
    pub is : start ≡ climb (suc fuel) links first node says_now states n.wakes
    pub enough : node ≤ fuel
    pub low : q ≤ node
    pub high : node ≤ i
    pub far_is : node + up ≡ far + q
    pub link : (link_at links node).up ≡ far
    pub told : (state_at states (first + node)).told ≡ before
    pub counts : said w h (also i updated) cs q + one_if before ≡ said w h updated cs q + one_if says_now
    pub all_same : before ≡ says_now → SayTheSame w h updated cs q → SayTheSame w h (also i updated) cs q
    pub kept : before ≡ says_now → Each (Kept (now states)) q (parts_of at up cs)
    pub turned : Each (Kept (now (told_in first node says_now states))) q (parts_of at up cs)
    pub leaves : Leaves q at (at + slots_of cs) (now states)

  -- ---- what stands beside

  pub beside : (m : NodeMemory) (j : ℕ) (y : Part) → Given j y → (i < j) ⊎ (j + nodes y.tree ≤ i) → state_at m.states (first + j) ≡ state_at n.states (first + j) →
      (is_temporal y.tree ≡ true → slice_index m.wakes y.at ≡ slice_index n.wakes y.at) → Kept m j y
  beside m j y given away state slot =
      let size = nodes-is y.tree in
      let apart : (k : ℕ) → j ≤ k → k < j + nodes y.tree → k ≢ i
      = λ k low high e. elim away [ inl l ↦ (let f : ⊥ = omega arith in f) | inr r ↦ (let f : ⊥ = omega arith in f) ] in
      kept-same w h (also i updated) y first j n m state slot
      (kept-by w h updated (also i updated) y first j n (λ k low high. also-other i updated k (apart k low high)) (given.kept (apart j (omega arith) (omega arith))))

  pub behind : (cs : Trees) (at up q low from high : ℕ) (m : NodeMemory) → i < q → Each Given q (parts_of at up cs) → Leaves low from high m → high ≤ at →
      Each (Kept m) q (parts_of at up cs)
  behind cs at up q low from high m before given leaves ends j y is =
      let within = slots-within_of at up cs j y is in
      let reach = leaves.reach in
      beside m (q + j) y (given j y is) (inl (omega arith)) (leaves.states (first + (q + j)) (inr (omega arith)))
      (λ temporal. leaves.wakes y.at (inr (omega (arith, within.0))))

  pub ahead : (c : Tree) (at up q high : ℕ) (m : NodeMemory) → q + nodes c ≤ i → Each Given q (parts at up c) → Leaves (q + nodes c) (at + slots c) high m →
      Each (Kept m) q (parts at up c)
  ahead c at up q high m before given leaves j y is =
      let within = slots-within at up c j y is in
      let ends = parts-ends at up c j y is in
      let size = nodes-is y.tree in
      beside m (q + j) y (given j y is) (inr (omega arith)) (leaves.states (first + (q + j)) (inl (omega arith)))
      (λ temporal. let own = own-slot y.tree temporal in leaves.wakes y.at (inl (omega (arith, within.1))))

  -- ---- the node that is told

  pub here : (c : Tree) (at up : ℕ) → Each Given i (parts at up c) → Comes c at up i
  here c at up given =
      let own = (each-own Given i at up c given).own refl in
      let below = each-inner Given i at up c given in
      let apart : (k : ℕ) → i + 1 ≤ k → k ≢ i = λ k low e. (let f : ⊥ = omega arith in f) in
      let holds_now : says w h (also i updated) c i ≡ holds w c (suc h)
      = says-is w h (also i updated) c i ∙ ap (λ b. spoken w h b c (said w h (also i updated) (children c) (i + 1))) (also-own i updated)
      ∙ spoken-own w h true c (said w h (also i updated) (children c) (i + 1)) own.own in
      record {
        states = n.states;
        fuel = i;
        is = own.starts ∙ ap (λ b. climb (suc i) links first i b n.states n.wakes) (sym holds_now);
        enough = omega arith;
        told = own.told;
        count = own.count ∙ sym (said-by w h updated (also i updated) (children c) (i + 1) (λ k low high. also-other i updated k (apart k low)));
        wake = λ temporal. subst (λ b. Wakes w h (also i updated) c i (slice_index n.wakes at) b) (sym (also-own i updated)) (own.wake temporal);
        inner = λ j y is. beside n (i + 1 + j) y (below j y is) (inl (omega arith)) refl (λ temporal. refl);
        leaves = record {
          nodes = refl;
          slots = refl;
          states = λ s out. refl;
          wakes = λ s out. refl;
          over = (let ends : end ≡ at = own.ends in omega arith);
          reach = (let ends : end ≡ at = own.ends in omega arith);
        };
      }

  pub wider : (low at high low2 at2 high2 : ℕ) (m : NodeMemory) → low ≤ low2 → at ≤ at2 → high2 ≤ high → Leaves low2 at2 high2 m → Leaves low at high m
  wider low at high low2 at2 high2 m a b c leaves = record {
    nodes = leaves.nodes;
    slots = leaves.slots;
    states = λ s out. leaves.states s (elim out [ inl l ↦ inl (omega arith) | inr r ↦ inr r ]);
    wakes = λ s out. leaves.wakes s (elim out [ inl l ↦ inl (omega arith) | inr r ↦ inr r ]);
    over = omega (arith, leaves.over);
    reach = omega (arith, leaves.reach);
  }

  -- a node from there on up to the one that was told is written
  pub leaves-set : (low at high k : ℕ) (states : List NodeState) (value : NodeState) → low ≤ k → k ≤ i → Leaves low at high (now states) →
      Leaves low at high (now (slice_set states (first + k) value))
  leaves-set low at high k states value from to leaves = record {
    nodes = length-set states (first + k) value ∙ leaves.nodes;
    slots = leaves.slots;
    states = λ s out.
        let other : s ≢ first + k
        = λ e. elim out [ inl l ↦ (let f : ⊥ = omega arith in f) | inr r ↦ (let f : ⊥ = omega arith in f) ] in
        get_or-set_other states (first + k) s value unasked other ∙ leaves.states s out;
    wakes = leaves.wakes;
    over = leaves.over;
    reach = leaves.reach;
  }

  pub settled : (c : Tree) (at up p : ℕ) (comes : Comes c at up p) (states : List NodeState) → (state_at states (first + p)).told ≡ says w h (also i updated) c p →
      (state_at states (first + p)).count ≡ (state_at comes.states (first + p)).count →
      ((s : ℕ) → s ≢ first + p → state_at states s ≡ state_at comes.states s) → Each (Kept (now states)) p (parts at up c)
  settled c at up p comes states told count others =
      each-whole (Kept (now states)) p at up c (record { told = told; count = count ∙ comes.count; wake = comes.wake })
      (λ j y is.
      let apart : first + (p + 1 + j) ≢ first + p = λ e. (let f : ⊥ = omega arith in f) in
      kept-same w h (also i updated) y first (p + 1 + j) (now comes.states) (now states) (others (first + (p + 1 + j)) apart) (λ temporal. refl) (comes.inner j y is))
