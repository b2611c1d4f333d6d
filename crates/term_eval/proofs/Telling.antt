-- How a climb from a node goes on within a part of a condition in which the node stands: it stops in the part, which then
-- says what it said, or it comes to the part's own node with what that says now.
use Rattle.std.proofs.Common.{◌≡◌, ◌≢◌, ℕ, suc, ◌+◌, ◌-◌, ◌<◌, ◌≤◌, ◌⊎◌, Bool, true, false, List, length, inl, inr, Ok, refl, sym, ◌∙◌, ap, subst, arith}
use Rattle.std.specs.Prelude.{slice_index, slice_set}
use Rattle.std.proofs.lemmas.List.{length-set, get_or-set_same, get_or-set_other}
use Rattle.ecam_spec.specs.Book.{Tree, Trees, none, more}
use Rattle.ecam_spec.specs.Term.{World}
use Rattle.ecam_spec.specs.TermSize.{nodes, nodes_of, slots, slots_of, children}
use Rattle.ecam_spec.specs.declared.limits.TheConstants.{TERM_NODES}
use Rattle.term_eval.specs.declared.nodes.NodeState.{NodeState}
use Rattle.term_eval.specs.declared.link.Link.{Link}
use Rattle.term_eval.specs.Memory.{NodeMemory}
use Rattle.term_eval.specs.Woken.{differ}
use Rattle.term_eval.specs.Climb.{Climbed, climb, count_with, gate_says, is_top, go_on, link_at, told_as, counted}
use Rattle.term_eval.specs.Code.{many}
use Rattle.term_eval.specs.Parts.{Part, parts, parts_of}
use Rattle.term_eval.specs.NodeState.{state_at, unasked, one_if, own_says, says, said, Wakes, SayTheSame, also}
use Rattle.term_eval.proofs.Codes.{many-nodes}
use Rattle.term_eval.proofs.Inside.{node_at, inside, nodes-is, slots-is}
use Rattle.term_eval.proofs.PartLaws.{for-tree, parts-count, slots-within_of, split, low-inside, spoken, says-is}
use Rattle.term_eval.proofs.NodeKinds.{link_says, Kind, an_atom, a_gate, a_temporal, kind-of, spoken-own, own-inside}
use Rattle.term_eval.proofs.KeptSame.{also-other, kept-same, wakes-by, Each, each-left, each-right, each-own, each-inner, each-whole}
use Rattle.term_eval.proofs.ClimbSteps.{told_in, counted_in, climb-same, climb-first, climb-above, counts-one, same-truth}
use Rattle.term_eval.proofs.Linking.{gate-below, said-many}
use Rattle.term_eval.proofs.TellingParts.{none-inside, here, wider, leaves-set, settled}
use Rattle.term_eval.proofs.TellingParts as tell
use Rattle.term_eval.proofs.TellingBeside.{first-stops, rest-stops, first-comes, rest-comes}

module _ (w : World) (h : ℕ) (updated : ℕ → Bool) (links : List Link) (first i end : ℕ) (n : NodeMemory) (start : Climbed) where
  abbrev Given : ℕ → Part → Type 0
  Given = tell.Given w h updated links first i end n start

  abbrev Kept : NodeMemory → ℕ → Part → Type 0
  Kept = tell.Kept w h updated links first i end n start

  abbrev now : List NodeState → NodeMemory
  now = tell.now w h updated links first i end n start

  abbrev Leaves : ℕ → ℕ → ℕ → NodeMemory → Type 0
  Leaves = tell.Leaves w h updated links first i end n start

  abbrev Stops : Tree → ℕ → ℕ → ℕ → Type 0
  Stops = tell.Stops w h updated links first i end n start

  abbrev Comes : Tree → ℕ → ℕ → ℕ → Type 0
  Comes = tell.Comes w h updated links first i end n start

  abbrev StopsIn : Trees → ℕ → ℕ → ℕ → Type 0
  StopsIn = tell.StopsIn w h updated links first i end n start

  abbrev ComesIn : Trees → ℕ → ℕ → ℕ → Type 0
  ComesIn = tell.ComesIn w h updated links first i end n start

  -- ---- a node above the one that is told

  says-same : (c : Tree) (p : ℕ) → p < i → said w h (also i updated) (children c) (p + 1) ≡ said w h updated (children c) (p + 1) →
      says w h (also i updated) c p ≡ says w h updated c p
  says-same c p above same =
      let apart : p ≢ i = λ e. (let f : ⊥ = omega arith in f) in
      says-is w h (also i updated) c p ∙ ap (λ b. spoken w h b c (said w h (also i updated) (children c) (p + 1))) (also-other i updated p apart)
      ∙ ap (λ m. spoken w h (updated p) c m) same ∙ sym (says-is w h updated c p)

  -- none of whose children turned
  left : (c : Tree) (at up p : ℕ) (m : NodeMemory) → p < i → Given p (record { tree = c; at = at; up = up }) → Leaves (p + 1) (inside at c) (at + slots c) m →
      said w h (also i updated) (children c) (p + 1) ≡ said w h updated (children c) (p + 1) →
      (SayTheSame w h updated (children c) (p + 1) → SayTheSame w h (also i updated) (children c) (p + 1)) → Kept m p (record { tree = c; at = at; up = up })
  left c at up p m above given leaves same all_same =
      let apart : p ≢ i = λ e. (let f : ⊥ = omega arith in f) in
      let kept = given.kept apart in
      let state : state_at m.states (first + p) ≡ state_at n.states (first + p) = leaves.states (first + p) (inl (omega arith)) in
      record {
        told = ap (λ s. s.told) state ∙ kept.told ∙ sym (says-same c p above same);
        count = ap (λ s. s.count) state ∙ kept.count ∙ sym same;
        wake = λ temporal.
            let slot : slice_index m.wakes at ≡ slice_index n.wakes at
            = (let from = own-inside c at temporal in leaves.wakes at (inl (omega arith))) in
            subst (λ wake. Wakes w h (also i updated) c p wake (also i updated p)) (sym slot)
            (subst (λ b. Wakes w h (also i updated) c p (slice_index n.wakes at) b) (sym (also-other i updated p apart))
            (wakes-by w h updated (also i updated) c p (slice_index n.wakes at) (updated p) all_same (kept.wake temporal)));
      }

  stops-over : (c : Tree) (at up p : ℕ) → p < i → Each Given p (parts at up c) → StopsIn (children c) (inside at c) 1 (p + 1) → Stops c at up p
  stops-over c at up p above given stops =
      let own = each-own Given p at up c given in
      let room = slots-is at c in
      let from = low-inside at c in
      let leaves = stops.leaves in
      record {
        memory = stops.memory;
        stirs = stops.stirs;
        is = stops.is;
        kept = each-whole (Kept stops.memory) p at up c
            (left c at up p stops.memory above own
            (wider w h updated links first i end n start (p + 1) (inside at c) (at + slots c) (p + 1) (inside at c) (inside at c + slots_of (children c)) stops.memory (omega arith) (omega arith) (omega arith) leaves)
            stops.same stops.all_same) stops.kept;
        same = says-same c p above stops.same;
        leaves = wider w h updated links first i end n start p at (at + slots c) (p + 1) (inside at c) (inside at c + slots_of (children c)) stops.memory (omega arith) from (omega arith) leaves;
      }

  -- the child to which it comes says what it said
  comes-unturned : (c : Tree) (at up p : ℕ) → p < i → Each Given p (parts at up c) → (comes : ComesIn (children c) (inside at c) 1 (p + 1)) →
      differ comes.before comes.says_now ≡ false → Stops c at up p
  comes-unturned c at up p above given comes same =
      let own = each-own Given p at up c given in
      let is = same-truth comes.before comes.says_now same in
      let room = slots-is at c in
      let from = low-inside at c in
      let leaves = comes.leaves in
      let counts = comes.counts in
      let one : one_if comes.before ≡ one_if comes.says_now = ap one_if is in
      let children_same : said w h (also i updated) (children c) (p + 1) ≡ said w h updated (children c) (p + 1) = omega arith in
      record {
        memory = now comes.states;
        stirs = false;
        is = comes.is ∙ climb-same comes.fuel links first comes.node comes.says_now comes.states n.wakes
            (ap (λ b. differ b comes.says_now) comes.told ∙ same);
        kept = each-whole (Kept (now comes.states)) p at up c
            (left c at up p (now comes.states) above own
            (wider w h updated links first i end n start (p + 1) (inside at c) (at + slots c) (p + 1) (inside at c) (inside at c + slots_of (children c)) (now comes.states) (omega arith) (omega arith) (omega arith) leaves)
            children_same (comes.all_same is)) (comes.kept is);
        same = says-same c p above children_same;
        leaves = wider w h updated links first i end n start p at (at + slots c) (p + 1) (inside at c) (inside at c + slots_of (children c)) (now comes.states) (omega arith) from (omega arith) leaves;
      }

  -- it turned: the node above counts it
  record Counted (c : Tree) (at up p : ℕ) (comes : ComesIn (children c) (inside at c) 1 (p + 1)) (states : List NodeState) : Type 0 where
    is : start ≡ go_on (link_says at c (said w h (also i updated) (children c) (p + 1)))
        (λ says. climb comes.fuel links first p says states n.wakes)
        (λ slot. record { states = states; wakes = slice_set n.wakes slot 0; stirs = true })
    told : (state_at states (first + p)).told ≡ says w h updated c p
    count : (state_at states (first + p)).count ≡ said w h (also i updated) (children c) (p + 1)
    inner : Each (Kept (now states)) (p + 1) (parts_of (inside at c) 1 (children c))
    leaves : Leaves p at (at + slots c) (now states)
    enough : suc p ≤ comes.fuel

  comes-counted : (c : Tree) (at up p : ℕ) → p < i → Each Given p (parts at up c) → (comes : ComesIn (children c) (inside at c) 1 (p + 1)) →
      differ comes.before comes.says_now ≡ true → Counted c at up p comes (counted_in first comes.node p comes.says_now comes.states)
  comes-counted c at up p above given comes turns =
      let own = each-own Given p at up c given in
      let apart : p ≢ i = λ e. (let f : ⊥ = omega arith in f) in
      let was = own.kept apart in
      let old_says = comes.before in
      let said_old = said w h updated (children c) (p + 1) in
      let said_new = said w h (also i updated) (children c) (p + 1) in
      let leaves = comes.leaves in
      let low = comes.low in
      let far_is = comes.far_is in
      let far = comes.link in
      let enough = comes.enough in
      let long = leaves.nodes in
      let room = own.room in
      let size = nodes-is c in
      let fits : said_new ≤ many (children c) = said-many w h (also i updated) (children c) (p + 1) in
      let fewer : many (children c) ≤ nodes_of (children c) = many-nodes (children c) in
      let few : nodes c ≤ TERM_NODES = own.few in
      let told = told_in first comes.node comes.says_now comes.states in
      let other : first + p ≢ first + comes.node = λ e. (let f : ⊥ = omega arith in f) in
      let own_state : state_at told (first + p) ≡ state_at n.states (first + p)
      = get_or-set_other comes.states (first + comes.node) (first + p) (told_as comes.says_now (state_at comes.states (first + comes.node))) unasked other
      ∙ leaves.states (first + p) (inl (omega arith)) in
      let counts : count_with (state_at told (first + p)).count comes.says_now ≡ said_new
      = ap (λ s. count_with s.count comes.says_now) own_state ∙ ap (λ m. count_with m comes.says_now) was.count
      ∙ counts-one comes.before comes.says_now said_old said_new turns comes.counts (omega arith) in
      let after = counted_in first comes.node p comes.says_now comes.states in
      let value = counted (count_with (state_at told (first + p)).count comes.says_now) (state_at told (first + p)) in
      let told_long : length told ≡ length comes.states
      = length-set comes.states (first + comes.node) (told_as comes.says_now (state_at comes.states (first + comes.node))) in
      let here_now : state_at after (first + p) ≡ value = get_or-set_same told (first + p) value unasked (omega arith) in
      let up : (link_at links comes.node).up + p ≡ comes.node = omega arith in
      let gate = own.gate comes.node comes.high up (omega arith) in
      record {
        is = comes.is
            ∙ climb-above comes.fuel links first comes.node p comes.says_now comes.states n.wakes
            (ap (λ b. differ b comes.says_now) comes.told ∙ turns)
            (ap (λ (l : Link). is_top l.gate) gate ∙ gate-below (node_at at c)) up
            ∙ ap (λ m. go_on (gate_says (link_at links comes.node).gate (link_at links comes.node).number m)
            (λ says. climb comes.fuel links first p says after n.wakes)
            (λ slot. record { states = after; wakes = slice_set n.wakes slot 0; stirs = true })) counts
            ∙ ap (λ (l : Link). go_on (gate_says l.gate l.number said_new) (λ says. climb comes.fuel links first p says after n.wakes)
            (λ slot. record { states = after; wakes = slice_set n.wakes slot 0; stirs = true })) gate;
        told = ap (λ s. s.told) here_now ∙ ap (λ s. s.told) own_state ∙ was.told;
        count = ap (λ s. s.count) here_now ∙ counts;
        inner = λ j y is.
            let apart : first + (p + 1 + j) ≢ first + p = λ e. (let f : ⊥ = omega arith in f) in
            kept-same w h (also i updated) y first (p + 1 + j) (now told) (now after) (get_or-set_other told (first + p) (first + (p + 1 + j)) value unasked apart)
            (λ temporal. refl) (comes.turned j y is);
        leaves =
            let ends = slots-is at c in
            let from = low-inside at c in
            leaves-set w h updated links first i end n start p at (at + slots c) p told value (omega arith) (omega arith)
            (leaves-set w h updated links first i end n start p at (at + slots c) comes.node comes.states (told_as comes.says_now (state_at comes.states (first + comes.node))) (omega arith) comes.high
            (wider w h updated links first i end n start p at (at + slots c) (p + 1) (inside at c) (inside at c + slots_of (children c)) (now comes.states) (omega arith) from (omega arith) leaves));
        enough = omega arith;
      }

  -- a gate is told in turn, and a temporal node is to be looked at
  counted-over : (c : Tree) (at up p : ℕ) → p < i → i < p + nodes c → Each Given p (parts at up c) → (comes : ComesIn (children c) (inside at c) 1 (p + 1)) →
      (states : List NodeState) → Counted c at up p comes states → Kind c → Stops c at up p ⊎ Comes c at up p
  counted-over c at up p above within given comes states done (an_atom is alone) =
      let size = none-inside c alone in
      absurd (let f : ⊥ = omega arith in f)
  counted-over c at up p above within given comes states done (a_gate is gate) =
      let apart : p ≢ i = λ e. (let f : ⊥ = omega arith in f) in
      let left_over : ℕ = comes.fuel - 1 in
      let enough = done.enough in
      let fuel : comes.fuel ≡ suc left_over = omega arith in
      let told : link_says at c (said w h (also i updated) (children c) (p + 1)) ≡ Ok (says w h (also i updated) c p)
      = gate w h (also i updated p) at (said w h (also i updated) (children c) (p + 1)) (said-many w h (also i updated) (children c) (p + 1)) ∙ ap Ok (sym (says-is w h (also i updated) c p)) in
      inr (record {
        states = states;
        fuel = left_over;
        is = done.is
            ∙ ap (λ g. go_on g (λ says. climb comes.fuel links first p says states n.wakes)
            (λ slot. record { states = states; wakes = slice_set n.wakes slot 0; stirs = true })) told
            ∙ ap (λ k. climb k links first p (says w h (also i updated) c p) states n.wakes) fuel;
        enough = omega arith;
        told = done.told;
        count = done.count;
        wake = λ temporal. absurd (let f : ⊥ = cc in f);
        inner = done.inner;
        leaves = done.leaves;
      })
  counted-over c at up p above within given comes states done (a_temporal temporal is stops own) =
      let mine = each-own Given p at up c given in
      let apart : p ≢ i = λ e. (let f : ⊥ = omega arith in f) in
      let wakes = slice_set n.wakes at 0 in
      let same : says w h (also i updated) c p ≡ says w h updated c p
      = says-is w h (also i updated) c p ∙ spoken-own w h (also i updated p) c (said w h (also i updated) (children c) (p + 1)) own
      ∙ ap (λ b. own_says w h b c) (also-other i updated p apart)
      ∙ sym (says-is w h updated c p ∙ spoken-own w h (updated p) c (said w h updated (children c) (p + 1)) own) in
      let leaves = done.leaves in
      let outdated : also i updated p ≡ false = also-other i updated p apart ∙ mine.free above temporal in
      let slot : slice_index wakes at ≡ 0 = get_or-set_same n.wakes at 0 0 (mine.slot temporal) in
      inl (record {
        memory = record { states = states; wakes = wakes };
        stirs = true;
        is = done.is
            ∙ ap (λ g. go_on g (λ says. climb comes.fuel links first p says states n.wakes)
            (λ slot. record { states = states; wakes = slice_set n.wakes slot 0; stirs = true })) (stops at (said w h (also i updated) (children c) (p + 1)));
        kept = each-whole (Kept (record { states = states; wakes = wakes })) p at up c
            (record {
              told = done.told ∙ sym same;
              count = done.count;
              wake = λ t. subst (λ b. Wakes w h (also i updated) c p (slice_index wakes at) b) (sym outdated) (inl slot);
            })
            (λ j y lies.
            let low = (slots-within_of (inside at c) 1 (children c) j y lies).0 in
            let from = is at in
            let other : y.at ≢ at = λ e. (let f : ⊥ = omega arith in f) in
            kept-same w h (also i updated) y first (p + 1 + j) (now states) (record { states = states; wakes = wakes }) refl
            (λ t. get_or-set_other n.wakes at y.at 0 0 other) (done.inner j y lies));
        same = same;
        leaves = record {
          nodes = leaves.nodes;
          slots = length-set n.wakes at 0;
          states = leaves.states;
          wakes = λ s out.
              let over = comes.leaves.over in
              let from = is at in
              let other : s ≢ at = λ e. elim out [ inl l ↦ (let f : ⊥ = omega arith in f) | inr r ↦ (let f : ⊥ = omega arith in f) ] in
              get_or-set_other n.wakes at s 0 0 other;
          over = leaves.over;
          reach = leaves.reach;
        };
      })

  comes-over : (c : Tree) (at up p : ℕ) → p < i → i < p + nodes c → Each Given p (parts at up c) → (comes : ComesIn (children c) (inside at c) 1 (p + 1)) →
      Stops c at up p ⊎ Comes c at up p
  comes-over c at up p above within given comes =
      by (differ comes.before comes.says_now) refl
    where
      by : (turns : Bool) → differ comes.before comes.says_now ≡ turns → Stops c at up p ⊎ Comes c at up p
      by false is = inl (comes-unturned c at up p above given comes is)
      by true is =
          counted-over c at up p above within given comes (counted_in first comes.node p comes.says_now comes.states)
          (comes-counted c at up p above given comes is) (kind-of c)

  -- ---- all the way up

  Tells : Tree → Type 0
  Tells c = (at up p : ℕ) → p ≤ i → i < p + nodes c → Each Given p (parts at up c) → Stops c at up p ⊎ Comes c at up p

  TellsIn : Trees → Type 0
  TellsIn cs = (at up q : ℕ) → q ≤ i → i < q + nodes_of cs → Each Given q (parts_of at up cs) → StopsIn cs at up q ⊎ ComesIn cs at up q

  tells-node : (c : Tree) → TellsIn (children c) → Tells c
  unfolding Tells TellsIn
  tells-node c inner at up p low high given =
      let size = nodes-is c in
      elim (split i (p + 1)) [
        | inl near ↦
            (let is : i ≡ p = omega arith in
            inr (subst (λ q. Each Given q (parts at up c) → Comes c at up q) is (here w h updated links first i end n start c at up) given))
        | inr far ↦
            (let above : p < i = omega (arith, far.1) in
            elim (inner (inside at c) 1 (p + 1) (omega arith) (omega arith) (each-inner Given p at up c given)) [
              | inl stops ↦ inl (stops-over c at up p above given stops)
              | inr comes ↦ comes-over c at up p above high given comes
            ])
      ]

  tells-none : TellsIn none
  unfolding TellsIn nodes
  tells-none at up q low high given = absurd (let f : ⊥ = omega arith in f)

  tells-more : (c : Tree) (cs : Trees) → Tells c → TellsIn cs → TellsIn (more c cs)
  unfolding Tells TellsIn nodes parts
  tells-more c cs one rest at up q low high given =
      let xs = parts at up c in
      let ys = parts_of (at + slots c) (up + nodes c) cs in
      elim (split i (q + nodes c)) [
        | inl near ↦
            elim (one at up q low near (each-left Given q xs ys given)) [
              | inl stops ↦ inl (first-stops w h updated links first i end n start c cs at up q near given stops)
              | inr comes ↦ inr (first-comes w h updated links first i end n start c cs at up q low near given comes)
            ]
        | inr far ↦
            (let behind_it : q + nodes c ≤ i = omega (arith, far.1) in
            elim (rest (at + slots c) (up + nodes c) (q + nodes c) behind_it (omega arith) (each-right Given q (nodes c) xs ys (parts-count at up c) given)) [
              | inl stops ↦ inl (rest-stops w h updated links first i end n start c cs at up q behind_it given stops)
              | inr comes ↦ inr (rest-comes w h updated links first i end n start c cs at up q behind_it given comes)
            ])
      ]

  tells : (c : Tree) → Tells c
  tells c = for-tree Tells TellsIn tells-node tells-none tells-more c

  -- a whole condition is kept in the end
  ends : (c : Tree) (at : ℕ) → Each Given 0 (parts at 0 c) → (comes : Comes c at 0 0) → (turns : Bool) →
      differ (says w h updated c 0) (says w h (also i updated) c 0) ≡ turns → Each (Kept (record { states = start.states; wakes = start.wakes })) 0 (parts at 0 c)
  ends c at given comes false is =
      subst (λ (done : Climbed). Each (Kept (record { states = done.states; wakes = done.wakes })) 0 (parts at 0 c))
      (sym (comes.is ∙ climb-same comes.fuel links first 0 (says w h (also i updated) c 0) comes.states n.wakes
      (ap (λ b. differ b (says w h (also i updated) c 0)) comes.told ∙ is)))
      (settled w h updated links first i end n start c at 0 0 comes comes.states (comes.told ∙ same-truth (says w h updated c 0) (says w h (also i updated) c 0) is) refl (λ s apart. refl))
  ends c at given comes true is =
      let own = each-own Given 0 at 0 c given in
      let size = nodes-is c in
      let long = comes.leaves.nodes in
      let value = told_as (says w h (also i updated) c 0) (state_at comes.states (first + 0)) in
      let room : first + 0 < length comes.states = omega (arith, own.room) in
      let set : state_at (told_in first 0 (says w h (also i updated) c 0) comes.states) (first + 0) ≡ value
      = get_or-set_same comes.states (first + 0) value unasked room in
      subst (λ (done : Climbed). Each (Kept (record { states = done.states; wakes = done.wakes })) 0 (parts at 0 c))
      (sym (comes.is ∙ climb-first comes.fuel links first 0 (says w h (also i updated) c 0) comes.states n.wakes
      (ap (λ b. differ b (says w h (also i updated) c 0)) comes.told ∙ is) (ap is_top (own.top refl))))
      (settled w h updated links first i end n start c at 0 0 comes (told_in first 0 (says w h (also i updated) c 0) comes.states) (ap (λ s. s.told) set) (ap (λ s. s.count) set)
      (λ s apart. get_or-set_other comes.states (first + 0) s value unasked apart))

  pub told : (c : Tree) (at : ℕ) → i < nodes c → Each Given 0 (parts at 0 c) → Each (Kept (record { states = start.states; wakes = start.wakes })) 0 (parts at 0 c)
  unfolding Tells
  told c at within given =
      elim (tells c at 0 0 (omega arith) (omega arith) given) [
        | inl stops ↦ subst (λ (done : Climbed). Each (Kept (record { states = done.states; wakes = done.wakes })) 0 (parts at 0 c)) (sym stops.is) stops.kept
        | inr comes ↦ ends c at given comes (differ (says w h updated c 0) (says w h (also i updated) c 0)) refl
      ]
