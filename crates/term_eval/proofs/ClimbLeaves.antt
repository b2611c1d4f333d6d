-- What a climb leaves as it is, whatever is kept of the nodes.
use Rattle.std.proofs.Common.{◌≡◌, ◌≢◌, ℕ, zero, suc, ◌+◌, ◌-◌, ◌<◌, ◌≤◌, ◌⊎◌, Bool, true, false, List, length, inl, inr, Result, Ok, Err, refl, sym, ◌∙◌, ap, subst, arith}
use Rattle.std.specs.Prelude.{slice_index, slice_set}
use Rattle.std.proofs.lemmas.List.{length-set, get_or-set_same, get_or-set_other}
use Rattle.std.proofs.lemmas.Bool.{cases_lt}
use Rattle.ecam_spec.specs.Book.{Tree}
use Rattle.term_eval.specs.declared.nodes.NodeState.{NodeState}
use Rattle.term_eval.specs.declared.link.Link.{Link}
use Rattle.term_eval.specs.declared.link.Gate.TheVariants.{Temporal}
use Rattle.term_eval.specs.Memory.{NodeMemory}
use Rattle.term_eval.specs.Woken.{differ}
use Rattle.term_eval.specs.Linked.{AreLinked}
use Rattle.term_eval.specs.Climb.{Climbed, climb, count_with, gate_says, is_top, go_on, link_at, told_as, counted}
use Rattle.term_eval.specs.Parts.{Part, Heads}
use Rattle.term_eval.specs.NodeState.{state_at, unasked}
use Rattle.term_eval.proofs.Inside.{node_at}
use Rattle.term_eval.proofs.PartLaws.{slots-within}
use Rattle.term_eval.proofs.CodeParts.{heads-one, heads-within, heads-up, slots-rise}
use Rattle.term_eval.proofs.Linking.{link-up, link-kind, gate-below, slot-of}
use Rattle.term_eval.proofs.ClimbSteps.{told_in, counted_in, climb-same, climb-first, climb-above, stops-at}

-- Nothing changed but nodes from a place on up to one of them, and slots from one place up to another. Where nothing is
-- stirred no slot did, and the first node says what it said; else it says the opposite, or a slot is to be looked at
pub record LeavesOthers (at first i end : ℕ) (n : NodeMemory) (done : Climbed) : Type 0 where
  pub nodes : length done.states ≡ length n.states
  pub slots : length done.wakes ≡ length n.wakes
  pub states : (s : ℕ) → (s < first) ⊎ (first + i < s) → state_at done.states s ≡ state_at n.states s
  pub wakes : (s : ℕ) → (s < at) ⊎ (end ≤ s) → slice_index done.wakes s ≡ slice_index n.wakes s
  pub quiet : done.stirs ≡ false → done.wakes ≡ n.wakes
  pub first_told : done.stirs ≡ false → (state_at done.states first).told ≡ (state_at n.states first).told
  pub stirred : done.stirs ≡ true → ((state_at done.states first).told ≢ (state_at n.states first).told) ⊎
      ((s : ℕ) × (at ≤ s) × (s < end) × (slice_index done.wakes s ≡ 0))

not-told : (told holds : Bool) → differ told holds ≡ true → holds ≢ told
not-told true true turns e = (let f : ⊥ = cc in f)
not-told true false turns e = (let f : ⊥ = cc in f)
not-told false true turns e = (let f : ⊥ = cc in f)
not-told false false turns e = (let f : ⊥ = cc in f)

module _ (at first i end : ℕ) (links : List Link) (ups : (j : ℕ) → j ≤ i → (link_at links j).up ≤ j)
    (tops : (j : ℕ) → j ≤ i → is_top (link_at links j).gate ≡ true → j ≡ 0)
    (above_it : (j : ℕ) → j ≤ i → is_top (link_at links j).gate ≡ false → 0 < (link_at links j).up)
    (stops : (j : ℕ) → j ≤ i → (link_at links j).gate ≡ Temporal →
    (at ≤ (link_at links j).number) × ((link_at links j).number < end)) where
  none-left : (states : List NodeState) (wakes : List ℕ) →
      LeavesOthers at first i end (record { states = states; wakes = wakes }) (record { states = states; wakes = wakes; stirs = false })
  none-left states wakes = record {
    nodes = refl;
    slots = refl;
    states = λ s out. refl;
    wakes = λ s out. refl;
    quiet = λ none. refl;
    first_told = λ none. refl;
    stirred = λ some. absurd (let f : ⊥ = cc in f);
  }

  set-leaves : (j s : ℕ) (states : List NodeState) (value : NodeState) → j ≤ i → (s < first) ⊎ (first + i < s) →
      state_at (slice_set states (first + j) value) s ≡ state_at states s
  set-leaves j s states value within out =
      let other : s ≢ first + j
      = λ e. elim out [ inl l ↦ (let f : ⊥ = omega arith in f) | inr r ↦ (let f : ⊥ = omega arith in f) ] in
      get_or-set_other states (first + j) s value unasked other

  told-leaves : (j : ℕ) (holds : Bool) (states : List NodeState) (wakes : List ℕ) → j ≤ i → first + i < length states →
      j ≡ 0 → differ (state_at states (first + j)).told holds ≡ true →
      LeavesOthers at first i end (record { states = states; wakes = wakes }) (record { states = told_in first j holds states; wakes = wakes; stirs = true })
  told-leaves j holds states wakes within room top turns = record {
    nodes = length-set states (first + j) (told_as holds (state_at states (first + j)));
    slots = refl;
    states = λ s out. set-leaves j s states (told_as holds (state_at states (first + j))) within out;
    wakes = λ s out. refl;
    quiet = λ none. refl;
    first_told = λ none. absurd (let f : ⊥ = cc in f);
    stirred = λ some.
        let here : first ≡ first + j = omega arith in
        let now : (state_at (told_in first j holds states) first).told ≡ holds
        = ap (λ k. (state_at (told_in first j holds states) k).told) here
        ∙ ap (λ (s : NodeState). s.told) (get_or-set_same states (first + j)
        (told_as holds (state_at states (first + j))) unasked (omega arith)) in
        inl (λ e. not-told (state_at states (first + j)).told holds turns
        (sym now ∙ e ∙ ap (λ k. (state_at states k).told) here));
  }

  -- a node turned, and the one above it counts it
  counted-nodes : (j above : ℕ) (holds : Bool) (states : List NodeState) → length (counted_in first j above holds states) ≡ length states
  counted-nodes j above holds states =
      let told = told_in first j holds states in
      length-set told (first + above) (counted (count_with (state_at told (first + above)).count holds) (state_at told (first + above)))
      ∙ length-set states (first + j) (told_as holds (state_at states (first + j)))

  counted-leaves : (j above s : ℕ) (holds : Bool) (states : List NodeState) → above < j → j ≤ i → (s < first) ⊎ (first + i < s) →
      state_at (counted_in first j above holds states) s ≡ state_at states s
  counted-leaves j above s holds states before within out =
      let told = told_in first j holds states in
      set-leaves above s told (counted (count_with (state_at told (first + above)).count holds) (state_at told (first + above))) (omega arith) out
      ∙ set-leaves j s states (told_as holds (state_at states (first + j))) within out

  counted-told : (j above : ℕ) (holds : Bool) (states : List NodeState) → above < j → first + above < length states →
      (state_at (counted_in first j above holds states) first).told ≡ (state_at states first).told
  counted-told j above holds states before room =
      let told = told_in first j holds states in
      let other : first ≢ first + j = λ e. (let f : ⊥ = omega arith in f) in
      let value = counted (count_with (state_at told (first + above)).count holds) (state_at told (first + above)) in
      let long : length told ≡ length states = length-set states (first + j) (told_as holds (state_at states (first + j))) in
      let own : state_at told first ≡ state_at states first = get_or-set_other states (first + j) first (told_as holds (state_at states (first + j))) unasked other in
      elim (cases_lt 0 above) [
        | inl some ↦
            (let apart : first ≢ first + above = λ e. (let f : ⊥ = omega arith in f) in
            ap (λ (s : NodeState). s.told) (get_or-set_other told (first + above) first value unasked apart ∙ own))
        | inr top ↦
            (let here : first ≡ first + above = omega arith in
            ap (λ k. (state_at (slice_set told (first + above) value) k).told) here
            ∙ ap (λ (s : NodeState). s.told) (get_or-set_same told (first + above) value unasked (omega arith))
            ∙ ap (λ k. (state_at told k).told) (sym here)
            ∙ ap (λ (s : NodeState). s.told) own)
      ]

  -- what climbs leave that start from a node up there
  Leaving : ℕ → Type 0
  Leaving fuel = (j : ℕ) (holds : Bool) (states : List NodeState) (wakes : List ℕ) → j ≤ i → first + i < length states →
      end ≤ length wakes →
      LeavesOthers at first i end (record { states = states; wakes = wakes }) (climb fuel links first j holds states wakes)

  leaving-above : (fuel : ℕ) → Leaving fuel → (j above : ℕ) (holds : Bool) (states : List NodeState) (wakes : List ℕ) →
      j ≤ i → first + i < length states → end ≤ length wakes → above < j →
      (says : Result Bool ℕ) → gate_says (link_at links j).gate (link_at links j).number
      (count_with (state_at (told_in first j holds states) (first + above)).count holds) ≡ says →
      LeavesOthers at first i end (record { states = states; wakes = wakes })
      (go_on says (λ says. climb fuel links first above says (counted_in first j above holds states) wakes)
      (λ slot. record { states = counted_in first j above holds states; wakes = slice_set wakes slot 0; stirs = true }))
  unfolding Leaving
  leaving-above fuel rest j above holds states wakes within room fits before (Ok says) is =
      let after = counted_in first j above holds states in
      let long = counted-nodes j above holds states in
      let done = rest above says after wakes (omega arith) (omega arith) fits in
      let told = counted-told j above holds states before (omega arith) in
      record {
        nodes = done.nodes ∙ long;
        slots = done.slots;
        states = λ s out. done.states s out ∙ counted-leaves j above s holds states before within out;
        wakes = done.wakes;
        quiet = done.quiet;
        first_told = λ none. done.first_told none ∙ told;
        stirred = λ some. elim (done.stirred some) [ inl turned ↦ inl (λ e. turned (e ∙ sym told)) | inr slot ↦ inr slot ];
      }
  leaving-above fuel rest j above holds states wakes within room fits before (Err slot) is =
      let (temporal, number) = stops-at (link_at links j).gate (link_at links j).number _ slot is in
      let place = stops j within temporal in
      let low : at ≤ slot = omega (arith, place.0) in
      let high : slot < end = omega (arith, place.1) in
      record {
        nodes = counted-nodes j above holds states;
        slots = length-set wakes slot 0;
        states = λ s out. counted-leaves j above s holds states before within out;
        wakes = λ s out.
            let other : s ≢ slot = λ e. elim out [ inl l ↦ (let f : ⊥ = omega arith in f) | inr r ↦ (let f : ⊥ = omega arith in f) ] in
            get_or-set_other wakes slot s 0 0 other;
        quiet = λ none. absurd (let f : ⊥ = cc in f);
        first_told = λ none. absurd (let f : ⊥ = cc in f);
        stirred = λ some. inr (slot, low, high, get_or-set_same wakes slot 0 0 (omega arith));
      }

  leaving-more : (fuel : ℕ) → Leaving fuel → (j : ℕ) (holds : Bool) (states : List NodeState) (wakes : List ℕ) → j ≤ i →
      first + i < length states → end ≤ length wakes →
      (turns top : Bool) → differ (state_at states (first + j)).told holds ≡ turns → is_top (link_at links j).gate ≡ top →
      LeavesOthers at first i end (record { states = states; wakes = wakes }) (climb (suc fuel) links first j holds states wakes)
  leaving-more fuel rest j holds states wakes within room fits false top is gate =
      subst (LeavesOthers at first i end (record { states = states; wakes = wakes })) (sym (climb-same fuel links first j holds states wakes is)) (none-left states wakes)
  leaving-more fuel rest j holds states wakes within room fits true true is gate =
      subst (LeavesOthers at first i end (record { states = states; wakes = wakes }))
      (sym (climb-first fuel links first j holds states wakes is gate))
      (told-leaves j holds states wakes within room (tops j within gate) is)
  leaving-more fuel rest j holds states wakes within room fits true false is gate =
      let above : ℕ = j - (link_at links j).up in
      let far = ups j within in
      let some = above_it j within gate in
      let before : above < j = omega arith in
      let up : (link_at links j).up + above ≡ j = omega arith in
      subst (LeavesOthers at first i end (record { states = states; wakes = wakes }))
      (sym (climb-above fuel links first j above holds states wakes is gate up))
      (leaving-above fuel rest j above holds states wakes within room fits before
      (gate_says (link_at links j).gate (link_at links j).number
      (count_with (state_at (told_in first j holds states) (first + above)).count holds)) refl)

  leaving : (fuel : ℕ) → Leaving fuel
  unfolding Leaving climb
  leaving zero j holds states wakes within room fits = none-left states wakes
  leaving (suc fuel) j holds states wakes within room fits =
      leaving-more fuel (leaving fuel) j holds states wakes within room fits
      (differ (state_at states (first + j)).told holds) (is_top (link_at links j).gate) refl refl

-- a climb leaves all that stands behind the node that it starts from, with the slots from this node's place on, and all
-- outside the condition
pub climb-leaves : (c : Tree) (at first i : ℕ) (x : Part) (n : NodeMemory) (links : List Link) (now : Bool) → AreLinked links n c at first → Heads c at i x →
    LeavesOthers at first i x.at n (climb (suc i) links first i now n.states n.wakes)
unfolding Leaving
climb-leaves c at first i x n links now ready heads =
    let within = heads-within c at i x heads in
    let own = slots-within at 0 c i x heads in
    leaving at first i x.at links
    (λ j low.
    let one = heads-one c at j (omega arith) in
    let far = heads-up c at j one.0 one.1 in
    let up = link-up c at first n links ready j one.0 one.1 in
    omega arith)
    (λ j low top. elim (link-kind c at first n links ready j (omega arith)) [
      | inl first_one ↦ first_one.0
      | inr b ↦
          let e = sym top ∙ ap is_top b.gate ∙ gate-below (node_at b.part.at b.part.tree) in
          absurd (let f : ⊥ = cc in f)
    ])
    (λ j low below. elim (link-kind c at first n links ready j (omega arith)) [
      | inl first_one ↦ absurd (let f : ⊥ = (let e = sym below ∙ ap is_top first_one.1 in cc) in f)
      | inr b ↦ omega (arith, b.far, b.before)
    ])
    (λ j low is. elim (link-kind c at first n links ready j (omega arith)) [
      | inl first_one ↦ absurd (let f : ⊥ = (let e = sym first_one.1 ∙ is in cc) in f)
      | inr b ↦
          let place = slot-of b.part.tree b.part.at (sym b.gate ∙ is) in
          let number : (link_at links j).number ≡ b.part.at = b.number ∙ sym place.1 in
          let from = slots-within at 0 c b.above b.part b.heads in
          let rise = slots-rise c at b.above i b.part x b.heads heads (omega (arith, b.before)) place.0 in
          (omega (arith, number, from.0), omega (arith, number))
    ])
    (suc i) i now n.states n.wakes (omega arith) (omega (arith, ready.held.nodes)) (omega (arith, own.1, ready.held.slots))
