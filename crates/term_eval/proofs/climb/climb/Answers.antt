use Rattle.std.proofs.Common.{◌≡◌, ◌≢◌, ℕ, suc, ◌+◌, ◌-◌, ◌<◌, ◌≤◌, Bool, true, false, List, length, Result, Ok, Err, rules, refl, sym, ◌∙◌, ap, arith}
use Rattle.std.specs.Prelude.{slice_set}
use Rattle.std.proofs.lemmas.List.{length-set}
use Rattle.std.proofs.lemmas.Option.{slice_get-get_or}
use Rattle.term_eval.specs.declared.nodes.NodeState.{NodeState}
use Rattle.term_eval.specs.declared.link.Link.{Link}
use Rattle.term_eval.specs.declared.link.Gate.{Gate}
use Rattle.term_eval.specs.declared.link.Gate.TheVariants.{Temporal, Top}
use Rattle.term_eval.specs.Slots.{wakes_of}
use Rattle.term_eval.specs.Climb.{Climbed, climb, count_with, gate_says, is_top, go_on, link_at, told_as, counted, CanClimb}
use Rattle.term_eval.specs.NodeState.{state_at}
use Rattle.term_eval.specs.Woken.{differ}
use Rattle.term_eval.proofs.ClimbSteps.{told_in, climb-same, climb-first, climb-above, turns-by, no-top}
use Rattle.term_eval.proofs.climb.climb.Goals as goal

-- a link is one of the condition's
module _ (links : List Link) (first nodes slots i : ℕ) (link : Link) (can : CanClimb links first nodes slots)
    (within : i < length links) (is : link ≡ link_at links i) where
  up-within : link.up ≤ i
  up-within = let far = can.ups i (link_at links i) (slice_get-get_or links i _ within) in
      let e = ap (λ (l : Link). l.up) is in omega arith

  up-some : link.gate ≢ Top → 0 < link.up
  up-some below =
      let e = ap (λ (l : Link). l.up) is in
      let some = can.above i (link_at links i) (slice_get-get_or links i _ within)
      (λ top. below (ap (λ (l : Link). l.gate) is ∙ top)) in
      omega arith

  slot-within : link.gate ≡ Temporal → link.number < slots
  slot-within temporal =
      let e = ap (λ (l : Link). l.number) is in
      let room = can.held i (link_at links i) (slice_get-get_or links i _ within)
      (sym (ap (λ (l : Link). l.gate) is) ∙ temporal) in
      omega arith

-- one step of a climb for which there is fuel
module _ (fuel : ℕ) (links : List Link) (first i : ℕ) (holds : Bool) (states : List NodeState) (wakes : List ℕ) (some : i < fuel) where
  fueled : climb fuel links first i holds states wakes ≡ climb (suc (fuel - 1)) links first i holds states wakes
  fueled = ap (λ k. climb k links first i holds states wakes) (let e : fuel ≡ suc (fuel - 1) = omega arith in e)

  ends-same : differ (state_at states (first + i)).told holds ≡ false →
      record { states = states; wakes = wakes; stirs = false } ≡ climb fuel links first i holds states wakes
  ends-same same = sym (fueled ∙ climb-same (fuel - 1) links first i holds states wakes same)

  module _ (link : Link) (is : link ≡ link_at links i) (turns : differ (state_at states (first + i)).told holds ≡ true) where
    ends-first : link.gate ≡ Top → record { states = told_in first i holds states; wakes = wakes; stirs = true }
        ≡ climb fuel links first i holds states wakes
    ends-first top =
        sym (fueled ∙ climb-first (fuel - 1) links first i holds states wakes turns
        (sym (ap (λ (l : Link). is_top l.gate) is) ∙ ap is_top top))

    -- with what is counted above
    abbrev counting : ℕ → ℕ → List NodeState
    counting above count = slice_set (told_in first i holds states) (first + above)
        (counted count (state_at (told_in first i holds states) (first + above)))

    abbrev next : ℕ → ℕ → Result Bool ℕ → Climbed
    next above count says =
        go_on says (λ now. climb (fuel - 1) links first above now (counting above count) wakes)
        (λ slot. record { states = counting above count; wakes = slice_set wakes slot 0; stirs = true })

    goes-on : (above count : ℕ) (says : Result Bool ℕ) → link.gate ≢ Top → link.up + above ≡ i →
        count ≡ count_with (state_at (told_in first i holds states) (first + above)).count holds →
        gate_says link.gate link.number count ≡ says →
        next above count says ≡ climb fuel links first i holds states wakes
    goes-on above count says below up counts told =
        let far = ap (λ (l : Link). l.up) is in
        ap (next above count) (sym told)
        ∙ ap (λ (l : Link). next above count (gate_says l.gate l.number count)) is
        ∙ ap (λ m. next above m (gate_says (link_at links i).gate (link_at links i).number m)) counts
        ∙ sym (fueled ∙ climb-above (fuel - 1) links first i above holds states wakes turns
        (sym (ap (λ (l : Link). is_top l.gate) is) ∙ no-top link.gate below) (omega arith))

pub returns-then-states-first-clause-climbs : goal.returns-then-states-first-clause-climbs
returns-then-states-first-clause-climbs c =
    ends-same (c.args.node + 1) c.args.links.now c.args.first c.args.node c.args.holds c.args.states.now (wakes_of c.args.slots.now)
    (omega arith)
    (turns-by (state_at c.args.states.now (c.args.first + c.args.node)).told c.args.holds true c.if-states-first.true)

pub up-init : goal.up-init
up-init c = record {
  within = c.requires.node;
  link = c.requires.link;
  turns = turns-by (state_at c.args.states.now (c.args.first + c.args.node)).told c.args.holds false c.if-states-first.false;
  nodes = refl;
  kept = refl;
  rest = (c.args.node + 1, (omega arith), refl);
}

pub returns-then-eq-clause-climbs : goal.returns-then-eq-clause-climbs
returns-then-eq-clause-climbs c =
    let l = c.up in
    let top : l.link.gate ≡ Top = search rules in
    ends-first l.invariant.rest.0 c.args.links.now c.args.first l.node l.holds l.states (wakes_of l.slots) l.invariant.rest.1 l.link l.invariant.link l.invariant.turns top
    ∙ l.invariant.rest.2

pub overflow_sub-node : goal.overflow_sub-node
overflow_sub-node c =
    let l = c.up in
    let far = c.from-node.ensures in
    let up = up-within c.args.links.now c.args.first _ _ l.node l.link c.requires.can l.invariant.within l.invariant.link in
    omega arith

pub up-smaller : goal.up-smaller
up-smaller c =
    let l = c.up in
    let below : l.link.gate ≢ Top = search rules in
    let far = c.from-node.ensures in
    let up = up-within c.args.links.now c.args.first _ _ l.node l.link c.requires.can l.invariant.within l.invariant.link in
    let some = up-some c.args.links.now c.args.first _ _ l.node l.link c.requires.can l.invariant.within l.invariant.link below in
    omega arith

pub keep_wake-requires : goal.keep_wake-requires
keep_wake-requires c =
    let l = c.up in
    let temporal : l.link.gate ≡ Temporal = search rules in
    let slot = slot-within c.args.links.now c.args.first _ _ l.node l.link c.requires.can l.invariant.within l.invariant.link temporal in
    let long = ap length l.invariant.kept in
    omega arith

pub returns-then-eq-2-clause-climbs : goal.returns-then-eq-2-clause-climbs
returns-then-eq-2-clause-climbs c =
    let l = c.up in
    let temporal : l.link.gate ≡ Temporal = search rules in
    let below : l.link.gate ≢ Top = search rules in
    let far = c.from-node.ensures in
    let up = up-within c.args.links.now c.args.first _ _ l.node l.link c.requires.can l.invariant.within l.invariant.link in
    let above : ℕ = l.node - c.from-node.result in
    let told = told_in c.args.first l.node l.holds l.states in
    let after = slice_set told (c.args.first + above) (counted c.count_with-count.result (state_at told (c.args.first + above))) in
    ap (λ wakes. record { states = after; wakes = wakes; stirs = true }) c.keep_wake.ensures.wakes
    ∙ goes-on l.invariant.rest.0 c.args.links.now c.args.first l.node l.holds l.states (wakes_of l.slots) l.invariant.rest.1 l.link l.invariant.link l.invariant.turns above
    c.count_with-count.result (Err l.link.number) below (omega arith) c.count_with-count.ensures
    (ap (λ (g : Gate). gate_says g l.link.number c.count_with-count.result) temporal)
    ∙ l.invariant.rest.2

pub returns-then-states-first-2-clause-climbs : goal.returns-then-states-first-2-clause-climbs
returns-then-states-first-2-clause-climbs c =
    let l = c.up in
    let below : l.link.gate ≢ Top = search rules in
    let far = c.from-node.ensures in
    let links = c.args.links.now in
    let up = up-within links c.args.first _ _ l.node l.link c.requires.can l.invariant.within l.invariant.link in
    let some = up-some links c.args.first _ _ l.node l.link c.requires.can l.invariant.within l.invariant.link below in
    let above : ℕ = l.node - c.from-node.result in
    let fuel = l.invariant.rest.0 in
    let after = counting fuel links c.args.first l.node l.holds l.states (wakes_of l.slots) l.invariant.rest.1 l.link l.invariant.link l.invariant.turns above c.count_with-count.result in
    ends-same (fuel - 1) links c.args.first above c.gate_says-holds.result after (wakes_of l.slots)
    (let more = l.invariant.rest.1 in omega arith)
    (turns-by (state_at after (c.args.first + above)).told c.gate_says-holds.result true c.if-states-first-2.true)
    ∙ goes-on fuel links c.args.first l.node l.holds l.states (wakes_of l.slots) l.invariant.rest.1 l.link l.invariant.link l.invariant.turns above
    c.count_with-count.result (Ok c.gate_says-holds.result) below
    (omega arith) c.count_with-count.ensures c.gate_says-holds.ensures
    ∙ l.invariant.rest.2

pub up-preserved : goal.up-preserved
up-preserved c =
    let l = c.up in
    let below : l.link.gate ≢ Top = search rules in
    let far = c.from-node.ensures in
    let links = c.args.links.now in
    let up = up-within links c.args.first _ _ l.node l.link c.requires.can l.invariant.within l.invariant.link in
    let some = up-some links c.args.first _ _ l.node l.link c.requires.can l.invariant.within l.invariant.link below in
    let above : ℕ = l.node - c.from-node.result in
    let within = l.invariant.within in
    let fuel = l.invariant.rest.0 in
    let more = l.invariant.rest.1 in
    let told = told_in c.args.first l.node l.holds l.states in
    let after = counting fuel links c.args.first l.node l.holds l.states (wakes_of l.slots) l.invariant.rest.1 l.link l.invariant.link l.invariant.turns above c.count_with-count.result in
    record {
      within = (let e : above < length links = omega arith in e);
      link = refl;
      turns = turns-by (state_at after (c.args.first + above)).told c.gate_says-holds.result false c.if-states-first-2.false;
      nodes = length-set told (c.args.first + above) (counted c.count_with-count.result (state_at told (c.args.first + above)))
          ∙ length-set l.states (c.args.first + l.node) (told_as l.holds (state_at l.states (c.args.first + l.node))) ∙ l.invariant.nodes;
      kept = l.invariant.kept;
      rest = (
        fuel - 1,
        (let e : above < fuel - 1 = omega arith in e),
        goes-on fuel links c.args.first l.node l.holds l.states (wakes_of l.slots) l.invariant.rest.1 l.link l.invariant.link l.invariant.turns above
            c.count_with-count.result (Ok c.gate_says-holds.result) below
            (omega arith) c.count_with-count.ensures c.gate_says-holds.ensures
            ∙ l.invariant.rest.2,
      );
    }
