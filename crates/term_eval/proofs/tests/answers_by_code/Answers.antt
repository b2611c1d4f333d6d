use Rattle.std.proofs.Common.{rules, ℕ, ◌≡◌, ◌≤◌, [], ◌++◌, List, length, ap, subst, sym, ◌∙◌, arith}
use Rattle.ecam_spec.specs.Book.{Tree}
use Rattle.ecam_spec.specs.TermSize.{slots}
use Rattle.term_tree.specs.View.{tree_of}
use Rattle.term_eval.specs.declared.code.Step.{Step}
use Rattle.term_eval.specs.declared.link.Link.{Link}
use Rattle.term_eval.specs.declared.owner.Owner.{Owner}
use Rattle.term_eval.specs.Memory.{Memory, NodeMemory}
use Rattle.term_eval.specs.Code.{code, owners, IsCode, IsReady}
use Rattle.term_eval.specs.Links.{links_from}
use Rattle.term_eval.specs.Linked.{AreOwned, CanRun}
use Rattle.term_eval.proofs.Codes.{length-code}
use Rattle.term_eval.proofs.OwnSlots.{length-owners}
use Rattle.term_eval.proofs.tests.answers_by_code.Goals as goal

-- a condition of no more than two slots has room
has-room : (c : Tree) (steps now : List Step) (m : Memory) → IsCode c 0 steps → now ≡ steps → slots c ≤ 2 → length m.slots ≡ 2 → length m.nodes.states ≡ length steps → length m.nodes.wakes ≡ 2 →
    IsReady now m c 0 0
has-room c steps now m code same few cells states wakes =
    let len = ap length code.is ∙ length-code c 0 0 in
    record {
      held = record { code = subst (IsCode c 0) (sym same) code; nodes = omega (arith, len, states); slots = omega (arith, few, wakes) };
      range = omega (arith, few, cells);
    }

-- what was gathered of the steps as they were lent is of the steps
gathered : {A : Type 0} (of : List Step → List A) (now items none : List A) (steps first : List Step) → now ≡ items →
    items ≡ none ++ of first → none ≡ [] → first ≡ steps → now ≡ of steps
gathered of now items none steps first lent is empty once = lent ∙ is ∙ ap (λ l. l ++ of first) empty ∙ ap of once

-- how many nodes are read of its code
many : (c : Tree) (steps : List Step) (own : List Owner) → IsCode c 0 steps → own ≡ owners 0 steps → length own ≡ slots c
many c steps own of_it is = ap length is ∙ ap (λ l. length (owners 0 l)) of_it.is ∙ length-owners c 0

-- the condition can be run by what was gathered of its code
can-run : (c : Tree) (steps : List Step) (own : List Link) (n : ℕ) (temporal : List Owner) (m : Memory) →
    IsCode c 0 steps → own ≡ links_from steps → temporal ≡ owners 0 steps → n ≡ length temporal → AreOwned m.owners 0 (owners 0 steps) → slots c ≤ 2 →
    length m.slots ≡ 2 → length m.nodes.states ≡ length steps → length m.nodes.wakes ≡ 2 → CanRun own n m c 0 0
can-run c steps own n temporal m of_it links by is owned few cells states wakes =
    let ready = has-room c steps (code 0 0 c) m of_it (sym of_it.is) few cells states wakes in
    record {
      linked = record { links = links ∙ ap links_from of_it.is; held = ready.held };
      count = is ∙ many c steps temporal of_it by;
      owners = subst (λ l. AreOwned m.owners 0 (owners 0 l)) of_it.is owned;
      range = ready.range;
    }

pub add_owners-requires : goal.add_owners-requires
add_owners-requires c =
    let code = c.in_ok-steps.ensures in
    omega (arith, ap length c.deref-2.ensures.value, ap length code.is, length-code (tree_of c.args.cond.now) 0 0, code.small)

pub own-requires : goal.own-requires
own-requires c =
    let long = many (tree_of c.args.cond.now) c.in_ok-steps.steps.items c.deref-3.result.now c.in_ok-steps.ensures
    (gathered (owners 0) _ _ _ _ _ c.deref-3.ensures.value c.in_ok-add_owners.ensures c.new-owners.ensures.items c.deref-2.ensures.value) in
    omega (arith, long, c.requires.few, c.in_ok-cells.ensures.len)

pub begin-first-requires-clause-ready : goal.begin-first-requires-clause-ready
begin-first-requires-clause-ready c =
    let states : length c.in_ok-cells.cells.nodes.states ≡ length c.in_ok-steps.steps.items = search rules in (
      tree_of c.args.cond.now,
      0,
      has-room (tree_of c.args.cond.now) c.in_ok-steps.steps.items c.deref-4.result.now c.own.new.self c.in_ok-steps.ensures c.deref-4.ensures.value c.requires.few
          (ap length c.own.ensures.slots ∙ c.in_ok-cells.ensures.len) (ap (λ (n : NodeMemory). length n.states) c.own.ensures.nodes ∙ states)
          (ap (λ (n : NodeMemory). length n.wakes) c.own.ensures.nodes ∙ c.in_ok-cells.ensures.wakes),
      rw c.values_in-values.ensures c.requires.names,
    )

pub loop-moment-init : goal.loop-moment-init
loop-moment-init c =
    let states : length c.in_ok-cells.cells.nodes.states ≡ length c.in_ok-steps.steps.items = search rules in
    let ready = has-room (tree_of c.args.cond.now) c.in_ok-steps.steps.items c.deref-4.result.now c.own.new.self c.in_ok-steps.ensures c.deref-4.ensures.value c.requires.few
    (ap length c.own.ensures.slots ∙ c.in_ok-cells.ensures.len) (ap (λ (n : NodeMemory). length n.states) c.own.ensures.nodes ∙ states)
    (ap (λ (n : NodeMemory). length n.wakes) c.own.ensures.nodes ∙ c.in_ok-cells.ensures.wakes) in
    let within = c.begin-first.ensures.within (tree_of c.args.cond.now) 0 ready in
    record {
      cells = c.begin-first.ensures.len ∙ ap length c.own.ensures.slots ∙ c.in_ok-cells.ensures.len;
      states = within.nodes ∙ ap (λ (n : NodeMemory). length n.states) c.own.ensures.nodes ∙ states;
      wakes = within.slots ∙ ap (λ (n : NodeMemory). length n.wakes) c.own.ensures.nodes ∙ c.in_ok-cells.ensures.wakes;
      owners = subst (λ all. AreOwned all 0 (owners 0 c.in_ok-steps.steps.items)) (sym c.begin-first.ensures.owners)
          (subst (AreOwned c.own.new.self.owners 0) (gathered (owners 0) _ _ _ _ _ c.deref-3.ensures.value c.in_ok-add_owners.ensures c.new-owners.ensures.items c.deref-2.ensures.value) c.own.ensures.owned);
    }

pub hear-requires-clause-held : goal.hear-requires-clause-held
hear-requires-clause-held c =
    let i = c.loop-moment.invariant in (
      tree_of c.args.cond.now,
      (has-room (tree_of c.args.cond.now) c.in_ok-steps.steps.items c.deref-in-loop-moment.result.now c.loop-moment.cells c.in_ok-steps.ensures c.deref-in-loop-moment.ensures.value
          c.requires.few i.cells i.states i.wakes).held,
    )

pub hear-requires-clause-links : goal.hear-requires-clause-links
hear-requires-clause-links c =
    gathered links_from _ _ _ _ _ c.deref-in-loop-moment-2.ensures.value c.in_ok-add_links.ensures c.new-links.ensures.items c.deref.ensures.value
    ∙ ap links_from (sym c.deref-in-loop-moment.ensures.value)

pub run-turn-requires-clause-ready : goal.run-turn-requires-clause-ready
run-turn-requires-clause-ready c =
    let i = c.loop-moment.invariant in
    let runs = can-run (tree_of c.args.cond.now) c.in_ok-steps.steps.items c.deref-in-loop-moment-3.result.now c.len-in-loop-moment.result c.deref-3.result.now c.hear.new.cells c.in_ok-steps.ensures
    (gathered links_from _ _ _ _ _ c.deref-in-loop-moment-3.ensures.value c.in_ok-add_links.ensures c.new-links.ensures.items c.deref.ensures.value)
    (gathered (owners 0) _ _ _ _ _ c.deref-3.ensures.value c.in_ok-add_owners.ensures c.new-owners.ensures.items c.deref-2.ensures.value)
    (c.len-in-loop-moment.ensures ∙ sym c.deref-3.ensures.len)
    (subst (λ all. AreOwned all 0 (owners 0 c.in_ok-steps.steps.items)) (sym c.hear.ensures.owners) i.owners)
    c.requires.few (ap length c.hear.ensures.slots ∙ i.cells) (c.hear.ensures.states ∙ i.states) (c.hear.ensures.wakes ∙ i.wakes) in
    (tree_of c.args.cond.now, runs)

pub loop-moment-preserved : goal.loop-moment-preserved
loop-moment-preserved c =
    let i = c.loop-moment.invariant in
    let runs = can-run (tree_of c.args.cond.now) c.in_ok-steps.steps.items c.deref-in-loop-moment-3.result.now c.len-in-loop-moment.result c.deref-3.result.now c.hear.new.cells c.in_ok-steps.ensures
    (gathered links_from _ _ _ _ _ c.deref-in-loop-moment-3.ensures.value c.in_ok-add_links.ensures c.new-links.ensures.items c.deref.ensures.value)
    (gathered (owners 0) _ _ _ _ _ c.deref-3.ensures.value c.in_ok-add_owners.ensures c.new-owners.ensures.items c.deref-2.ensures.value)
    (c.len-in-loop-moment.ensures ∙ sym c.deref-3.ensures.len)
    (subst (λ all. AreOwned all 0 (owners 0 c.in_ok-steps.steps.items)) (sym c.hear.ensures.owners) i.owners)
    c.requires.few (ap length c.hear.ensures.slots ∙ i.cells) (c.hear.ensures.states ∙ i.states) (c.hear.ensures.wakes ∙ i.wakes) in
    let within = c.run-turn.ensures.within (tree_of c.args.cond.now) runs in
    record {
      cells = c.run-turn.ensures.len ∙ ap length c.hear.ensures.slots ∙ i.cells;
      states = within.nodes ∙ c.hear.ensures.states ∙ i.states;
      wakes = within.slots ∙ c.hear.ensures.wakes ∙ i.wakes;
      owners = subst (λ all. AreOwned all 0 (owners 0 c.in_ok-steps.steps.items)) (sym (c.run-turn.ensures.owners ∙ c.hear.ensures.owners)) i.owners;
    }
