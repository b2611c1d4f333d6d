use Rattle.std.proofs.Common.{ℕ, length, refl, sym, subst, ap, ◌∙◌, arith}
use Rattle.std.specs.Vec.{with_items}
use Rattle.std.proofs.lemmas.List.{with_items_is, get_or_default}
use Rattle.ecam_spec.specs.Book.{Tree}
use Rattle.term_eval.specs.declared.nodes.NodeState.{NodeState}
use Rattle.term_eval.specs.NodeState.{unasked}
use Rattle.term_eval.specs.CellWords.{never}
use Rattle.term_eval.specs.Slots.{wakes_of, cells_of, owners_of}
use Rattle.term_eval.specs.Memory.{Memory}
use Rattle.term_eval.specs.Code.{IsReady}
use Rattle.term_eval.specs.Run.{Run}
use Rattle.term_eval.specs.Begin.{ask_over, unasked_from, AllCanAsk}
use Rattle.term_eval.proofs.Codes.{nodes-some}
use Rattle.term_eval.proofs.AskedTree.{After}
use Rattle.term_eval.proofs.Seen.{seen}
use Rattle.term_eval.proofs.SameRun.{same-run}
use Rattle.term_eval.proofs.Begun.{start, can-ready, room-ready, begun, done, due, nodes-stand, is-first, within}
use Rattle.term_eval.proofs.cells.Cells.begin.Goals as goal

pub ask_all-due-requires-clause-can : goal.ask_all-due-requires-clause-can
ask_all-due-requires-clause-can c =
    let (tree, at, ready, names) = c.requires.ready in
    let states = ap length (c.deref_mut.ensures.value ∙ ap (λ (m : Memory). m.nodes.states) c.self.view_is) in
    let s = seen _ _ _ _ _ c.deref_mut-2.ensures.value c.self.view_is in
    subst (λ k. AllCanAsk c.args.env.now k (length c.deref_mut-2.result.now) (length c.deref_mut-2.result.now) c.args.first c.args.steps.now) (sym states)
    (subst (λ k. AllCanAsk c.args.env.now (length c.args.self.now.nodes.states) k (length c.deref_mut-2.result.now) c.args.first c.args.steps.now) (sym s.many_wakes)
    (subst (λ k. AllCanAsk c.args.env.now (length c.args.self.now.nodes.states) (length c.args.self.now.nodes.wakes) k c.args.first c.args.steps.now) (sym s.many_cells)
    (can-ready c.args.env.now c.args.steps.now c.args.self.now tree at c.args.first ready names)))

pub ask_all-due-requires-clause-room : goal.ask_all-due-requires-clause-room
ask_all-due-requires-clause-room c =
    let (tree, at, ready, names) = c.requires.ready in
    let states = ap length (c.deref_mut.ensures.value ∙ ap (λ (m : Memory). m.nodes.states) c.self.view_is) in
    omega (arith, states, room-ready c.args.env.now c.args.steps.now c.args.self.now tree at c.args.first ready)

pub index-requires : goal.index-requires
index-requires c =
    let (tree, at, ready, names) = c.requires.ready in
    let len = ap (λ (m : Memory). length m.nodes.states) c.self.view_is in
    let own = c.self.inside.states.items.ok.0 in
    omega (arith, ready.held.nodes, nodes-some tree, len, own)

-- what is kept when the nodes were asked
last : goal.After-index → Run
last c = record {
  states = (with_items c.self.inside.states.items c.ask_all-due.new.states).items;
  wakes = wakes_of (with_items c.self.inside.slots.items c.ask_all-due.new.slots).items;
  cells = cells_of (with_items c.self.inside.slots.items c.ask_all-due.new.slots).items;
  due = c.ask_all-due.result;
}

after : (c : goal.After-index) (tree : Tree) (at : ℕ) → IsReady c.args.steps.now c.args.self.now tree at c.args.first →
    After c.args.env.now tree at c.args.first 0 (start c.args.first (length c.args.steps.now) c.args.self.now) (last c)
unfolding last
after c tree at ready =
    let (t, a, is-ready, names) = c.requires.ready in
    let states = c.deref_mut.ensures.value ∙ ap (λ (m : Memory). m.nodes.states) c.self.view_is in
    let s = seen _ _ _ _ _ c.deref_mut-2.ensures.value c.self.view_is in
    let new-states = with_items_is c.self.inside.states.items c.ask_all-due.new.states (c.ask_all-due.auto.states ∙ ap length c.deref_mut.ensures.value ∙ sym c.self.inside.states.items.ok.0) in
    let new-slots = with_items_is c.self.inside.slots.items c.ask_all-due.new.slots (c.ask_all-due.auto.slots ∙ ap length c.deref_mut-2.ensures.value ∙ sym c.self.inside.slots.items.ok.0) in
    let count = length c.args.steps.now in
    let from = start c.args.first count c.args.self.now in
    let was : Run = record { states = unasked_from c.args.first count c.deref_mut.result.now; wakes = wakes_of c.deref_mut-2.result.now; cells = cells_of c.deref_mut-2.result.now; due = never } in
    subst (After c.args.env.now tree at c.args.first 0 from)
    (sym (ap (ask_over c.args.env.now c.args.first c.args.steps.now) (same-run was from (ap (unasked_from c.args.first count) states) s.wakes s.cells refl))
    ∙ sym c.ask_all-due.ensures.asks
    ∙ sym (same-run (last c) (record { states = c.ask_all-due.new.states; wakes = wakes_of c.ask_all-due.new.slots; cells = cells_of c.ask_all-due.new.slots; due = c.ask_all-due.result }) new-states (ap wakes_of new-slots) (ap cells_of new-slots) refl))
    (begun c.args.env.now c.args.steps.now c.args.self.now tree at c.args.first ready
    (can-ready c.args.env.now c.args.steps.now c.args.self.now t a c.args.first is-ready names))

pub returns-clause-truth : goal.returns-clause-truth
unfolding last
returns-clause-truth c tree at ready w shows stands =
    let a = after c tree at ready in
    let d = done _ _ _ _ _ _ ready _ a w shows stands in
    let b = within _ _ _ _ _ _ ready _ a in
    ap (λ (n : NodeState). n.told) (c.index.ensures ∙ get_or_default _ c.args.first c.index.result.now unasked (omega (arith, b.nodes, ready.held.nodes, nodes-some tree)))
    ∙ d.told

pub returns-clause-due : goal.returns-clause-due
unfolding last
returns-clause-due c tree at ready w shows stands =
    let a = after c tree at ready in
    due _ _ _ _ _ _ ready _ a w (done _ _ _ _ _ _ ready _ a w shows stands)

pub returns-clause-wake : goal.returns-clause-wake
unfolding last
returns-clause-wake c tree at ready = is-first _ _ _ _ _ _ ready _ (after c tree at ready)

pub returns-clause-stands : goal.returns-clause-stands
unfolding last
returns-clause-stands c tree at ready w shows stands = (done _ _ _ _ _ _ ready _ (after c tree at ready) w shows stands).cells

pub returns-clause-nodes : goal.returns-clause-nodes
unfolding last
returns-clause-nodes c tree at ready w shows stands =
    let a = after c tree at ready in
    nodes-stand _ _ _ _ _ _ ready _ a w (done _ _ _ _ _ _ ready _ a w shows stands)

pub returns-clause-within : goal.returns-clause-within
unfolding last
returns-clause-within c tree at ready = within _ _ _ _ _ _ ready _ (after c tree at ready)

pub returns-clause-before : goal.returns-clause-before
unfolding last
returns-clause-before c tree at ready i low = (after c tree at ready).frame.cells_before i low

pub returns-clause-behind : goal.returns-clause-behind
unfolding last
returns-clause-behind c tree at ready i high = (after c tree at ready).frame.cells_behind i high

pub returns-clause-owners : goal.returns-clause-owners
returns-clause-owners c =
    ap owners_of (with_items_is c.self.inside.slots.items c.ask_all-due.new.slots (c.ask_all-due.auto.slots ∙ ap length c.deref_mut-2.ensures.value ∙ sym c.self.inside.slots.items.ok.0))
    ∙ c.ask_all-due.ensures.owners
    ∙ (seen _ _ _ _ _ c.deref_mut-2.ensures.value c.self.view_is).owners
