use Rattle.std.proofs.Common.{◌≡◌, ℕ, suc, ◌+◌, length, take, drop, inl, inr, refl, sym, subst, ap, ◌∙◌, arith}
use Rattle.std.specs.Vec.{with_items}
use Rattle.std.proofs.lemmas.List.{with_items_is, get_or_default}
use Rattle.ecam_spec.specs.Book.{Tree}
use Rattle.ecam_spec.specs.Term.{World}
use Rattle.ecam_spec.specs.TermSize.{nodes, slots}
use Rattle.term_eval.specs.declared.nodes.NodeState.{NodeState}
use Rattle.term_eval.specs.CellWords.{never}
use Rattle.term_eval.specs.CellState.{Stand}
use Rattle.term_eval.specs.Asked.{heard}
use Rattle.term_eval.specs.Woken.{moved}
use Rattle.term_eval.specs.Slots.{wakes_of, cells_of, owners_of}
use Rattle.term_eval.specs.Memory.{Memory}
use Rattle.term_eval.specs.Linked.{CanRun}
use Rattle.term_eval.specs.NodeState.{unasked, NodesWait}
use Rattle.term_eval.specs.Run.{Run, pass_over}
use Rattle.term_eval.proofs.Codes.{nodes-some}
use Rattle.term_eval.proofs.OwnSlots.{own-slots, can-pass-lent}
use Rattle.term_eval.proofs.PassFrame.{Framed}
use Rattle.term_eval.proofs.Seen.{seen}
use Rattle.term_eval.proofs.SameRun.{same-run}
use Rattle.term_eval.proofs.Ran.{fresh, ran, ran-frame, Done, done}
use Rattle.term_eval.proofs.cells.Cells.run.Goals as goal

pub pass-due-requires-clause-range : goal.pass-due-requires-clause-range
pass-due-requires-clause-range c =
    let (tree, can) = c.requires.ready in
    let s = seen _ _ _ _ _ c.deref_mut-2.ensures.value c.self.view_is in
    omega (arith, can.range, can.count, s.many_cells)

pub pass-due-requires-clause-can : goal.pass-due-requires-clause-can
pass-due-requires-clause-can c =
    let (tree, can) = c.requires.ready in
    let states = c.deref_mut.ensures.value ∙ ap (λ (m : Memory). m.nodes.states) c.self.view_is in
    can-pass-lent c.args.links.now c.args.count c.args.self.now tree c.args.at c.args.first can _
    (seen _ _ _ _ _ c.deref_mut-2.ensures.value c.self.view_is) _ states

pub index-requires : goal.index-requires
index-requires c =
    let (tree, can) = c.requires.ready in
    let len = ap (λ (m : Memory). length m.nodes.states) c.self.view_is in
    let own = c.self.inside.states.items.ok.0 in
    omega (arith, can.linked.held.nodes, nodes-some tree, len, own)

-- what is kept when the temporal nodes were gone through
last : goal.After-index → Run
last c = record {
  states = (with_items c.self.inside.states.items c.pass-due.new.states).items;
  wakes = wakes_of (with_items c.self.inside.slots.items c.pass-due.new.slots).items;
  cells = cells_of (with_items c.self.inside.slots.items c.pass-due.new.slots).items;
  due = c.pass-due.result;
}

-- and what the pass gave
passed : goal.After-index → Run
passed c = record { states = c.pass-due.new.states; wakes = wakes_of c.pass-due.new.slots; cells = cells_of c.pass-due.new.slots; due = c.pass-due.result }

abbrev Runs : goal.After-index → Tree → Type 0
Runs c tree = CanRun c.args.links.now c.args.count c.args.self.now tree c.args.at c.args.first

after : (c : goal.After-index) (tree : Tree) (can : Runs c tree) →
    ran c.args.now c.args.links.now c.args.count c.args.self.now tree c.args.at c.args.first can
    ≡ last c
unfolding last passed
after c tree can =
    let a = c.args in
    let states = c.deref_mut.ensures.value ∙ ap (λ (m : Memory). m.nodes.states) c.self.view_is in
    let s = seen _ _ _ _ _ c.deref_mut-2.ensures.value c.self.view_is in
    let new-states = with_items_is c.self.inside.states.items c.pass-due.new.states (c.pass-due.auto.states ∙ ap length c.deref_mut.ensures.value ∙ sym c.self.inside.states.items.ok.0) in
    let new-slots = with_items_is c.self.inside.slots.items c.pass-due.new.slots (c.pass-due.auto.slots ∙ ap length c.deref_mut-2.ensures.value ∙ sym c.self.inside.slots.items.ok.0) in
    let was : Run = record { states = c.deref_mut.result.now; wakes = wakes_of c.deref_mut-2.result.now; cells = cells_of c.deref_mut-2.result.now; due = never } in
    ap (λ os. pass_over a.now a.links.now a.first os a.at (fresh a.self.now))
    (sym (own-slots a.links.now a.count a.self.now tree a.at a.first can c.deref_mut-2.result.now s))
    ∙ ap (pass_over a.now a.links.now a.first (take a.count (drop a.at (owners_of c.deref_mut-2.result.now))) a.at)
    (sym (same-run was (fresh a.self.now) states s.wakes s.cells refl))
    ∙ sym {a = passed c} c.pass-due.ensures.passes
    ∙ sym {a = last c} (same-run (last c) (passed c) new-states (ap wakes_of new-slots) (ap cells_of new-slots) refl)

frame : (c : goal.After-index) (tree : Tree) → Runs c tree →
    Framed c.args.first (c.args.first + nodes tree) c.args.at (c.args.at + slots tree) c.args.at (slots tree) (fresh c.args.self.now) (last c)
frame c tree can =
    subst (Framed c.args.first (c.args.first + nodes tree) c.args.at (c.args.at + slots tree) c.args.at (slots tree) (fresh c.args.self.now)) (after c tree can)
    (ran-frame c.args.now c.args.links.now c.args.count c.args.self.now tree c.args.at c.args.first can)

all-done : (c : goal.After-index) (tree : Tree) → Runs c tree → (w : World) (h : ℕ) → c.args.now ≡ suc h → Stand w c.args.now tree c.args.at c.args.self.now.slots →
    NodesWait w h (heard (moved w c.args.now) tree) tree c.args.at c.args.first c.args.self.now.nodes → Done w c.args.now tree c.args.at c.args.first (last c)
all-done c tree can w h is stand waits =
    subst (Done w c.args.now tree c.args.at c.args.first) (after c tree can)
    (done c.args.links.now c.args.count c.args.self.now tree c.args.at c.args.first can w h c.args.now is c.requires.now stand waits)

pub returns-clause-truth : goal.returns-clause-truth
unfolding last
returns-clause-truth c tree can w h is stand waits =
    let d = all-done c tree can w h is stand waits in
    let f = frame c tree can in
    ap (λ (n : NodeState). n.told) (c.index.ensures ∙ get_or_default _ c.args.first c.index.result.now unasked
    (omega (arith, f.nodes, can.linked.held.nodes, nodes-some tree)))
    ∙ d.told

pub returns-clause-due : goal.returns-clause-due
unfolding last
returns-clause-due c tree can w h is stand waits = (all-done c tree can w h is stand waits).due

pub returns-clause-wake : goal.returns-clause-wake
unfolding last
returns-clause-wake c tree can w h is stand waits = (frame c tree can).due

pub returns-clause-stands : goal.returns-clause-stands
unfolding last
returns-clause-stands c tree can w h is stand waits = (all-done c tree can w h is stand waits).stands

pub returns-clause-nodes : goal.returns-clause-nodes
unfolding last
returns-clause-nodes c tree can w h is stand waits = (all-done c tree can w h is stand waits).nodes

pub returns-clause-within : goal.returns-clause-within
unfolding last
returns-clause-within c tree can =
    let f = frame c tree can in
    record {
      nodes = f.nodes;
      slots = f.slots;
      before = λ i less. f.states i (inl less);
      behind = λ i from. f.states i (inr from);
      slots_before = λ s less. f.wakes s (inl less);
      slots_behind = λ s from. f.wakes s (inr from);
    }

pub returns-clause-before : goal.returns-clause-before
unfolding last
returns-clause-before c tree can i less = (frame c tree can).cells i (inl less)

pub returns-clause-behind : goal.returns-clause-behind
unfolding last
returns-clause-behind c tree can i from = (frame c tree can).cells i (inr from)

pub returns-clause-owners : goal.returns-clause-owners
returns-clause-owners c =
    ap owners_of (with_items_is c.self.inside.slots.items c.pass-due.new.slots (c.pass-due.auto.slots ∙ ap length c.deref_mut-2.ensures.value ∙ sym c.self.inside.slots.items.ok.0))
    ∙ c.pass-due.ensures.owners
    ∙ (seen _ _ _ _ _ c.deref_mut-2.ensures.value c.self.view_is).owners
