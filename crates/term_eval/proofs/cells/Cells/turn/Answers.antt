use Rattle.std.proofs.Common.{◌≡◌, suc, ◌+◌, length, inl, inr, sym, ◌∙◌, ap, subst, arith}
use Rattle.std.specs.Prelude.{slice_index}
use Rattle.std.proofs.lemmas.List.{with_items_is}
use Rattle.std.specs.Vec.{with_items}
use Rattle.term_eval.specs.Slots.{wakes_of, cells_of, owners_of}
use Rattle.term_eval.specs.Memory.{Memory}
use Rattle.term_eval.specs.Climb.{Climbed, climb, CanClimb}
use Rattle.term_eval.specs.NodeState.{state_at, NodesWait, Within, also}
use Rattle.ecam_spec.specs.TermSize.{nodes, slots}
use Rattle.term_eval.proofs.PartLaws.{slots-within}
use Rattle.term_eval.proofs.CodeParts.{heads-one}
use Rattle.term_eval.proofs.Linking.{can-climb, length-links, link-at}
use Rattle.term_eval.proofs.Climbing.{kept_by}
use Rattle.term_eval.proofs.ClimbLeaves.{climb-leaves}
use Rattle.term_eval.proofs.Seen.{seen}
use Rattle.term_eval.proofs.Turning.{lent, turned-waits, turned-within}
use Rattle.term_eval.proofs.cells.Cells.turn.Goals as goal

pub climb-requires-clause-node : goal.climb-requires-clause-node
climb-requires-clause-node c =
    let (tree, at, ready, within, own) = c.requires in
    let long = length-links tree at c.args.links.now ready.links in
    omega arith

pub climb-requires-clause-link : goal.climb-requires-clause-link
climb-requires-clause-link c =
    let (tree, at, ready, within, own) = c.requires in
    own ∙ sym (link-at tree at c.args.links.now ready.links c.args.node within)

pub climb-requires-clause-can : goal.climb-requires-clause-can
climb-requires-clause-can c =
    let (tree, at, ready, within, own) = c.requires in
    let states = c.deref_mut.ensures.value ∙ ap (λ (m : Memory). m.nodes.states) c.self.view_is in
    let s = seen _ _ _ _ _ c.deref_mut-2.ensures.value c.self.view_is in
    subst (λ m. CanClimb c.args.links.now c.args.first m (length c.deref_mut-2.result.now)) (sym (ap length states))
    (subst (CanClimb c.args.links.now c.args.first (length c.args.self.now.nodes.states)) (sym s.many_wakes)
    (can-climb tree at c.args.first c.args.self.now.nodes c.args.links.now ready))

-- what the climb left, as what is kept
ran : (c : goal.After-self-2-1) →
    climb (suc c.args.node) c.args.links.now c.args.first c.args.node c.args.holds c.args.self.now.nodes.states c.args.self.now.nodes.wakes
    ≡ record {
      states = (with_items c.self.inside.states.items c.climb.new.states).items;
      wakes = wakes_of (with_items c.self.inside.slots.items c.climb.new.slots).items;
      stirs = c.climb.result;
    }
ran c =
    let states = c.deref_mut.ensures.value ∙ ap (λ (m : Memory). m.nodes.states) c.self.view_is in
    let s = seen _ _ _ _ _ c.deref_mut-2.ensures.value c.self.view_is in
    let new_states = with_items_is c.self.inside.states.items c.climb.new.states (c.climb.auto.states ∙ ap length c.deref_mut.ensures.value ∙ sym c.self.inside.states.items.ok.0) in
    let new_slots = with_items_is c.self.inside.slots.items c.climb.new.slots (c.climb.auto.slots ∙ ap length c.deref_mut-2.ensures.value ∙ sym c.self.inside.slots.items.ok.0) in
    lent c.args.links.now c.args.first c.args.node c.args.holds c.climb.result c.args.self.now.nodes _ _ _ _ _ states s.wakes new_states (ap wakes_of new_slots) c.climb.ensures.climbs

pub returns-clause-waits : goal.returns-clause-waits
returns-clause-waits c tree at ready w h updated x reading atoms asks reads is waits =
    subst (λ (done : Climbed). NodesWait w h (also c.args.node updated) tree at c.args.first (kept_by done)) (ran c)
    (turned-waits w h updated tree at c.args.first c.args.node x reading c.args.self.now.nodes c.args.links.now c.args.holds ready atoms asks reads is waits)

pub returns-clause-within : goal.returns-clause-within
returns-clause-within c tree at ready =
    let (other, place, fits, within, own) = c.requires in
    let long = length-links other place c.args.links.now fits.links in
    let same = length-links tree at c.args.links.now ready.links in
    subst (λ (done : Climbed). Within c.args.first (c.args.first + nodes tree) at (at + slots tree) c.args.self.now.nodes (kept_by done)) (ran c)
    (turned-within tree at c.args.first c.args.node c.args.self.now.nodes c.args.links.now c.args.holds ready (omega arith))

pub returns-clause-wakes : goal.returns-clause-wakes
returns-clause-wakes c none =
    let (tree, at, ready, within, own) = c.requires in
    let y = heads-one tree at c.args.node within in
    ap (λ (done : Climbed). done.wakes) (sym (ran c))
    ∙ (climb-leaves tree at c.args.first c.args.node y.0 c.args.self.now.nodes c.args.links.now c.args.holds ready y.1).quiet
    (ap (λ (done : Climbed). done.stirs) (ran c) ∙ none)

pub returns-clause-told : goal.returns-clause-told
returns-clause-told c none =
    let (tree, at, ready, within, own) = c.requires in
    let y = heads-one tree at c.args.node within in
    ap (λ (done : Climbed). (state_at done.states c.args.first).told) (sym (ran c))
    ∙ (climb-leaves tree at c.args.first c.args.node y.0 c.args.self.now.nodes c.args.links.now c.args.holds ready y.1).first_told
    (ap (λ (done : Climbed). done.stirs) (ran c) ∙ none)

pub returns-clause-stirs : goal.returns-clause-stirs
returns-clause-stirs c tree at ready stirs =
    let (other, place, fits, within, own) = c.requires in
    let long = length-links other place c.args.links.now fits.links in
    let same = length-links tree at c.args.links.now ready.links in
    let y = heads-one tree at c.args.node (omega arith) in
    let high = slots-within at 0 tree c.args.node y.0 y.1 in
    let done = (climb-leaves tree at c.args.first c.args.node y.0 c.args.self.now.nodes c.args.links.now c.args.holds ready y.1).stirred (ap (λ (done : Climbed). done.stirs) (ran c) ∙ stirs) in
    elim done [
      | inl turned ↦ inl (λ e. turned (ap (λ (done : Climbed). (state_at done.states c.args.first).told) (ran c) ∙ e))
      | inr slot ↦
          inr (
            slot.0,
            slot.1,
            (omega (arith, slot.2, high.1)),
            (ap (λ (done : Climbed). slice_index done.wakes slot.0) (sym (ran c)) ∙ slot.3),
          )
    ]

pub returns-clause-slots : goal.returns-clause-slots
returns-clause-slots c =
    ap cells_of (with_items_is c.self.inside.slots.items c.climb.new.slots (c.climb.auto.slots ∙ ap length c.deref_mut-2.ensures.value ∙ sym c.self.inside.slots.items.ok.0))
    ∙ c.climb.ensures.cells
    ∙ (seen _ _ _ _ _ c.deref_mut-2.ensures.value c.self.view_is).cells

pub returns-clause-owners : goal.returns-clause-owners
returns-clause-owners c =
    ap owners_of (with_items_is c.self.inside.slots.items c.climb.new.slots (c.climb.auto.slots ∙ ap length c.deref_mut-2.ensures.value ∙ sym c.self.inside.slots.items.ok.0))
    ∙ c.climb.ensures.owners
    ∙ (seen _ _ _ _ _ c.deref_mut-2.ensures.value c.self.view_is).owners
