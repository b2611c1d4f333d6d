use Rattle.std.proofs.Common.{◌≡◌, ◌+◌, ℕ, suc, min, Bool, List, ◌∙◌, ap, add-one, slice_set}
use Rattle.term_eval.specs.declared.memory.Cell.{Cell}
use Rattle.term_eval.specs.declared.nodes.NodeState.{NodeState}
use Rattle.term_eval.specs.Slots.{wakes_of, cells_of}
use Rattle.term_eval.specs.Climb.{climb, Climbed}
use Rattle.term_eval.specs.NodeState.{state_at}
use Rattle.term_eval.specs.Run.{Run, owned, temporal_says, due_after, cells_after, look}
use Rattle.term_eval.proofs.run.look.Goals as goal

abbrev all_of : Climbed → List Cell → ℕ → Run
all_of d cells due = record { states = d.states; wakes = d.wakes; cells = cells; due = due }

pub returns-clause-looks : goal.returns-clause-looks
unfolding look
returns-clause-looks c =
    let a = c.args in
    let t = c.tell_by-turn in
    let i = c.from-node.result in
    let own : ℕ → NodeState = λ j. state_at a.states.now (a.first + j) in
    let set : ℕ → Bool = λ j. (state_at a.states.now (a.first + j + 1)).told in
    let node = owned a.owner a.slot in
    let holds : ℕ → Bool = λ j. temporal_says a.now (cells_of a.slots.now) (own j).count (set j) node in
    let wake : ℕ → ℕ = λ j. due_after a.now (cells_of a.slots.now) (own j).count node in
    let to : ℕ → ℕ → Bool → ℕ → Climbed = λ j n b d. climb n a.links.now a.first j b a.states.now
    (slice_set (wakes_of a.slots.now) a.slot d) in
    let all : ℕ → Run = λ j. all_of (to j (suc j) (holds j) (wake j))
    (cells_after a.now (cells_of a.slots.now) (own j).count (set j) node) (min a.due.now (wake j)) in
    let counts : c.from.result ≡ (own i).count = c.from.ensures in
    let is-holds : t.result.holds ≡ holds i = t.ensures.holds
    ∙ ap (λ n. temporal_says a.now (cells_of a.slots.now) n (set i) node) counts in
    let is-due : t.result.due ≡ wake i = t.ensures.due ∙ ap (λ n. due_after a.now (cells_of a.slots.now) n node) counts in
    let wakes : wakes_of c.keep_wake.new.slots ≡ slice_set (wakes_of a.slots.now) a.slot t.result.due =
    c.keep_wake.ensures.wakes ∙ ap (λ l. slice_set l a.slot t.result.due) t.ensures.wakes in
    let climbed : record { states = c.climb.new.states; wakes = wakes_of c.climb.new.slots; stirs = c.climb.result }
    ≡ to i (suc i) (holds i) (wake i) =
    c.climb.ensures.climbs ∙ ap (climb (i + 1) a.links.now a.first i t.result.holds a.states.now) wakes
    ∙ ap (λ n. to i n t.result.holds t.result.due) (add-one i)
    ∙ ap (λ b. to i (suc i) b t.result.due) is-holds
    ∙ ap (λ d. to i (suc i) (holds i) d) is-due in
    ap (λ d. all_of d (cells_of c.climb.new.slots) c.earlier.new.due) climbed
    ∙ ap (λ cells. all_of (to i (suc i) (holds i) (wake i)) cells c.earlier.new.due)
    (c.climb.ensures.cells ∙ c.keep_wake.ensures.cells ∙ t.ensures.cells ∙ ap (λ n. cells_after a.now (cells_of a.slots.now) n (set i) node) counts)
    ∙ ap (λ due. all_of (to i (suc i) (holds i) (wake i)) (cells_after a.now (cells_of a.slots.now) (own i).count (set i) node) due)
    (c.earlier.ensures ∙ ap (min a.due.now) is-due)
    ∙ ap all c.from-node.ensures
