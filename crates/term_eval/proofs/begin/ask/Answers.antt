use Rattle.std.proofs.Common.{◌≡◌, ◌∙◌, ap}
use Rattle.term_eval.specs.Slots.{wakes_of, cells_of}
use Rattle.term_eval.specs.NodeState.{state_at}
use Rattle.term_eval.specs.Run.{cells_after, due_after}
use Rattle.term_eval.specs.Begin.{answer, wakes_after, count_up}
use Rattle.term_eval.proofs.AskingEach.{asks}
use Rattle.term_eval.proofs.begin.ask.Goals as goal

pub returns-clause-asks : goal.returns-clause-asks
returns-clause-asks c =
    let states = c.args.states.now in
    let cells = cells_of c.args.slots.now in
    let wakes = wakes_of c.args.slots.now in
    let node = c.args.step.now.node in
    let count = (state_at states c.args.i).count in
    let counts : c.from-count.result ≡ count = c.from-count.ensures in
    let first = c.first_child-first.result in
    asks c.args.env.now c.args.i c.args.step.now (record { states = states; wakes = wakes; cells = cells; due = c.args.due.now })
    c.answer-turn.result.holds c.answer-turn.result.due c.count_up.new.states (wakes_of c.keep_due.new.slots) (cells_of c.keep_due.new.slots) c.earlier.new.due
    (c.answer-turn.ensures.holds ∙ ap (λ n. answer c.args.env.now cells n first node) counts ∙ ap (λ b. answer c.args.env.now cells count b node) c.first_child-first.ensures)
    (c.answer-turn.ensures.due ∙ ap (λ n. due_after 0 cells n node) counts)
    (c.count_up.ensures ∙ ap (count_up c.args.i c.args.step.now.up c.answer-turn.result.holds) c.keep_told.ensures)
    (c.keep_due.ensures.wakes ∙ ap (λ l. wakes_after node l c.answer-turn.result.due) c.answer-turn.ensures.wakes)
    (c.keep_due.ensures.cells ∙ c.answer-turn.ensures.cells ∙ ap (λ n. cells_after 0 cells n first node) counts ∙ ap (λ b. cells_after 0 cells count b node) c.first_child-first.ensures) c.earlier.ensures
