-- What is kept is the same where each part of it is.
use Rattle.std.proofs.Common.{◌≡◌, ◌∙◌, ap}
use Rattle.term_eval.specs.Run.{Run}

pub same-run : (s t : Run) → s.states ≡ t.states → s.wakes ≡ t.wakes → s.cells ≡ t.cells → s.due ≡ t.due → s ≡ t
same-run s t states wakes cells due =
    ap (λ l. record { states = l; wakes = s.wakes; cells = s.cells; due = s.due }) states
    ∙ ap (λ l. record { states = t.states; wakes = l; cells = s.cells; due = s.due }) wakes
    ∙ ap (λ l. record { states = t.states; wakes = t.wakes; cells = l; due = s.due }) cells
    ∙ ap (λ n. record { states = t.states; wakes = t.wakes; cells = t.cells; due = n }) due
