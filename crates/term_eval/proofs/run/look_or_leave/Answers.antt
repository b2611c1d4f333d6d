use Rattle.std.proofs.Common.{sym, subst, ap, ◌∙◌, length, min, arith}
use Rattle.std.specs.Prelude.{slice_index}
use Rattle.std.proofs.lemmas.Bool.{lt-ltb, le-ltb}
use Rattle.term_eval.specs.Slots.{wakes_of, cells_of}
use Rattle.term_eval.specs.Run.{Run, CanLook, look, look_or_leave}
use Rattle.term_eval.proofs.Slots.{wake-at, owner-at}
use Rattle.term_eval.proofs.run.look_or_leave.Goals as goal

pub look-requires : goal.look-requires
look-requires c =
    let a = c.args in
    subst (λ o. CanLook a.links.now a.first (length a.states.now) (length a.slots.now) (length a.slots.now) o a.slot)
    (owner-at a.slots.now a.slot c.requires.room) c.requires

pub returns-then-now-wake-clause-looks : goal.returns-then-now-wake-clause-looks
unfolding look_or_leave
returns-then-now-wake-clause-looks c =
    let a = c.args in
    let wake = wake-at a.slots.now a.slot c.requires.room in
    rw (lt-ltb a.now (slice_index (wakes_of a.slots.now) a.slot) (omega (arith, wake, c.if-now-wake.true)))
    (ap (λ due. let r : Run = record { states = a.states.now; wakes = wakes_of a.slots.now; cells = cells_of a.slots.now; due = due } in r)
    (c.earlier.ensures ∙ ap (min a.due.now) (sym wake)))

pub returns-else-now-wake-clause-looks : goal.returns-else-now-wake-clause-looks
unfolding look_or_leave
returns-else-now-wake-clause-looks c =
    let a = c.args in
    let wake = wake-at a.slots.now a.slot c.requires.room in
    let s : Run = record { states = a.states.now; wakes = wakes_of a.slots.now; cells = cells_of a.slots.now; due = a.due.now } in
    rw (le-ltb a.now (slice_index (wakes_of a.slots.now) a.slot) (omega (arith, wake, c.if-now-wake.false)))
    (c.look.ensures.looks ∙ ap (λ o. look a.now a.links.now a.first o a.slot s) (sym (owner-at a.slots.now a.slot c.requires.room)))
