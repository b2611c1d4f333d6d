use Rattle.std.proofs.Common.{◌≡◌, ◌+◌, ◌-◌, ◌<◌, length, false, drop, refl, ◌∙◌, subst, sym, arith}
use Rattle.term_eval.specs.CellWords.{never}
use Rattle.term_eval.specs.declared.code.Step.{Step}
use Rattle.term_eval.specs.declared.code.Node.TheVariants.{Const}
use Rattle.term_eval.specs.Run.{Run}
use Rattle.term_eval.specs.Slots.{wakes_of, cells_of}
use Rattle.term_eval.specs.Begin.{ask_over, unasked_from}
use Rattle.term_eval.proofs.AskingEach.{can-at, ask-next, ask-end}
use Rattle.term_eval.proofs.begin.ask_all.Goals as goal

pub loop-i-init : goal.loop-i-init
loop-i-init c =
    let start = unasked_from c.args.first (length c.args.steps.now) c.args.states.now in
    record {
      within = omega arith;
      nodes = c.clear.auto.states;
      slots = refl;
      owners = refl;
      over = subst (λ l. record { states = l; wakes = wakes_of c.args.slots.now; cells = cells_of c.args.slots.now; due = never }
          ≡ ask_over c.args.env.now (c.args.first + length c.args.steps.now) (drop (length c.args.steps.now) c.args.steps.now) (record { states = start; wakes = wakes_of c.args.slots.now; cells = cells_of c.args.slots.now; due = never }))
          (sym c.clear.ensures)
          (ask-end c.args.env.now c.args.first c.args.steps.now (record { states = start; wakes = wakes_of c.args.slots.now; cells = cells_of c.args.slots.now; due = never }));
    }

pub ask-requires-clause-can : goal.ask-requires-clause-can
ask-requires-clause-can c =
    let inside : c.loop-i.i - 1 < length c.args.steps.now = omega (arith, c.loop-i.invariant.within, c.loop-i-test.true) in
    let can = can-at c.args.env.now _ _ _ c.args.first c.args.steps.now (c.loop-i.i - 1) (record { node = Const false; up = 0 }) inside c.requires.can in
    rw c.loop-i.invariant.nodes (rw c.loop-i.invariant.slots can)

pub loop-i-preserved : goal.loop-i-preserved
loop-i-preserved c =
    let inside : c.loop-i.i - 1 < length c.args.steps.now = omega (arith, c.loop-i.invariant.within, c.loop-i-test.true) in
    let place : c.loop-i.i ≡ c.loop-i.i - 1 + 1 = omega (arith, c.loop-i-test.true) in
    let start : Run = record { states = unasked_from c.args.first (length c.args.steps.now) c.args.states.now; wakes = wakes_of c.args.slots.now; cells = cells_of c.args.slots.now; due = never } in
    let t : Run = record { states = c.loop-i.states; wakes = wakes_of c.loop-i.slots; cells = cells_of c.loop-i.slots; due = c.loop-i.due } in
    let d : Step = record { node = Const false; up = 0 } in
    let here = subst (λ n. t ≡ ask_over c.args.env.now (c.args.first + n) (drop n c.args.steps.now) start) place c.loop-i.invariant.over in
    record {
      within = omega (arith, inside);
      nodes = c.ask.auto.states ∙ c.loop-i.invariant.nodes;
      slots = c.ask.auto.slots ∙ c.loop-i.invariant.slots;
      owners = c.ask.ensures.owners ∙ c.loop-i.invariant.owners;
      over = c.ask.ensures.asks ∙ ask-next c.args.env.now c.args.first c.args.steps.now (c.loop-i.i - 1) d start t inside here;
    }
