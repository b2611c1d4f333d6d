use Rattle.std.proofs.Common.{subst, sym, ap, ◌∙◌}
use Rattle.term_eval.specs.Slots.{cells_of}
use Rattle.term_eval.specs.Memory.{Memory}
use Rattle.term_tree.specs.View.{tree_of}
use Rattle.term_eval.specs.CellState.{Stand}
use Rattle.term_eval.specs.Due.{staying}
use Rattle.term_eval.proofs.Staying.{still-staying, shows-staying, Stand-staying}
use Rattle.term_eval.proofs.cells.Cells.refresh.Goals as goal

pub returns-clause-due : goal.returns-clause-due
returns-clause-due c w shows stands =
    let s = c.step.ensures.steps.settles (staying w c.args.now) (shows-staying c.args.env.now w c.args.now shows) (still-staying w c.args.now)
    (Stand-staying w c.args.now (tree_of c.args.cond.now) c.args.at _ (subst (λ cells. Stand w c.args.now (tree_of c.args.cond.now) c.args.at cells) (ap (λ (m : Memory). m.slots) (sym c.self.view_is) ∙ ap cells_of (sym c.deref_mut.ensures.value)) stands)) in
    record { quiet = s.quiet; comes = s.comes }
