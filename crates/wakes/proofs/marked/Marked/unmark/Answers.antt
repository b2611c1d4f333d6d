use Rattle.std.proofs.Common.{◌<◌, ◌==◌, not, ◌&&◌, refl, ap, sym, subst, ◌∙◌}
use Rattle.std.specs.Box.{boxed_slice_items}
use Rattle.wakes.specs.Marks.{is_marked, room}
use Rattle.wakes.proofs.Bits.{unmarks, unmarked-ends}
use Rattle.wakes.proofs.marked.Marked.unmark.Goals as goal

pub returns-clause-marks : goal.returns-clause-marks
returns-clause-marks c = λ j.
    unmarks (boxed_slice_items c.self.inside.words) _ c.args.i c.index_mut.result.now (subst (λ ws. c.args.i < room ws) (sym c.self.view_is) c.requires) c.index_mut.ensures.value refl j
    ∙ ap (λ ws. (not (j == c.args.i) && is_marked ws j)) c.self.view_is

pub invariant_of-self : goal.invariant_of-self
invariant_of-self c =
    unmarked-ends (boxed_slice_items c.self.inside.words) _ c.args.i c.index_mut.result.now (subst (λ ws. c.args.i < room ws) (sym c.self.view_is) c.requires) c.index_mut.ensures.value
    c.self.inside.end refl c.self.invariant
