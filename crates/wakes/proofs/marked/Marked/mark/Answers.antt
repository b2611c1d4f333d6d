use Rattle.std.proofs.Common.{◌<◌, ◌==◌, ◌||◌, refl, ap, sym, subst, ◌∙◌, arith}
use Rattle.std.specs.Box.{boxed_slice_items}
use Rattle.wakes.specs.Marks.{is_marked, room}
use Rattle.wakes.proofs.Bits.{marks, marked-ends}
use Rattle.wakes.proofs.marked.Marked.mark.Goals as goal

pub returns-clause-marks : goal.returns-clause-marks
returns-clause-marks c = λ j.
    marks (boxed_slice_items c.self.inside.words) _ c.args.i c.index_mut.result.now (subst (λ ws. c.args.i < room ws) (sym c.self.view_is) c.requires) c.index_mut.ensures.value refl j
    ∙ ap (λ ws. (j == c.args.i || is_marked ws j)) c.self.view_is

pub invariant_of-self : goal.invariant_of-self
invariant_of-self c =
    let words = boxed_slice_items c.self.inside.words in
    let low : c.args.i < room words = subst (λ ws. c.args.i < room ws) (sym c.self.view_is) c.requires in
    marked-ends words _ c.args.i c.index_mut.result.now low c.index_mut.ensures.value c.self.inside.end c.max-self-inside.result refl c.self.invariant
    (omega (arith, c.max-self-inside.ensures)) (omega (arith, c.max-self-inside.ensures)) (omega (arith, c.max-self-inside.ensures, c.self.invariant.within))
