use Rattle.std.proofs.Common.{◌<◌, ◌==◌, ◌||◌, refl, ap, sym, subst, ◌∙◌}
use Rattle.std.specs.Box.{boxed_slice_items}
use Rattle.wakes.specs.Marks.{is_marked, room}
use Rattle.wakes.proofs.Bits.{marks}
use Rattle.wakes.proofs.bit_set.BitSet.put.Goals as goal

pub returns-clause-marks : goal.returns-clause-marks
returns-clause-marks c = λ j.
    marks (boxed_slice_items c.self.inside.words) _ c.args.i c.index-word.result.now (subst (λ ws. c.args.i < room ws) (sym c.self.view_is) c.requires) c.index-word.ensures refl j
    ∙ ap (λ ws. (j == c.args.i || is_marked ws j)) c.self.view_is
