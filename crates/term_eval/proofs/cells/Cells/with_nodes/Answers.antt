use Rattle.std.proofs.Common.{replicate, ap, ◌∙◌}
use Rattle.term_eval.specs.CellWords.{cell_at}
use Rattle.term_eval.specs.Slots.{cells_of}
use Rattle.term_eval.proofs.Fresh.{blank_at, blank-StandForNone}
use Rattle.term_eval.proofs.cells.Cells.with_nodes.Goals as goal

pub returns-clause-stands : goal.returns-clause-stands
returns-clause-stands c =
    blank-StandForNone _ (λ i. ap (λ l. cell_at (cells_of l) i)
    (c.into_boxed_slice-2.ensures.items ∙ c.in_ok-vec-2.ensures.items_if_clones_equal (λ y same. same) ∙ ap (replicate c.args.slots) c.empty.ensures)
    ∙ blank_at c.args.slots i)
