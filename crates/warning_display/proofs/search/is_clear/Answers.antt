use Rattle.std.proofs.Common.{sym, ◌∙◌}
use Rattle.std.proofs.lemmas.Bool.{not-true}
use Rattle.ecam_kinds.proofs.Strokes.{any-set, none-set}
use Rattle.warning_display.proofs.search.is_clear.Goals as goal

pub returns : goal.returns
returns c = λ clear i. none-set c.args.flags.now i (sym (c.contains.ensures.value ∙ any-set c.args.flags.now) ∙ not-true _ clear)
