use Rattle.std.proofs.Common.{[], ◌∷◌, ◌++◌, length}
use Rattle.ecam_spec.specs.declared.kinds.Event.TheVariants.{Tick}
use Rattle.ecam_spec.specs.History.{era}
use Rattle.callouts.proofs.LastMoments.{ended-count}
use Rattle.callouts.proofs.view.value_in.Goals as goal

pub returns : goal.returns
returns c h stands m goes = c.value.ensures.value (era (h ++ Tick ∷ [])) stands m goes (length (era h).moments) (ended-count h)
