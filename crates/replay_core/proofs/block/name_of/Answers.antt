use Rattle.std.proofs.Common.{refl, sym, ◌≤◌, length, subst}
use Rattle.ecam_spec.specs.Book.{Text}
use Rattle.ecam_spec.specs.Output as output
use Rattle.replay_core.proofs.Blocks.{short_names}
use Rattle.replay_core.proofs.block.name_of.Goals as goal

pub name_in-requires-clause-names : goal.name_in-requires-clause-names
unfolding output.row_names
name_in-requires-clause-names c = refl

pub returns-clause-short : goal.returns-clause-short
returns-clause-short c = subst (λ (t : Text). length t ≤ 3) (sym c.name_in.ensures) (short_names c.args.row c.requires)
