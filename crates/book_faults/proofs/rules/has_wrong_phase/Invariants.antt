use Rattle.std.proofs.Common.{◌≡◌, false, take}
use Rattle.std.specs.List.{list_any}
use Rattle.toml.specs.View.{view}
use Rattle.book_spec.specs.Rules.{number_fails}
use Rattle.book_faults.proofs.rules.has_wrong_phase.Given as goal

abbrev pub invariant-loop-value : goal.invariant-loop-value
invariant-loop-value l = list_any (λ v. number_fails 1 10 (view v)) (take l.value-index l.values) ≡ false
