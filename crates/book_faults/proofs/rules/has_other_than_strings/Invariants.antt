use Rattle.std.proofs.Common.{◌≡◌, false, not, take}
use Rattle.std.specs.List.{list_any}
use Rattle.toml.specs.View.{view}
use Rattle.book_spec.specs.Rules.{is_string}
use Rattle.book_faults.proofs.rules.has_other_than_strings.Given as goal

abbrev pub invariant-loop-value : goal.invariant-loop-value
invariant-loop-value l = list_any (λ v. not (is_string (view v))) (take l.value-index l.values) ≡ false
