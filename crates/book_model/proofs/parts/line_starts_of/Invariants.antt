use Rattle.std.proofs.Common.{◌≡◌, ◌+◌, ◌*◌, ◌≤◌, ◌++◌, drop}
use Rattle.book_model.specs.Parts.{starts, total, line_counts}
use Rattle.book_model.proofs.parts.line_starts_of.Given as goal

abbrev pub invariant-loop-alert : goal.invariant-loop-alert
invariant-loop-alert l = record {
  starts : l.starts.items ++ starts l.count (line_counts (drop l.alert-index l.alerts)) ≡ starts 0 (line_counts l.alerts);
  total : l.count + total (line_counts (drop l.alert-index l.alerts)) ≡ total (line_counts l.alerts);
  small : l.count ≤ 16 * l.alert-index;
}
