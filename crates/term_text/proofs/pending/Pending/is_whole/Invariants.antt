use Rattle.std.proofs.Common.{◌≡◌, drop}
use Rattle.std.specs.List.{list_all}
use Rattle.term_text.specs.Pending.{is_tail}
use Rattle.term_text.proofs.pending.Pending.is_whole.Given as goal

abbrev pub invariant-loop-expected : goal.invariant-loop-expected
invariant-loop-expected l = list_all is_tail l.self.stack.items ≡ list_all is_tail (drop l.expected-index l.self.stack.items)
