use Rattle.std.proofs.Common.{◌≡◌, drop}
use Rattle.book_tables.specs.Catalogue.{table_in}
use Rattle.book_faults.specs.FaultParts.{rule_faults}
use Rattle.book_faults.proofs.faults.first_rule_fault.Given as goal

abbrev pub invariant-loop-code : goal.invariant-loop-code
invariant-loop-code l = rule_faults (table_in l.names) l.rules ≡ rule_faults (table_in l.names) (drop l.code-index l.rules)
