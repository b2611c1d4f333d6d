use Rattle.std.proofs.Common.{◌≡◌, drop}
use Rattle.limits_spec.specs.Document.{rules_fault}
use Rattle.advisories.specs.Document.{table_in, book_in}
use Rattle.advisories.proofs.faults.rules_fault.Given as goal

abbrev pub invariant-loop-code : goal.invariant-loop-code
invariant-loop-code l = rules_fault (book_in l.document) (table_in l.document) l.rules ≡ rules_fault (book_in l.document) (table_in l.document) (drop l.code-index l.rules)
