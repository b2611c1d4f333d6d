use Rattle.std.proofs.Common.{◌≡◌, None, subst}
use Rattle.toml.specs.Data.{Members}
use Rattle.book_spec.specs.Document.{table_fault}
use Rattle.book_faults.specs.Readable.{AreReadable}
use Rattle.book_reader.proofs.reader.draft_in.Goals as goal

pub returns-in-Ok-clause-faultless : goal.returns-in-Ok-clause-faultless
returns-in-Ok-clause-faultless c =
    let faultless = c.in_ok-is_faultless_if_readable.ensures c.if-not-branch.false in
    subst (λ (table : Members). AreReadable table → table_fault table ≡ None) c.in_ok-names.ensures.table faultless c.in-Ok.ensures.read

pub returns-then-not-branch-clause-fault : goal.returns-then-not-branch-clause-fault
returns-then-not-branch-clause-fault c f told = c.fault_in.ensures f (cc told)
