use Rattle.std.proofs.Common.{◌≡◌, true, Some, None, ◌∙◌, sym}
use Rattle.toml.specs.Errors.{IsMemory}
use Rattle.toml.specs.View.{table_view}
use Rattle.book_migration.proofs.Accepted.{accepted, faultless}
use Rattle.book_migration.proofs.Printed.{parsed, is_text}
use Rattle.book_migration.proofs.migration.table_in.Goals as goal

pub unreachable-requires : goal.unreachable-requires
unreachable-requires c =
    let bytes = c.args.bytes.now in
    let book = accepted bytes c.requires in
    let text = is_text bytes book.table book.is in
    let none = c.in-Err.ensures.refused (λ (m : IsMemory c.in-Err.error). let t : c.is_memory.result ≡ true = c.is_memory.ensures.1 m in cc) text.0 in
    let both : None ≡ Some book.table = sym none ∙ text.1 in
    cc

pub returns-in-Ok-clause-table : goal.returns-in-Ok-clause-table
returns-in-Ok-clause-table c = parsed c.args.bytes.now c.in-Ok.ensures.ok.0 ∙ c.in-Ok.ensures.ok.1

pub returns-in-Ok-clause-faultless : goal.returns-in-Ok-clause-faultless
returns-in-Ok-clause-faultless c =
    (faultless c.args.bytes.now (table_view c.in-Ok.table) c.requires (parsed c.args.bytes.now c.in-Ok.ensures.ok.0 ∙ c.in-Ok.ensures.ok.1)).0
