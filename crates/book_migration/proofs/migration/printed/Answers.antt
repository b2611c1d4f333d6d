use Rattle.std.proofs.Common.{◌≡◌, true, false, Err, string_bytes, ap, sym, ◌∙◌, arith}
use Rattle.std.proofs.lemmas.Str.{IsUtf8-string_bytes}
use Rattle.toml.specs.View.{table_view}
use Rattle.book_migration.proofs.Depths.{top_shallow}
use Rattle.book_migration.proofs.Printed.{parsed}
use Rattle.book_migration.proofs.migration.printed.Goals as goal

pub unreachable-requires : goal.unreachable-requires
unreachable-requires c =
    let shallow = top_shallow (table_view c.args.table.now) c.requires c.go_through_table.ensures.sorted in
    let invalid = c.in-Err-DateInvalid.ensures.dates.0 (ap Err c.in-Err-DateInvalid.field-0-is) in
    let both : true ≡ false = sym shallow.1 ∙ invalid in
    cc

pub returns-in-Ok : goal.returns-in-Ok
returns-in-Ok c =
    let shallow = top_shallow (table_view c.args.table.now) c.requires c.go_through_table.ensures.sorted in
    parsed (string_bytes c.in-Ok.text) (IsUtf8-string_bytes c.in-Ok.text) ∙ c.in-Ok.ensures.reads_back (omega (arith, shallow.0))
