use Rattle.std.proofs.Common.{pos, ap, ◌∙◌, sym}
use Rattle.std.specs.Option.{option_copied_mut}
use Rattle.toml.specs.View.{table_view, members_view}
use Rattle.toml.specs.declared.value.Value.{Integer}
use Rattle.toml.proofs.Views.{view-Integer}
use Rattle.book_migration.proofs.Printed.{version_set, version_missing}
use Rattle.book_migration.proofs.migration.set_version.Goals as goal

pub returns-in-Some : goal.returns-in-Some
returns-in-Some c =
    let two = Integer (pos 2) in
    ap members_view (c.get_mut.follows.holds two).0 ∙ version_set c.args.table.now.entries two (view-Integer (pos 2))

pub returns-in_default : goal.returns-in_default
returns-in_default c =
    let none = sym c.get_mut.ensures.value ∙ ap option_copied_mut c.in_default.is in
    ap table_view c.get_mut.follows.holds-at-none ∙ version_missing c.args.table.now.entries none
