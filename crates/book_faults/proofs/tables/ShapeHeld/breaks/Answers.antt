use Rattle.std.proofs.Common.{◌∙◌, ◌||◌, ap, sym}
use Rattle.std.specs.List.{list_any}
use Rattle.toml.specs.View.{view}
use Rattle.book_faults.specs.Asked.{list_fails, inner_fails, shape_fails}
use Rattle.book_tables.specs.Catalogue.{names_in}
use Rattle.book_faults.proofs.EveryRule.{list_or_members, of_both}
use Rattle.book_faults.proofs.tables.ShapeHeld.breaks.Goals as goal

pub returns-else-list_breaks : goal.returns-else-list_breaks
returns-else-list_breaks c =
    let names = names_in c.args.names.now in
    let value = view c.args.value.now in
    of_both c.any_inner_breaks.result _ _ _
    (ap (λ s. shape_fails names c.args.asked s value) c.in-Tables.is ∙ list_or_members names c.args.asked c.in-Tables.inner c.in-Tables.low c.in-Tables.high value
    ∙ ap (λ ds. list_fails c.args.asked c.in-Tables.low c.in-Tables.high value || list_any (inner_fails names c.args.asked c.in-Tables.inner) ds) (sym c.members_of.ensures))
    (sym c.list_breaks.ensures ∙ c.if-list_breaks.false) c.any_inner_breaks.ensures
