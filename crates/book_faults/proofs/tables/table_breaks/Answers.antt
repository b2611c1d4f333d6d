use Rattle.std.proofs.Common.{◌∙◌, sym}
use Rattle.toml.specs.View.{table_view}
use Rattle.book_tables.specs.Catalogue.{names_in}
use Rattle.book_faults.specs.Keys.{keys_of}
use Rattle.book_faults.proofs.EveryRule.{of_both}
use Rattle.book_faults.proofs.KeysOnce.{keys_once}
use Rattle.book_faults.proofs.tables.table_breaks.Goals as goal

pub returns : goal.returns
returns g c =
    of_both c.any_key_breaks.result _ _ _ (keys_once c.args.asked (g.S.Held.fails (names_in c.args.names.now)) (keys_of c.args.keys.now) (table_view c.args.table.now))
    (sym c.has_strange_key.ensures ∙ c.if-has_strange_key.false) c.any_key_breaks.ensures
