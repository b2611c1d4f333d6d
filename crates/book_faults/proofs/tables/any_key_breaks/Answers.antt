use Rattle.std.proofs.Common.{arith}
use Rattle.std.proofs.lemmas.Grind.{common_steps}
use Rattle.toml.specs.View.{table_view}
use Rattle.book_tables.specs.Catalogue.{names_in}
use Rattle.book_faults.proofs.KeyLists.{any_keys}
use Rattle.book_faults.specs.KeysOnce.{key_fails}
use Rattle.book_faults.proofs.tables.any_key_breaks.Goals as goal

pub returns-then-branch : goal.returns-then-branch
returns-then-branch g c = grind (arith, common_steps, any_keys (key_fails c.args.asked (g.S.Held.fails (names_in c.args.names.now)) (table_view c.args.table.now)) c.args.keys.now)

pub returns : goal.returns
returns g c = grind (arith, common_steps, any_keys (key_fails c.args.asked (g.S.Held.fails (names_in c.args.names.now)) (table_view c.args.table.now)) c.args.keys.now)
