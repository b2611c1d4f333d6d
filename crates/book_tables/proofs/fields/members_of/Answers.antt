use Rattle.std.proofs.Common.{rules}
use Rattle.book_tables.proofs.Items.{views_items}
use Rattle.book_tables.proofs.fields.members_of.Goals as goal

pub returns-in-Some : goal.returns-in-Some
returns-in-Some c = grind (rules, views_items)
