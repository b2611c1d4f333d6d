use Rattle.std.proofs.Common.{◌∙◌, sym}
use Rattle.toml.specs.View.{view}
use Rattle.book_tables.specs.Catalogue.{names_in}
use Rattle.book_faults.proofs.EveryRule.{unread_or_read, of_both}
use Rattle.book_faults.proofs.rules.any_rule_breaks.Goals as goal

pub returns : goal.returns
returns c =
    of_both c.read_breaks.result _ _ _ (unread_or_read (names_in c.args.names.now) c.args.leaf (view c.args.value.now))
    (sym c.unread_breaks.ensures ∙ c.if-unread_breaks.false) c.read_breaks.ensures
