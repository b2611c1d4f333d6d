use Rattle.std.proofs.Common.{sym, subst}
use Rattle.term_text.specs.Answer.{Tells}
use Rattle.book_spec.proofs.Verdicts.{verdict_only}
use Rattle.book_tables.specs.Catalogue.{term_names_in}
use Rattle.book_tables.proofs.conditions.read_condition.Goals as goal

pub returns : goal.returns
returns c =
    let told = c.read_term_by.ensures in
    subst (λ o. Tells o c.read_term_by.result) (sym (verdict_only (term_names_in c.args.names.now) c.args.text.now told.0 told.1)) told.2
