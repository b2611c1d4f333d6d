use Rattle.std.proofs.Common.{suc, slice_get, ap, ◌∙◌, subst, add-one}
use Rattle.watch_lists.specs.Listed.{items_of, NextListed}
use Rattle.watch_lists.proofs.Adding.{on-ok}
use Rattle.watch_lists.proofs.book.add_line.Goals as goal

pub returns-clause-listed : goal.returns-clause-listed
returns-clause-listed c =
    on-ok c.add_term-2.result _ _
    (λ next ps here there below.
    subst (λ n. NextListed c.args.sizes ps n (suc n) (items_of c.add_term.new.lists.items) (items_of c.add_term-2.new.lists.items)) (add-one c.args.number) (next ps (ap (slice_get ps) (add-one c.args.number) ∙ there))
    (c.in_ok-add_term.ensures.listed ps here below))
    c.add_term-2.ensures.listed
