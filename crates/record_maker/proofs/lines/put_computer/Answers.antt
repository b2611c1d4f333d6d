use Rattle.std.proofs.Common.{◌++◌, sym, ◌∙◌, ap}
use Rattle.record_maker.proofs.Texts.{and_none, fails, comes_up, no_computer}
use Rattle.record_maker.proofs.lines.put_computer.Goals as goal

pub returns-then-place-eq0-clause-lines : goal.returns-then-place-eq0-clause-lines
returns-then-place-eq0-clause-lines c = c.put.ensures ∙ ap (λ t. c.args.lines.now.items ++ t) (sym (fails c.args.r c.if-place-eq0.true))

pub returns-then-place-le8-clause-lines : goal.returns-then-place-le8-clause-lines
returns-then-place-le8-clause-lines c =
    c.put-then-place-le8.ensures ∙ ap (λ t. c.args.lines.now.items ++ t) (sym (comes_up c.args.r c.if-place-eq0.false c.if-place-le8.true))

pub returns-else-place-le8-clause-lines : goal.returns-else-place-le8-clause-lines
returns-else-place-le8-clause-lines c = and_none c.args.lines.now.items _ (no_computer c.args.r c.if-place-le8.false)
