use Rattle.std.proofs.Common.{length, sym, ap, ◌∙◌, rules, arith}
use Rattle.std.specs.Prelude.{replicate, None}
use Rattle.book_model.proofs.BookLists.{many-parameters, many-memos}
use Rattle.fwc_lane.proofs.blank.lists_of.Goals as goal

pub returns-clause-values : goal.returns-clause-values
returns-clause-values c =
    c.in_ok-values.ensures.items_if_clones_equal (λ y same. search rules) ∙ ap (λ n. replicate n None) (ap length c.params.ensures.value ∙ sym (many-parameters c.args.book.now))

pub returns-clause-lines : goal.returns-clause-lines
returns-clause-lines c = omega (arith, c.in_ok-lines.ensures.len, c.in_ok-lines.lines.ok.0, c.line_count.ensures.value)

pub returns-clause-memos : goal.returns-clause-memos
returns-clause-memos c =
    omega (arith, c.in_ok-memos.ensures.len, c.in_ok-memos.memos.ok.0, ap length c.memos.ensures.value, many-memos c.args.book.now)
