use Rattle.std.proofs.Common.{true, map}
use Rattle.book_model.specs.View.{memo_of}
use Rattle.warning_display.specs.Memos.{memo_rows}
use Rattle.warning_display.proofs.Titles.{calm-some, calm-normal, calm-memos}
use Rattle.warning_display.proofs.left.put_calm.Goals as goal

pub returns-then-count-gt0-clause-rows : goal.returns-then-count-gt0-clause-rows
returns-then-count-gt0-clause-rows c = λ test tells left start filled.
    calm-some left c.args.count c.args.normal (memo_rows true test (map memo_of c.args.memos.now)) start _ c.if-count-gt0.true filled

pub returns-then-normal-clause-rows : goal.returns-then-normal-clause-rows
returns-then-normal-clause-rows c = λ test tells left start filled.
    rw c.if-normal.true
    (calm-normal left c.args.count c.put_next.result (memo_rows true test (map memo_of c.args.memos.now)) start _ _ c.if-count-gt0.false c.put_next.ensures.put filled)

pub returns-clause-rows : goal.returns-clause-rows
returns-clause-rows c = λ test tells left start filled.
    rw c.if-normal.false
    (calm-memos left c.args.count c.put_memos.result c.min.result (memo_rows true test (map memo_of c.args.memos.now)) start _ _ c.if-count-gt0.false
    (c.put_memos.ensures.rows test tells) c.min.ensures filled)
