use Rattle.std.proofs.Common.{arith}
use Rattle.status_page.proofs.Behind.{behind-put}
use Rattle.status_page.proofs.place.put_row.Goals as goal

pub returns-clause-row : goal.returns-clause-row
returns-clause-row c = behind-put _ c.args.place c.put_next.result _ _ (omega (arith, c.if-place-gt0.false)) c.put_next.ensures.put
