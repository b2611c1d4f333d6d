use Rattle.std.proofs.Common.{length, ap, arith}
use Rattle.book_model.proofs.BookLists.{many-alerts}
use Rattle.fwc_lane.proofs.numbers.line_number.Goals as goal

pub returns : goal.returns
returns c = omega (arith, ap length c.alerts.ensures.value, many-alerts c.args.book.now)
