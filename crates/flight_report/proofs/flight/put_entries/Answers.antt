use Rattle.std.proofs.Common.{ℕ, ◌∙◌}
use Rattle.ecam_spec.specs.Book.{Text}
use Rattle.ecam_spec.specs.Situation.{alert_at}
use Rattle.book_model.specs.Sealed.{the_book}
use Rattle.flight_report.proofs.Written.{on-err, line-unwritten}
use Rattle.flight_report.proofs.flight.put_entries.Goals as goal

pub returns-in_err-put_all-clause-prefix : goal.returns-in_err-put_all-clause-prefix
returns-in_err-put_all-clause-prefix g c =
    let name : ℕ → Text = λ a. (alert_at (the_book c.args.book.now) a).name in
    on-err c.from_residual.result
    (line-unwritten name c.args.entries.now g.O.Sink.agrees c.args.out.now c.loop-i.out c.put_all.new.out c.loop-i.i _ c.as_slice.result.now c.loop-i-test.true
    (c.as_slice.ensures.value ∙ c.entry_line-line.ensures) c.loop-i.invariant.written c.in_err-put_all.ensures.prefix)
