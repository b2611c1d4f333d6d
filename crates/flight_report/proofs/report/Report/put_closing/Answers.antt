use Rattle.std.proofs.Common.{◌∙◌, subst}
use Rattle.std.specs.Prelude.{OnErr}
use Rattle.ecam_io.specs.Outside.{AppendedPrefix}
use Rattle.ecam_spec.specs.Book.{Text}
use Rattle.ecam_spec.specs.Output.{end_line}
use Rattle.ecam_spec.specs.Situation.{alert_at}
use Rattle.book_model.specs.Sealed.{the_book}
use Rattle.flight_report.specs.Kept.{last_text}
use Rattle.flight_report.proofs.Written.{part-after}
use Rattle.flight_report.proofs.report.Report.put_closing.Goals as goal

pub returns-clause-prefix : goal.returns-clause-prefix
returns-clause-prefix g c =
    let text : Text = last_text (λ a. (alert_at (the_book c.args.book.now) a).name) c.args.self.now.flight in
    part-after g.O.Sink.agrees c.put_all.result c.args.out.now c.put_last.new.out c.put_all.new.out text (end_line c.args.ticks)
    c.in_ok-put_last.ensures.all
    (subst (λ t. OnErr c.put_all.result (AppendedPrefix g.O.Sink.agrees c.put_last.new.out c.put_all.new.out t)) (c.as_slice.ensures.value ∙ c.end_line.ensures) c.put_all.ensures.prefix)
