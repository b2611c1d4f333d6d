use Rattle.std.proofs.Common.{◌≡◌, ◌++◌, ◌∷◌, length, refl, sym, ap, ◌∙◌, subst, arith}
use Rattle.ecam_io.specs.Outside.{Appended, AppendedPrefix}
use Rattle.ecam_io.proofs.Calls.{Appended-none}
use Rattle.ecam_spec.specs.Output.{line}
use Rattle.ecam_spec.specs.Situation.{alert_at}
use Rattle.ecam_spec.specs.Standing.{standing_text}
use Rattle.book_model.specs.Sealed.{the_book}
use Rattle.book_model.proofs.BookLists.{many-alerts}
use Rattle.replay_core.proofs.StandingLines.{lines_below, lines-none, lines-all, lines-written, lines-unwritten, on-err}
use Rattle.replay_core.proofs.standings.put_lines.Goals as goal

pub loop-alert-init : goal.loop-alert-init
loop-alert-init g c = record {
  written = λ h stands. subst (Appended g.O.Sink.agrees c.args.out.now c.args.out.now) (sym (lines-none (the_book c.args.book.now) h)) (Appended-none g.O.Sink.agrees c.args.out.now);
  few = omega arith;
  quiet = refl;
}

pub loop-alert-preserved : goal.loop-alert-preserved
loop-alert-preserved g c =
    let b = the_book c.args.book.now in
    let d = c.args.book.now in
    record {
      written = λ h stands.
          lines-written b h g.O.Sink.agrees c.args.out.now c.loop-alert.out c.put_all.new.out c.loop-alert.alert c.as_slice.result.now
          (c.as_slice.ensures.value ∙ c.standing_line-line.ensures
          ∙ ap (λ s. line ((alert_at b c.loop-alert.alert).name ++ 32 ∷ standing_text (λ p. (alert_at b p).name) s)) (c.standing.ensures h stands))
          (c.loop-alert.invariant.written h stands) c.in_ok-put_all.ensures.all;
      few = omega (arith, many-alerts d, ap length c.alerts-alert-end.ensures.value);
      quiet = c.in_ok-put_all.ensures.quiet ∙ c.loop-alert.invariant.quiet;
    }

pub returns-in_err-put_all-clause-prefix : goal.returns-in_err-put_all-clause-prefix
returns-in_err-put_all-clause-prefix g c = λ h stands.
    let b = the_book c.args.book.now in
    let d = c.args.book.now in
    on-err c.from_residual.result
    (subst (AppendedPrefix g.O.Sink.agrees c.args.out.now c.put_all.new.out) (lines-all b h)
    (lines-unwritten b h g.O.Sink.agrees c.args.out.now c.loop-alert.out c.put_all.new.out c.loop-alert.alert c.as_slice.result.now
    (c.as_slice.ensures.value ∙ c.standing_line-line.ensures
    ∙ ap (λ s. line ((alert_at b c.loop-alert.alert).name ++ 32 ∷ standing_text (λ p. (alert_at b p).name) s)) (c.standing.ensures h stands))
    (c.loop-alert.invariant.written h stands) (length b.alerts) (omega (arith, many-alerts d, ap length c.alerts-alert-end.ensures.value)) c.in_err-put_all.ensures.prefix))

pub returns-clause-all : goal.returns-clause-all
returns-clause-all g c = λ h stands.
    let b = the_book c.args.book.now in
    let d = c.args.book.now in
    let whole : c.loop-alert.alert ≡ length b.alerts = omega (arith, c.loop-alert.invariant.few, many-alerts d, ap length c.alerts-alert-end.ensures.value) in
    subst (Appended g.O.Sink.agrees c.args.out.now c.loop-alert.out) (ap (lines_below b h) whole ∙ lines-all b h) (c.loop-alert.invariant.written h stands)
