use Rattle.std.proofs.Common.{◌-◌, ◌<◌, ◌∙◌, ap, sym, Some, arith}
use Rattle.std.specs.Prelude.{◌/◌, ◌%◌}
use Rattle.system_display.proofs.Stretches.{page-off, page-turns}
use Rattle.system_display.proofs.selection.page_in_turn.Goals as goal

pub returns-clause-turn : goal.returns-clause-turn
returns-clause-turn c = λ p pages since.
    let some : 0 < p.pages = omega (arith, pages, c.if-pages-eq0.false) in
    ap (λ x. Some ((x / 10) % c.args.pages)) c.saturating_sub.ensures
    ∙ ap (λ n. Some (((c.args.now - c.in_ok-since.since) / 10) % n)) (sym pages)
    ∙ sym (page-turns p c.args.now c.in_ok-since.since (sym since ∙ c.in_ok-since.was) some)

pub returns-in_err-since-clause-turn : goal.returns-in_err-since-clause-turn
returns-in_err-since-clause-turn c = λ p pages since. c.from_residual.ensures ∙ sym (page-off p c.args.now (sym since ∙ c.in_err-since.was))
