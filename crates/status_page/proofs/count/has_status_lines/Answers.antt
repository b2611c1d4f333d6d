use Rattle.std.specs.Prelude.{◌==◌}
use Rattle.std.proofs.Common.{◌≡◌, ◌≤◌, ◌<◌, true, false, length, eq-or-lt_of_le, refl, ap, sym, ◌∙◌, arith, inl, inr}
use Rattle.std.proofs.lemmas.Bool.{eqb-true}
use Rattle.std.proofs.lemmas.List.{nil_from_length}
use Rattle.ecam_spec.specs.Situation.{alert_at}
use Rattle.book_model.specs.Sealed.{the_book}
use Rattle.book_model.proofs.BookLists.{many-alerts}
use Rattle.status_page.specs.StatusOf.{TellsStatusLines}
use Rattle.status_page.proofs.Counting.{lines-read}
use Rattle.status_page.proofs.count.has_status_lines.Goals as goal

pub loop-alert-preserved : goal.loop-alert-preserved
loop-alert-preserved c = λ a h.
    let b = the_book c.args.book.now in
    let at = c.loop-alert.alert in
    let lines = lines-read c.args.book.now c.alerts-alerts.result.now at c.index-alerts-alert.result c.alerts-alerts.ensures.value c.loop-alert-test.true c.index-alerts-alert.is in
    let empty = nil_from_length (alert_at b at).status (sym lines ∙ eqb-true _ 0 (sym c.is_empty.ensures ∙ c.if-not-is_empty.false)) in
    let le : a ≤ at = omega (arith, h) in
    elim (eq-or-lt_of_le le) [
      | inl e ↦ ap (λ n. (alert_at b n).status) e ∙ empty
      | inr before ↦ c.loop-alert.invariant a before
    ]

pub returns : goal.returns
unfolding TellsStatusLines
returns c = (λ none a h. c.loop-alert.invariant a (omega (arith, h, c.loop-alert-test.false, ap length c.alerts-alerts.ensures.value, many-alerts c.args.book.now)), λ none. refl)

pub returns-then-not-is_empty : goal.returns-then-not-is_empty
unfolding TellsStatusLines
returns-then-not-is_empty c =
    let b = the_book c.args.book.now in
    let at = c.loop-alert.alert in
    let lines = lines-read c.args.book.now c.alerts-alerts.result.now at c.index-alerts-alert.result c.alerts-alerts.ensures.value c.loop-alert-test.true c.index-alerts-alert.is in
    let within : at < length b.alerts = omega (arith, c.loop-alert-test.true, ap length c.alerts-alerts.ensures.value, many-alerts c.args.book.now) in (
      (λ told. absurd (let e : true ≡ false = told in let w : ⊥ = cc in w)),
      λ none. sym (c.is_empty.ensures ∙ ap (λ n. n == 0) (lines ∙ ap length (none at within))) ∙ c.if-not-is_empty.true,
    )
