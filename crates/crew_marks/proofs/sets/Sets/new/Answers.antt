use Rattle.std.proofs.Common.{◌≡◌, length, replicate, false, sym, ◌∙◌, ap, subst, arith}
use Rattle.std.proofs.lemmas.List.{length-replicate}
use Rattle.std.specs.Box.{boxed_slice_items}
use Rattle.ecam_spec.specs.Screen.{order}
use Rattle.ecam_spec.proofs.OrderLaws.{length-order}
use Rattle.book_model.specs.Sealed.{the_book}
use Rattle.book_model.proofs.BookLimits.{sizes}
use Rattle.book_model.proofs.BookLists.{many-alerts}
use Rattle.crew_marks.specs.Ranks.{AreRanks}
use Rattle.crew_marks.specs.MarkSets.{room_for}
use Rattle.crew_marks.proofs.Walking.{unset-flag, unset-marked, unset-touched}
use Rattle.crew_marks.proofs.Ranking.{unset-ranked}
use Rattle.crew_marks.proofs.sets.Sets.new.Goals as goal

pub new-requires : goal.new-requires
new-requires c = omega (arith, ap length c.alerts-alerts.ensures.value, (sizes c.args.book.now c.sealed.ensures).alerts)

pub new-requires-2 : goal.new-requires-2
new-requires-2 c = omega (arith, ap length c.alerts-alerts.ensures.value, (sizes c.args.book.now c.sealed.ensures).alerts)

pub invariant_of-result : goal.invariant_of-result
invariant_of-result c =
    let ranks = c.in_ok-ranks_of.ensures in
    let count : length c.alerts-alerts.result.now ≡ length (order (the_book c.args.book.now)) =
    ap length c.alerts-alerts.ensures.value ∙ sym (many-alerts c.args.book.now) ∙ sym (length-order (the_book c.args.book.now)) in (
      unset-marked _ _ _ _ _ c.in_ok-none.ensures c.in_ok-none-2.ensures c.in_ok-none-3.ensures c.in_ok-none-4.ensures _
          c.in_ok-new-2.ensures.size c.in_ok-new-2.ensures.none,
      unset-touched _ _ _ _ _ c.in_ok-none.ensures c.in_ok-none-2.ensures c.in_ok-none-3.ensures c.in_ok-none-4.ensures _ c.in_ok-none-5.ensures,
      unset-ranked _ _ _ (subst (λ xs. AreRanks xs (boxed_slice_items c.in_ok-ranks_of.field-0)) (sym c.in_ok-order_of.ensures) ranks)
          (ranks.many ∙ sym count ∙ sym (ap length c.in_ok-none-4.ensures ∙ length-replicate _ false))
          (c.in_ok-new.ensures.size ∙ ap room_for (count ∙ ap length (sym c.in_ok-order_of.ensures)))
          (λ a. unset-flag _ _ a c.in_ok-none-4.ensures) c.in_ok-new.ensures.none,
    )

pub returns-clause-cleared : goal.returns-clause-cleared
returns-clause-cleared c =
    c.in_ok-none.ensures ∙ ap (λ n. replicate n false) (ap length c.alerts-alerts.ensures.value ∙ sym (many-alerts c.args.book.now))

pub returns-clause-cancelled : goal.returns-clause-cancelled
returns-clause-cancelled c =
    c.in_ok-none-2.ensures ∙ ap (λ n. replicate n false) (ap length c.alerts-alerts.ensures.value ∙ sym (many-alerts c.args.book.now))

pub returns-clause-recalled : goal.returns-clause-recalled
returns-clause-recalled c =
    c.in_ok-none-3.ensures ∙ ap (λ n. replicate n false) (ap length c.alerts-alerts.ensures.value ∙ sym (many-alerts c.args.book.now))

pub returns-clause-shown : goal.returns-clause-shown
returns-clause-shown c =
    c.in_ok-none-4.ensures ∙ ap (λ n. replicate n false) (ap length c.alerts-alerts.ensures.value ∙ sym (many-alerts c.args.book.now))
