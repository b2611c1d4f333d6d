use Rattle.std.proofs.Common.{rules, ◌≡◌, ℕ, ◌+◌, ◌*◌, ◌/◌, Bool, false, not, ◌&&◌, length, get_or, Option, None, refl, sym, ap, ◌∙◌, arith}
use Rattle.std.specs.Prelude.{is_some}
use Rattle.std.proofs.lemmas.List.{length-replicate, get_or-replicate}
use Rattle.book_model.specs.Sealed.{the_book}
use Rattle.book_model.proofs.BookLists.{many-alerts}
use Rattle.book_model.proofs.BookLimits.{sizes}
use Rattle.wakes.specs.Due.{never}
use Rattle.alert_truth.specs.Alerts.{active}
use Rattle.alert_truth.specs.TruthsState.{TruthsFit}
use Rattle.alert_truth.proofs.Blank.{blank-at}
use Rattle.alert_truth.proofs.Nearing.{none-near}
use Rattle.alert_truth.proofs.Stepping.{nothing-stands}
use Rattle.alert_truth.proofs.truths.Truths.new.Goals as goal
use Rattle.alert_truth.proofs.truths.Truths.new.Goals.{In_ok-new-6}

-- there are as many places as alerts
count : (c : In_ok-new-6) → length c.alerts-alerts.result.now ≡ length (the_book c.args.book.now).alerts
count c = ap length c.alerts-alerts.ensures.value ∙ sym (many-alerts c.args.book.now)

fits : (c : In_ok-new-6) (turned : Bool) → TruthsFit (the_book c.args.book.now) (record { moments = 0; since = c.in_ok-vec.field-0; present = c.in_ok-vec-2.field-0; active = c.in_ok-vec-3.field-0; waiting = c.in_ok-vec-4.field-0; restless = c.in_ok-new.field-0; dues = c.in_ok-new-2.field-0; due = c.in_ok-new-3.field-0; near = c.in_ok-new-4.field-0; turned = c.in_ok-new-5.field-0; stars = c.in_ok-new-6.field-0; changing = false; changed = turned })
fits c turned = record {
  since = omega (arith, c.in_ok-vec.ensures.len, count c);
  present = omega (arith, c.in_ok-vec-2.ensures.len, count c);
  active = omega (arith, c.in_ok-vec-3.ensures.len, count c);
  waiting = omega (arith, c.in_ok-vec-4.ensures.len, count c);
  room = c.in_ok-new.ensures.size ∙ ap (λ n. 64 * (n / 64 + 1)) (count c);
  restless = λ a within.
      c.in_ok-new.ensures.none a
      ∙ sym (ap (λ (o : Option ℕ). is_some o && not (get_or c.in_ok-vec-3.field-0.items a false))
      (ap (λ xs. get_or xs a None) (c.in_ok-vec.ensures.items_if_clones_equal (λ y same. search rules)) ∙ get_or-replicate (length c.alerts-alerts.result.now) a None None (omega (arith, within, count c))));
  due_room = c.in_ok-new-3.ensures.size ∙ ap (λ n. 64 * (n / 64 + 1)) (count c);
  dues = ap length c.in_ok-new-2.ensures ∙ length-replicate (length c.alerts-alerts.result.now) never ∙ count c;
  turned_room = c.in_ok-new-5.ensures.size ∙ ap (λ n. 64 * (n / 64 + 1)) (count c);
  near_room = c.in_ok-new-4.ensures.size ∙ ap (λ n. 64 * (n / 64 + 1)) (count c);
  near =
      none-near _
      (λ a. ap (λ xs. get_or xs a false) (c.in_ok-vec-2.ensures.items_if_clones_equal (λ y same. search rules)) ∙ blank-at (length c.alerts-alerts.result.now) a false)
      (λ a. ap (λ xs. get_or xs a false) (c.in_ok-vec-3.ensures.items_if_clones_equal (λ y same. search rules)) ∙ blank-at (length c.alerts-alerts.result.now) a false)
      (λ a. ap (λ xs. get_or xs a false) (c.in_ok-vec-4.ensures.items_if_clones_equal (λ y same. search rules)) ∙ blank-at (length c.alerts-alerts.result.now) a false)
      c.in_ok-new-6.ensures.away;
  stars = c.in_ok-new-6.ensures.fits;
}

pub returns-clause-fits : goal.returns-clause-fits
returns-clause-fits c = fits c _

pub returns-clause-stands : goal.returns-clause-stands
returns-clause-stands c = λ conditions phases.
    let b = the_book c.args.book.now in
    nothing-stands b conditions phases _ (length c.alerts-alerts.result.now) (count c) (fits c _) refl c.in_ok-new-2.ensures
    (c.in_ok-vec.ensures.items_if_clones_equal (λ y same. search rules))
    (c.in_ok-vec-2.ensures.items_if_clones_equal (λ y same. search rules))
    (c.in_ok-vec-3.ensures.items_if_clones_equal (λ y same. search rules))
    (c.in_ok-vec-4.ensures.items_if_clones_equal (λ y same. search rules))
    (c.in_ok-new-6.ensures.stands (active b conditions phases)) refl

pub new-requires : goal.new-requires
new-requires c = omega (arith, ap length c.alerts-alerts.ensures.value, (sizes c.args.book.now c.alerts-alerts.ensures.sealed).alerts)

pub new-requires-2 : goal.new-requires-2
new-requires-2 c = omega (arith, ap length c.alerts-alerts.ensures.value, (sizes c.args.book.now c.alerts-alerts.ensures.sealed).alerts)

pub new-requires-3 : goal.new-requires-3
new-requires-3 c = omega (arith, ap length c.alerts-alerts.ensures.value, (sizes c.args.book.now c.alerts-alerts.ensures.sealed).alerts)

pub new-requires-4 : goal.new-requires-4
new-requires-4 c = omega (arith, ap length c.alerts-alerts.ensures.value, (sizes c.args.book.now c.alerts-alerts.ensures.sealed).alerts)

pub new-requires-5 : goal.new-requires-5
new-requires-5 c = omega (arith, ap length c.alerts-alerts.ensures.value, (sizes c.args.book.now c.alerts-alerts.ensures.sealed).alerts)
