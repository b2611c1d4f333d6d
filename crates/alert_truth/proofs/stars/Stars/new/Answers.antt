use Rattle.std.proofs.Common.{rules, ◌≡◌, ◌*◌, ◌/◌, ◌+◌, false, length, sym, ap, ◌∙◌, arith}
use Rattle.book_model.specs.Sealed.{the_book}
use Rattle.book_model.proofs.BookLimits.{sizes}
use Rattle.book_model.proofs.BookLists.{many-alerts}
use Rattle.alert_truth.specs.declared.stars.Stars.{Stars}
use Rattle.alert_truth.proofs.Starring.{blank-stands, blank-away}
use Rattle.alert_truth.proofs.stars.Stars.new.Goals as goal
use Rattle.alert_truth.proofs.stars.Stars.new.Goals.{In_ok-vec-3}

abbrev made : In_ok-vec-3 → Stars
made c = record { listers = c.in_ok-new.field-0; asked = c.in_ok-new-2.field-0; primaries = c.in_ok-vec.field-0; starred = c.in_ok-vec-2.field-0; up = c.in_ok-vec-3.field-0; turned = false }

-- there are as many places as alerts
count : (c : In_ok-vec-3) → length c.alerts-alerts.result.now ≡ length (the_book c.args.book.now).alerts
count c = ap length c.alerts-alerts.ensures.value ∙ sym (many-alerts c.args.book.now)

pub new-requires-2 : goal.new-requires-2
new-requires-2 c = omega (arith, ap length c.alerts-alerts.ensures.value, (sizes c.args.book.now c.alerts-alerts.ensures.sealed).alerts)

pub returns-clause-fits : goal.returns-clause-fits
returns-clause-fits c = record {
  listers = c.in_ok-new.ensures;
  asked = c.in_ok-new-2.ensures.size ∙ ap (λ n. 64 * (n / 64 + 1)) (count c);
  primaries = omega (arith, c.in_ok-vec.ensures.len, c.in_ok-vec.field-0.ok.0, count c);
  starred = omega (arith, c.in_ok-vec-2.ensures.len, c.in_ok-vec-2.field-0.ok.0, count c);
  up = omega (arith, c.in_ok-vec-3.ensures.len, c.in_ok-vec-3.field-0.ok.0, count c);
}

pub returns-clause-stands : goal.returns-clause-stands
returns-clause-stands c = λ active.
    blank-stands (the_book c.args.book.now) active (made c) (length c.alerts-alerts.result.now) (count c)
    (c.in_ok-vec.ensures.items_if_clones_equal (λ y same. search rules))
    (c.in_ok-vec-2.ensures.items_if_clones_equal (λ y same. search rules))
    (c.in_ok-vec-3.ensures.items_if_clones_equal (λ y same. search rules))

pub returns-clause-away : goal.returns-clause-away
returns-clause-away c =
    blank-away (made c) (length c.alerts-alerts.result.now)
    (c.in_ok-vec.ensures.items_if_clones_equal (λ y same. search rules))
    (c.in_ok-vec-2.ensures.items_if_clones_equal (λ y same. search rules))
    (c.in_ok-vec-3.ensures.items_if_clones_equal (λ y same. search rules))
