use Rattle.std.proofs.Common.{rules, ◌≡◌, ℕ, ◌<◌, ◌-◌, suc, length, get_or, All, replicate, sym, ap, ◌∙◌, subst, arith}
use Rattle.std.specs.Prelude.{find}
use Rattle.std.specs.Option.{option_or}
use Rattle.book_model.specs.Sealed.{the_book}
use Rattle.book_model.proofs.BookLimits.{sizes}
use Rattle.book_model.proofs.BookLists.{many-alerts}
use Rattle.alert_truth.specs.Listed.{AreLinked, first_lister}
use Rattle.alert_truth.specs.declared.listers.Listers.{Listers}
use Rattle.alert_truth.proofs.Blank.{blank-at}
use Rattle.alert_truth.proofs.Listings.{listing, secondaries_of, primaries-listing, find-none}
use Rattle.alert_truth.proofs.Linking.{linked-more, at-end, or-none}
use Rattle.alert_truth.proofs.listers.Listers.new.Goals as goal

pub loop-alert-init : goal.loop-alert-init
loop-alert-init c =
    let b = the_book c.args.book.now in
    let n = length c.alerts-alerts.result.now in
    let start : Listers = record { heads = c.in_ok-vec.field-0; links = c.new.result } in
    let count : n ≡ length b.alerts = ap length c.alerts-alerts.ensures.value ∙ sym (many-alerts c.args.book.now) in
    let blank : start.heads.items ≡ replicate n 0 = c.in_ok-vec.ensures.items_if_clones_equal (λ y same. search rules) in
    let none : (a : ℕ) → get_or start.heads.items a 0 ≡ 0 = λ a. ap (λ xs. get_or xs a 0) blank ∙ blank-at n a 0 in
    record {
      most = omega (arith, count);
      places = omega (arith, c.in_ok-vec.ensures.len, c.in_ok-vec.field-0.ok.0, count);
      linked = record {
        heads = λ a within. omega (arith, none a);
        earlier = λ i inside. absurd (omega (arith, inside, ap length c.new.ensures.items));
        listers = λ i inside. absurd (omega (arith, inside, ap length c.new.ensures.items));
      };
      found = λ test a within.
          ap (option_or (find test (listing (secondaries_of b) a n))) (at-end test start.links.items (get_or start.heads.items a 0) (none a))
          ∙ or-none (find test (listing (secondaries_of b) a n)) ∙ ap (λ m. find test (listing (secondaries_of b) a m)) count;
    }

pub secondaries-requires : goal.secondaries-requires
secondaries-requires c = omega (arith, c.loop-alert-test.true, c.loop-alert.invariant.most, many-alerts c.args.book.now)

pub overflow_cast-alert : goal.overflow_cast-alert
overflow_cast-alert c = omega (arith, c.loop-alert-test.true, c.loop-alert.invariant.most, many-alerts c.args.book.now, (sizes c.args.book.now c.alerts-alerts.ensures.sealed).alerts)

pub add-requires-clause-places : goal.add-requires-clause-places
add-requires-clause-places c =
    let places : length c.args.book.now.alerts.items ≡ length c.loop-alert.listers.heads.items = sym (c.loop-alert.invariant.places ∙ many-alerts c.args.book.now) in
    subst (λ n. All (λ s. s < n) c.secondaries.result.now) places c.secondaries.ensures.within

pub loop-alert-preserved : goal.loop-alert-preserved
loop-alert-preserved c =
    let b = the_book c.args.book.now in
    let k = c.loop-alert.alert - 1 in
    let old = c.loop-alert.listers in
    let was = c.loop-alert.invariant in
    let adds = c.in_ok-add.ensures in
    let same : c.loop-alert.alert ≡ suc k = omega (arith, c.loop-alert-test.true) in
    record {
      most = omega (arith, was.most);
      places = adds.places ∙ was.places;
      linked = subst (λ n. AreLinked n c.add.new.self) was.places adds.linked;
      found = λ test a within.
          linked-more test (secondaries_of b) a k c.secondaries.result.now (first_lister test old a) (first_lister test c.add.new.self a) _ c.secondaries.ensures.value
          (adds.adds test a (omega (arith, within, was.places)))
          (ap (λ m. option_or (find test (listing (secondaries_of b) a m)) (first_lister test old a)) (sym same) ∙ was.found test a within);
    }

pub returns : goal.returns
returns c =
    let b = the_book c.args.book.now in
    let was = c.loop-alert.invariant in
    let end : c.loop-alert.alert ≡ 0 = omega (arith, c.loop-alert-test.false) in
    record {
      places = was.places;
      linked = was.linked;
      first = λ test a within.
          let own = first_lister test c.loop-alert.listers a in
          ap (λ o. option_or o own) (sym (find-none test (secondaries_of b) a))
          ∙ ap (λ m. option_or (find test (listing (secondaries_of b) a m)) own) (sym end)
          ∙ was.found test a within ∙ ap (find test) (sym (primaries-listing b a));
    }
