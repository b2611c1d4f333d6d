use Rattle.std.proofs.Common.{◌≡◌, ◌<◌, [], ◌∷◌, ◌++◌, length, All, sym, ap, subst, ◌∙◌, arith, length-append}
use Rattle.std.specs.Prelude.{filter}
use Rattle.std.proofs.lemmas.List.Elements.{All-filter}
use Rattle.ecam_spec.specs.Places.{below}
use Rattle.ecam_spec.proofs.OrderLaws.{below-below}
use Rattle.book_model.specs.Sealed.{the_book}
use Rattle.book_model.specs.Told.{flagged}
use Rattle.book_model.proofs.BookLists.{many-alerts}
use Rattle.book_model.proofs.BookLimits.{sizes}
use Rattle.status_page.proofs.ActiveBelow.{active-more}
use Rattle.status_page.proofs.active.gather.Goals as goal

pub loop-next-init : goal.loop-next-init
unfolding below
loop-next-init c = record {
  most = c.next_known-next.ensures.end;
  active = c.next_known-next.ensures.active;
  few = omega (arith, ap length c.requires.none);
  places = c.requires.none ∙ sym c.next_known-next.ensures.none;
}

pub overflow_cast-next : goal.overflow_cast-next
overflow_cast-next c = omega (arith, c.loop-next-test.true, c.requires.active, (sizes c.args.book.now c.sealed.ensures).alerts)

pub push-requires : goal.push-requires
push-requires c = (omega arith, omega (arith, c.loop-next.invariant.few, c.loop-next-test.true, c.requires.active, (sizes c.args.book.now c.sealed.ensures).alerts))

pub loop-next-preserved : goal.loop-next-preserved
loop-next-preserved c =
    let active = flagged c.args.active.now in
    record {
      most = c.next_known-next-in-loop-next.ensures.end;
      active = c.next_known-next-in-loop-next.ensures.active;
      few = omega (arith, c.loop-next.invariant.few, ap length c.push.ensures.items, length-append c.loop-next.places.items (c.loop-next.next ∷ []), c.next_known-next-in-loop-next.ensures.from);
      places =
          c.push.ensures.items
          ∙ ap (λ xs. xs ++ c.loop-next.next ∷ []) c.loop-next.invariant.places
          ∙ sym (active-more active c.loop-next.next (c.loop-next.invariant.active c.loop-next-test.true))
          ∙ sym c.next_known-next-in-loop-next.ensures.none;
    }

pub returns-clause-places : goal.returns-clause-places
returns-clause-places c =
    let all : c.loop-next.next ≡ length (the_book c.args.book.now).alerts
    = omega (arith, c.loop-next-test.false, c.loop-next.invariant.most, c.requires.active, many-alerts c.args.book.now) in
    c.loop-next.invariant.places ∙ ap (λ n. filter (flagged c.args.active.now) (below n)) all

pub returns-clause-within : goal.returns-clause-within
returns-clause-within c =
    let n = length c.args.book.now.alerts.items in
    let all : c.loop-next.next ≡ length c.args.book.now.alerts.items = omega (arith, c.loop-next-test.false, c.loop-next.invariant.most, c.requires.active) in
    let active = flagged c.args.active.now in
    subst (All (λ a. a < n)) (sym (c.loop-next.invariant.places ∙ ap (λ m. filter active (below m)) all))
    (All-filter active (λ a. a < n) (below n) (below-below n))
