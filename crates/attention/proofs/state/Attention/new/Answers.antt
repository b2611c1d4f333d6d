use Rattle.std.proofs.Common.{◌≡◌, ℕ, zero, suc, ◌+◌, ◌-◌, ◌*◌, ◌/◌, [], ◌++◌, take, length, replicate, refl, sym, ap, ◌∙◌, subst, arith}
use Rattle.std.proofs.lemmas.List.{length-replicate}
use Rattle.std.specs.Box.{boxed_slice_items}
use Rattle.book_model.specs.Sealed.{the_book}
use Rattle.book_model.proofs.BookLists.{many-alerts}
use Rattle.book_model.proofs.BookLimits.{sizes}
use Rattle.attention.specs.declared.calls.Calls.{Calls}
use Rattle.attention.specs.Calling.{HaveRoom, rings_in}
use Rattle.attention.proofs.Ringing.{rings-none}
use Rattle.attention.proofs.StandsOn.{none-open, stands-first}
use Rattle.attention.proofs.state.Attention.new.Goals as goal
use Rattle.attention.proofs.state.Attention.new.Goals.{After-none}

filled : {X : Type 0} (n : ℕ) (x : X) → take n [] ++ replicate (n - 0) x ≡ replicate n x
filled zero x = refl
filled (suc n) x = let same : suc n - 0 ≡ suc n = omega arith in ap (λ k. replicate k x) same

-- each alert is watched from the start
all-new : (c : After-none) → boxed_slice_items c.into_boxed_slice.result ≡ replicate (length c.alerts-alerts.result.now) c.new.result
all-new c =
    c.into_boxed_slice.ensures.items
    ∙ c.in_ok-resize.ensures.items
    ∙ rw (c.new-watches.ensures.items, c.new-watches.ensures.len) (filled (length c.alerts-alerts.result.now) c.new.result)

many : (c : After-none) → length c.alerts-alerts.result.now ≡ length (the_book c.args.book.now).alerts
many c = ap length c.alerts-alerts.ensures.value ∙ sym (many-alerts c.args.book.now)

sized : (c : After-none) → 64 * (length c.alerts-alerts.result.now / 64 + 1) ≡ 64 * (length (the_book c.args.book.now).alerts / 64 + 1)
sized c = ap (λ n. 64 * (n / 64 + 1)) (many c)

pub returns-clause-fits : goal.returns-clause-fits
returns-clause-fits c = record {
  watches = ap length (all-new c) ∙ length-replicate (length c.alerts-alerts.result.now) c.new.result ∙ many c;
  open_room = c.in_ok-still_open.ensures.size ∙ sized c;
  looked_room = c.in_ok-looked.ensures.size ∙ sized c;
  callers = subst (λ n. HaveRoom n c.in_ok-callers.callers) (many c) c.in_ok-callers.ensures.room;
  still_open = none-open _ c.new.result _ c.in_ok-still_open.still_open (all-new c) c.new.ensures.shut;
  latest = λ j.
      ap (λ (x : Calls). rings_in j x.chime) c.none.ensures
      ∙ sym (rings-none c.in_ok-callers.callers.chimes (boxed_slice_items c.into_boxed_slice.result) j _ (λ i from h. c.in_ok-callers.ensures.none i));
}

pub returns-clause-stands : goal.returns-clause-stands
returns-clause-stands c = λ a.
    stands-first _ a _ (length c.alerts-alerts.result.now) c.new.result (returns-clause-fits c) refl c.none.ensures (many c) (all-new c) (λ i. c.new.ensures.stands a i)

pub new-requires-2 : goal.new-requires-2
new-requires-2 c =
    omega (arith, ap length c.alerts-alerts.ensures.value, (sizes c.args.book.now c.alerts-alerts.ensures.sealed).alerts)

pub new-requires-3 : goal.new-requires-3
new-requires-3 c =
    omega (arith, ap length c.alerts-alerts.ensures.value, (sizes c.args.book.now c.alerts-alerts.ensures.sealed).alerts)

pub new-requires-4 : goal.new-requires-4
new-requires-4 c =
    omega (arith, ap length c.alerts-alerts.ensures.value, (sizes c.args.book.now c.alerts-alerts.ensures.sealed).alerts)
