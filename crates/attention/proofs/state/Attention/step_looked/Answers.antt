use Rattle.std.proofs.Common.{◌≡◌, ℕ, suc, ◌+◌, ◌<◌, ◌==◌, false, length, get_or, inl, inr, sym, ◌∙◌, ap, subst, arith}
use Rattle.std.specs.Prelude.{filter}
use Rattle.std.specs.List.{list_any}
use Rattle.std.specs.Box.{boxed_slice_items}
use Rattle.std.proofs.lemmas.Bool.{cases_Bool}
use Rattle.ecam_spec.specs.Book as plain
use Rattle.ecam_spec.specs.Places.{below}
use Rattle.book_model.specs.Sealed.{the_book}
use Rattle.book_model.proofs.BookLists.{many-alerts}
use Rattle.book_model.proofs.BookReads.{alert-read}
use Rattle.wakes.specs.Marks.{is_marked, room}
use Rattle.attention.specs.declared.moment.Moment.{Moment}
use Rattle.attention.specs.Watches.{AreMarked, AreWatched, has_open}
use Rattle.attention.specs.Moments.{IsMoment}
use Rattle.attention.specs.Calling.{AreCalls, AreCallers, HaveRoom, is_shown, rings_in}
use Rattle.attention.specs.declared.calls.Calls.{Calls}
use Rattle.attention.specs.Latest.{any_rings, Tells}
use Rattle.attention.specs.Walked.{IsStepped}
use Rattle.attention.proofs.Below.{filter-below}
use Rattle.attention.proofs.Ordered.{shown-at}
use Rattle.attention.proofs.CallLaws.{calls-ordered}
use Rattle.attention.proofs.Idling.{unmarked, idle-left}
use Rattle.attention.proofs.StandsOn.{boxed-is, stands-next}
use Rattle.attention.proofs.Turning.{known-latest}
use Rattle.attention.proofs.state.Attention.step_looked.Goals as goal
use Rattle.attention.proofs.state.Attention.step_looked.Goals.{After-hear}

pub join_open-requires : goal.join_open-requires
join_open-requires c = c.requires.fits.looked_room ∙ sym c.requires.fits.open_room

pub walk-latest-requires-clause-watches : goal.walk-latest-requires-clause-watches
walk-latest-requires-clause-watches c =
    ap length c.as_mut_slice.ensures.value
    ∙ c.requires.fits.watches
    ∙ many-alerts c.args.book.now
    ∙ ap length (sym c.alerts-alerts.ensures.value)

pub walk-latest-requires-clause-open_room : goal.walk-latest-requires-clause-open_room
walk-latest-requires-clause-open_room c =
    omega (arith, c.requires.fits.open_room, many-alerts c.args.book.now, ap length c.alerts-alerts.ensures.value)

pub walk-latest-requires-clause-callers : goal.walk-latest-requires-clause-callers
walk-latest-requires-clause-callers c =
    subst (λ n. HaveRoom n c.args.self.now.callers) (many-alerts c.args.book.now ∙ ap length (sym c.alerts-alerts.ensures.value))
    c.requires.fits.callers

pub walk-latest-requires-clause-latest : goal.walk-latest-requires-clause-latest
walk-latest-requires-clause-latest c =
    known-latest _ _ _ _ c.args.self.now.callers.chimes c.args.self.now.calls.chime
    (many-alerts c.args.book.now ∙ ap length (sym c.alerts-alerts.ensures.value)) (sym c.as_mut_slice.ensures.value) c.requires.fits.latest

pub walk-latest-requires-clause-still_open : goal.walk-latest-requires-clause-still_open
walk-latest-requires-clause-still_open c = rw c.as_mut_slice.ensures.value c.requires.fits.still_open

-- what is kept is written, and is read again
read : (c : After-hear) → c.as_slice.result.now ≡ c.walk-latest.new.watches
read c =
    c.as_slice.ensures.value
    ∙ boxed-is c.args.self.now.watches c.walk-latest.new.watches (c.walk-latest.auto.watches ∙ ap length c.as_mut_slice.ensures.value)

written : (c : After-hear) → boxed_slice_items c.hear.new.self.watches ≡ c.walk-latest.new.watches
written c =
    ap boxed_slice_items c.hear.ensures.watches
    ∙ boxed-is c.args.self.now.watches c.walk-latest.new.watches (c.walk-latest.auto.watches ∙ ap length c.as_mut_slice.ensures.value)

pub calls-calls-requires-clause-watches : goal.calls-calls-requires-clause-watches
calls-calls-requires-clause-watches c =
    ap length c.as_slice.ensures.value
    ∙ ap length (boxed-is c.args.self.now.watches c.walk-latest.new.watches (c.walk-latest.auto.watches ∙ ap length c.as_mut_slice.ensures.value))
    ∙ c.walk-latest.auto.watches
    ∙ ap length c.as_mut_slice.ensures.value
    ∙ c.requires.fits.watches
    ∙ many-alerts c.args.book.now
    ∙ ap length (sym c.alerts-alerts.ensures.value)

pub calls-calls-requires-clause-latest : goal.calls-calls-requires-clause-latest
calls-calls-requires-clause-latest c =
    subst (λ ws. Tells (any_rings (length c.alerts-alerts.result.now) ws c.walk-latest.new.callers.chimes) c.walk-latest.result)
    (sym
    (c.as_slice.ensures.value
    ∙ boxed-is c.args.self.now.watches c.walk-latest.new.watches (c.walk-latest.auto.watches ∙ ap length c.as_mut_slice.ensures.value)))
    c.walk-latest.ensures.latest

pub returns-clause-fits : goal.returns-clause-fits
returns-clause-fits c = record {
  watches = ap length (written c) ∙ c.walk-latest.auto.watches ∙ ap length c.as_mut_slice.ensures.value ∙ c.requires.fits.watches;
  open_room = ap room c.hear.ensures.still_open ∙ c.walk-latest.ensures.open_room ∙ c.requires.fits.open_room;
  looked_room = ap room c.hear.ensures.looked ∙ c.join_open.ensures.room ∙ c.requires.fits.looked_room;
  callers =
      rw c.hear.ensures.callers
      (subst (λ n. HaveRoom n c.walk-latest.new.callers) (ap length c.alerts-alerts.ensures.value ∙ sym (many-alerts c.args.book.now))
      c.walk-latest.ensures.callers);
  still_open = rw (written c, c.hear.ensures.still_open) c.walk-latest.ensures.still_open;
  latest = λ j.
      ap (λ (x : Calls). rings_in j x.chime) c.hear.ensures.calls
      ∙ c.calls-calls.ensures.chime j
      ∙ rw (written c, read c, c.hear.ensures.callers) (ap (λ n. any_rings n c.walk-latest.new.watches c.walk-latest.new.callers.chimes j) (ap length c.alerts-alerts.ensures.value ∙ sym (many-alerts c.args.book.now)));
}

pub returns-clause-stands : goal.returns-clause-stands
returns-clause-stands c = λ a k own brings stays stands.
    let d = c.args.book.now in
    let b = the_book d in
    let alerts = c.alerts-alerts.result.now in
    let n = length b.alerts in
    let watches = c.as_mut_slice.result.now in
    let news = c.walk-latest.new.watches in
    let next = c.walk-latest.new.callers in
    let looked = c.join_open.new.looked in
    let calls = c.calls-calls.result in
    let brought : Moment = record { number = c.args.self.now.moments; up = c.args.up; shown = c.args.shown; presses = c.among.result } in
    let many : length alerts ≡ n = ap length c.alerts-alerts.ensures.value ∙ sym (many-alerts d) in
    let moment : IsMoment a k alerts brought = record {
      number = stands.moments;
      listed = record {
        level = λ i x h here. sym (own.level i ∙ ap (λ (y : plain.Alert). y.level) (alert-read d alerts i x c.alerts-alerts.ensures.value h here));
        sound = λ i x h here. sym (own.sound i ∙ ap (λ (y : plain.Alert). y.sound) (alert-read d alerts i x c.alerts-alerts.ensures.value h here));
      };
      up = λ i h. brings.up i (omega (arith, h, many));
      presses = record { mw = c.among.ensures.mw ∙ brings.mw; mc = c.among.ensures.mc ∙ brings.mc; emer = c.among.ensures.emer ∙ brings.emer };
    } in
    let kept : AreWatched a k n watches = rw c.as_mut_slice.ensures.value stands.watches in
    let opens : AreMarked has_open watches c.args.self.now.still_open = rw c.as_mut_slice.ensures.value c.requires.fits.still_open in
    let shown : (i : ℕ) → i < n → is_shown a k i ≡ get_or c.args.shown.now i false =
    λ i h. ap (list_any (λ x. x == i)) brings.shown ∙ shown-at b (λ j. get_or c.args.shown.now j false) i h in
    let stepped : (i : ℕ) → i < n → IsStepped a k i (is_shown a k i) news next =
    λ i h. elim (cases_Bool (is_marked looked i)) [
      | inl on ↦
          subst (λ s. IsStepped a k i s news next) (sym (shown i h))
          (c.walk-latest.ensures.looked a k i moment (rw many kept) (omega (arith, h, many)) on)
      | inr off ↦
          idle-left a n k i c.among.result watches news c.args.self.now.callers next c.args.self.now.still_open looked h moment.presses
          (stays i h (unmarked _ _ (c.join_open.ensures.kept i) off)) kept stands.callers opens c.join_open.ensures.still_open off
          (c.walk-latest.ensures.others i off)
    ] in
    let walked : AreWatched a (suc k) n news = λ i h. (stepped i h).watch in
    let callers : AreCallers a k n next = λ i h. (stepped i h).marks in
    let called : AreCalls a k (filter (is_shown a k) (below n)) calls =
    subst (λ m. AreCalls a k (filter (is_shown a k) (below m)) calls) many
    (c.calls-calls.ensures.calls a k moment.listed (rw (many, read c) walked) (rw many callers)) in
    let in-order = calls-ordered b a k (λ i. get_or c.args.shown.now i false) calls own
    (subst (λ xs. AreCalls a k xs calls) (filter-below (is_shown a k) (λ i. get_or c.args.shown.now i false) n shown) called) in
    stands-next b a k c.args.self.now c.hear.new.self stands (record { same = c.hear.ensures.changed.same; other = c.hear.ensures.changed.other })
    (returns-clause-fits c)
    (c.hear.ensures.moments ∙ ap (λ m. m + 1) stands.moments)
    (rw (written c) walked)
    (rw c.hear.ensures.callers callers)
    (rw (c.hear.ensures.calls, brings.shown) in-order)
