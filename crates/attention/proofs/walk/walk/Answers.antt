use Rattle.std.proofs.Common.{◌≡◌, ◌≢◌, ℕ, suc, ◌+◌, ◌≤◌, ◌&&◌, true, false, length, get_or, slice_get, Some, inl, inr, sym, ◌∙◌, ap, subst, arith}
use Rattle.std.proofs.lemmas.Bool.{cases_lt, cases_eq, ne_eqb}
use Rattle.std.proofs.lemmas.Option.{get_or_from_slice_get}
use Rattle.ecam_spec.specs.Lamps as lamps
use Rattle.wakes.specs.Marks.{is_marked}
use Rattle.attention.specs.Watches.{calling, watch_after, AreWatched}
use Rattle.attention.specs.Moments.{IsMoment}
use Rattle.attention.specs.Walked.{IsStepped, IsLeft}
use Rattle.attention.proofs.CallLaws.{calls-kept}
use Rattle.attention.proofs.Walking.{get-same, get-other, left-on, stepped-on, marks-same}
use Rattle.attention.proofs.Turning.{read-rings, watch-rings, turned}
use Rattle.attention.proofs.walk.walk.Goals as goal
use Rattle.attention.proofs.walk.walk.Goals.{After-next_or-i-in-loop-i}

module _ (c : After-next_or-i-in-loop-i) where
  long : length c.loop-i.watches ≡ length c.args.alerts.now
  long = c.loop-i.auto.watches ∙ c.requires.watches

  -- the alert whose turn it is
  own : (a : lamps.Attention) (k : ℕ) → IsMoment a k c.args.alerts.now c.args.moment.now → AreWatched a k (length c.args.alerts.now) c.args.watches.now
      → IsStepped a k c.loop-i.i (get_or c.args.moment.now.shown.now c.loop-i.i false) c.keep.new.watches c.put-chimes.new.self
  own a k moment kept =
      let i = c.loop-i.i in
      let level = moment.listed.level i c.index-alerts-i.result c.loop-i-test.true c.index-alerts-i.is in
      let sound = moment.listed.sound i c.index-alerts-i.result c.loop-i-test.true c.index-alerts-i.is in
      let pressed = c.acknowledge-pressed.ensures a k moment.presses ∙ ap (λ l. lamps.acknowledges a l k) level in
      let read = get_or_from_slice_get c.loop-i.watches i (watch_after a i k) _ ((c.loop-i.invariant.left i (inr (omega arith))).watch ∙ kept i c.loop-i-test.true) in
      let stepped : c.next-watch.result ≡ watch_after a i (suc k) = c.next-watch.ensures a i k (moment.up i c.loop-i-test.true) pressed moment.number read in
      let calls : c.calls.result ≡ lamps.calls a i k = c.calls.ensures ∙ ap calling stepped ∙ sym (calls-kept a k i) in
      record {
        watch =
            ap (λ ws. slice_get ws i) c.keep.ensures.watches
            ∙ get-same c.loop-i.watches i c.next-watch.result (omega (arith, long, c.loop-i-test.true))
            ∙ ap Some stepped;
        marks = c.put-chimes.ensures.own ∙ marks-same _ _ _ _ _ _ level sound (ap (λ b. get_or c.args.moment.now.shown.now i false && b) calls);
      }

  others : (j : ℕ) → j ≢ c.loop-i.i → IsLeft j c.loop-i.watches c.loop-i.callers c.keep.new.watches c.put-chimes.new.self
  others j apart = record {
    watch = ap (λ ws. slice_get ws j) c.keep.ensures.watches ∙ get-other c.loop-i.watches c.loop-i.i j c.next-watch.result apart;
    marks = c.put-chimes.ensures.others j (ne_eqb j c.loop-i.i apart);
  }

pub loop-i-preserved : goal.loop-i-preserved
loop-i-preserved c =
    let i = c.loop-i.i in
    let next = c.next_or-i-in-loop-i in
    record {
      most = next.ensures.end;
      here = next.ensures.marked;
      open_room = c.keep.ensures.room ∙ c.loop-i.invariant.open_room;
      callers = c.put-chimes.ensures.room _ c.loop-i.invariant.callers;
      still_open = c.keep.ensures.still_open c.loop-i.invariant.still_open;
      latest =
          turned (length c.args.alerts.now) i c.loop-i.watches c.keep.new.watches c.loop-i.callers c.put-chimes.new.self c.loop-i-test.true (others c)
          c.opened_if-before.result c.opened_if.result c.loop-i.latest c.turn.new.self
          (read-rings c.loop-i.watches i _ c.has.result _ c.opened_if-before.result (omega (arith, long c, c.loop-i-test.true)) c.has.ensures c.opened_if-before.ensures)
          (watch-rings c.keep.new.watches i c.next-watch.result c.put-chimes.result _ c.opened_if.result
          (ap (λ ws. slice_get ws i) c.keep.ensures.watches ∙ get-same c.loop-i.watches i c.next-watch.result (omega (arith, long c, c.loop-i-test.true)))
          c.put-chimes.ensures.chimes c.opened_if.ensures)
          c.turn.ensures c.loop-i.invariant.latest;
      stepped = λ a k j moment kept low is. elim (cases_eq j i) [
        | inl e ↦
            subst (λ m. IsStepped a k m (get_or c.args.moment.now.shown.now m false) c.keep.new.watches c.put-chimes.new.self) (sym e)
            (own c a k moment kept)
        | inr apart ↦ elim (cases_lt j i) [
          | inl before ↦ stepped-on a k j _ _ _ _ _ (c.loop-i.invariant.stepped a k j moment kept before is) (others c j apart)
          | inr after ↦
              let past : i + 1 ≤ j = elim (cases_lt i j) [ inl more ↦ omega (arith, more) | inr same ↦ absurd (apart (omega (arith, after, same))) ] in
              absurd (let clash : true ≡ false = sym is ∙ next.ensures.none j past low in cc)
        ]
      ];
      left = λ j which.
          left-on j _ _ _ _ _ _ (c.loop-i.invariant.left j (elim which [ inl off ↦ inl off | inr far ↦ inr (omega (arith, far, next.ensures.from)) ]))
          (others c j
          (λ e. elim which [
            | inl off ↦
                let clash : true ≡ false =
                sym (c.loop-i.invariant.here c.loop-i-test.true) ∙ ap (is_marked c.args.looked.now) (sym e) ∙ off in
                cc
            | inr far ↦ absurd (let x : ⊥ = omega (arith, far, e, next.ensures.from) in x)
          ]));
    }

pub returns-clause-looked : goal.returns-clause-looked
returns-clause-looked c = λ a k i moment kept within is. c.loop-i.invariant.stepped a k i moment kept (omega (arith, within, c.loop-i-test.false)) is

pub returns-clause-others : goal.returns-clause-others
returns-clause-others c = λ i off. c.loop-i.invariant.left i (inl off)
