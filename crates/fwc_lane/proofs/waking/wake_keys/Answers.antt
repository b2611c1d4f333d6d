use Rattle.std.proofs.Common.{◌≡◌, ℕ, ◌+◌, ◌-◌, ◌&&◌, ◌||◌, ◌==◌, length, ap, sym, subst, ◌∙◌, add-one, refl, arith}
use Rattle.std.proofs.lemmas.Bool.{eqb-true}
use Rattle.ecam_kinds.specs.declared.keys.Keys.{Keys}
use Rattle.book_model.specs.Sealed.{the_book}
use Rattle.term_eval.specs.declared.reading.Reading.{Reading}
use Rattle.term_eval.specs.declared.reading.Reading.TheVariants.{Flag}
use Rattle.fwc_lane.specs.declared.terms.Terms.{Terms}
use Rattle.fwc_lane.specs.Waking.{HasWoken, ranged, key_turned, key_read}
use Rattle.fwc_lane.proofs.Listing.{right-true}
use Rattle.fwc_lane.proofs.Awake.{awake-then, awake-none}
use Rattle.fwc_lane.proofs.Unheard.{awake-unnamed}
use Rattle.fwc_lane.proofs.Ranges.{ranged-next, ranged-none}
use Rattle.fwc_lane.proofs.KeyNumbers.{none-turned}
use Rattle.fwc_lane.proofs.waking.wake_keys.Goals as goal

pub loop-number-init : goal.loop-number-init
loop-number-init c =
    let b = the_book c.args.book.now in
    let from = length b.parameters + length b.alerts + 1 in
    record {
      fits = c.requires.fits;
      wakes = awake-none b (ranged from 0 (key_turned c.args.terms.now.keys c.args.keys.now)) (λ o. key_read c.args.keys.now (o - from)) c.args.terms.now (ranged-none from (key_turned c.args.terms.now.keys c.args.keys.now));
    }

pub loop-number-preserved : goal.loop-number-preserved
loop-number-preserved c =
    let b = the_book c.args.book.now in
    let from = length b.parameters + length b.alerts + 1 in
    let i = c.loop-number.number in
    let was = c.args.terms.now.keys in
    let turned = key_turned was c.args.keys.now in
    let kept : c.loop-number.terms.keys ≡ was = ap (λ (t : Terms). t.keys) c.loop-number.invariant.wakes.rest in
    let reads : ℕ → Reading = λ o. key_read c.args.keys.now (o - from) in
    let read : Flag c.is_pressed.result ≡ key_read c.args.keys.now i = c.is_pressed.ensures ∙ ap (λ (q : Keys). key_read q i) c.keys-in-loop-number-2.ensures in
    let other : c.key_turned-other.result ≡ turned i =
    c.key_turned-other.ensures ∙ ap (λ (q : Keys). key_turned q c.keys-in-loop-number.result.now i) (c.keys.ensures ∙ kept) ∙ ap (λ (q : Keys). key_turned was q i) c.keys-in-loop-number.ensures in
    record {
      fits = c.wake_key.ensures.fits;
      wakes = awake-then b (ranged from i turned) (λ o. c.key_turned-other.result && (o == from + i)) (ranged from (i + 1) turned) reads (λ o. Flag c.is_pressed.result) reads c.args.terms.now c.loop-number.terms c.wake_key.new.terms
          (λ o. ap (λ n. ranged from n turned o) (add-one i) ∙ ranged-next from i turned o ∙ ap (λ x. ranged from i turned o || (x && (o == from + i))) (sym other))
          (λ o on. refl)
          (λ o on.
          let at : o ≡ from + i = eqb-true o (from + i) (right-true c.key_turned-other.result (o == from + i) on) in
          ap (key_read c.args.keys.now) (let z : o - from ≡ i = omega (arith, at) in z) ∙ sym read)
          c.loop-number.invariant.wakes c.wake_key.ensures.wakes;
    }

pub returns-then-are_quiet-clause-wakes : goal.returns-then-are_quiet-clause-wakes
returns-then-are_quiet-clause-wakes c =
    let b = the_book c.args.book.now in
    let from = length b.parameters + length b.alerts + 1 in
    awake-none b (ranged from 25 (key_turned c.args.terms.now.keys c.args.keys.now)) (λ o. key_read c.args.keys.now (o - from)) c.args.terms.now
    (none-turned c.args.terms.now.keys c.args.keys.now (c.are_quiet.ensures.was c.if-are_quiet.true) (c.are_quiet.ensures.keys c.if-are_quiet.true) from)

pub returns-then-are_unheard-clause-wakes : goal.returns-then-are_unheard-clause-wakes
returns-then-are_unheard-clause-wakes c =
    let b = the_book c.args.book.now in
    let from = length b.parameters + length b.alerts + 1 in
    awake-unnamed b from 25 (key_turned c.args.terms.now.keys c.args.keys.now) (c.are_unheard.ensures c.if-are_unheard.true) (λ o. key_read c.args.keys.now (o - from)) c.args.terms.now

pub returns-clause-wakes : goal.returns-clause-wakes
returns-clause-wakes c =
    let b = the_book c.args.book.now in
    let from = length b.parameters + length b.alerts + 1 in
    let all : c.loop-number.number ≡ 25 = omega (arith, c.loop-number-test.false, c.loop-number.auto.number-end) in
    subst (λ n. HasWoken b (ranged from n (key_turned c.args.terms.now.keys c.args.keys.now)) (λ o. key_read c.args.keys.now (o - from)) c.args.terms.now c.loop-number.terms) all
    c.loop-number.invariant.wakes
