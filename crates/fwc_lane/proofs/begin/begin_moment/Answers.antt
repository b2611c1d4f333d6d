use Rattle.std.proofs.Common.{◌≡◌, ◌⊎◌, ◌||◌, ◌&&◌, ◌+◌, ◌-◌, ℕ, zero, suc, Bool, false, if◌then◌else◌, length, get_or, None, inl, inr, refl, sym, ap, subst, ◌∙◌, arith, eqb}
use Rattle.ecam_spec.specs.Situation.{words_in}
use Rattle.book_model.specs.Sealed.{the_book}
use Rattle.term_eval.specs.Woken.{differ}
use Rattle.term_eval.specs.declared.reading.Reading.{Reading}
use Rattle.term_eval.specs.declared.reading.Reading.TheVariants.{Value, Flag}
use Rattle.ecam_kinds.specs.declared.keys.Keys.{Keys}
use Rattle.condition_codes.specs.IsCodes.{IsCodes}
use Rattle.fwc_lane.specs.declared.terms.Terms.{Terms}
use Rattle.fwc_lane.specs.Waking.{HasWoken, ranged, value_turned, key_turned, key_read}
use Rattle.fwc_lane.proofs.Awake.{awake-none}
use Rattle.fwc_lane.proofs.Beginning.{half-due, given, reads_given, awake-given, begins, begins-first}
use Rattle.fwc_lane.proofs.Ranges.{ranged-off}
use Rattle.fwc_lane.proofs.Ticks.{values-told, value-before}
use Rattle.fwc_lane.proofs.begin.begin_moment.Goals as goal

-- a moment is the first, or has one before it
zero-or-more : (k : ℕ) → (k ≡ 0) ⊎ ((h : ℕ) × (k ≡ suc h))
zero-or-more zero = inl refl
zero-or-more (suc h) = inr (h, refl)

pub returns-clause-begins : goal.returns-clause-begins
returns-clause-begins c = λ m came stands before.
    let d = c.args.book.now in
    let b = the_book d in
    let k = c.args.now in
    let old = c.args.terms.now in
    let was = c.args.values.now.items in
    let now = c.read_moment-any.new.values.items in
    let one = differ c.args.one_up old.one_up in
    let two = differ c.args.two_up old.two_up in
    let read : Terms = c.read_moment-any.new.terms in
    let told : Terms = c.wake_keys.new.terms in
    let new : Terms = c.wake_computers.new.terms in
    let first : Terms = record old { woken = c.wake_first.new.woken; stirred = c.wake_first.new.stirred; dues = c.wake_first.new.dues; cells = c.wake_first.new.cells } in
    let from = length b.parameters + length b.alerts + 1 in
    let by-values : ℕ → Reading = λ o. Value (get_or now o None) in
    let reads : ℕ → Reading = λ o. key_read c.args.keys.now (o - from) in
    let half = half-due b m k c.requires.now old c.wake_first.new.woken c.wake_first.new.stirred c.wake_first.new.dues c.wake_first.new.cells c.requires.fits stands
    (λ e j lt. c.wake_first.ensures.first e j (omega (arith, lt, c.len.ensures, old.truths.ok.0)))
    (λ h e j lt. c.wake_first.ensures.marks h e j (omega (arith, lt, c.len.ensures, old.truths.ok.0)))
    (λ j lt. c.wake_first.ensures.same j)
    (λ j lt off. c.wake_first.ensures.dues j off)
    c.wake_first.ensures.slots
    c.wake_first.ensures.nodes
    (c.wake_first.ensures.counts b old.cells.visits (subst (IsCodes b) (sym c.table.ensures) c.requires.fits.codes) (omega (arith, c.len.ensures, old.truths.ok.0, c.requires.fits.truths)) (omega (arith, c.requires.fits.visits))) in
    -- what the values wake, by the flags of those that turned
    let all : (values : ℕ → Bool) → HasWoken b (ranged 0 (length b.parameters) values) by-values first read
    → HasWoken b (given b values (key_turned old.keys c.args.keys.now) one two) (reads_given b now c.args.keys.now c.args.one_up c.args.two_up) first new =
    λ values wakes.
    let same-keys : read.keys ≡ old.keys = ap (λ (t : Terms). t.keys) wakes.rest in
    let pressed : HasWoken b (ranged from 25 (key_turned old.keys c.args.keys.now)) reads read told =
    subst (λ (q : Keys). HasWoken b (ranged from 25 (key_turned q c.args.keys.now)) reads read told) same-keys c.wake_keys.ensures.wakes in
    let was-one : told.one_up ≡ old.one_up = ap (λ (t : Terms). t.one_up) c.wake_keys.ensures.wakes.rest ∙ ap (λ (t : Terms). t.one_up) wakes.rest in
    let was-two : told.two_up ≡ old.two_up = ap (λ (t : Terms). t.two_up) c.wake_keys.ensures.wakes.rest ∙ ap (λ (t : Terms). t.two_up) wakes.rest in
    let computers : HasWoken b (λ o. (one && eqb o (length b.parameters + length b.alerts + 26)) || (two && eqb o (length b.parameters + length b.alerts + 27)))
    (λ o. Flag (if eqb o (length b.parameters + length b.alerts + 26) then c.args.one_up else c.args.two_up)) told new =
    subst (λ up. HasWoken b (λ o. (one && eqb o (length b.parameters + length b.alerts + 26)) || (differ c.args.two_up up && eqb o (length b.parameters + length b.alerts + 27)))
    (λ o. Flag (if eqb o (length b.parameters + length b.alerts + 26) then c.args.one_up else c.args.two_up)) told new) was-two
    (subst (λ up. HasWoken b (λ o. (differ c.args.one_up up && eqb o (length b.parameters + length b.alerts + 26)) || (differ c.args.two_up told.two_up && eqb o (length b.parameters + length b.alerts + 27)))
    (λ o. Flag (if eqb o (length b.parameters + length b.alerts + 26) then c.args.one_up else c.args.two_up)) told new) was-one c.wake_computers.ensures.wakes) in
    awake-given b values (key_turned old.keys c.args.keys.now) one two now c.args.keys.now c.args.one_up c.args.two_up first read told new wakes pressed computers in
    elim (zero-or-more k) [
      | inl start ↦
          begins-first d c.sealed.ensures m k old.cells.visits first new
          (given b (λ p. false) (key_turned old.keys c.args.keys.now) one two) (reads_given b now c.args.keys.now c.args.one_up c.args.two_up) start half
          (all (λ p. false)
          (subst (HasWoken b (ranged 0 (length b.parameters) (λ p. false)) by-values first) (sym (c.read_moment-any.ensures.same start))
          (awake-none b (ranged 0 (length b.parameters) (λ p. false)) by-values first (ranged-off 0 (length b.parameters)))))
      | inr later ↦
          begins d c.sealed.ensures m k old.cells.visits old first new c.args.params.now c.args.keys.now c.args.one_up c.args.two_up was now stands came (value-before b m k was before)
          (values-told b m k now (c.read_moment-any.ensures.values (words_in b m) k came.words before)) half
          (all (value_turned was now) (c.read_moment-any.ensures.wakes later.0 later.1))
    ]
