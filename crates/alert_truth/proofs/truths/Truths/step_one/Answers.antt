use Rattle.std.proofs.Common.{◌≡◌, ℕ, ◌<◌, suc, false, None, length, get_or, sym, ap, ◌∙◌, subst, arith}
use Rattle.std.proofs.lemmas.List.{get_or_default}
use Rattle.ecam_spec.specs.Past.{Signal, previous, running_since}
use Rattle.ecam_spec.specs.Term.{in_set}
use Rattle.ecam_spec.specs.Alert as alert
use Rattle.ecam_spec.specs.Situation.{alert_at}
use Rattle.book_model.specs.Sealed.{the_book}
use Rattle.book_model.proofs.BookLists.{many-alerts}
use Rattle.book_model.proofs.BookReads.{alert-read}
use Rattle.alert_truth.specs.Confirming.{confirmed_at}
use Rattle.alert_truth.specs.Alerts.{present, active, inhibited}
use Rattle.alert_truth.specs.TruthsState.{HalfStand, IsStepped}
use Rattle.alert_truth.proofs.Staying.{IsSame, stays-same}
use Rattle.alert_truth.proofs.Stepping.{notes-fits, half-step, half-same}
use Rattle.alert_truth.proofs.truths.Truths.step_one.Goals as goal
use Rattle.alert_truth.proofs.truths.Truths.step_one.Goals.{After-note, Then-stays}

pub stays-requires : goal.stays-requires
stays-requires c =
    let few = many-alerts c.args.book.now in
    record {
      since = omega (arith, c.requires.fits.since, few);
      present = omega (arith, c.requires.fits.present, few);
      active = omega (arith, c.requires.fits.active, few);
      waiting = omega (arith, c.requires.fits.waiting, few);
      restless = omega (arith, c.requires.fits.room, c.requires.alert, few);
      dues = omega (arith, c.requires.fits.dues, few);
      near = omega (arith, c.requires.fits.near_room, c.requires.alert, few);
      turned = omega (arith, c.requires.fits.turned_room, c.requires.alert, few);
    }

pub index-requires : goal.index-requires
index-requires c = omega (arith, c.requires.fits.since, many-alerts c.args.book.now, c.args.self.now.since.ok.0)

pub index-requires-2 : goal.index-requires-2
index-requires-2 c = omega (arith, c.requires.fits.active, many-alerts c.args.book.now, c.args.self.now.active.ok.0)

pub note-requires : goal.note-requires
note-requires c =
    let few = many-alerts c.args.book.now in
    record {
      since = omega (arith, c.requires.fits.since, few);
      present = omega (arith, c.requires.fits.present, few);
      active = omega (arith, c.requires.fits.active, few);
      waiting = omega (arith, c.requires.fits.waiting, few);
      restless = omega (arith, c.requires.fits.room, c.requires.alert, few);
      dues = omega (arith, c.requires.fits.dues, few);
      near = omega (arith, c.requires.fits.near_room, c.requires.alert, few);
      turned = omega (arith, c.requires.fits.turned_room, c.requires.alert, few);
    }

-- what the book has of the alert
confirm_of : (c : After-note) → (alert_at (the_book c.args.book.now) c.args.alert).confirm ≡ c.index-alerts-alert.result.confirm
confirm_of c =
    let within : c.args.alert < length c.alerts.result.now = rw c.alerts.ensures.value c.requires.alert in
    ap (λ a. a.confirm) (alert-read c.args.book.now c.alerts.result.now c.args.alert c.index-alerts-alert.result c.alerts.ensures.value within c.index-alerts-alert.is)

inhibit_of : (c : After-note) → (alert_at (the_book c.args.book.now) c.args.alert).inhibit ≡ c.index-alerts-alert.result.inhibit.0
inhibit_of c =
    let within : c.args.alert < length c.alerts.result.now = rw c.alerts.ensures.value c.requires.alert in
    ap (λ a. a.inhibit) (alert-read c.args.book.now c.alerts.result.now c.args.alert c.index-alerts-alert.result c.alerts.ensures.value within c.index-alerts-alert.is)

-- the alert in the moment before
module _ (c : After-note) (conditions : ℕ → Signal) (phases : ℕ → ℕ) (k : ℕ) (cond : c.args.cond ≡ conditions c.args.alert k) (phase : c.args.phase.number ≡ phases k)
    (half : HalfStand (the_book c.args.book.now) conditions phases k c.args.alert c.args.self.now) where
  within : c.args.alert < length (the_book c.args.book.now).alerts
  within = omega (arith, c.requires.alert, many-alerts c.args.book.now)

  before : IsStepped (the_book c.args.book.now) conditions phases k c.args.alert c.args.self.now
  before = half.left c.args.alert (omega arith) within

  since : c.since_when-since.result ≡ running_since (conditions c.args.alert) (suc k)
  since =
      let inside : c.args.alert < length c.args.self.now.since.items = omega (arith, within, half.fits.since) in
      let read : c.index.result.now ≡ running_since (conditions c.args.alert) k =
      c.index.ensures ∙ get_or_default c.args.self.now.since.items c.args.alert c.index.result.now None inside ∙ before.since in
      subst (λ n. c.since_when-since.result ≡ running_since (conditions c.args.alert) (suc n)) half.moments
      (c.since_when-since.ensures (conditions c.args.alert) (read ∙ ap (running_since (conditions c.args.alert)) (sym half.moments)) (cond ∙ ap (conditions c.args.alert) (sym half.moments)))

  is_present : c.is_present-present.result ≡ present (the_book c.args.book.now) conditions phases c.args.alert k
  is_present =
      c.is_present-present.ensures (conditions c.args.alert) (since ∙ ap (λ n. running_since (conditions c.args.alert) (suc n)) (sym half.moments))
      ∙ ap (λ n. alert.present n (conditions c.args.alert) c.args.self.now.moments) (sym (confirm_of c))
      ∙ ap (λ n. present (the_book c.args.book.now) conditions phases c.args.alert n) half.moments

  is_active : c.is_active-active.result ≡ active (the_book c.args.book.now) conditions phases c.args.alert k
  is_active =
      let inside : c.args.alert < length c.args.self.now.active.items = omega (arith, within, half.fits.active) in
      let read : c.index-2.result.now ≡ previous (active (the_book c.args.book.now) conditions phases c.args.alert) k =
      c.index-2.ensures ∙ get_or_default c.args.self.now.active.items c.args.alert c.index-2.result.now false inside ∙ before.active in
      let inhibits : c.has-inhibited.result ≡ inhibited (the_book c.args.book.now) conditions phases c.args.alert k =
      c.has-inhibited.ensures ∙ ap (λ n. in_set n c.args.phase.number) (sym (inhibit_of c)) ∙ ap (in_set (alert_at (the_book c.args.book.now) c.args.alert).inhibit) phase in
      c.is_active-active.ensures (inhibited (the_book c.args.book.now) conditions phases c.args.alert) (present (the_book c.args.book.now) conditions phases c.args.alert) k read inhibits is_present

pub returns-clause-stands : goal.returns-clause-stands
returns-clause-stands c = λ conditions phases k cond phase half.
    half-step (the_book c.args.book.now) conditions phases k c.args.alert c.since_when-since.result c.is_present-present.result c.is_active-active.result c.confirmed_at-due.result c.args.self.now c.note.new.self c.note.ensures.notes
    (within c conditions phases k cond phase half) (since c conditions phases k cond phase half) (is_present c conditions phases k cond phase half) (is_active c conditions phases k cond phase half)
    (c.confirmed_at-due.ensures ∙ ap (λ n. confirmed_at n c.since_when-since.result c.is_present-present.result) (sym (confirm_of c)))
    c.note.ensures.turns half

pub returns-clause-answer : goal.returns-clause-answer
returns-clause-answer c = λ conditions phases k cond phase half. is_active c conditions phases k cond phase half

-- the alert that stays as it is
module _ (c : Then-stays) (conditions : ℕ → Signal) (phases : ℕ → ℕ) (k : ℕ) (cond : c.args.cond ≡ conditions c.args.alert k)
    (half : HalfStand (the_book c.args.book.now) conditions phases k c.args.alert c.args.self.now) where
  stays-within : c.args.alert < length (the_book c.args.book.now).alerts
  stays-within = omega (arith, c.requires.alert, many-alerts c.args.book.now)

  same : IsSame (inhibited (the_book c.args.book.now) conditions phases c.args.alert) (conditions c.args.alert) (alert_at (the_book c.args.book.now) c.args.alert).confirm k
  same =
      let left : IsStepped (the_book c.args.book.now) conditions phases k c.args.alert c.args.self.now = half.left c.args.alert (omega arith) stays-within in
      stays-same (inhibited (the_book c.args.book.now) conditions phases c.args.alert) (conditions c.args.alert) (alert_at (the_book c.args.book.now) c.args.alert).confirm k
      c.args.cond (get_or c.args.self.now.active.items c.args.alert false) (get_or c.args.self.now.since.items c.args.alert None)
      cond left.active left.since (sym c.stays.ensures ∙ c.if-stays.true)

pub returns-then-stays-clause-stands : goal.returns-then-stays-clause-stands
returns-then-stays-clause-stands c = λ conditions phases k cond phase half.
    half-same (the_book c.args.book.now) conditions phases k c.args.alert c.args.self.now c.args.cond (stays-within c conditions phases k cond half) cond
    (sym c.stays.ensures ∙ c.if-stays.true) half

pub returns-then-stays-clause-answer : goal.returns-then-stays-clause-answer
returns-then-stays-clause-answer c = λ conditions phases k cond phase half. cond ∙ (same c conditions phases k cond half).answer

pub returns-clause-fits : goal.returns-clause-fits
returns-clause-fits c =
    notes-fits (the_book c.args.book.now) c.args.alert c.since_when-since.result c.is_present-present.result c.is_active-active.result c.confirmed_at-due.result c.args.self.now c.note.new.self
    (omega (arith, c.requires.alert, many-alerts c.args.book.now)) c.note.ensures.notes c.requires.fits
