use Rattle.std.proofs.Common.{◌≡◌, ◌<◌, ◌+◌, ◌*◌, ◌/◌, ℕ, false, suc, length, get_or, refl, sym, ap, ◌∙◌, subst, arith, add-one}
use Rattle.std.specs.Prelude.{◌↔◌}
use Rattle.ecam_spec.specs.Past.{Signal}
use Rattle.ecam_spec.specs.Book.{Book}
use Rattle.wakes.specs.Marks.{is_marked, room}
use Rattle.wakes.specs.declared.marked.Marked.{Marked}
use Rattle.wakes.specs.declared.due.Wakes.{Wakes}
use Rattle.book_model.specs.Sealed.{the_book}
use Rattle.book_model.proofs.BookLists.{many-alerts}
use Rattle.alert_truth.specs.Alerts.{Tells, active}
use Rattle.alert_truth.specs.Stars.{StarsFit, StarsStand}
use Rattle.alert_truth.specs.TruthsState.{TruthsFit, TruthsStand, HalfStand, StarsStay, StaysAt, AreNear}
use Rattle.alert_truth.specs.declared.stars.Stars.{Stars}
use Rattle.alert_truth.specs.declared.truths.Truths.{Truths}
use Rattle.alert_truth.proofs.Nearing.{near-away, settled-near, quiet-fits, quiet-near}
use Rattle.alert_truth.proofs.Stepping.{moment-ends, still-stars, still-starred, still-at, settled-at, settled-turned, stepped-tells}
use Rattle.alert_truth.proofs.truths.Truths.settle.Goals as goal
use Rattle.alert_truth.proofs.truths.Truths.settle.Goals.{then-self, else-self}

-- the truths after the moment, where these are settled and these are the keys
abbrev ended : Truths → Wakes → Truths
ended t dues = record t { moments = t.moments + 1; dues = dues; changing = false; changed = t.changing }

abbrev with_stars : Truths → Marked → Marked → Stars → Truths
with_stars t near turned s = record t { near = near; turned = turned; stars = s }

settled-fits : (b : Book) (old now : Truths) (dues : Wakes) (near turned : Marked) (s : Stars) → now ≡ with_stars old near turned s → dues ≡ now.dues → TruthsFit b old → room near ≡ room old.near → room turned ≡ room old.turned → AreNear (with_stars old near turned s) → StarsFit b s
    → TruthsFit b (ended now dues)
settled-fits b old now dues near turned s is same fits places others are stars =
    subst (λ t. TruthsFit b (ended t dues)) (sym is) (record {
      since = fits.since;
      present = fits.present;
      active = fits.active;
      waiting = fits.waiting;
      near_room = places ∙ fits.near_room;
      due_room = fits.due_room;
      turned_room = others ∙ fits.turned_room;
      room = fits.room;
      dues = ap length (same ∙ ap (λ (t : Truths). t.dues) is) ∙ fits.dues;
      restless = fits.restless;
      near = record { present = are.present; active = are.active; waiting = are.waiting; starred = are.starred; up = are.up; primaries = are.primaries };
      stars = stars;
    })

settled-stands : (b : Book) (conditions : ℕ → Signal) (phases : ℕ → ℕ) (k : ℕ) (old now : Truths) (dues : Wakes) (near turned : Marked) (s : Stars) → now ≡ with_stars old near turned s
    → dues ≡ now.dues → HalfStand b conditions phases k (length b.alerts) old → TruthsFit b (ended now dues) → StarsStand b (active b conditions phases) (suc k) s
    → (s.turned ≡ false) ↔ StarsStay b conditions phases k → ((a : ℕ) → a < length b.alerts → is_marked turned a ≡ false → StaysAt b conditions phases k a) → TruthsStand b conditions phases (suc k) (ended now dues)
settled-stands b conditions phases k old now dues near turned s is same half fits stars tells others =
    subst (λ t. TruthsStand b conditions phases (suc k) (ended t dues)) (sym is)
    (moment-ends b conditions phases k old (ended (with_stars old near turned s) dues) half (subst (λ t. TruthsFit b (ended t dues)) is fits)
    (add-one old.moments) (same ∙ ap (λ (t : Truths). t.dues) is) refl refl refl refl refl refl stars tells others)

pub settle-requires-clause-active_places : goal.settle-requires-clause-active_places
settle-requires-clause-active_places c = ap length c.deref.ensures.value ∙ c.requires.fits.active ∙ many-alerts c.args.book.now

pub settle-requires-clause-present_places : goal.settle-requires-clause-present_places
settle-requires-clause-present_places c = ap length c.deref-then-self.ensures.value ∙ c.requires.fits.present ∙ many-alerts c.args.book.now

pub settle-requires-clause-waiting_places : goal.settle-requires-clause-waiting_places
settle-requires-clause-waiting_places c = ap length c.deref-then-self-2.ensures.value ∙ c.requires.fits.waiting ∙ many-alerts c.args.book.now

pub settle-requires-clause-room : goal.settle-requires-clause-room
settle-requires-clause-room c = c.requires.fits.near_room ∙ ap (λ n. 64 * (n / 64 + 1)) (many-alerts c.args.book.now)

pub settle-requires-clause-moved_room : goal.settle-requires-clause-moved_room
settle-requires-clause-moved_room c = c.requires.fits.turned_room ∙ ap (λ n. 64 * (n / 64 + 1)) (many-alerts c.args.book.now)

pub settle-requires-clause-active : goal.settle-requires-clause-active
settle-requires-clause-active c = λ a told. c.requires.fits.near.active a (sym (ap (λ xs. get_or xs a false) c.deref.ensures.value) ∙ told)

pub settle-requires-clause-present : goal.settle-requires-clause-present
settle-requires-clause-present c = λ a told. c.requires.fits.near.present a (sym (ap (λ xs. get_or xs a false) c.deref-then-self.ensures.value) ∙ told)

pub settle-requires-clause-waiting : goal.settle-requires-clause-waiting
settle-requires-clause-waiting c = λ a told. c.requires.fits.near.waiting a (sym (ap (λ xs. get_or xs a false) c.deref-then-self-2.ensures.value) ∙ told)

pub settle-requires-clause-away : goal.settle-requires-clause-away
settle-requires-clause-away c = near-away c.args.self.now c.requires.fits.near

pub returns-clause-fits : goal.returns-clause-fits
returns-clause-fits c =
    let b = the_book c.args.book.now in
    let old = c.args.self.now in
    elim c.if-self.branch [
      | then-self w ↦
          settled-fits b old c.if-self.self c.pass.new.self w.settle.new.near w.settle.new.moved w.settle.new.self w.self-is c.pass.ensures c.requires.fits w.settle.ensures.room w.settle.ensures.moved_room
          (settled-near (with_stars old w.settle.new.near w.settle.new.moved w.settle.new.self)
          (λ a told. w.settle.ensures.present a (ap (λ xs. get_or xs a false) w.deref-then-self.ensures.value ∙ told))
          (λ a told. w.settle.ensures.active a (ap (λ xs. get_or xs a false) w.deref.ensures.value ∙ told))
          (λ a told. w.settle.ensures.waiting a (ap (λ xs. get_or xs a false) w.deref-then-self-2.ensures.value ∙ told))
          w.settle.ensures.away)
          w.settle.ensures.fits
      | else-self w ↦
          settled-fits b old c.if-self.self c.pass.new.self old.near old.turned (record old.stars { turned = false }) w.self-is c.pass.ensures c.requires.fits refl refl (quiet-near old c.requires.fits.near)
          (quiet-fits b old.stars c.requires.fits.stars)
    ]

pub returns-clause-stands : goal.returns-clause-stands
returns-clause-stands c = λ conditions phases k half.
    let b = the_book c.args.book.now in
    let old = c.args.self.now in
    let few = many-alerts c.args.book.now in
    let all : HalfStand b conditions phases k (length b.alerts) old = subst (λ n. HalfStand b conditions phases k n old) (sym few) half in
    elim c.if-self.branch [
      | then-self w ↦
          let told : Tells (length c.args.book.now.alerts.items) w.deref.result.now (active b conditions phases) (suc k)
          = λ a within. ap (λ xs. get_or xs a false) w.deref.ensures.value ∙ stepped-tells b conditions phases k old all a (omega (arith, within, few)) in
          let stands = w.settle.ensures.stands (active b conditions phases) k all.stars told
          (λ a within off. (all.turned a (omega (arith, within, few)) off).active) in
          let turned = w.settle.ensures.turned in
          settled-stands b conditions phases k old c.if-self.self c.pass.new.self w.settle.new.near w.settle.new.moved w.settle.new.self w.self-is c.pass.ensures all (returns-clause-fits c) stands
          (settled-turned b conditions phases k old.stars w.settle.new.self all.stars stands
          (λ e a within. turned.0 e a (omega (arith, within, few)), λ same. turned.1 (λ a within. same a (omega (arith, within, few)))))
          (λ a within off.
          let parts = w.settle.ensures.moved a (omega (arith, within, few)) off in
          settled-at b conditions phases k a old.stars w.settle.new.self all.stars stands within (all.turned a within parts.0) parts.1)
      | else-self w ↦
          let still = all.changing.0 w.if-self.false in
          settled-stands b conditions phases k old c.if-self.self c.pass.new.self old.near old.turned (record old.stars { turned = false }) w.self-is c.pass.ensures all (returns-clause-fits c)
          (still-stars b conditions phases k old.stars still all.stars)
          (λ e. still-starred b conditions phases k still, λ same. refl)
          (λ a within off. still-at b conditions phases k still a within)
    ]

pub returns-clause-restless : goal.returns-clause-restless
returns-clause-restless c =
    elim c.if-self.branch [
      | then-self w ↦ ap (λ (t : Truths). t.restless) w.self-is
      | else-self w ↦ ap (λ (t : Truths). t.restless) w.self-is
    ]

pub returns-clause-changed : goal.returns-clause-changed
returns-clause-changed c =
    elim c.if-self.branch [
      | then-self w ↦ ap (λ (t : Truths). t.changing) w.self-is
      | else-self w ↦ ap (λ (t : Truths). t.changing) w.self-is
    ]
