-- A moment begins, in which some alerts are due.
use Rattle.std.proofs.Common.{◌≡◌, ℕ, suc, ◌<◌, Bool, true, false, ◌&&◌, ◌||◌, length, get_or, Some, None, cond, leb, refl, sym, ap, ◌∙◌, subst, arith}
use Rattle.std.specs.Prelude.{is_none, slice_index}
use Rattle.std.proofs.lemmas.Bool.{or_parts, leb-false}
use Rattle.ecam_spec.specs.Past.{Signal, previous, running_since, start_of}
use Rattle.ecam_spec.proofs.PastRuns.{running_since-start}
use Rattle.ecam_spec.specs.Book.{Book}
use Rattle.ecam_spec.specs.Term.{in_set}
use Rattle.ecam_spec.specs.Situation.{alert_at}
use Rattle.wakes.specs.Due.{never}
use Rattle.wakes.specs.Marks.{is_marked, room}
use Rattle.wakes.specs.declared.due.Wakes.{Wakes}
use Rattle.wakes.specs.declared.marked.Marked.{Marked}
use Rattle.alert_truth.specs.Alerts.{inhibited}
use Rattle.alert_truth.specs.Confirming.{confirmed_at}
use Rattle.alert_truth.specs.TruthsState.{TruthsFit, TruthsStand, HalfStand, IsStepped, IsStill, OthersStay}
use Rattle.alert_truth.specs.declared.truths.Truths.{Truths}
use Rattle.alert_truth.proofs.Staying.{stays-same, waits-on}
use Rattle.alert_truth.proofs.Stepping.{rests-by, moment-begins}

-- those that are due are put into a set, and have no key as long as they aren't stepped
pub record Gathers (turned : Bool) (old : Truths) (dues : Wakes) (due others : Marked) : Type 0 where
  pub places : room due ≡ room old.due
  pub emptied : room others ≡ room old.turned
  pub len : length dues ≡ length old.dues
  pub marks : (a : ℕ) → a < length old.dues → is_marked due a ≡ (leb (slice_index old.dues a) old.moments || (turned && is_marked old.restless a))
  pub keys : (a : ℕ) → a < length old.dues → slice_index dues a ≡ cond (leb (slice_index old.dues a) old.moments) never (slice_index old.dues a)

pub gathered-fits : (b : Book) (turned : Bool) (old : Truths) (dues : Wakes) (due others : Marked) → Gathers turned old dues due others → TruthsFit b old → TruthsFit b (record old { dues = dues; due = due; turned = others })
gathered-fits b turned old dues due others gathers fits = record {
  since = fits.since;
  present = fits.present;
  active = fits.active;
  waiting = fits.waiting;
  near_room = fits.near_room;
  due_room = gathers.places ∙ fits.due_room;
  turned_room = gathers.emptied ∙ fits.turned_room;
  room = fits.room;
  dues = gathers.len ∙ fits.dues;
  restless = fits.restless;
  near = record { present = fits.near.present; active = fits.near.active; waiting = fits.near.waiting; starred = fits.near.starred; up = fits.near.up; primaries = fits.near.primaries };
  stars = fits.stars;
}

cond-both : (c : Bool) (x y : ℕ) → x ≡ y → cond c x y ≡ x
cond-both true x y e = refl
cond-both false x y e = sym e

module _ (b : Book) (conditions : ℕ → Signal) (phases : ℕ → ℕ) (turned : Bool) (old : Truths) (dues : Wakes) (due others : Marked) (gathers : Gathers turned old dues due others) where
  new : Truths
  new = record old { dues = dues; due = due; turned = others }

  pub gathered-half : (k : ℕ) → TruthsStand b conditions phases k old → HalfStand b conditions phases k 0 (record old { dues = dues; due = due; turned = others })
  gathered-half k stands =
      let half = moment-begins b conditions phases k old stands in
      record {
        fits = gathered-fits b turned old dues due others gathers stands.fits;
        moments = half.moments;
        stepped = λ a below. absurd (omega arith);
        left = λ a from within. let was = stands.each a within in record { since = was.since; present = was.present; active = was.active; waiting = was.waiting };
        keys = λ a below. absurd (omega arith);
        left_keys = λ a from within.
            let inside : a < length old.dues = omega (arith, within, stands.fits.dues) in
            record {
              key = λ off.
                  gathers.keys a inside
                  ∙ ap (λ c. cond c never (slice_index old.dues a)) (or_parts (leb (slice_index old.dues a) old.moments) (turned && is_marked old.restless a) (sym (gathers.marks a inside) ∙ off)).0
                  ∙ stands.keys a within;
              none = λ e. gathers.keys a inside ∙ cond-both (leb (slice_index old.dues a) old.moments) never (slice_index old.dues a) (sym (stands.keys a within ∙ e));
            };
        stars = half.stars;
        changing = half.changing;
        turned = λ a below. absurd (omega (arith, below));
        changed = half.changed;
        stars_turned = half.stars_turned;
      }

  module _ (h a : ℕ) (stands : TruthsStand b conditions phases (suc h) old) (within : a < length b.alerts) (off : is_marked due a ≡ false) (same : conditions a (suc h) ≡ conditions a h)
      (phase : turned ≡ false → phases (suc h) ≡ phases h) where
    inside : a < length old.dues
    inside = omega (arith, within, stands.fits.dues)

    was : IsStepped b conditions phases (suc h) a old
    was = stands.each a within

    later : suc h < slice_index old.dues a
    later =
        let none = (or_parts (leb (slice_index old.dues a) old.moments) (turned && is_marked old.restless a) (sym (gathers.marks a inside) ∙ off)).0 in
        omega (arith, leb-false (slice_index old.dues a) old.moments none, stands.moments)

    calm : (turned && is_marked old.restless a) ≡ false
    calm = (or_parts (leb (slice_index old.dues a) old.moments) (turned && is_marked old.restless a) (sym (gathers.marks a inside) ∙ off)).1

    -- where the condition doesn't hold and didn't, or holds while the alert is active
    stays : (holds : Bool) → holds ≡ conditions a (suc h) → cond holds (get_or old.active.items a false) (is_none (get_or old.since.items a None)) ≡ true → IsStill b conditions phases (suc h) a
    stays holds on is =
        let kept = stays-same (inhibited b conditions phases a) (conditions a) (alert_at b a).confirm (suc h) holds (get_or old.active.items a false) (get_or old.since.items a None) on was.active was.since is in
        record { present = kept.present; active = kept.active }

    -- or the alert waits, for its confirmation or another phase
    waits : phases (suc h) ≡ phases h → conditions a (suc h) ≡ true → get_or old.active.items a false ≡ false → IsStill b conditions phases (suc h) a
    unfolding previous
    waits stay on still =
        let start = start_of (conditions a) h in
        let began : running_since (conditions a) (suc h) ≡ Some start = running_since-start (conditions a) h ∙ ap (λ c. cond c (Some start) None) (sym same ∙ on) in
        let kept = waits-on (inhibited b conditions phases a) (conditions a) (alert_at b a).confirm h (sym same ∙ on) on (sym was.active ∙ still)
        (ap (in_set (alert_at b a).inhibit) stay)
        (λ away. omega (
          arith,
          later,
          stands.keys a within
              ∙ ap (λ o. confirmed_at (alert_at b a).confirm o (get_or old.present.items a false)) (was.since ∙ began)
              ∙ ap (confirmed_at (alert_at b a).confirm (Some start)) (was.present ∙ away),
        )) in
        record { present = kept.0; active = kept.1 }

    by-active : (active : Bool) → get_or old.active.items a false ≡ active → phases (suc h) ≡ phases h → conditions a (suc h) ≡ true → IsStill b conditions phases (suc h) a
    by-active true on stay holds = stays true (sym holds) on
    by-active false off stay holds = waits stay holds off

    by-condition : (holds : Bool) → conditions a (suc h) ≡ holds → phases (suc h) ≡ phases h → IsStill b conditions phases (suc h) a
    by-condition true on stay = by-active (get_or old.active.items a false) refl stay on
    by-condition false gone stay =
        stays false (sym gone)
        (ap is_none (was.since ∙ running_since-start (conditions a) h ∙ ap (λ c. cond c (Some (start_of (conditions a) h)) None) (sym same ∙ gone)))

    by-turned : (t : Bool) → turned ≡ t → IsStill b conditions phases (suc h) a
    by-turned true on =
        stays (conditions a (suc h)) refl
        (rests-by b conditions phases h a old was same (sym (stands.fits.restless a within) ∙ ap (λ t. t && is_marked old.restless a) (sym on) ∙ calm))
    by-turned false stay = by-condition (conditions a (suc h)) refl (phase stay)

  pub gathered-others : (k : ℕ) → TruthsStand b conditions phases k old → (turned ≡ false → (h : ℕ) → k ≡ suc h → phases k ≡ phases h) → OthersStay b conditions phases k due
  gathered-others k stands phase h a e within off same =
      subst (λ n. IsStill b conditions phases n a) (sym e)
      (by-turned h a (subst (λ n. TruthsStand b conditions phases n old) e stands) within off (ap (conditions a) (sym e) ∙ same)
      (λ stay. ap phases (sym e) ∙ phase stay h e) turned refl)
