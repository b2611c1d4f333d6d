-- What a press of RCL shows, in each moment of a book's life: the cleared alerts that are still up, and those that wait.
use Rattle.std.proofs.Common.{◌≡◌, ℕ, suc, Bool, true, false, not, ◌&&◌, ◌||◌, refl, ◌∙◌, ap}
use Rattle.std.proofs.Math.Bool.{and-false, or-true}
use Rattle.ecam_spec.specs.declared.kinds.Key.TheVariants.{Rcl}
use Rattle.ecam_spec.specs.Book.{Book}
use Rattle.ecam_spec.specs.History.{Moment}
use Rattle.ecam_spec.specs.Keys.{pressed}
use Rattle.ecam_spec.specs.Alert.{waiting}
use Rattle.ecam_spec.specs.Crew.{struck}
use Rattle.ecam_spec.specs.Situation.{strokes_in, inhibited, known_below, present_knowing, present_in, active_knowing, active_in, waiting_in, up_in}
use Rattle.ecam_spec.specs.Screen.{cockpit, shown_in, cleared_in, cancelled_in, is_shown_in}
use Rattle.ecam_spec.proofs.AlertLaws.{active_step}
use Rattle.ecam_spec.proofs.AccountLaws.{cleared-active}
use Rattle.ecam_spec.proofs.CrewLaws.{cleared_hidden, cleared_restored, waiting_recalled}

stays : (p i a : Bool) → a ≡ true → (p && not (p && (i || a))) ≡ false
stays true i a e = ap (λ x. not (i || x)) e ∙ ap not (or-true i)
stays false i a e = refl

module _ (b : Book) (moments : ℕ → Moment) where
  -- an active alert doesn't wait, nor does it in the next moment
  active-waits : (a k : ℕ) → active_in b moments a k ≡ true → waiting_in b moments a k ≡ false
  unfolding waiting_in waiting
  active-waits a k h = ap (λ x. present_in b moments a k && not x) h ∙ and-false (present_in b moments a k)

  active-waits-next : (a k : ℕ) → active_in b moments a k ≡ true → waiting_in b moments a (suc k) ≡ false
  unfolding waiting_in waiting active_in active_knowing present_in
  active-waits-next a k h =
      let presence = present_knowing b moments (known_below b moments a) a in
      ap (λ x. presence (suc k) && not x) (active_step (inhibited b moments a) presence k)
      ∙ stays (presence (suc k)) (not (inhibited b moments a (suc k))) (active_knowing b moments (known_below b moments a) a k) h

  -- an alert cleared in the moment before: without a press of RCL it isn't shown
  pub cleared_stays : (a k : ℕ) → cleared_in b moments a k ≡ true → pressed (strokes_in b moments) Rcl (suc k) ≡ false → is_shown_in b moments a (suc k) ≡ false
  unfolding cleared_in shown_in is_shown_in cockpit
  cleared_stays a k h none =
      cleared_hidden (cockpit b moments) a k h (active-waits-next a k (cleared-active b moments a k h)) none

  -- with one it is shown exactly where it is up and not cancelled
  pub cleared_recalled : (a k : ℕ) → cleared_in b moments a k ≡ true → pressed (strokes_in b moments) Rcl (suc k) ≡ true
      → is_shown_in b moments a (suc k) ≡ (up_in b moments a (suc k) && not (cancelled_in b moments a (suc k)))
  unfolding cleared_in cancelled_in shown_in is_shown_in cockpit
  cleared_recalled a k h press =
      let active = cleared-active b moments a k h in
      cleared_restored (cockpit b moments) a k h (active-waits a k active) (active-waits-next a k active) press

  -- an alert that is waiting, with a press of RCL: it is shown exactly where it isn't struck now and not cancelled
  pub waiting_shown : (a k : ℕ) → waiting_in b moments a k ≡ true → pressed (strokes_in b moments) Rcl k ≡ true
      → is_shown_in b moments a k ≡ (not (struck (cockpit b moments) (shown_in b moments) a k) && not (cancelled_in b moments a k))
  unfolding cancelled_in shown_in is_shown_in cockpit
  waiting_shown a k waits press = waiting_recalled (cockpit b moments) a k waits press
