-- An idle alert: it is up and shown as in the moment before, and its onset isn't open where a press acknowledges it. The
-- moment leaves what is kept of it, and where it calls.
use Rattle.std.proofs.Common.{◌≡◌, ◌≢◌, ℕ, zero, suc, ◌<◌, Bool, true, false, not, ◌&&◌, ◌||◌, cond, List, Some, refl, sym, ◌∙◌, ap}
use Rattle.ecam_spec.specs.Past.{previous}
use Rattle.ecam_spec.specs.declared.kinds.Level.{Level}
use Rattle.ecam_spec.specs.declared.kinds.Level.TheVariants.{One, Two, Three}
use Rattle.ecam_spec.specs.Lamps as lamps
use Rattle.wakes.specs.Marks.{is_marked}
use Rattle.attention.specs.declared.callers.Callers.{Callers}
use Rattle.attention.specs.declared.moment.Presses.{Presses}
use Rattle.attention.specs.declared.watch.Onset.{Onset}
use Rattle.attention.specs.declared.watch.Onset.TheVariants.{Never, Open, Acknowledged}
use Rattle.attention.specs.declared.watch.Watch.{Watch}
use Rattle.attention.specs.Calling.{AreCallers, is_shown}
use Rattle.attention.specs.Moments.{ArePresses, any_pressed}
use Rattle.attention.specs.State.{StaysAt}
use Rattle.attention.specs.Walked.{IsStepped, IsLeft}
use Rattle.attention.specs.Watches.{acknowledged, is_open, has_open, calling, onset_after, watch_after, AreMarked, AreWatched}
use Rattle.attention.proofs.Onsets.{onset-stays}
use Rattle.attention.proofs.CallLaws.{calls-kept}
use Rattle.attention.proofs.Walking.{marks-same}

some-three : (mw mc emer : Bool) → (mw || emer) ≡ true → (mw || (mc || emer)) ≡ true
some-three true mc emer h = refl
some-three false true emer h = refl
some-three false false emer h = h

some-two : (mw mc emer : Bool) → (mc || emer) ≡ true → (mw || (mc || emer)) ≡ true
some-two true mc emer h = refl
some-two false mc emer h = h

-- what acknowledges a level is one of the keys
pressed-some : (a : lamps.Attention) (k : ℕ) (p : Presses) (l : Level) → ArePresses a k p → lamps.acknowledges a l k ≡ true
    → any_pressed p ≡ true
unfolding lamps.acknowledges
pressed-some a k p Three are is = some-three p.mw p.mc p.emer (rw (are.mw, are.emer) is)
pressed-some a k p Two are is = some-two p.mw p.mc p.emer (rw (are.mc, are.emer) is)
pressed-some a k p One are is = cc

pub same-before : (x y : Bool) → x ≡ y → (x && not y) ≡ false
same-before true true h = refl
same-before false y h = refl
same-before true false h = h

-- a press acknowledges nothing where no onset is open
shut-stays : (pressed : Bool) (o : Onset) → (pressed ≡ true → is_open o ≡ false) → cond pressed (acknowledged o) o ≡ o
shut-stays false o shut = refl
shut-stays true Never shut = refl
shut-stays true (Open j) shut = absurd (let open_now : true ≡ false = shut refl in cc)
shut-stays true Acknowledged shut = refl

-- what is only where there is a mark isn't where there is none
pub unmarked : (b mark : Bool) → (b ≡ true → mark ≡ true) → mark ≡ false → b ≡ false
unmarked true mark has none = sym (has refl) ∙ none
unmarked false mark has none = refl

-- after a moment in which it is up as in the one before, and no press acknowledges its open onset
module _ (a : lamps.Attention) (j i : ℕ) (up : a.up i (suc j) ≡ a.up i j)
    (shut : lamps.acknowledges a (a.level i) (suc j) ≡ true → has_open (watch_after a i (suc j)) ≡ false) where
  same-onset : onset_after a i (suc j) ≡ onset_after a i (suc (suc j))
  unfolding previous
  same-onset =
      let pressed = lamps.acknowledges a (a.level i) (suc j) in
      sym
      (onset-stays a i (suc j) (a.up i (suc j)) (a.up i j) refl refl (same-before _ _ up)
      ∙ shut-stays pressed (onset_after a i (suc j)) shut)

  pub idle-watch : watch_after a i (suc j) ≡ watch_after a i (suc (suc j))
  unfolding previous
  idle-watch = rw (up, same-onset) refl

  pub idle-calls : lamps.calls a i (suc j) ≡ lamps.calls a i j
  idle-calls = calls-kept a (suc j) i ∙ ap calling (sym idle-watch) ∙ sym (calls-kept a j i)

-- what isn't looked at in a moment
pub idle-left : (a : lamps.Attention) (n k i : ℕ) (p : Presses) (watches news : List Watch) (callers next : Callers) (opens looked : List ℕ)
    → i < n → ArePresses a k p → (k ≢ 0) × StaysAt a k i → AreWatched a k n watches
    → ((j : ℕ) → k ≡ suc j → AreCallers a j n callers)
    → AreMarked has_open watches opens → (any_pressed p ≡ true → (m : ℕ) → is_marked opens m ≡ true → is_marked looked m ≡ true)
    → is_marked looked i ≡ false → IsLeft i watches callers news next
    → IsStepped a k i (is_shown a k i) news next
idle-left a n zero i p watches news callers next opens looked within are stays kept calls marked pressed off left = absurd (stays.0 refl)
idle-left a n (suc j) i p watches news callers next opens looked within are stays kept calls marked pressed off left =
    let up = stays.1.up j refl in
    let shut : lamps.acknowledges a (a.level i) (suc j) ≡ true → has_open (watch_after a i (suc j)) ≡ false =
    λ h. unmarked _ (is_marked looked i) (λ o. pressed (pressed-some a (suc j) p (a.level i) are h) i (marked i _ (kept i within) o)) off in
    record {
      watch = left.watch ∙ kept i within ∙ ap Some (idle-watch a j i up shut);
      marks =
          left.marks
          ∙ calls j refl i within
          ∙ marks-same (a.level i) (a.level i) (a.sound i) (a.sound i) _ _ refl refl
          (rw (stays.1.shown j refl, idle-calls a j i up shut) refl);
    }
