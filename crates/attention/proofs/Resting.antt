-- A moment in which nothing comes leaves what is kept of each alert, and what they call for.
use Rattle.std.proofs.Common.{◌≡◌, ℕ, zero, suc, Bool, true, false, not, ◌&&◌, ◌||◌, ◌==◌, Some, cond, refl, sym, ◌∙◌, ap}
use Rattle.std.specs.Prelude.{option_map}
use Rattle.std.specs.List.{list_any}
use Rattle.ecam_spec.specs.Past.{previous, rise}
use Rattle.ecam_spec.specs.Alert.{onset}
use Rattle.ecam_spec.specs.Levels.{is_three, is_two}
use Rattle.ecam_spec.specs.declared.kinds.Level.{Level}
use Rattle.ecam_spec.specs.declared.kinds.Level.TheVariants.{One, Two, Three}
use Rattle.ecam_spec.specs.Lamps as lamps
use Rattle.ecam_spec.proofs.LampLaws.{last_onset-suc, open_now}
use Rattle.attention.specs.declared.callers.Callers.{Callers}
use Rattle.attention.specs.declared.calls.Calls.{Calls}
use Rattle.attention.specs.declared.moment.Presses.{Presses}
use Rattle.attention.specs.Watches.{watch_after}
use Rattle.attention.specs.Moments.{ArePresses}
use Rattle.attention.specs.Calling.{AreCalls, AreCallers, chimes_in}
use Rattle.ecam_spec.specs.Book.{Book}
use Rattle.attention.specs.declared.state.Attention.{Attention}
use Rattle.attention.specs.State.{AreStill, StaysAt, NothingComes, AttentionStands}
use Rattle.attention.proofs.Idling.{same-before}
use Rattle.attention.proofs.Passing.{find-agree, any-agree}
use Rattle.attention.proofs.Walking.{marks-same}

module _ (a : lamps.Attention) (k : ℕ) (nothing : NothingComes a k) where
  none-comes : (i : ℕ) → onset (a.up i) (suc k) ≡ false
  unfolding onset rise previous
  none-comes i = same-before (a.up i (suc k)) (a.up i k) (nothing.up i)

  none-pressed : (l : Level) → lamps.acknowledges a l (suc k) ≡ false
  unfolding lamps.acknowledges
  none-pressed Three = rw (nothing.mw, nothing.emer) refl
  none-pressed Two = rw (nothing.mc, nothing.emer) refl
  none-pressed One = refl

  same-onset : (i : ℕ) → lamps.last_onset a i (suc k) ≡ lamps.last_onset a i k
  same-onset i = last_onset-suc a i k ∙ ap (λ b. cond b (Some (suc k)) (lamps.last_onset a i k)) (none-comes i)

  same-open : (i : ℕ) → lamps.is_open a i (suc k) ≡ lamps.is_open a i k
  unfolding previous
  same-open i =
      open_now a i (suc k)
      ∙ ap (λ b. b || (not (lamps.acknowledges a (a.level i) (suc k)) && lamps.is_open a i k)) (none-comes i)
      ∙ ap (λ b. not b && lamps.is_open a i k) (none-pressed (a.level i))

  same-calls : (i : ℕ) → lamps.calls a i (suc k) ≡ lamps.calls a i k
  unfolding lamps.calls
  same-calls i = rw (nothing.up i, same-open i) refl

  pub watch-rests : (i : ℕ) → watch_after a i (suc k) ≡ watch_after a i (suc (suc k))
  unfolding previous
  watch-rests i = rw (nothing.up i, same-onset i, same-open i) refl

  pub calls-rest : (c : Calls) → AreCalls a k (a.shown k) c → AreCalls a (suc k) (a.shown (suc k)) c
  calls-rest c are =
      rw nothing.shown
      (record {
        warning = are.warning ∙ ap (option_map a.sound) (find-agree (λ i. is_three (a.level i) && lamps.calls a i k) (λ i. is_three (a.level i) && lamps.calls a i (suc k)) (λ i. ap (λ x. is_three (a.level i) && x) (sym (same-calls i))) (a.shown k));
        caution = are.caution ∙ any-agree (λ i. is_two (a.level i) && lamps.calls a i k) (λ i. is_two (a.level i) && lamps.calls a i (suc k)) (λ i. ap (λ x. is_two (a.level i) && x) (sym (same-calls i))) (a.shown k);
        chime = λ j. are.chime j ∙ any-agree (chimes_in a k j) (chimes_in a (suc k) j) (λ i. rw (same-calls i, same-onset i) refl) (a.shown k);
      })

  pub callers-rest : (n : ℕ) (callers : Callers) → AreCallers a k n callers → AreCallers a (suc k) n callers
  callers-rest n callers are i h =
      are i h
      ∙ marks-same (a.level i) (a.level i) (a.sound i) (a.sound i) _ _ refl refl (rw (nothing.shown, same-calls i) refl)

none-of : (x y z : Bool) → (x || (y || z)) ≡ false → (x ≡ false) × (y ≡ false) × (z ≡ false)
none-of false false false h = (refl, refl, refl)
none-of true y z h = cc
none-of false true z h = cc
none-of false false true h = cc

-- none of the keys that acknowledge is pressed
pub none-pressed-of : (a : lamps.Attention) (k : ℕ) (p : Presses) (any : Bool) → ArePresses a k p → any ≡ (p.mw || (p.mc || p.emer)) → any ≡ false → (a.mw k ≡ false) × (a.mc k ≡ false) × (a.emer k ≡ false)
none-pressed-of a k p any are is off =
    let each = none-of p.mw p.mc p.emer (sym is ∙ off) in
    (sym are.mw ∙ each.0, sym are.mc ∙ each.1, sym are.emer ∙ each.2)

-- a moment in which each alert is up and shown as before, and no press acknowledges
pub still-rests : (b : Book) (a : lamps.Attention) (k : ℕ) (old new : Attention) → (old.moments ≡ 0 → ⊥) → AreStill a k → a.mw k ≡ false → a.mc k ≡ false → a.emer k ≡ false
    → ((j : ℕ) → NothingComes a j → AttentionStands b a (suc j) old → AttentionStands b a (suc (suc j)) new) → AttentionStands b a k old → AttentionStands b a (suc k) new
still-rests b a zero old new begun still mw mc emer rest stands = absurd (begun stands.moments)
still-rests b a (suc j) old new begun still mw mc emer rest stands =
    rest j (record { up = still.up j refl; shown = still.shown j refl; mw = mw; mc = mc; emer = emer }) stands

-- and each alert stays in it
pub still-stays : (a : lamps.Attention) (k i : ℕ) → AreStill a k → StaysAt a k i
still-stays a k i still = record {
  up = λ j e. still.up j e i;
  shown = λ j e. ap (list_any (λ x. x == i)) (still.shown j e);
}
