-- How the last onset of an alert stands: the step of one moment more.
use Rattle.std.proofs.Common.{◌≡◌, ℕ, zero, suc, Bool, true, false, not, ◌&&◌, ◌||◌, Option, Some, None, cond, refl, sym, ◌∙◌, ap}
use Rattle.ecam_spec.specs.Past.{previous, rise}
use Rattle.ecam_spec.specs.Alert.{onset}
use Rattle.ecam_spec.specs.Lamps as lamps
use Rattle.ecam_spec.proofs.PastSteps.{last-here, last-zero}
use Rattle.ecam_spec.proofs.LampLaws.{last_onset-suc, open_now}
use Rattle.attention.specs.declared.watch.Onset.{Onset}
use Rattle.attention.specs.declared.watch.Onset.TheVariants.{Open}
use Rattle.attention.specs.Watches.{onset_of, acknowledged, onset_after}

onset-is : (a : lamps.Attention) (i k : ℕ) (up was : Bool) → up ≡ a.up i k → was ≡ previous (a.up i) k → onset (a.up i) k ≡ (up && not was)
unfolding onset rise
onset-is a i k up was is before = sym (rw (is, before) refl)

-- an alert that comes up has an open onset, whatever is pressed in that moment
pub onset-opens : (a : lamps.Attention) (i k now : ℕ) (up was : Bool) → up ≡ a.up i k → was ≡ previous (a.up i) k → now ≡ k
    → (up && not was) ≡ true → Open now ≡ onset_after a i (suc k)
unfolding lamps.last_onset
onset-opens a i k now up was is before number comes =
    let here : onset (a.up i) k ≡ true = onset-is a i k up was is before ∙ comes in
    let still : lamps.is_open a i k ≡ true = open_now a i k ∙ rw here refl in
    ap Open number ∙ sym (rw (still, last-here (onset (a.up i)) k here) refl)

-- after a moment in which a press acknowledges it, or none does
abbrev pressed_or_not : Bool → Onset → Onset
pressed_or_not pressed o = cond pressed (acknowledged o) o

kept : (o : Option ℕ) (pressed before : Bool) → onset_of o (not pressed && before) ≡ pressed_or_not pressed (onset_of o before)
kept None true before = refl
kept None false before = refl
kept (Some m) true true = refl
kept (Some m) true false = refl
kept (Some m) false true = refl
kept (Some m) false false = refl

-- where it doesn't come up its last onset stays, and a press acknowledges it
pub onset-stays : (a : lamps.Attention) (i k : ℕ) (up was : Bool) → up ≡ a.up i k → was ≡ previous (a.up i) k
    → (up && not was) ≡ false → onset_after a i (suc k) ≡ pressed_or_not (lamps.acknowledges a (a.level i) k) (onset_after a i k)
unfolding lamps.last_onset previous
onset-stays a i zero up was is before none =
    let here : onset (a.up i) 0 ≡ false = onset-is a i 0 up was is before ∙ none in
    ap (λ o. onset_of o (lamps.is_open a i 0)) (last-zero (onset (a.up i)) ∙ ap (λ b. cond b (Some 0) None) here)
    ∙ kept None (lamps.acknowledges a (a.level i) 0) false
onset-stays a i (suc j) up was is before none =
    let here : onset (a.up i) (suc j) ≡ false = onset-is a i (suc j) up was is before ∙ none in
    let same : lamps.last_onset a i (suc j) ≡ lamps.last_onset a i j = last_onset-suc a i j ∙ ap (λ b. cond b (Some (suc j)) (lamps.last_onset a i j)) here in
    let still : lamps.is_open a i (suc j) ≡ (not (lamps.acknowledges a (a.level i) (suc j)) && lamps.is_open a i j) =
    open_now a i (suc j) ∙ ap (λ b. b || (not (lamps.acknowledges a (a.level i) (suc j)) && lamps.is_open a i j)) here in
    rw (same, still) (kept (lamps.last_onset a i j) (lamps.acknowledges a (a.level i) (suc j)) (lamps.is_open a i j))
