-- The lights and the sound from moment to moment, and whose they are.
use Rattle.std.proofs.Common.{◌≡◌, ℕ, zero, suc, ◌+◌, Bool, true, false, not, ◌&&◌, ◌||◌, List, [], ◌∷◌, Option, Some, None, cond, leb, refl, sym, ◌∙◌, ap}
use Rattle.std.specs.Prelude.{find}
use Rattle.std.specs.List.{list_any}
use Rattle.std.specs.Option.{option_map_or}
use Rattle.std.proofs.Math.Bool.{and-false}
use Rattle.ecam_spec.specs.declared.kinds.Sound.TheVariants.{Quiet, Chime}
use Rattle.ecam_spec.specs.Past.{once_from, historically_from, since, previous, last}
use Rattle.ecam_spec.specs.Alert.{onset}
use Rattle.ecam_spec.specs.Levels.{is_three, is_two}
use Rattle.ecam_spec.specs.Lamps.{Attention, acknowledges, last_onset, is_open, calls, warns, cautions, is_chime, chimes, sound_of, sound}
use Rattle.ecam_spec.proofs.PastSteps.{since-now, last-suc}
use Rattle.ecam_spec.proofs.PastMoments.{since-last, not-once_from}

-- what implies a test that nothing passes passes nothing
none-passes : (p q : ℕ → Bool) (xs : List ℕ) → ((i : ℕ) → q i ≡ false → p i ≡ false) → list_any q xs ≡ false → list_any p xs ≡ false
none-passes p q [] stronger none = refl
none-passes p q (x ∷ xs) stronger none =
    (elim (q x) as (λ b. q x ≡ b → (b || list_any q xs) ≡ false → (p x || list_any p xs) ≡ false) [
      | true ↦ λ e h. absurd (let w : ⊥ = cc in w)
      | false ↦ λ e h. ap (λ c. c || list_any p xs) (stronger x e) ∙ none-passes p q xs stronger h
    ]) refl none

none-found : (p : ℕ → Bool) (xs : List ℕ) → list_any p xs ≡ false → find p xs ≡ None
none-found p [] none = refl
none-found p (x ∷ xs) none =
    elim (p x) as (λ b. (b || list_any p xs) ≡ false → cond b (Some x) (find p xs) ≡ None) [
      | true ↦ λ h. absurd (let w : ⊥ = cc in w)
      | false ↦ λ h. none-found p xs h
    ] none

module _ (a : Attention) where
  -- one more moment of the last onset, and of whether it is open
  pub last_onset-suc : (i k : ℕ) → last_onset a i (suc k) ≡ cond (onset (a.up i) (suc k)) (Some (suc k)) (last_onset a i k)
  unfolding last_onset
  last_onset-suc i k = last-suc (onset (a.up i)) k

  unacknowledged : (i k : ℕ) (o : Option ℕ) → option_map_or (λ j. not (once_from (suc j) (acknowledges a (a.level i)) k)) o false ≡ option_map_or (λ j. historically_from (suc j) (λ x. not (acknowledges a (a.level i) x)) k) o false
  unacknowledged i k None = refl
  unacknowledged i k (Some j) = not-once_from (suc j) (acknowledges a (a.level i)) k

  pub open_since : (i k : ℕ) → is_open a i k ≡ since (onset (a.up i)) (λ x. not (acknowledges a (a.level i) x)) k
  unfolding is_open last_onset
  open_since i k =
      unacknowledged i k (last (onset (a.up i)) k) ∙ sym (since-last (onset (a.up i)) (λ x. not (acknowledges a (a.level i) x)) k)

  pub open_now : (i k : ℕ) → is_open a i k ≡ (onset (a.up i) k || (not (acknowledges a (a.level i) k) && previous (is_open a i) k))
  unfolding previous
  open_now i zero = open_since i zero ∙ since-now (onset (a.up i)) (λ x. not (acknowledges a (a.level i) x)) zero
  open_now i (suc k) =
      open_since i (suc k) ∙ since-now (onset (a.up i)) (λ x. not (acknowledges a (a.level i) x)) (suc k)
      ∙ ap (λ b. onset (a.up i) (suc k) || (not (acknowledges a (a.level i) (suc k)) && b)) (sym (open_since i k))

  -- ---- where nothing that is shown is up, no light is lit and nothing sounds

  idle : (lit : Bool) (i k : ℕ) → a.up i k ≡ false → (lit && calls a i k) ≡ false
  unfolding calls
  idle lit i k down = ap (λ b. lit && (b && is_open a i k)) down ∙ and-false lit

  silent : (i k : ℕ) → a.up i k ≡ false → chimes a i k ≡ false
  unfolding chimes
  silent i k down =
      let recent = option_map_or (λ j. leb k (j + 4)) (last_onset a i k) false in
      let own = is_two (a.level i) && is_chime (a.sound i) in
      ap (λ b. own && (recent && b)) (idle true i k down) ∙ ap (λ b. own && b) (and-false recent) ∙ and-false own

  module _ (k : ℕ) (none : list_any (λ i. a.up i k) (a.shown k) ≡ false) where
    pub dark_warns : warns a k ≡ false
    unfolding warns
    dark_warns = none-passes (λ i. is_three (a.level i) && calls a i k) (λ i. a.up i k) (a.shown k) (λ i down. idle (is_three (a.level i)) i k down) none

    pub dark_cautions : cautions a k ≡ false
    unfolding cautions
    dark_cautions = none-passes (λ i. is_two (a.level i) && calls a i k) (λ i. a.up i k) (a.shown k) (λ i down. idle (is_two (a.level i)) i k down) none

    pub dark_sound : sound a k ≡ Quiet
    unfolding sound sound_of warns
    dark_sound =
        ap (λ o. sound_of a o k) (none-found (λ i. is_three (a.level i) && calls a i k) (a.shown k) dark_warns)
        ∙ ap (λ b. cond b Chime Quiet) (none-passes (λ i. chimes a i k) (λ i. a.up i k) (a.shown k) (λ i down. silent i k down) none)
