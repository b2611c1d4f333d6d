-- What the calls of a moment say of the lights and the sound in it.
use Rattle.std.proofs.Common.{◌≡◌, ℕ, zero, suc, ◌-◌, Bool, true, false, ◌&&◌, Option, Some, None, cond, refl, sym, ◌∙◌, ap, arith}
use Rattle.std.specs.Prelude.{◌↔◌, find, is_some, option_map, unwrap_or}
use Rattle.std.specs.List.{list_any}
use Rattle.ecam_spec.specs.Levels.{is_three}
use Rattle.ecam_spec.specs.Book.{Book}
use Rattle.ecam_spec.specs.declared.kinds.Sound.{Sound}
use Rattle.ecam_spec.specs.declared.kinds.Sound.TheVariants.{Quiet, Chime}
use Rattle.ecam_spec.specs.Lamps as lamps
use Rattle.attention.specs.declared.calls.Calls.{Calls}
use Rattle.attention.specs.declared.state.Attention.{Attention}
use Rattle.attention.specs.Calling.{AreCalls, rings_in, chimes_in}
use Rattle.attention.specs.State.{AttentionStands, TellsChange, lights_of, lights_after}
use Rattle.attention.proofs.Passing.{is_some-find}

module _ (a : lamps.Attention) (k : ℕ) where
  abbrev first : Option ℕ
  first = find (λ i. is_three (a.level i) && lamps.calls a i k) (a.shown k)

  warning-of : (o : Option ℕ) (s : Sound) → Some s ≡ option_map a.sound o → s ≡ lamps.sound_of a o k
  unfolding lamps.sound_of
  warning-of None s h = cc
  warning-of (Some i) s h = cc

  chime-of : (o : Option ℕ) → None ≡ option_map a.sound o → cond (list_any (λ i. lamps.chimes a i k) (a.shown k)) Chime Quiet ≡ lamps.sound_of a o k
  unfolding lamps.sound_of
  chime-of None h = refl
  chime-of (Some i) h = cc

  -- by the calls of a moment the sound is that of the definition
  pub sounds-now : (w : Option Sound) (chime : Option ℕ) → w ≡ option_map a.sound first → ((j : ℕ) → rings_in j chime ≡ list_any (chimes_in a k j) (a.shown k))
      → unwrap_or w (cond (rings_in k chime) Chime Quiet) ≡ lamps.sound a k
  unfolding lamps.sound lamps.chimes
  sounds-now (Some s) chime warning chimes = warning-of first s warning
  sounds-now None chime warning chimes = ap (λ x. cond x Chime Quiet) (chimes k) ∙ chime-of first warning

  some-map : (o : Option ℕ) → is_some (option_map a.sound o) ≡ is_some o
  some-map None = refl
  some-map (Some i) = refl

  -- and so are the lights
  warns-now : (c : Calls) → AreCalls a k (a.shown k) c → is_some c.warning ≡ lamps.warns a k
  unfolding lamps.warns
  warns-now c are = ap is_some are.warning ∙ some-map first ∙ is_some-find (λ i. is_three (a.level i) && lamps.calls a i k) (a.shown k)

  cautions-now : (c : Calls) → AreCalls a k (a.shown k) c → c.caution ≡ lamps.cautions a k
  unfolding lamps.cautions
  cautions-now c are = are.caution

module _ (a : lamps.Attention) where
  pub lights-now : (k : ℕ) (t : Attention) → t.moments ≡ suc k → AreCalls a k (a.shown k) t.calls → lights_of t ≡ lights_after a (suc k)
  lights-now k t number are =
      let now : t.moments - 1 ≡ k = omega arith in
      rw (now, warns-now a k t.calls are, cautions-now a k t.calls are, sounds-now a k t.calls.warning t.calls.chime are.warning are.chime) refl

  pub lights-told : (b : Book) (k : ℕ) (t : Attention) → AttentionStands b a k t → lights_of t ≡ lights_after a k
  lights-told b zero t stands = rw (stands.before refl) refl
  lights-told b (suc k) t stands = lights-now k t stands.moments (stands.calls k refl)

  true-false : (x : Bool) → (x ≡ true → ⊥) → x ≡ false
  true-false true h = absurd (h refl)
  true-false false h = refl

  -- whether they changed
  pub change-told : (b : Book) (k : ℕ) (old new : Attention) → AttentionStands b a k old → new.moments ≡ suc k → AreCalls a k (a.shown k) new.calls → TellsChange old new
      → (new.changed ≡ false) ↔ (lights_after a (suc k) ≡ lights_after a k)
  change-told b k old new stands number are tells =
      let now : lights_of new ≡ lights_after a (suc k) = lights-now k new number are in
      let before : lights_of old ≡ lights_after a k = lights-told b k old stands in
      (λ h. sym now ∙ tells.same h ∙ before, λ h. true-false new.changed (λ e. tells.other e (now ∙ h ∙ sym before)))
