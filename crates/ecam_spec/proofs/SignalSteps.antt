-- One more event of an era: what it does to the words and the strokes of the moments.
use Rattle.std.proofs.Common.{◌≡◌, ℕ, suc, ◌<◌, ◌≤◌, inl, inr, true, false, [], ◌∷◌, ◌++◌, length, refl, sym, ◌∙◌, ap}
use Rattle.std.proofs.lemmas.Bool.{cases_lt}
use Rattle.ecam_spec.specs.declared.kinds.Event.{Event}
use Rattle.ecam_spec.specs.declared.kinds.Event.TheVariants.{Word, Tick, Press, Release}
use Rattle.ecam_spec.specs.declared.kinds.Key.{Key}
use Rattle.ecam_spec.specs.Book.{Book}
use Rattle.ecam_spec.specs.History.{Moment, Era, era_with}
use Rattle.ecam_spec.specs.Situation.{words_in, strokes_in}
use Rattle.ecam_spec.specs.Replay.{is_tick, moment_of}
use Rattle.ecam_spec.proofs.MomentSteps.{moment_kept, moment_open, moment_tick, moment_begun, moment_word, moment_press, moment_release}

module _ (b : Book) (e : Era) where
  -- a word comes after those of its moment, and changes no earlier one
  pub words_word : (bus bits : ℕ) → words_in b (moment_of (era_with e (Word bus bits))) (length e.moments) ≡ words_in b (moment_of e) (length e.moments) ++ record { bus = bus; bits = bits } ∷ []
  words_word bus bits = ap (λ (m : Moment). m.words) (moment_word e bus bits)

  pub words_before : (x : Event) (k : ℕ) → is_tick x ≡ false → k < length e.moments → words_in b (moment_of (era_with e x)) k ≡ words_in b (moment_of e) k
  words_before x k quiet within = ap (λ (m : Moment). m.words) (moment_kept e x k quiet within)

  -- a Tick leaves them, and begins a moment without one
  pub words_tick : (k : ℕ) → k ≤ length e.moments → words_in b (moment_of (era_with e Tick)) k ≡ words_in b (moment_of e) k
  words_tick k within = ap (λ (m : Moment). m.words) (moment_tick e k within)

  pub words_begun : words_in b (moment_of (era_with e Tick)) (suc (length e.moments)) ≡ []
  words_begun = ap (λ (m : Moment). m.words) (moment_begun e)

  -- and a key brings none
  pub words_press : (key : Key) (k : ℕ) → words_in b (moment_of (era_with e (Press key))) k ≡ words_in b (moment_of e) k
  unfolding era_with
  words_press key k =
      elim (cases_lt k (length e.moments)) [
        | inl within ↦ words_before (Press key) k refl within
        | inr past ↦ ap (λ (m : Moment). m.words) (moment_open (era_with e (Press key)) k past) ∙ ap (λ (m : Moment). m.words) (sym (moment_open e k past))
      ]

  pub words_release : (key : Key) (k : ℕ) → words_in b (moment_of (era_with e (Release key))) k ≡ words_in b (moment_of e) k
  unfolding era_with
  words_release key k =
      elim (cases_lt k (length e.moments)) [
        | inl within ↦ words_before (Release key) k refl within
        | inr past ↦ ap (λ (m : Moment). m.words) (moment_open (era_with e (Release key)) k past) ∙ ap (λ (m : Moment). m.words) (sym (moment_open e k past))
      ]

  -- a stroke comes after those of its moment, and changes no earlier one
  pub strokes_press : (key : Key) → strokes_in b (moment_of (era_with e (Press key))) (length e.moments) ≡ strokes_in b (moment_of e) (length e.moments) ++ record { key = key; down = true } ∷ []
  strokes_press key = ap (λ (m : Moment). m.strokes) (moment_press e key)

  pub strokes_release : (key : Key) → strokes_in b (moment_of (era_with e (Release key))) (length e.moments) ≡ strokes_in b (moment_of e) (length e.moments) ++ record { key = key; down = false } ∷ []
  strokes_release key = ap (λ (m : Moment). m.strokes) (moment_release e key)

  pub strokes_before : (x : Event) (k : ℕ) → is_tick x ≡ false → k < length e.moments → strokes_in b (moment_of (era_with e x)) k ≡ strokes_in b (moment_of e) k
  strokes_before x k quiet within = ap (λ (m : Moment). m.strokes) (moment_kept e x k quiet within)

  -- a Tick leaves them, and begins a moment without one
  pub strokes_tick : (k : ℕ) → k ≤ length e.moments → strokes_in b (moment_of (era_with e Tick)) k ≡ strokes_in b (moment_of e) k
  strokes_tick k within = ap (λ (m : Moment). m.strokes) (moment_tick e k within)

  pub strokes_begun : strokes_in b (moment_of (era_with e Tick)) (suc (length e.moments)) ≡ []
  strokes_begun = ap (λ (m : Moment). m.strokes) (moment_begun e)

  -- and a word is no stroke
  pub strokes_word : (bus bits k : ℕ) → strokes_in b (moment_of (era_with e (Word bus bits))) k ≡ strokes_in b (moment_of e) k
  unfolding era_with
  strokes_word bus bits k =
      elim (cases_lt k (length e.moments)) [
        | inl within ↦ strokes_before (Word bus bits) k refl within
        | inr past ↦ ap (λ (m : Moment). m.strokes) (moment_open (era_with e (Word bus bits)) k past) ∙ ap (λ (m : Moment). m.strokes) (sym (moment_open e k past))
      ]
