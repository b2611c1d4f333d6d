-- Two accounts of the moments that agree up to a moment show the same picture in it: what comes later has no bearing,
-- nor which computers are up where the book doesn't ask.
use Rattle.std.proofs.Common.{◌≡◌, ℕ, suc, ◌+◌, ◌≤◌, Bool, false, not, ◌&&◌, ◌||◌, ◌==◌, List, [], ◌∷◌, Option, Some, None, refl, ◌∙◌, ap, cond, leb, arith}
use Rattle.std.specs.Prelude.{find, is_none, unwrap_or, if◌then◌else◌}
use Rattle.std.specs.List.{list_any}
use Rattle.std.specs.Option.{option_map_or}
use Rattle.ecam_spec.specs.declared.kinds.Key.{Key}
use Rattle.ecam_spec.specs.declared.kinds.Key.TheVariants.{Clr, Rcl, Emer, Mw, Mc}
use Rattle.ecam_spec.specs.declared.kinds.Level.{Level}
use Rattle.ecam_spec.specs.declared.kinds.Level.TheVariants.{One, Two, Three}
use Rattle.ecam_spec.specs.declared.kinds.Sound.TheVariants.{Quiet, Chime}
use Rattle.ecam_spec.specs.Past.{previous, once_from}
use Rattle.ecam_spec.specs.Levels.{is_three, is_two}
use Rattle.ecam_spec.specs.Book.{Book}
use Rattle.ecam_spec.specs.History.{Moment, Stroke}
use Rattle.ecam_spec.specs.Keys.{last_stroke, pressed, held}
use Rattle.ecam_spec.specs.Alert.{onset}
use Rattle.ecam_spec.specs.Crew.{normal}
use Rattle.ecam_spec.specs.Lamps.{acknowledges, last_onset, is_open, calls, warns, cautions, is_chime, chimes, sound_of, sound}
use Rattle.ecam_spec.specs.Situation.{alert_at, strokes_in, phase_in, up_in}
use Rattle.ecam_spec.specs.Screen.{enters_one, cockpit, shown_in, cleared_in, cancelled_in, target_in, attention}
use Rattle.ecam_spec.proofs.PastAgree.{since-below, once_from-below, rise-below, previous-below, last-below}
use Rattle.ecam_spec.proofs.SituationAgree.{SameUpTo, pressed-same, phase-same, waiting-same, up-same, any-agree}
use Rattle.ecam_spec.proofs.CrewAgree.{SameCockpit, shown-same, cleared-shown, cancelled-shown, target-shown, normal-same}

find-agree : (p q : ℕ → Bool) (xs : List ℕ) → ((a : ℕ) → p a ≡ q a) → find p xs ≡ find q xs
find-agree p q [] same = refl
find-agree p q (x ∷ xs) same = ap (λ b. cond b (Some x) (find p xs)) (same x) ∙ ap (λ o. cond (q x) (Some x) o) (find-agree p q xs same)

module _ (v w : ℕ → List Stroke) (k : ℕ) (same : (i : ℕ) → i ≤ k → v i ≡ w i) where
  pub held-same : (key : Key) (i : ℕ) → i ≤ k → held v key i ≡ held w key i
  unfolding held
  held-same key i h =
      since-below (λ j. unwrap_or (last_stroke key (v j)) false) (λ j. unwrap_or (last_stroke key (w j)) false) (λ j. is_none (last_stroke key (v j))) (λ j. is_none (last_stroke key (w j))) i
      (λ j l. ap (λ s. unwrap_or (last_stroke key s) false) (same j (omega arith)))
      (λ j l. ap (λ s. is_none (last_stroke key s)) (same j (omega arith)))

module _ (b : Book) (m n : ℕ → Moment) (k : ℕ) (s : SameUpTo b m n k) where
  enters_one-same : (i : ℕ) → i ≤ k → enters_one b m i ≡ enters_one b n i
  unfolding enters_one
  enters_one-same i h =
      ap (λ p. p == 1 && previous (λ j. not (phase_in b m j == 1)) i) (phase-same b m n k s i h)
      ∙ ap (λ x. phase_in b n i == 1 && x)
      (previous-below (λ j. not (phase_in b m j == 1)) (λ j. not (phase_in b n j == 1)) i (λ j l. ap (λ p. not (p == 1)) (phase-same b m n k s j (omega arith))))

  pub cockpit-same : SameCockpit (cockpit b m) (cockpit b n) k
  unfolding cockpit
  cockpit-same =
      record {
        order = refl;
        is_caution = λ a. refl;
        up = up-same b m n k s;
        waiting = waiting-same b m n k s;
        clr = pressed-same b m n k s Clr;
        rcl = pressed-same b m n k s Rcl;
        emer = pressed-same b m n k s Emer;
        rcl_held = held-same (strokes_in b m) (strokes_in b n) k s.strokes Rcl;
        enters_one = enters_one-same;
      }

  pub shown_in-same : (i : ℕ) → i ≤ k → shown_in b m i ≡ shown_in b n i
  unfolding shown_in
  shown_in-same i h = shown-same (cockpit b m) (cockpit b n) k cockpit-same i h

  pub cleared_in-same : (a i : ℕ) → i ≤ k → cleared_in b m a i ≡ cleared_in b n a i
  unfolding cleared_in shown_in
  cleared_in-same a i h = cleared-shown (cockpit b m) (cockpit b n) k cockpit-same a i h

  pub cancelled_in-same : (a i : ℕ) → i ≤ k → cancelled_in b m a i ≡ cancelled_in b n a i
  unfolding cancelled_in shown_in
  cancelled_in-same a i h = cancelled-shown (cockpit b m) (cockpit b n) k cockpit-same a i h

  pub target_in-same : (i : ℕ) → i ≤ k → target_in b m i ≡ target_in b n i
  unfolding target_in shown_in
  target_in-same i h = target-shown (cockpit b m) (cockpit b n) k cockpit-same i h

  pub normal_in-same : (i : ℕ) → i ≤ k → normal (cockpit b m) i ≡ normal (cockpit b n) i
  normal_in-same i h = normal-same (cockpit b m) (cockpit b n) k cockpit-same i h

  -- the lamps and the sound
  acknowledges-same : (l : Level) (i : ℕ) → i ≤ k → acknowledges (attention b m) l i ≡ acknowledges (attention b n) l i
  unfolding acknowledges attention
  acknowledges-same Three i h = ap (λ x. x || pressed (strokes_in b m) Emer i) (pressed-same b m n k s Mw i h) ∙ ap (λ x. pressed (strokes_in b n) Mw i || x) (pressed-same b m n k s Emer i h)
  acknowledges-same Two i h = ap (λ x. x || pressed (strokes_in b m) Emer i) (pressed-same b m n k s Mc i h) ∙ ap (λ x. pressed (strokes_in b n) Mc i || x) (pressed-same b m n k s Emer i h)
  acknowledges-same One i h = refl

  last_onset-same : (a i : ℕ) → i ≤ k → last_onset (attention b m) a i ≡ last_onset (attention b n) a i
  unfolding last_onset attention onset
  last_onset-same a i h =
      last-below (onset (up_in b m a)) (onset (up_in b n a)) i (λ j l. rise-below (up_in b m a) (up_in b n a) j (λ x y. up-same b m n k s a x (omega arith)))

  unacknowledged-same : (l : Level) (o : Option ℕ) (i : ℕ) → i ≤ k → option_map_or (λ j. not (once_from (suc j) (acknowledges (attention b m) l) i)) o false ≡ option_map_or (λ j. not (once_from (suc j) (acknowledges (attention b n) l) i)) o false
  unacknowledged-same l None i h = refl
  unacknowledged-same l (Some j) i h =
      ap not (once_from-below (suc j) (acknowledges (attention b m) l) (acknowledges (attention b n) l) i (λ x y. acknowledges-same l x (omega arith)))

  open-same : (a i : ℕ) → i ≤ k → is_open (attention b m) a i ≡ is_open (attention b n) a i
  unfolding is_open attention
  open-same a i h =
      ap (λ o. option_map_or (λ j. not (once_from (suc j) (acknowledges (attention b m) (alert_at b a).level) i)) o false) (last_onset-same a i h)
      ∙ unacknowledged-same (alert_at b a).level (last_onset (attention b n) a i) i h

  calls-same : (a i : ℕ) → i ≤ k → calls (attention b m) a i ≡ calls (attention b n) a i
  unfolding calls attention
  calls-same a i h = ap (λ x. x && is_open (attention b m) a i) (up-same b m n k s a i h) ∙ ap (λ x. up_in b n a i && x) (open-same a i h)

  lit-same : (p : Level → Bool) (i : ℕ) → i ≤ k → list_any (λ a. p (alert_at b a).level && calls (attention b m) a i) (shown_in b m i) ≡ list_any (λ a. p (alert_at b a).level && calls (attention b n) a i) (shown_in b n i)
  lit-same p i h =
      any-agree (λ a. p (alert_at b a).level && calls (attention b m) a i) (λ a. p (alert_at b a).level && calls (attention b n) a i) (shown_in b m i) (λ a. ap (λ x. p (alert_at b a).level && x) (calls-same a i h))
      ∙ ap (list_any (λ a. p (alert_at b a).level && calls (attention b n) a i)) (shown_in-same i h)

  pub warns-same : (i : ℕ) → i ≤ k → warns (attention b m) i ≡ warns (attention b n) i
  unfolding warns attention
  warns-same i h = lit-same is_three i h

  pub cautions-same : (i : ℕ) → i ≤ k → cautions (attention b m) i ≡ cautions (attention b n) i
  unfolding cautions attention
  cautions-same i h = lit-same is_two i h

  chimes-same : (a i : ℕ) → i ≤ k → chimes (attention b m) a i ≡ chimes (attention b n) a i
  unfolding chimes attention
  chimes-same a i h =
      ap (λ o. (is_two (alert_at b a).level && is_chime (alert_at b a).sound) && (option_map_or (λ j. leb i (j + 4)) o false && calls (attention b m) a i)) (last_onset-same a i h)
      ∙ ap (λ x. (is_two (alert_at b a).level && is_chime (alert_at b a).sound) && (option_map_or (λ j. leb i (j + 4)) (last_onset (attention b n) a i) false && x)) (calls-same a i h)

  sound-step : (o : Option ℕ) (i : ℕ) → i ≤ k → sound_of (attention b m) o i ≡ sound_of (attention b n) o i
  unfolding sound_of attention
  sound-step (Some a) i h = refl
  sound-step None i h =
      ap (λ x. if x then Chime else Quiet)
      (any-agree (λ a. chimes (attention b m) a i) (λ a. chimes (attention b n) a i) (shown_in b m i) (λ a. chimes-same a i h)
      ∙ ap (list_any (λ a. chimes (attention b n) a i)) (shown_in-same i h))

  pub sound-same : (i : ℕ) → i ≤ k → sound (attention b m) i ≡ sound (attention b n) i
  unfolding sound attention
  sound-same i h =
      ap (λ o. sound_of (attention b m) o i)
      (find-agree (λ a. is_three (alert_at b a).level && calls (attention b m) a i) (λ a. is_three (alert_at b a).level && calls (attention b n) a i) (shown_in b m i) (λ a. ap (λ x. is_three (alert_at b a).level && x) (calls-same a i h))
      ∙ ap (find (λ a. is_three (alert_at b a).level && calls (attention b n) a i)) (shown_in-same i h))
      ∙ sound-step (find (λ a. is_three (alert_at b a).level && calls (attention b n) a i) (shown_in b n i)) i h
