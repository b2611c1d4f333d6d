-- One alert more is stepped, and the moment ends.
use Rattle.std.proofs.Common.{◌≡◌, ℕ, zero, suc, ◌<◌, Bool, true, false, not, ◌&&◌, ◌||◌, eqb, List, length, get_or, set, replicate, Option, Some, None, cond, inl, inr, refl, sym, ap, ◌∙◌, subst, arith}
use Rattle.std.specs.Prelude.{is_some, is_none, slice_index, ◌↔◌}
use Rattle.std.proofs.lemmas.Bool.{cases_lt, cases_eq, eq-eqb, ne_eqb}
use Rattle.std.proofs.lemmas.List.{length-set, get_or-set_same, get_or-set_other, get_or-replicate}
use Rattle.ecam_spec.specs.Past.{Signal, previous, running_since, start_of, previously}
use Rattle.ecam_spec.proofs.PastRuns.{running_since-start}
use Rattle.wakes.specs.Marks.{is_marked, room}
use Rattle.wakes.specs.Due.{never}
use Rattle.ecam_spec.specs.Book.{Book}
use Rattle.ecam_spec.specs.Alert as alert
use Rattle.ecam_spec.specs.Situation.{alert_at}
use Rattle.alert_truth.specs.Alerts.{Tells, inhibited, present, active, waiting, starred_by}
use Rattle.alert_truth.specs.Stars.{StarsFit, StarsStand}
use Rattle.alert_truth.specs.TruthsState.{TruthsFit, TruthsStand, HalfStand, IsStepped, IsStill, Unchanged, StarsStay, StaysAt, AreNear, OthersStay, IsKeyed, completes, is_restless}
use Rattle.alert_truth.specs.Noting.{Notes, Turns}
use Rattle.alert_truth.specs.Confirming.{confirmed_at}
use Rattle.alert_truth.specs.declared.stars.Stars.{Stars}
use Rattle.alert_truth.specs.declared.truths.Truths.{Truths}
use Rattle.alert_truth.proofs.Staying.{stays-same, since-same, was-present}
use Rattle.alert_truth.proofs.Keys.{none-confirms, was-keyed, same-completes, own-keyed, other-keyed, other-was}
use Rattle.alert_truth.proofs.Starring.{still-one, still-star, still-up}

-- a note of one alert leaves the others, and its own place tells whether it is restless now
notes-restless : (b : Book) (i a : ℕ) (start : Option ℕ) (is_present is_active : Bool) (key : ℕ) (old new : Truths) → Notes i start is_present is_active key old new → TruthsFit b old → a < length b.alerts
    → is_marked new.restless a ≡ is_restless new a
notes-restless b i a start is_present is_active key old new notes fits within = elim (cases_eq a i) [
  | inl same ↦
      let inside : i < length b.alerts = omega (arith, same) in
      subst (λ n. is_marked new.restless n ≡ is_restless new n) (sym same)
      (notes.restless i ∙ ap (λ t. cond t (is_some start && not is_active) (is_marked old.restless i)) (eq-eqb i i refl)
      ∙ sym (ap (λ (o : Option ℕ). is_some o && not (get_or new.active.items i false)) (ap (λ xs. get_or xs i None) notes.since ∙ get_or-set_same old.since.items i start None (omega (arith, fits.since, inside)))
      ∙ ap (λ x. is_some start && not x) (ap (λ xs. get_or xs i false) notes.active ∙ get_or-set_same old.active.items i is_active false (omega (arith, fits.active, inside)))))
  | inr apart ↦
      notes.restless a ∙ ap (λ t. cond t (is_some start && not is_active) (is_marked old.restless a)) (ne_eqb a i apart)
      ∙ fits.restless a within
      ∙ sym (ap (λ (o : Option ℕ). is_some o && not (get_or new.active.items a false)) (ap (λ xs. get_or xs a None) notes.since ∙ get_or-set_other old.since.items i a start None apart)
      ∙ ap (λ x. is_some (get_or old.since.items a None) && not x) (ap (λ xs. get_or xs a false) notes.active ∙ get_or-set_other old.active.items i a is_active false apart))
]

-- what is noted of one alert makes it near, and leaves what is near
flag-near : (old new : List Bool) (i a : ℕ) (flag on m : Bool) → new ≡ set old i flag → i < length old → (flag ≡ true → on ≡ true) → (get_or old a false ≡ true → m ≡ true)
    → get_or new a false ≡ true → ((eqb a i && on) || m) ≡ true
flag-near old new i a flag on m is within own other told = elim (cases_eq a i) [
  | inl same ↦
      let here : flag ≡ true =
      sym (ap (λ xs. get_or xs a false) is ∙ ap (λ n. get_or (set old i flag) n false) same ∙ get_or-set_same old i flag false within) ∙ told in
      ap (λ e. (e && on) || m) (eq-eqb a i same) ∙ ap (λ o. o || m) (own here)
  | inr apart ↦
      let was : get_or old a false ≡ true = sym (ap (λ xs. get_or xs a false) is ∙ get_or-set_other old i a flag false apart) ∙ told in
      ap (λ e. (e && on) || m) (ne_eqb a i apart) ∙ other was
]

or-left : (x y : Bool) → x ≡ true → (x || y) ≡ true
or-left true y on = refl
or-left false y on = absurd (let w : false ≡ true = on in cc)

or-right : (x y : Bool) → y ≡ true → (x || y) ≡ true
or-right true y on = refl
or-right false y on = on

and-left : (x y : Bool) → (x && y) ≡ true → x ≡ true
and-left true y on = refl
and-left false y on = on

notes-near : (b : Book) (i : ℕ) (start : Option ℕ) (is_present is_active : Bool) (key : ℕ) (old new : Truths) → i < length b.alerts → Notes i start is_present is_active key old new → TruthsFit b old → AreNear new
notes-near b i start is_present is_active key old new within notes fits =
    let stays : (a : ℕ) → is_marked old.near a ≡ true → is_marked new.near a ≡ true
    = λ a near. notes.near a ∙ or-right (eqb a i && (is_present || is_active)) (is_marked old.near a) near in
    record {
      present = λ a told.
          notes.near a
          ∙ flag-near old.present.items new.present.items i a is_present (is_present || is_active) (is_marked old.near a) notes.present (omega (arith, fits.present, within))
          (or-left is_present is_active) (fits.near.present a) told;
      active = λ a told.
          notes.near a
          ∙ flag-near old.active.items new.active.items i a is_active (is_present || is_active) (is_marked old.near a) notes.active (omega (arith, fits.active, within))
          (or-right is_present is_active) (fits.near.active a) told;
      waiting = λ a told.
          notes.near a
          ∙ flag-near old.waiting.items new.waiting.items i a (is_present && not is_active) (is_present || is_active) (is_marked old.near a) notes.waiting (omega (arith, fits.waiting, within))
          (λ on. or-left is_present is_active (and-left is_present (not is_active) on)) (fits.near.waiting a) told;
      starred = λ a told. stays a (fits.near.starred a (sym (ap (λ (s : Stars). get_or s.starred.items a false) notes.stars) ∙ told));
      up = λ a told. stays a (fits.near.up a (sym (ap (λ (s : Stars). get_or s.up.items a false) notes.stars) ∙ told));
      primaries = λ a told. stays a (fits.near.primaries a (sym (ap (λ (s : Stars). is_some (get_or s.primaries.items a None)) notes.stars) ∙ told));
    }

-- the places stay
pub notes-fits : (b : Book) (i : ℕ) (start : Option ℕ) (is_present is_active : Bool) (key : ℕ) (old new : Truths) → i < length b.alerts → Notes i start is_present is_active key old new → TruthsFit b old
    → TruthsFit b new
notes-fits b i start is_present is_active key old new within notes fits = record {
  since = ap length notes.since ∙ length-set old.since.items i start ∙ fits.since;
  present = ap length notes.present ∙ length-set old.present.items i is_present ∙ fits.present;
  active = ap length notes.active ∙ length-set old.active.items i is_active ∙ fits.active;
  waiting = ap length notes.waiting ∙ length-set old.waiting.items i _ ∙ fits.waiting;
  due_room = ap (λ ws. room ws) notes.due ∙ fits.due_room;
  turned_room = notes.turned_room ∙ fits.turned_room;
  dues = ap length notes.dues ∙ length-set old.dues i key ∙ fits.dues;
  room = notes.room ∙ fits.room;
  restless = λ a within. notes-restless b i a start is_present is_active key old new notes fits within;
  near_room = notes.near_room ∙ fits.near_room;
  near = notes-near b i start is_present is_active key old new within notes fits;
  stars = subst (StarsFit b) (sym notes.stars) fits.stars;
}

module _ (b : Book) (conditions : ℕ → Signal) (phases : ℕ → ℕ) where
  -- what isn't written is as it was
  notes-other : (k a i : ℕ) (start : Option ℕ) (is_present is_active : Bool) (key : ℕ) (old new : Truths) → Notes i start is_present is_active key old new → (a ≡ i → ⊥)
      → IsStepped b conditions phases k a old → IsStepped b conditions phases k a new
  notes-other k a i start is_present is_active key old new notes apart was = record {
    since = ap (λ xs. get_or xs a None) notes.since ∙ get_or-set_other old.since.items i a start None apart ∙ was.since;
    present = ap (λ xs. get_or xs a false) notes.present ∙ get_or-set_other old.present.items i a is_present false apart ∙ was.present;
    active = ap (λ xs. get_or xs a false) notes.active ∙ get_or-set_other old.active.items i a is_active false apart ∙ was.active;
    waiting = ap (λ xs. get_or xs a false) notes.waiting ∙ get_or-set_other old.waiting.items i a _ false apart ∙ was.waiting;
  }

  -- what is written is of the new moment
  notes-own : (k i : ℕ) (start : Option ℕ) (is_present is_active : Bool) (key : ℕ) (old new : Truths) → Notes i start is_present is_active key old new → TruthsFit b old → i < length b.alerts
      → start ≡ running_since (conditions i) (suc k) → is_present ≡ present b conditions phases i k → is_active ≡ active b conditions phases i k
      → IsStepped b conditions phases (suc k) i new
  unfolding previous alert.waiting
  notes-own k i start is_present is_active key old new notes fits within since now here = record {
    since = ap (λ xs. get_or xs i None) notes.since ∙ get_or-set_same old.since.items i start None (omega (arith, fits.since)) ∙ since;
    present = ap (λ xs. get_or xs i false) notes.present ∙ get_or-set_same old.present.items i is_present false (omega (arith, fits.present)) ∙ now;
    active = ap (λ xs. get_or xs i false) notes.active ∙ get_or-set_same old.active.items i is_active false (omega (arith, fits.active)) ∙ here;
    waiting =
        ap (λ xs. get_or xs i false) notes.waiting ∙ get_or-set_same old.waiting.items i _ false (omega (arith, fits.waiting))
        ∙ ap (λ x. x && not is_active) now ∙ ap (λ x. present b conditions phases i k && not x) here;
  }

  waiting-before : (a k : ℕ) → (previous (present b conditions phases a) k && not (previous (active b conditions phases a) k)) ≡ previous (waiting b conditions phases a) k
  unfolding previous alert.waiting
  waiting-before a zero = refl
  waiting-before a (suc k) = refl

  -- one alert more is stepped
  pub half-step : (k i : ℕ) (start : Option ℕ) (is_present is_active : Bool) (key : ℕ) (old new : Truths) → Notes i start is_present is_active key old new → i < length b.alerts
      → start ≡ running_since (conditions i) (suc k) → is_present ≡ present b conditions phases i k → is_active ≡ active b conditions phases i k
      → key ≡ confirmed_at (alert_at b i).confirm start is_present → Turns i is_present is_active old new
      → HalfStand b conditions phases k i old → HalfStand b conditions phases k (suc i) new
  half-step k i start is_present is_active key old new notes within since now here due turns half =
      let left = half.left i (omega arith) within in
      record {
        fits = notes-fits b i start is_present is_active key old new within notes half.fits;
        moments = notes.moments ∙ half.moments;
        stepped = λ a below. elim (cases_lt a i) [
          | inl earlier ↦ notes-other (suc k) a i start is_present is_active key old new notes (λ e. omega arith) (half.stepped a earlier)
          | inr reached ↦
              let same : i ≡ a = omega arith in
              subst (λ j. IsStepped b conditions phases (suc k) j new) same
              (notes-own k i start is_present is_active key old new notes half.fits within since now here)
        ];
        left = λ a from inside. notes-other k a i start is_present is_active key old new notes (λ e. omega arith) (half.left a (omega arith) inside);
        keys = λ a below inside. elim (cases_lt a i) [
          | inl earlier ↦ other-keyed b i start is_present is_active key old new notes a (λ e. omega arith) (half.keys a earlier inside)
          | inr reached ↦
              let same : i ≡ a = omega arith in
              subst (IsKeyed b new) same (own-keyed b i start is_present is_active key old new notes half.fits within due)
        ];
        left_keys = λ a from inside. other-was b i start is_present is_active key old new notes a (λ e. omega arith) (half.left_keys a (omega arith) inside);
        stars = subst (StarsStand b (active b conditions phases) k) (sym notes.stars) half.stars;
        changing = (
          λ e a below.
              let parts = notes.changing.0 e in
              elim (cases_lt a i) [
                | inl earlier ↦ half.changing.0 parts.0 a earlier
                | inr reached ↦
                    let same : i ≡ a = omega arith in
                    subst (λ j. IsStill b conditions phases k j) same (record {
                      present = sym now ∙ parts.1 ∙ left.present;
                      active = sym here ∙ parts.2 ∙ left.active;
                    })
              ],
          λ still.
              let own = still i (omega arith) in
              notes.changing.1 (
                half.changing.1 (λ a below. still a (omega arith)),
                now ∙ own.present ∙ sym left.present,
                here ∙ own.active ∙ sym left.active,
              ),
        );
        turned = λ a below off.
            let parts = turns a off in
            elim (cases_lt a i) [
              | inl earlier ↦ half.turned a earlier parts.0
              | inr reached ↦
                  let same : i ≡ a = omega arith in
                  let own = parts.1 (sym same) in
                  subst (λ j. IsStill b conditions phases k j) same (record {
                    present = sym now ∙ own.0 ∙ left.present;
                    active = sym here ∙ own.1 ∙ left.active;
                  })
            ];
        changed = λ j e. let was = half.changed j e in (λ w. was.0 (sym notes.changed ∙ w), λ w. notes.changed ∙ was.1 w);
        stars_turned = λ j e. let was = half.stars_turned j e in let same = ap (λ (s : Stars). s.turned) notes.stars in (λ w. was.0 (sym same ∙ w), λ w. same ∙ was.1 w);
      }

  is-none : (o : Option ℕ) → is_none o ≡ true → o ≡ None
  is-none None e = refl
  is-none (Some s) e = absurd (let w : false ≡ true = e in cc)

  -- one that is active is present, and one whose condition doesn't hold has no moment: so it is never due
  was-present-too : (a k : ℕ) → previous (active b conditions phases a) k ≡ true → previous (present b conditions phases a) k ≡ true
  unfolding previous
  was-present-too a zero was = was
  was-present-too a (suc k) was = was-present (inhibited b conditions phases a) (conditions a) (alert_at b a).confirm k was

  never-due : (a k : ℕ) (t : Truths) (holds : Bool) → cond holds (get_or t.active.items a false) (is_none (get_or t.since.items a None)) ≡ true → IsStepped b conditions phases k a t
      → completes b t a ≡ never
  never-due a k t true stays was =
      ap (confirmed_at (alert_at b a).confirm (get_or t.since.items a None)) (was.present ∙ was-present-too a k (sym was.active ∙ stays))
  never-due a k t false stays was =
      ap (λ o. confirmed_at (alert_at b a).confirm o (get_or t.present.items a false)) (is-none (get_or t.since.items a None) stays)
      ∙ none-confirms (alert_at b a).confirm (get_or t.present.items a false)

  -- and so is one that stays as it is
  pub half-stays : (k i : ℕ) (t : Truths) → i < length b.alerts → running_since (conditions i) (suc k) ≡ running_since (conditions i) k → IsStill b conditions phases k i → IsKeyed b t i
      → HalfStand b conditions phases k i t → HalfStand b conditions phases k (suc i) t
  unfolding previous alert.waiting
  half-stays k i t within since same key half =
      let left = half.left i (omega arith) within in
      let waits : waiting b conditions phases i k ≡ previous (waiting b conditions phases i) k
      = ap (λ x. x && not (active b conditions phases i k)) same.present
      ∙ ap (λ x. previous (present b conditions phases i) k && not x) same.active ∙ waiting-before i k in
      let own : IsStepped b conditions phases (suc k) i t = record {
        since = left.since ∙ sym since;
        present = left.present ∙ sym same.present;
        active = left.active ∙ sym same.active;
        waiting = left.waiting ∙ sym waits;
      } in
      record {
        fits = half.fits;
        moments = half.moments;
        stepped = λ a below. elim (cases_lt a i) [
          | inl earlier ↦ half.stepped a earlier
          | inr reached ↦ let here : i ≡ a = omega arith in subst (λ j. IsStepped b conditions phases (suc k) j t) here own
        ];
        left = λ a from inside. half.left a (omega arith) inside;
        keys = λ a below inside. elim (cases_lt a i) [
          | inl earlier ↦ half.keys a earlier inside
          | inr reached ↦ let here : i ≡ a = omega arith in subst (IsKeyed b t) here key
        ];
        left_keys = λ a from inside. half.left_keys a (omega arith) inside;
        stars = half.stars;
        changing = (
          λ e a below. elim (cases_lt a i) [
            | inl earlier ↦ half.changing.0 e a earlier
            | inr reached ↦ let here : i ≡ a = omega arith in subst (λ j. IsStill b conditions phases k j) here same
          ],
          λ still. half.changing.1 (λ a below. still a (omega arith)),
        );
        turned = λ a below off. elim (cases_lt a i) [
          | inl earlier ↦ half.turned a earlier off
          | inr reached ↦ let here : i ≡ a = omega arith in subst (λ j. IsStill b conditions phases k j) here same
        ];
        changed = half.changed;
        stars_turned = half.stars_turned;
      }

  -- where its condition doesn't hold and didn't, or holds while it is active
  pub half-same : (k i : ℕ) (t : Truths) (holds : Bool) → i < length b.alerts → holds ≡ conditions i k → cond holds (get_or t.active.items i false) (is_none (get_or t.since.items i None)) ≡ true
      → HalfStand b conditions phases k i t → HalfStand b conditions phases k (suc i) t
  half-same k i t holds within on stays half =
      let left = half.left i (omega arith) within in
      let same = stays-same (inhibited b conditions phases i) (conditions i) (alert_at b i).confirm k holds (get_or t.active.items i false) (get_or t.since.items i None) on left.active left.since stays in
      half-stays k i t within same.since (record { present = same.present; active = same.active })
      ((half.left_keys i (omega arith) within).none (never-due i k t holds stays left) ∙ sym (never-due i k t holds stays left)) half

  -- one that isn't restless stays as it is where its condition holds where it held
  stays-by : (holds : Bool) (was : Bool) (since : Option ℕ) (start : ℕ) → since ≡ cond holds (Some start) None → (is_some since && not was) ≡ false → cond holds was (is_none since) ≡ true
  stays-by true true since start is rests = refl
  stays-by true false since start is rests = absurd (let w : ⊥ = (let clash : true ≡ false = sym (ap (λ (o : Option ℕ). is_some o && true) is) ∙ rests in cc) in w)
  stays-by false was since start is rests = ap is_none is

  pub rests-by : (h i : ℕ) (t : Truths) → IsStepped b conditions phases (suc h) i t → conditions i (suc h) ≡ conditions i h → is_restless t i ≡ false
      → cond (conditions i (suc h)) (get_or t.active.items i false) (is_none (get_or t.since.items i None)) ≡ true
  rests-by h i t was same off =
      stays-by (conditions i (suc h)) (get_or t.active.items i false) (get_or t.since.items i None) (start_of (conditions i) h)
      (was.since ∙ running_since-start (conditions i) h ∙ ap (λ c. cond c (Some (start_of (conditions i) h)) None) (sym same)) off

  pub half-rests : (h i : ℕ) (t : Truths) → i < length b.alerts → conditions i (suc h) ≡ conditions i h → is_marked t.restless i ≡ false
      → HalfStand b conditions phases (suc h) i t → HalfStand b conditions phases (suc h) (suc i) t
  half-rests h i t within same off half =
      half-same (suc h) i t (conditions i (suc h)) within refl (rests-by h i t (half.left i (omega arith) within) same (sym (half.fits.restless i within) ∙ off)) half

  -- nor does one change that isn't due
  pub half-waits : (h i : ℕ) (t : Truths) → i < length b.alerts → conditions i (suc h) ≡ conditions i h → is_marked t.due i ≡ false → OthersStay b conditions phases (suc h) t.due
      → HalfStand b conditions phases (suc h) i t → HalfStand b conditions phases (suc h) (suc i) t
  half-waits h i t within same off others half =
      half-stays (suc h) i t within (since-same (inhibited b conditions phases i) (conditions i) (alert_at b i).confirm h same) (others h i refl within off same)
      ((half.left_keys i (omega arith) within).key off) half

  -- all the rest follows from whether an alert is present and active, and from its first active primary
  pub stays-at : (k a : ℕ) → IsStill b conditions phases k a → starred_by b conditions phases a k ≡ previously (starred_by b conditions phases a) k → StaysAt b conditions phases k a
  unfolding alert.waiting
  stays-at k a still same = record {
    present = still.present;
    active = still.active;
    waiting =
        ap (λ x. x && not (active b conditions phases a k)) still.present
        ∙ ap (λ x. previous (present b conditions phases a) k && not x) still.active ∙ waiting-before a k;
    starred = still-star b (active b conditions phases) a k same;
    starred_by = same;
    up = still-up b (active b conditions phases) a k still.active same;
  }

  -- which follow from which alerts are active
  pub still-at : (k : ℕ) → ((a : ℕ) → a < length b.alerts → IsStill b conditions phases k a) → (a : ℕ) → a < length b.alerts → StaysAt b conditions phases k a
  still-at k still a within = stays-at k a (still a within) (still-one b (active b conditions phases) a k (still a within).active (λ p inside lists_it. (still p inside).active))

  unchanged : (k : ℕ) → ((a : ℕ) → a < length b.alerts → IsStill b conditions phases k a) → Unchanged b conditions phases k
  unchanged k still = record {
    present = λ a within. (still-at k still a within).present;
    active = λ a within. (still-at k still a within).active;
    waiting = λ a within. (still-at k still a within).waiting;
    starred = λ a within. (still-at k still a within).starred;
    starred_by = λ a within. (still-at k still a within).starred_by;
    up = λ a within. (still-at k still a within).up;
  }

  pub still-starred : (k : ℕ) → ((a : ℕ) → a < length b.alerts → IsStill b conditions phases k a) → StarsStay b conditions phases k
  still-starred k still = let same = unchanged k still in record { starred = same.starred }

  -- of stars that were settled anew it is told whether one turned
  pub settled-turned : (k : ℕ) (old new : Stars) → StarsStand b (active b conditions phases) k old → StarsStand b (active b conditions phases) (suc k) new
      → (new.turned ≡ false) ↔ ((a : ℕ) → a < length b.alerts → get_or new.starred.items a false ≡ get_or old.starred.items a false)
      → (new.turned ≡ false) ↔ StarsStay b conditions phases k
  unfolding previous
  settled-turned k old new was now tells = (
    λ e. record { starred = λ a within. sym (now.starred a within) ∙ tells.0 e a within ∙ was.starred a within },
    λ same. tells.1 (λ a within. now.starred a within ∙ same.starred a within ∙ sym (was.starred a within)),
  )

  -- and an alert stays as it is whose primary stays, where it is as present and as active
  pub settled-at : (k a : ℕ) (old new : Stars) → StarsStand b (active b conditions phases) k old → StarsStand b (active b conditions phases) (suc k) new → a < length b.alerts
      → IsStill b conditions phases k a → get_or new.primaries.items a None ≡ get_or old.primaries.items a None → StaysAt b conditions phases k a
  unfolding previous
  settled-at k a old new was now within still same = stays-at k a still (sym (now.primaries a within) ∙ same ∙ was.primaries a within)

  -- so the stars that stand for the moments before stand for this one too, in which none turned
  pub still-stars : (k : ℕ) (s : Stars) → ((a : ℕ) → a < length b.alerts → IsStill b conditions phases k a)
      → StarsStand b (active b conditions phases) k s → StarsStand b (active b conditions phases) (suc k) (record s { turned = false })
  unfolding previous
  still-stars k s still stands =
      let same = unchanged k still in
      record {
        primaries = λ a within. stands.primaries a within ∙ sym (same.starred_by a within);
        starred = λ a within. stands.starred a within ∙ sym (same.starred a within);
        up = λ a within. stands.up a within ∙ sym (same.up a within);
      }

  -- the moment ends
  pub moment-ends : (k : ℕ) (old new : Truths) → HalfStand b conditions phases k (length b.alerts) old → TruthsFit b new
      → new.moments ≡ suc old.moments → new.dues ≡ old.dues → new.since ≡ old.since → new.present ≡ old.present → new.active ≡ old.active → new.waiting ≡ old.waiting
      → new.changing ≡ false → new.changed ≡ old.changing → StarsStand b (active b conditions phases) (suc k) new.stars
      → (new.stars.turned ≡ false) ↔ StarsStay b conditions phases k
      → ((a : ℕ) → a < length b.alerts → is_marked new.turned a ≡ false → StaysAt b conditions phases k a)
      → TruthsStand b conditions phases (suc k) new
  moment-ends k old new half fits moments dues since now here waits quiet told stars turned others =
      let each : (a : ℕ) → a < length b.alerts → IsStepped b conditions phases (suc k) a new = λ a within.
      let was = half.stepped a within in
      record {
        since = ap (λ v. get_or v.items a None) since ∙ was.since;
        present = ap (λ v. get_or v.items a false) now ∙ was.present;
        active = ap (λ v. get_or v.items a false) here ∙ was.active;
        waiting = ap (λ v. get_or v.items a false) waits ∙ was.waiting;
      } in
      let says : (new.changed ≡ false) ↔ Unchanged b conditions phases k = (
        λ e. unchanged k (half.changing.0 (sym told ∙ e)),
        λ same. told ∙ half.changing.1 (λ a within. record { present = same.present a within; active = same.active a within }),
      ) in
      record {
        fits = fits;
        moments = moments ∙ ap suc half.moments;
        each = each;
        keys = λ a within. ap (λ ks. slice_index ks a) dues ∙ half.keys a within within
            ∙ sym (same-completes b old new a (ap (λ v. get_or v.items a None) since) (ap (λ v. get_or v.items a false) now));
        stars = stars;
        changing = quiet;
        turned = λ j a e within off. let same : k ≡ j = cc in subst (λ i. StaysAt b conditions phases i a) same (others a within off);
        changed = λ j e. let same : k ≡ j = cc in subst (λ i. (new.changed ≡ false) ↔ Unchanged b conditions phases i) same says;
        stars_turned = λ j e. let same : k ≡ j = cc in subst (λ i. (new.stars.turned ≡ false) ↔ StarsStay b conditions phases i) same turned;
      }

  -- truths that stand for k moments are ready for the next
  pub moment-begins : (k : ℕ) (t : Truths) → TruthsStand b conditions phases k t → HalfStand b conditions phases k 0 t
  moment-begins k t stands = record {
    fits = stands.fits;
    moments = stands.moments;
    stepped = λ a below. absurd (omega arith);
    left = λ a from within. stands.each a within;
    keys = λ a below. absurd (omega arith);
    left_keys = λ a from within. was-keyed b t a (stands.keys a within);
    stars = stands.stars;
    changing = (λ e a below. absurd (omega arith), λ h. stands.changing);
    turned = λ a below. absurd (omega (arith, below));
    changed = stands.changed;
    stars_turned = stands.stars_turned;
  }

  -- where all alerts are stepped, the flags tell which are active
  pub stepped-tells : (k : ℕ) (t : Truths) → HalfStand b conditions phases k (length b.alerts) t → Tells (length b.alerts) t.active.items (active b conditions phases) (suc k)
  stepped-tells k t half = λ a within. (half.stepped a within).active

  -- before the first moment no alert is present
  pub nothing-stands : (t : Truths) (n : ℕ) → n ≡ length b.alerts → TruthsFit b t → t.moments ≡ 0 → t.dues ≡ replicate n never → t.since.items ≡ replicate n None → t.present.items ≡ replicate n false
      → t.active.items ≡ replicate n false → t.waiting.items ≡ replicate n false → StarsStand b (active b conditions phases) 0 t.stars → t.changing ≡ false → TruthsStand b conditions phases 0 t
  unfolding previous running_since
  nothing-stands t n count fits moments dues since now here waits stars quiet = record {
    fits = fits;
    moments = moments;
    each = λ a within. record {
      since = ap (λ xs. get_or xs a None) since ∙ get_or-replicate n a None None (omega arith);
      present = ap (λ xs. get_or xs a false) now ∙ get_or-replicate n a false false (omega arith);
      active = ap (λ xs. get_or xs a false) here ∙ get_or-replicate n a false false (omega arith);
      waiting = ap (λ xs. get_or xs a false) waits ∙ get_or-replicate n a false false (omega arith);
    };
    keys = λ a within.
        ap (λ ks. slice_index ks a) dues ∙ get_or-replicate n a never 0 (omega arith)
        ∙ sym (ap (λ o. confirmed_at (alert_at b a).confirm o (get_or t.present.items a false)) (ap (λ xs. get_or xs a None) since ∙ get_or-replicate n a None None (omega arith))
        ∙ none-confirms (alert_at b a).confirm (get_or t.present.items a false));
    stars = stars;
    changing = quiet;
    turned = λ j a e. absurd (omega arith);
    changed = λ j e. absurd (omega arith);
    stars_turned = λ j e. absurd (omega arith);
  }

  -- truths that hold the same stand for the same moments
  pub same-stands : (k : ℕ) (old new : Truths) → TruthsFit b new → new.moments ≡ old.moments → new.dues ≡ old.dues → new.since.items ≡ old.since.items → new.present.items ≡ old.present.items
      → new.active.items ≡ old.active.items → new.waiting.items ≡ old.waiting.items → StarsStand b (active b conditions phases) k new.stars → new.changing ≡ old.changing
      → new.turned ≡ old.turned → new.changed ≡ old.changed → new.stars.turned ≡ old.stars.turned → TruthsStand b conditions phases k old → TruthsStand b conditions phases k new
  same-stands k old new fits moments dues since now here waits stars quiet others told turned stands = record {
    fits = fits;
    moments = moments ∙ stands.moments;
    each = λ a within.
        let was = stands.each a within in
        record {
          since = ap (λ xs. get_or xs a None) since ∙ was.since;
          present = ap (λ xs. get_or xs a false) now ∙ was.present;
          active = ap (λ xs. get_or xs a false) here ∙ was.active;
          waiting = ap (λ xs. get_or xs a false) waits ∙ was.waiting;
        };
    keys = λ a within. ap (λ ks. slice_index ks a) dues ∙ stands.keys a within
        ∙ sym (same-completes b old new a (ap (λ xs. get_or xs a None) since) (ap (λ xs. get_or xs a false) now));
    stars = stars;
    changing = quiet ∙ stands.changing;
    turned = λ j a e within off. stands.turned j a e within (sym (ap (λ ws. is_marked ws a) others) ∙ off);
    changed = λ j e. let was = stands.changed j e in (λ w. was.0 (sym told ∙ w), λ w. told ∙ was.1 w);
    stars_turned = λ j e. let was = stands.stars_turned j e in (λ w. was.0 (sym turned ∙ w), λ w. turned ∙ was.1 w);
  }
