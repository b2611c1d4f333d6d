-- One event more for the two computers: which era each goes on in, and what the picture shows.
use Rattle.std.proofs.Common.{◌≡◌, ℕ, zero, suc, ◌<◌, ◌==◌, Bool, true, false, not, ◌&&◌, ◌||◌, List, [], ◌∷◌, ◌++◌, length, get_or, replicate, refl, sym, ◌∙◌, ap, subst, cond, arith}
use Rattle.std.proofs.lemmas.List.{get_or-replicate}
use Rattle.ecam_spec.specs.declared.kinds.Event.{Event}
use Rattle.ecam_spec.specs.declared.kinds.Event.TheVariants.{Word, Tick, Fail, Up, End}
use Rattle.ecam_spec.specs.Book.{Book}
use Rattle.ecam_spec.specs.History.{Flags, both_up, none_up, flags_with, flags_after, comes_up, Era, empty_era, era_with, era, begun}
use Rattle.ecam_spec.specs.Picture.{Picture, blank_row, blank, dead}
use Rattle.ecam_spec.specs.Output.{picture_before}
use Rattle.ecam_spec.specs.Screen.{picture_in}
use Rattle.ecam_spec.specs.Replay.{is_tick, tick_count, moment_of, picture_at, picture, last_picture}
use Rattle.ecam_spec.proofs.HistoryLaws.{flags_step, era_goes_on, era_next, flags_next, era_nil}
use Rattle.ecam_spec.proofs.MomentSteps.{moment_tick, length_tick}
use Rattle.ecam_spec.proofs.ReplaySteps.{last_picture_kept, last_picture_tick, picture_at_up, picture_at_down}
use Rattle.ecam_spec.proofs.PictureAgree.{picture_causal}
use Rattle.ecam_kinds.specs.Shown.{picture_of}
use Rattle.zone_rows.proofs.Same.{same_row-equal}
use Rattle.fwc_lane.specs.ChangedRows.{row_differs, row_changed, TellsRows}
use Rattle.fwc_lane.specs.LaneStands.{LaneStands, AreUp}
use Rattle.fwc_lane.specs.declared.lane.Lane.{Lane}
use Rattle.fwc_pair.specs.declared.pair.Pair.{Pair}
use Rattle.fwc_pair.specs.PairState.{flags_of, PairFits, UpStand, PairStands}
use Rattle.fwc_pair.specs.Faces.{IsShown, NamesChanges}
use Rattle.fwc_pair.proofs.Histories.{changed-kept, changed-tick, era_shown}

-- ---- the era

-- an event by which no computer comes up goes on in the era
pub goes-on : (h : List Event) (x : Event) → comes_up x ≡ false → begun h x ≡ era h
unfolding begun
goes-on h x quiet = ap (λ c. cond (c && none_up (flags_after h)) (empty_era (flags_after h)) (era h)) quiet

begun-start : (h : List Event) (n : ℕ) (one two : Bool) → record { one = one; two = two } ≡ flags_after h → begun h (Up n) ≡ cond (not (one || two)) (empty_era (flags_after h)) (era h)
unfolding begun
begun-start h n one two same = ap (λ (f : Flags). cond (none_up f) (empty_era (flags_after h)) (era h)) (sym same)

module _ (b : Book) (h : List Event) (n : ℕ) (one two : Bool) (same : record { one = one; two = two } ≡ flags_after h) where
  -- beside a computer that is up the era goes on
  pub start-beside : (l : Lane) → (one || two) ≡ true → LaneStands b (era h) l → LaneStands b (begun h (Up n)) l
  start-beside l some stands =
      subst (λ e. LaneStands b e l) (sym (begun-start h n one two same ∙ ap (λ t. cond (not t) (empty_era (flags_after h)) (era h)) some)) stands

  start-alone : (l : Lane) → (one || two) ≡ false → LaneStands b (empty_era (flags_after h)) l → LaneStands b (begun h (Up n)) l
  start-alone l none stands =
      subst (λ e. LaneStands b e l) (sym (begun-start h n one two same ∙ ap (λ t. cond (not t) (empty_era (flags_after h)) (era h)) none)) stands

  -- a computer that comes up stands for the era into which that goes
  pub woken : (up other_up some : Bool) (old other new : Lane) → (one || two) ≡ some → (up || other_up) ≡ some
      → ((e : Era) → (up ≡ true → LaneStands b e old) → (other_up ≡ true → LaneStands b e other) → (up || other_up) ≡ true → LaneStands b e new)
      → ((f : Flags) → (up || other_up) ≡ false → LaneStands b (empty_era f) new)
      → (up ≡ true → LaneStands b (era h) old) → (other_up ≡ true → LaneStands b (era h) other) → LaneStands b (begun h (Up n)) new
  woken up other_up true old other new some here goes begins own others = start-beside new some (goes (era h) own others here)
  woken up other_up false old other new none here goes begins own others = start-alone new none (begins (flags_after h) here)

pub or-left : (a b : Bool) → a ≡ true → (a || b) ≡ true
or-left true b e = refl
or-left false b e = absurd (let w : ⊥ = cc in w)

pub or-right : (a b : Bool) → b ≡ true → (a || b) ≡ true
or-right true b e = refl
or-right false b e = e

pub or-turned : (a b : Bool) → (b || a) ≡ (a || b)
or-turned true true = refl
or-turned true false = refl
or-turned false true = refl
or-turned false false = refl

-- a computer that fails isn't asked any more, and the other stands as before
pub failed : (b : Book) (h : List Event) (n : ℕ) (old new : Pair) → new ≡ cond (n == 1) (record old { one_up = false }) (record old { two_up = false })
    → UpStand b (era h) old → UpStand b (begun h (Fail n)) new
unfolding UpStand
failed b h n old new is up =
    let down : UpStand b (era h) (cond (n == 1) (record old { one_up = false }) (record old { two_up = false })) =
    elim (n == 1) as (λ c. UpStand b (era h) (cond c (record old { one_up = false }) (record old { two_up = false }))) [
      | true ↦ record { one = λ e. absurd (let w : ⊥ = cc in w); two = up.two }
      | false ↦ record { one = up.one; two = λ e. absurd (let w : ⊥ = cc in w) }
    ] in
    subst (λ e. UpStand b e new) (sym (goes-on h (Fail n) refl)) (subst (UpStand b (era h)) (sym is) down)

-- each computer that is up takes the event in the era into which it goes
pub are-up : (h : List Event) (x : Event) (one two : Bool) → record { one = one; two = two } ≡ flags_with (flags_after h) x → AreUp (era_with (begun h x) x) one two
are-up h x one two same = flags_next h x ∙ sym same

pub stepped : (b : Book) (h : List Event) (x : Event) (up : Bool) (l : Lane) → (up ≡ true → LaneStands b (era_with (begun h x) x) l) → up ≡ true → LaneStands b (era (h ++ x ∷ [])) l
stepped b h x up l stands is = subst (λ e. LaneStands b e l) (sym (era_next h x)) (stands is)

-- ---- the picture

not-false : (t : Bool) → not t ≡ false → t ≡ true
not-false true e = refl
not-false false e = absurd (let w : ⊥ = cc in w)

module _ (b : Book) (h : List Event) where
  pub face-kept : (x : Event) (old new : Picture) → is_tick x ≡ false → new ≡ old → old ≡ last_picture b h → new ≡ last_picture b (h ++ x ∷ [])
  face-kept x old new quiet same is = same ∙ is ∙ sym (last_picture_kept b h x quiet)

  pub rows-kept : (x : Event) (old new : List Bool) → is_tick x ≡ false → new ≡ old → TellsRows (picture b h) (tick_count h) old
      → TellsRows (picture b (h ++ x ∷ [])) (tick_count (h ++ x ∷ [])) new
  rows-kept x old new quiet same tells i within =
      ap (λ fs. get_or fs i false) same ∙ tells i within ∙ sym (changed-kept b h x i quiet)

  pub rows-shown : (old now : Picture) (changed : List Bool) → old ≡ last_picture b h → IsShown (picture_at b (h ++ Tick ∷ [])) old now changed
      → TellsRows (picture b (h ++ Tick ∷ [])) (tick_count (h ++ Tick ∷ [])) changed
  rows-shown old now changed is shown i within =
      shown.changed i within ∙ ap (λ p. row_differs p (picture_at b (h ++ Tick ∷ [])) i) is ∙ sym (changed-tick b h i)

  pub face-shown : (old now : Picture) (changed : List Bool) → IsShown (picture_at b (h ++ Tick ∷ [])) old now changed → now ≡ last_picture b (h ++ Tick ∷ [])
  face-shown old now changed shown = shown.rows ∙ sym (last_picture_tick b h)

  module _ (l : Lane) (stands : LaneStands b (era_with (era h) Tick) l) where
    drawn-now : picture_of l.picture ≡ picture_in b (moment_of (era_with (era h) Tick)) (length (era h).moments)
    drawn-now =
        (stands.whole (moment_of (era_with (era h) Tick)) (λ i w. refl)).drawn.picture
        ∙ ap (picture_before (picture_in b (moment_of (era_with (era h) Tick)))) (length_tick (era h))

    -- what a lane shows at a Tick is the picture of that Tick
    pub lane-shown : none_up (flags_after h) ≡ false → picture_of l.picture ≡ picture_at b (h ++ Tick ∷ [])
    lane-shown up = drawn-now ∙ sym (picture_at_up b h up)

    row-named : (k i : ℕ) → length (era h).moments ≡ suc k → i < 36 → get_or l.changed i false ≡ false
        → get_or (picture_in b (moment_of (era_with (era h) Tick)) k) i blank_row ≡ get_or (picture_in b (moment_of (era_with (era h) Tick)) (suc k)) i blank_row
    unfolding row_changed
    row-named k i long within unnamed =
        let m = moment_of (era_with (era h) Tick) in
        let told : get_or l.changed i false ≡ row_changed (picture_in b m) (suc (suc k)) i =
        (stands.whole m (λ j w. refl)).changed i within ∙ ap (λ n. row_changed (picture_in b m) n i) (length_tick (era h) ∙ ap suc long) in
        same_row-equal _ _ (not-false _ (sym told ∙ unnamed))

    named-from : (n : ℕ) → length (era h).moments ≡ n → none_up (flags_after h) ≡ false → NamesChanges l (last_picture b h)
    named-from zero none up enough i within unnamed =
        absurd (let now = (stands.whole (moment_of (era_with (era h) Tick)) (λ j w. refl)).counted in let w : ⊥ = omega (arith, length_tick (era h), now) in w)
    named-from (suc k) long up enough i within unnamed =
        let m = moment_of (era_with (era h) Tick) in
        ap (λ p. get_or p i blank_row)
        (era_shown b h up k long
        ∙ picture_causal b (moment_of (era h)) m k (λ j w. sym (moment_tick (era h) j (omega arith))))
        ∙ row-named k i long within unnamed
        ∙ ap (λ p. get_or p i blank_row) (sym (drawn-now ∙ ap (picture_in b m) long))

    -- after the first moment of its era, it names each row that differs from what stands
    pub names-changes : none_up (flags_after h) ≡ false → NamesChanges l (last_picture b h)
    names-changes up = named-from (length (era h).moments) refl up

-- ---- the whole event

-- what the pair shows, where these are the computers that are up
pub record ShowsUp (old : Picture) (one_up two_up : Bool) (new : Pair) : Type 0 where
  pub one : one_up ≡ true → NamesChanges new.one old → IsShown (picture_of new.one.picture) old (picture_of new.face) new.changed
  pub two : one_up ≡ false → two_up ≡ true → NamesChanges new.two old → IsShown (picture_of new.two.picture) old (picture_of new.face) new.changed
  pub neither : (one_up || two_up) ≡ false → IsShown dead old (picture_of new.face) new.changed

module _ (b : Book) (h : List Event) where
  shown-as : (p q old now : Picture) (flags : List Bool) → p ≡ q → IsShown p old now flags → IsShown q old now flags
  shown-as p q old now flags same shown = subst (λ r. IsShown r old now flags) same shown

  -- the picture of the Tick
  tick-shows : (new : Pair) (old : Picture) (one two : Bool) → record { one = one; two = two } ≡ flags_after h → old ≡ last_picture b h
      → (one ≡ true → LaneStands b (era_with (era h) Tick) new.one) → (two ≡ true → LaneStands b (era_with (era h) Tick) new.two)
      → ShowsUp old one two new → IsShown (picture_at b (h ++ Tick ∷ [])) old (picture_of new.face) new.changed
  tick-shows new old true two same was first second shows =
      let up : none_up (flags_after h) ≡ false = ap none_up (sym same) in
      let stands = first refl in
      shown-as (picture_of new.one.picture) (picture_at b (h ++ Tick ∷ [])) old (picture_of new.face) new.changed (lane-shown b h new.one stands up)
      (shows.one refl (subst (NamesChanges new.one) (sym was) (names-changes b h new.one stands up)))
  tick-shows new old false true same was first second shows =
      let up : none_up (flags_after h) ≡ false = ap none_up (sym same) in
      let stands = second refl in
      shown-as (picture_of new.two.picture) (picture_at b (h ++ Tick ∷ [])) old (picture_of new.face) new.changed (lane-shown b h new.two stands up)
      (shows.two refl refl (subst (NamesChanges new.two) (sym was) (names-changes b h new.two stands up)))
  tick-shows new old false false same was first second shows =
      let down : none_up (flags_after h) ≡ true = ap none_up (sym same) in
      shown-as dead (picture_at b (h ++ Tick ∷ [])) old (picture_of new.face) new.changed (sym (picture_at_down b h down)) (shows.neither refl)

  -- what stands, and the rows that changed
  abbrev Faced : Event → Pair → Type 0
  Faced x new = (picture_of new.face ≡ last_picture b (h ++ x ∷ [])) × TellsRows (picture b (h ++ x ∷ [])) (tick_count (h ++ x ∷ [])) new.changed

  -- of an event that is no Tick nothing is shown
  pub still-faced : (x : Event) (old new : Pair) → PairStands b h old → is_tick x ≡ false → new.face ≡ old.face → new.changed ≡ old.changed → Faced x new
  still-faced x old new st quiet face rows = (
    face-kept b h x (picture_of old.face) (picture_of new.face) quiet (ap picture_of face) st.face,
    rows-kept b h x old.changed new.changed quiet rows st.changed,
  )

  pub tick-faced : (old new : Pair) → PairStands b h old → flags_of new ≡ flags_of old
      → (new.one_up ≡ true → LaneStands b (era_with (begun h Tick) Tick) new.one) → (new.two_up ≡ true → LaneStands b (era_with (begun h Tick) Tick) new.two)
      → ShowsUp (picture_of old.face) new.one_up new.two_up new → Faced Tick new
  tick-faced old new st flags first second shows =
      let on : begun h Tick ≡ era h = goes-on h Tick refl in
      let shown =
      tick-shows new (picture_of old.face) new.one_up new.two_up (flags ∙ st.flags) st.face
      (λ e. subst (λ d. LaneStands b (era_with d Tick) new.one) on (first e))
      (λ e. subst (λ d. LaneStands b (era_with d Tick) new.two) on (second e))
      shows in (
        face-shown b h (picture_of old.face) (picture_of new.face) new.changed shown,
        rows-shown b h (picture_of old.face) (picture_of new.face) new.changed st.face shown,
      )

  -- the pair stands for the history with the event, where its computers were seen to and stepped, and the picture stands
  pub went-on : (x : Event) (old new : Pair) → PairStands b h old → PairFits b new → flags_of new ≡ flags_with (flags_of old) x
      → (new.one_up ≡ true → LaneStands b (era_with (begun h x) x) new.one) → (new.two_up ≡ true → LaneStands b (era_with (begun h x) x) new.two)
      → Faced x new → PairStands b (h ++ x ∷ []) new
  unfolding UpStand
  went-on x old new st fits flags first second now =
      let into : era_with (begun h x) x ≡ era (h ++ x ∷ []) = sym (era_next h x) in
      record {
        fits = fits;
        flags = flags ∙ ap (λ f. flags_with f x) st.flags ∙ sym (flags_step h x);
        face = now.0;
        changed = now.1;
        up =
            record {
              one = λ e. subst (λ d. LaneStands b d new.one) into (first e);
              two = λ e. subst (λ d. LaneStands b d new.two) into (second e);
            };
      }

  -- a word changes nothing but the computers that are up
  pub heard : (bus bits : ℕ) (p : Pair) (one two : Lane) → PairStands b h p → PairFits b (record p { one = one; two = two })
      → ((e : Era) → (p.one_up ≡ true → LaneStands b e p.one) → p.one_up ≡ true → LaneStands b (era_with e (Word bus bits)) one)
      → ((e : Era) → (p.two_up ≡ true → LaneStands b e p.two) → p.two_up ≡ true → LaneStands b (era_with e (Word bus bits)) two)
      → PairStands b (h ++ Word bus bits ∷ []) (record p { one = one; two = two })
  unfolding flags_with UpStand
  heard bus bits p one two st fits first second =
      let on : begun h (Word bus bits) ≡ era h = goes-on h (Word bus bits) refl in
      went-on (Word bus bits) p (record p { one = one; two = two }) st fits refl
      (λ e. subst (λ d. LaneStands b (era_with d (Word bus bits)) one) (sym on) (first (era h) st.up.one e))
      (λ e. subst (λ d. LaneStands b (era_with d (Word bus bits)) two) (sym on) (second (era h) st.up.two e))
      (still-faced (Word bus bits) p (record p { one = one; two = two }) st refl refl refl)

  -- one to which no source listens leaves the pair as it is
  pub unheard : (bus bits : ℕ) (p : Pair) → PairStands b h p → ((l : Lane) (e : Era) → LaneStands b e l → LaneStands b (era_with e (Word bus bits)) l) → PairStands b (h ++ Word bus bits ∷ []) p
  unheard bus bits p st kept = heard bus bits p p.one p.two st st.fits (λ e was on. kept p.one e (was on)) (λ e was on. kept p.two e (was on))

  -- the end of a record is no event
  pub ended : (p : Pair) → PairStands b (h ++ End ∷ []) p → PairStands b h p
  unfolding flags_with era_with UpStand
  ended p st =
      let kept : era (h ++ End ∷ []) ≡ era h = era_goes_on h End refl in
      record {
        fits = st.fits;
        flags = st.flags ∙ flags_step h End;
        face = st.face ∙ last_picture_kept b h End refl;
        changed = λ i within. st.changed i within ∙ changed-kept b h End i refl;
        up =
            record {
              one = λ e. subst (λ d. LaneStands b d p.one) kept (st.up.one e);
              two = λ e. subst (λ d. LaneStands b d p.two) kept (st.up.two e);
            };
      }

-- ---- before any event

none-changed : (i : ℕ) → i < 36 → get_or (replicate 36 false) i false ≡ false
none-changed i within = get_or-replicate 36 i false false within

pub begins : (b : Book) (p : Pair) → PairFits b p → flags_of p ≡ both_up → picture_of p.face ≡ blank → p.changed ≡ replicate 36 false
    → ((f : Flags) → LaneStands b (empty_era f) p.one) → ((f : Flags) → LaneStands b (empty_era f) p.two) → PairStands b [] p
unfolding flags_after last_picture tick_count row_changed UpStand
begins b p fits up face rows one two = record {
  fits = fits;
  flags = up;
  face = face;
  changed = λ i within. ap (λ fs. get_or fs i false) rows ∙ none-changed i within;
  up = record { one = λ e. subst (λ d. LaneStands b d p.one) (sym era_nil) (one both_up); two = λ e. subst (λ d. LaneStands b d p.two) (sym era_nil) (two both_up) };
}

-- ---- what is told of a pair that stands

pub some-up : (p : Pair) → (none_up (flags_of p) ≡ true → ⊥) → none_up (flags_of p) ≡ false
some-up p not_none = elim (none_up (flags_of p)) as (λ t. (t ≡ true → ⊥) → t ≡ false) [ true ↦ λ e. absurd (e refl) | false ↦ λ e. refl ] not_none

pub lane-counts : (b : Book) (h : List Event) (l : Lane) → none_up (flags_after h) ≡ false → LaneStands b (era h) l
    → l.moments ≡ cond (none_up (flags_after h)) 0 (length (era h).moments)
lane-counts b h l up stands =
    (stands.whole (moment_of (era h)) (λ i w. refl)).counted ∙ sym (ap (λ t. cond t 0 (length (era h).moments)) up)

pub none-counts : (h : List Event) → none_up (flags_after h) ≡ true → 0 ≡ cond (none_up (flags_after h)) 0 (length (era h).moments)
none-counts h down = sym (ap (λ t. cond t 0 (length (era h).moments)) down)

-- a computer that fails
pub fail-flags : (n : ℕ) (old new : Pair) → new ≡ cond (n == 1) (record old { one_up = false }) (record old { two_up = false }) → flags_of new ≡ flags_with (flags_of old) (Fail n)
unfolding flags_with
fail-flags n old new is =
    ap flags_of is
    ∙ elim (n == 1) as (λ c. flags_of (cond c (record old { one_up = false }) (record old { two_up = false })) ≡ cond c (record (flags_of old) { one = false }) (record (flags_of old) { two = false })) [ true ↦ refl | false ↦ refl ]

pub quiet-up : (b : Book) (h : List Event) (x : Event) (p : Pair) → comes_up x ≡ false → UpStand b (era h) p → UpStand b (begun h x) p
quiet-up b h x p quiet up = subst (λ e. UpStand b e p) (sym (goes-on h x quiet)) up
