-- One more event of a history: the rows that changed, the picture of an era, and what two histories come to.
use Rattle.std.proofs.Common.{◌≡◌, ℕ, zero, suc, ◌-◌, inl, inr, ◌⊎◌, ◌<◌, Bool, true, false, not, ◌&&◌, ◌||◌, ◌==◌, List, [], ◌∷◌, ◌++◌, length, refl, sym, ◌∙◌, ap, subst, cond, arith, add-one, append_assoc}
use Rattle.std.proofs.lemmas.List.{append-nil}
use Rattle.ecam_spec.specs.declared.kinds.Event.{Event}
use Rattle.ecam_spec.specs.declared.kinds.Event.TheVariants.{Word, Tick, Press, Release, Fail, Up, End}
use Rattle.ecam_spec.specs.declared.kinds.Standing.TheVariants.{Dead, Quiet}
use Rattle.ecam_spec.specs.Book.{Book}
use Rattle.ecam_spec.specs.History.{Flags, none_up, set_flag, flags_with, flags_after, comes_up, Era, empty_era, era_with, era, begun}
use Rattle.ecam_spec.specs.Picture.{Picture}
use Rattle.ecam_spec.specs.Output.{picture_before}
use Rattle.ecam_spec.specs.Screen.{picture_in}
use Rattle.ecam_spec.specs.Replay.{is_tick, tick_count, through, moment_of, picture_at, picture, last_picture, standing_in, standing}
use Rattle.ecam_spec.proofs.HistoryLaws.{flags_step, era_goes_on, era_next, era_nil}
use Rattle.ecam_spec.proofs.ReplayLaws.{picture_append, through_tick}
use Rattle.ecam_spec.proofs.ReplaySteps.{tick_count_kept, tick_count_tick, last_picture_kept, last_picture_tick, picture_at_up, picture_at_down}
use Rattle.ecam_spec.proofs.MomentSteps.{moments_kept, moment_kept, length_tick}
use Rattle.ecam_spec.proofs.PictureAgree.{picture_causal}
use Rattle.fwc_lane.specs.ChangedRows.{row_differs, row_changed}
use Rattle.fwc_pair.specs.Alike.{ComeToTheSame}

-- ---- rows that changed

before-below : (p q : ℕ → Picture) (n : ℕ) → ((t : ℕ) → t < n → p t ≡ q t) → picture_before p n ≡ picture_before q n
before-below p q zero same = refl
before-below p q (suc n) same = same n (omega arith)

changed-below : (p q : ℕ → Picture) (n i : ℕ) → ((t : ℕ) → t < n → p t ≡ q t) → row_changed p n i ≡ row_changed q n i
unfolding row_changed
changed-below p q zero i same = refl
changed-below p q (suc n) i same =
    let was : picture_before p n ≡ picture_before q n = before-below p q n (λ t l. same t (omega arith)) in
    let is : p n ≡ q n = same n (omega arith) in
    ap (λ old. row_differs old (p n) i) was ∙ ap (λ new. row_differs (picture_before q n) new i) is

module _ (b : Book) (h : List Event) where
  -- an event that is no Tick leaves them
  pub changed-kept : (x : Event) (i : ℕ) → is_tick x ≡ false → row_changed (picture b (h ++ x ∷ [])) (tick_count (h ++ x ∷ [])) i ≡ row_changed (picture b h) (tick_count h) i
  changed-kept x i quiet =
      ap (λ n. row_changed (picture b (h ++ x ∷ [])) n i) (tick_count_kept h x quiet)
      ∙ changed-below (picture b (h ++ x ∷ [])) (picture b h) (tick_count h) i (λ t l. picture_append b h (x ∷ []) t l)

  own-picture : picture b (h ++ Tick ∷ []) (tick_count h) ≡ picture_at b (h ++ Tick ∷ [])
  unfolding picture
  own-picture = ap (picture_at b) (ap (λ n. through n (h ++ Tick ∷ [])) (add-one (tick_count h)) ∙ through_tick (tick_count h) h refl)

  -- a Tick changes those that differ from the picture that stood
  pub changed-tick : (i : ℕ) → row_changed (picture b (h ++ Tick ∷ [])) (tick_count (h ++ Tick ∷ [])) i ≡ row_differs (last_picture b h) (picture_at b (h ++ Tick ∷ [])) i
  unfolding row_changed last_picture
  changed-tick i =
      let p = picture b (h ++ Tick ∷ []) in
      let n = tick_count h in
      ap (λ m. row_changed p m i) (tick_count_tick h)
      ∙ ap (λ old. row_differs old (p n) i) (before-below p (picture b h) n (λ t l. picture_append b h (Tick ∷ []) t l))
      ∙ ap (λ new. row_differs (picture_before (picture b h) n) new i) own-picture

-- before any event none changed
pub changed_nil : (b : Book) (i : ℕ) → row_changed (picture b []) (tick_count []) i ≡ false
unfolding row_changed tick_count
changed_nil b i = refl

-- ---- which computers were up before

some-first : (one two : Bool) → not (false || two) ≡ false → not (one || two) ≡ false
some-first true two e = refl
some-first false two e = e

some-second : (one two : Bool) → not (one || false) ≡ false → not (one || two) ≡ false
some-second true two e = refl
some-second false two e = absurd (let w : ⊥ = cc in w)

set-none : (n : ℕ) (f : Flags) → none_up (set_flag n false f) ≡ false → none_up f ≡ false
set-none n f up =
    (elim (n == 1) as (λ c. none_up (cond c (record f { one = false }) (record f { two = false })) ≡ false → none_up f ≡ false) [
      | true ↦ λ e. some-first f.one f.two e
      | false ↦ λ e. some-second f.one f.two e
    ])
    up

-- an event by which none comes up takes nothing from none
pub was-up : (x : Event) (f : Flags) → comes_up x ≡ false → none_up (flags_with f x) ≡ false → none_up f ≡ false
unfolding flags_with
was-up (Word bus bits) f c up = up
was-up Tick f c up = up
was-up (Press key) f c up = up
was-up (Release key) f c up = up
was-up (Fail n) f c up = set-none n f up
was-up (Up n) f c up = absurd (let w : ⊥ = cc in w)
was-up End f c up = up

-- ---- where a computer is up, the picture that stands is that of the last moment of its era

-- what holds before any event, and with each event more, holds of every history
pub by-events : (P : List Event → Type 0) → ((h : List Event) (x : Event) → P h → P (h ++ x ∷ [])) → (h es : List Event) → P h → P (h ++ es)
by-events P step h [] p = subst P (sym (append-nil h)) p
by-events P step h (x ∷ es) p = subst P (append_assoc h (x ∷ []) es) (by-events P step (h ++ x ∷ []) es (step h x p))

-- the event begins an era, or it goes on, and then some computer was up
begun-cases : (h : List Event) (x : Event) (c n : Bool) → comes_up x ≡ c → none_up (flags_after h) ≡ n → none_up (flags_with (flags_after h) x) ≡ false
    → (begun h x ≡ empty_era (flags_after h)) ⊎ ((begun h x ≡ era h) × (none_up (flags_after h) ≡ false))
unfolding begun
begun-cases h x true true c n up = inl (ap (λ t. cond (t && none_up (flags_after h)) (empty_era (flags_after h)) (era h)) c ∙ ap (λ t. cond t (empty_era (flags_after h)) (era h)) n)
begun-cases h x true false c n up = inr (ap (λ t. cond (t && none_up (flags_after h)) (empty_era (flags_after h)) (era h)) c ∙ ap (λ t. cond t (empty_era (flags_after h)) (era h)) n, n)
begun-cases h x false w c n up = inr (ap (λ t. cond (t && none_up (flags_after h)) (empty_era (flags_after h)) (era h)) c, was-up x (flags_after h) c up)

module _ (b : Book) where
  -- where a computer is up and its era has moments, what stands is the picture of the last of them
  abbrev ShowsEra : List Event → Type 0
  ShowsEra h = none_up (flags_after h) ≡ false → (j : ℕ) → length (era h).moments ≡ suc j → last_picture b h ≡ picture_in b (moment_of (era h)) j

  quiet-shows : (h : List Event) (x : Event) → is_tick x ≡ false → ShowsEra h → ShowsEra (h ++ x ∷ [])
  quiet-shows h x quiet before up j count =
      let now-up : none_up (flags_with (flags_after h) x) ≡ false = ap none_up (sym (flags_step h x)) ∙ up in
      let next : era (h ++ x ∷ []) ≡ era_with (begun h x) x = era_next h x in
      let many : length (begun h x).moments ≡ suc j = ap length (sym (moments_kept (begun h x) x quiet)) ∙ ap (λ (e : Era). length e.moments) (sym next) ∙ count in
      elim (begun-cases h x (comes_up x) (none_up (flags_after h)) refl refl now-up) [
        | inl e ↦ absurd (let none : length (begun h x).moments ≡ 0 = ap (λ (e : Era). length e.moments) e in omega arith)
        | inr goes ↦
            let long : length (era h).moments ≡ suc j = ap (λ (e : Era). length e.moments) (sym goes.0) ∙ many in
            let into : era (h ++ x ∷ []) ≡ era_with (era h) x = next ∙ ap (λ e. era_with e x) goes.0 in
            last_picture_kept b h x quiet
            ∙ before goes.1 j long
            ∙ picture_causal b (moment_of (era h)) (moment_of (era (h ++ x ∷ []))) j
            (λ i within. sym (ap (λ e. moment_of e i) into ∙ moment_kept (era h) x i quiet (omega arith)))
      ]

  tick-shows : (h : List Event) → ShowsEra (h ++ Tick ∷ [])
  unfolding flags_with
  tick-shows h up j count =
      let was : none_up (flags_after h) ≡ false = ap none_up (sym (flags_step h Tick)) ∙ up in
      let into : era (h ++ Tick ∷ []) ≡ era_with (era h) Tick = era_goes_on h Tick refl in
      let place : length (era h).moments ≡ j = omega (arith, length_tick (era h), ap (λ (e : Era). length e.moments) into) in
      last_picture_tick b h ∙ picture_at_up b h was
      ∙ ap (λ e. picture_in b (moment_of e) (length (era h).moments)) (sym into)
      ∙ ap (picture_in b (moment_of (era (h ++ Tick ∷ [])))) place

  shows-step : (h : List Event) (x : Event) → ShowsEra h → ShowsEra (h ++ x ∷ [])
  shows-step h (Word bus bits) s = quiet-shows h (Word bus bits) refl s
  shows-step h Tick s = tick-shows h
  shows-step h (Press key) s = quiet-shows h (Press key) refl s
  shows-step h (Release key) s = quiet-shows h (Release key) refl s
  shows-step h (Fail n) s = quiet-shows h (Fail n) refl s
  shows-step h (Up n) s = quiet-shows h (Up n) refl s
  shows-step h End s = quiet-shows h End refl s

  pub era_shown : (h : List Event) → none_up (flags_after h) ≡ false → (j : ℕ) → length (era h).moments ≡ suc j → last_picture b h ≡ picture_in b (moment_of (era h)) j
  era_shown h =
      by-events ShowsEra shows-step [] h (λ up j count. absurd (let none : length (era []).moments ≡ 0 = ap (λ (e : Era). length e.moments) era_nil in omega arith))

  -- ---- two histories that come to the same go on alike

  tick-alike : (g h : List Event) → ComeToTheSame b g h → (n : Bool) → none_up (flags_after h) ≡ n → picture_at b (g ++ Tick ∷ []) ≡ picture_at b (h ++ Tick ∷ [])
  tick-alike g h s true n = picture_at_down b g (ap none_up s.flags ∙ n) ∙ sym (picture_at_down b h n)
  tick-alike g h s false n =
      picture_at_up b g (ap none_up s.flags ∙ n)
      ∙ ap (λ e. picture_in b (moment_of (era_with e Tick)) (length e.moments)) (s.era n)
      ∙ sym (picture_at_up b h n)

  begun-alike : (g h : List Event) (x : Event) → ComeToTheSame b g h → (c n : Bool) → comes_up x ≡ c → none_up (flags_after h) ≡ n → none_up (flags_with (flags_after h) x) ≡ false → begun g x ≡ begun h x
  unfolding begun
  begun-alike g h x s true true c n up =
      let here : (comes_up x && none_up (flags_after h)) ≡ true = ap (λ t. t && none_up (flags_after h)) c ∙ n in
      ap (λ f. cond (comes_up x && none_up f) (empty_era f) (era g)) s.flags
      ∙ ap (λ t. cond t (empty_era (flags_after h)) (era g)) here
      ∙ ap (λ t. cond t (empty_era (flags_after h)) (era h)) (sym here)
  begun-alike g h x s true false c n up =
      ap (λ f. cond (comes_up x && none_up f) (empty_era f) (era g)) s.flags ∙ ap (λ e. cond (comes_up x && none_up (flags_after h)) (empty_era (flags_after h)) e) (s.era n)
  begun-alike g h x s false n c m up =
      ap (λ f. cond (comes_up x && none_up f) (empty_era f) (era g)) s.flags
      ∙ ap (λ e. cond (comes_up x && none_up (flags_after h)) (empty_era (flags_after h)) e) (s.era (was-up x (flags_after h) c up))

  era-alike : (g h : List Event) (x : Event) → ComeToTheSame b g h → none_up (flags_after (h ++ x ∷ [])) ≡ false → era (g ++ x ∷ []) ≡ era (h ++ x ∷ [])
  era-alike g h x s up =
      let now-up : none_up (flags_with (flags_after h) x) ≡ false = ap none_up (sym (flags_step h x)) ∙ up in
      era_next g x
      ∙ ap (λ e. era_with e x) (begun-alike g h x s (comes_up x) (none_up (flags_after h)) refl refl now-up)
      ∙ sym (era_next h x)

  step-alike : (g h : List Event) (x : Event) → last_picture b (g ++ x ∷ []) ≡ last_picture b (h ++ x ∷ []) → ComeToTheSame b g h → ComeToTheSame b (g ++ x ∷ []) (h ++ x ∷ [])
  step-alike g h x shown s = record {
    flags = flags_step g x ∙ ap (λ f. flags_with f x) s.flags ∙ sym (flags_step h x);
    face = shown;
    era = λ up. era-alike g h x s up;
  }

  quiet-alike : (g h : List Event) (x : Event) → is_tick x ≡ false → ComeToTheSame b g h → ComeToTheSame b (g ++ x ∷ []) (h ++ x ∷ [])
  quiet-alike g h x quiet s = step-alike g h x (last_picture_kept b g x quiet ∙ s.face ∙ sym (last_picture_kept b h x quiet)) s

  pub alike-step : (g h : List Event) (x : Event) → ComeToTheSame b g h → ComeToTheSame b (g ++ x ∷ []) (h ++ x ∷ [])
  alike-step g h (Word bus bits) s = quiet-alike g h (Word bus bits) refl s
  alike-step g h Tick s =
      step-alike g h Tick (last_picture_tick b g ∙ tick-alike g h s (none_up (flags_after h)) refl ∙ sym (last_picture_tick b h)) s
  alike-step g h (Press key) s = quiet-alike g h (Press key) refl s
  alike-step g h (Release key) s = quiet-alike g h (Release key) refl s
  alike-step g h (Fail n) s = quiet-alike g h (Fail n) refl s
  alike-step g h (Up n) s = quiet-alike g h (Up n) refl s
  alike-step g h End s = quiet-alike g h End refl s

  pub go_on_alike : (g h es : List Event) → ComeToTheSame b g h → ComeToTheSame b (g ++ es) (h ++ es)
  go_on_alike g h [] s = subst (λ u. ComeToTheSame b u (h ++ [])) (sym (append-nil g)) (subst (λ v. ComeToTheSame b g v) (sym (append-nil h)) s)
  go_on_alike g h (x ∷ es) s =
      subst (λ u. ComeToTheSame b u (h ++ x ∷ es)) (append_assoc g (x ∷ []) es)
      (subst (λ v. ComeToTheSame b ((g ++ x ∷ []) ++ es) v) (append_assoc h (x ∷ []) es) (go_on_alike (g ++ x ∷ []) (h ++ x ∷ []) es (alike-step g h x s)))

  standing-by : (f : Flags) (d e : Era) (a : ℕ) → (none_up f ≡ false → d ≡ e) → (n : Bool) → none_up f ≡ n
      → (cond (none_up f) Dead (cond (length d.moments == 0) Quiet (standing_in b (moment_of d) (length d.moments - 1) a)))
      ≡ (cond (none_up f) Dead (cond (length e.moments == 0) Quiet (standing_in b (moment_of e) (length e.moments - 1) a)))
  standing-by f d e a same true n =
      ap (λ t. cond t Dead (cond (length d.moments == 0) Quiet (standing_in b (moment_of d) (length d.moments - 1) a))) n
      ∙ ap (λ t. cond t Dead (cond (length e.moments == 0) Quiet (standing_in b (moment_of e) (length e.moments - 1) a))) (sym n)
  standing-by f d e a same false n =
      ap (λ (x : Era). cond (none_up f) Dead (cond (length x.moments == 0) Quiet (standing_in b (moment_of x) (length x.moments - 1) a))) (same n)

  -- and then each alert stands alike
  pub same_standing : (g h : List Event) (a : ℕ) → ComeToTheSame b g h → standing b g a ≡ standing b h a
  unfolding standing
  same_standing g h a s =
      ap (λ f. cond (none_up f) Dead (cond (length (era g).moments == 0) Quiet (standing_in b (moment_of (era g)) (length (era g).moments - 1) a))) s.flags
      ∙ standing-by (flags_after h) (era g) (era h) a s.era (none_up (flags_after h)) refl
