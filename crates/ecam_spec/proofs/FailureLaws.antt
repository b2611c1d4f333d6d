-- While one computer is up, the failure of the other changes nothing that is written, where the book doesn't ask.
use Rattle.std.proofs.Common.{◌≡◌, ℕ, zero, suc, ◌+◌, ◌-◌, Bool, true, false, not, ◌&&◌, ◌||◌, inl, inr, List, [], ◌∷◌, ◌++◌, map, length, get_or, take, drop, refl, sym, ◌∙◌, ap, subst, cond, arith}
use Rattle.std.specs.Prelude.{fold, count_by, if◌then◌else◌}
use Rattle.std.specs.List.{list_any}
use Rattle.std.proofs.lemmas.List.{length-map, take-append-le, take_all}
use Rattle.std.proofs.lemmas.List.Sums.{sum_by-cons}
use Rattle.std.proofs.lemmas.Bool.{cases_lt}
use Rattle.std.proofs.Math.Seq.{take-length}
use Rattle.std.proofs.Math.Bool.{and-false}
use Rattle.ecam_spec.specs.declared.kinds.Event.{Event}
use Rattle.ecam_spec.specs.declared.kinds.Event.TheVariants.{Word, Tick, Press, Release, Fail, Up, End}
use Rattle.ecam_spec.specs.Past.{moment_after}
use Rattle.ecam_spec.specs.Book.{Book}
use Rattle.ecam_spec.specs.Computers.{names_computer, without_failures}
use Rattle.ecam_spec.specs.History.{both_up, none_up, flags_with, flags_after, comes_up, changes_computers, begins_era, era_place, Moment, Era, empty_era, era_with, era}
use Rattle.ecam_spec.specs.Picture.{Picture, dead}
use Rattle.ecam_spec.specs.Output.{block, blocks, picture_before}
use Rattle.ecam_spec.specs.Screen.{picture_in}
use Rattle.ecam_spec.specs.Replay.{is_tick, tick_count, through, moment_of, picture_at, picture, history_blocks}
use Rattle.ecam_spec.proofs.Nowhere.{last-nowhere, get_or-mapped}
use Rattle.ecam_spec.proofs.HistoryLaws.{era_flags}
use Rattle.ecam_spec.proofs.ComputerNames.{any-at}
use Rattle.ecam_spec.proofs.SituationAgree.{SameUpTo}
use Rattle.ecam_spec.proofs.PictureAgree.{picture-same}

-- moments and eras but for which computers are up
strip : Moment → Moment
strip m = record m { flags = both_up }

strip-era : Era → Era
strip-era e = record { moments = map strip e.moments; open_moment = strip e.open_moment }

differ : true ≡ false → ⊥
differ e = cc

map-snoc : (ms : List Moment) (m : Moment) → map strip (ms ++ m ∷ []) ≡ map strip ms ++ strip m ∷ []
map-snoc [] m = refl
map-snoc (x ∷ ms) m = ap (λ ys. strip x ∷ ys) (map-snoc ms m)

strip-with : (e : Era) (x : Event) → changes_computers x ≡ false → strip-era (era_with e x) ≡ era_with (strip-era e) x
unfolding strip strip-era era_with
strip-with e (Word b w) same = refl
strip-with e Tick same = ap (λ ms. record { moments = ms; open_moment = record { words = []; strokes = []; flags = both_up } }) (map-snoc e.moments e.open_moment)
strip-with e (Press k) same = refl
strip-with e (Release k) same = refl
strip-with e (Fail n) same = absurd (differ same)
strip-with e (Up n) same = absurd (differ same)
strip-with e End same = refl

strip-change : (e : Era) (x : Event) → changes_computers x ≡ true → strip-era (era_with e x) ≡ strip-era e
unfolding strip strip-era era_with
strip-change e (Word b w) same = absurd (differ (sym same))
strip-change e Tick same = absurd (differ (sym same))
strip-change e (Press k) same = absurd (differ (sym same))
strip-change e (Release k) same = absurd (differ (sym same))
strip-change e (Fail n) same = refl
strip-change e (Up n) same = refl
strip-change e End same = absurd (differ (sym same))

strip-fold : (e : Era) (h : List Event) → strip-era (fold era_with e h) ≡ fold era_with (strip-era e) (without_failures h)
strip-fold e [] = refl
strip-fold e (x ∷ h) =
    strip-fold (era_with e x) h
    ∙ (elim (changes_computers x) as (λ b. changes_computers x ≡ b → fold era_with (strip-era (era_with e x)) (without_failures h) ≡ fold era_with (strip-era e) (cond (not b) (x ∷ without_failures h) (without_failures h))) [
      | true ↦ λ c. ap (λ f. fold era_with f (without_failures h)) (strip-change e x c)
      | false ↦ λ c. ap (λ f. fold era_with f (without_failures h)) (strip-with e x c)
    ]) refl

-- a history in which no era begins is one era
one-era : (h : List Event) → ((i : ℕ) → begins_era h i ≡ false) → era h ≡ fold era_with (empty_era both_up) h
unfolding era era_place flags_after
one-era h never = ap (λ o. fold era_with (empty_era (fold flags_with both_up (take (moment_after o) h))) (drop (moment_after o) h)) (last-nowhere (begins_era h) (length h) never)

-- one computer is up after each event
abbrev StaysUp : List Event → Type 0
StaysUp h = (i : ℕ) → none_up (flags_after (take i h)) ≡ false

stays-one : (h : List Event) → StaysUp h → (i : ℕ) → begins_era h i ≡ false
unfolding begins_era
stays-one h stays i = ap (λ b. comes_up (get_or h i Tick) && b) (stays i) ∙ and-false (comes_up (get_or h i Tick))

no-changes : (h : List Event) → list_any changes_computers (without_failures h) ≡ false
no-changes [] = refl
no-changes (x ∷ h) =
    elim (changes_computers x) as (λ b. changes_computers x ≡ b → list_any changes_computers (cond (not b) (x ∷ without_failures h) (without_failures h)) ≡ false) [
      | true ↦ λ c. no-changes h
      | false ↦ λ c. ap (λ y. y || list_any changes_computers (without_failures h)) c ∙ no-changes h
    ] refl

comes-changes : (x : Event) → changes_computers x ≡ false → comes_up x ≡ false
comes-changes (Word b w) c = refl
comes-changes Tick c = refl
comes-changes (Press k) c = refl
comes-changes (Release k) c = refl
comes-changes (Fail n) c = refl
comes-changes (Up n) c = c
comes-changes End c = refl

without-one : (h : List Event) (i : ℕ) → begins_era (without_failures h) i ≡ false
unfolding begins_era
without-one h i =
    ap (λ b. b && none_up (flags_after (take i (without_failures h))))
    (comes-changes (get_or (without_failures h) i Tick) (any-at changes_computers (without_failures h) i Tick (no-changes h) refl))

-- the eras are the same but for which computers are up
eras-same : (h : List Event) → StaysUp h → era (without_failures h) ≡ strip-era (era h)
unfolding strip strip-era
eras-same h stays =
    one-era (without_failures h) (without-one h) ∙ sym (strip-fold (empty_era both_up) h) ∙ ap strip-era (sym (one-era h (stays-one h stays)))

moments-same : (e : Era) (i : ℕ) → moment_of (strip-era e) i ≡ strip (moment_of e i)
unfolding strip strip-era moment_of
moments-same e i =
    ap (λ ms. get_or ms i (strip e.open_moment)) (sym (map-snoc e.moments e.open_moment))
    ∙ get_or-mapped strip (e.moments ++ e.open_moment ∷ []) i e.open_moment

pick : (c : Bool) (x y : Picture) → c ≡ false → (if c then x else y) ≡ y
pick c x y e = ap (λ z. if z then x else y) e

changes-tick : (x : Event) → changes_computers x ≡ true → is_tick x ≡ false
changes-tick (Word b w) e = refl
changes-tick Tick e = sym e
changes-tick (Press k) e = refl
changes-tick (Release k) e = refl
changes-tick (Fail n) e = refl
changes-tick (Up n) e = refl
changes-tick End e = refl

up-now : (h : List Event) → StaysUp h → none_up (flags_after h) ≡ false
up-now h stays = ap (λ t. none_up (flags_after t)) (sym (take-length h)) ∙ stays (length h)

up-without : (h : List Event) → StaysUp h → none_up (flags_after (without_failures h)) ≡ false
unfolding strip strip-era
up-without h stays = ap none_up (sym (era_flags (without_failures h)) ∙ ap (λ (e : Era). e.open_moment.flags) (eras-same h stays))

-- each beginning of a history in which one computer stays up is such a history
prefix-stays : (xs rest : List Event) → StaysUp (xs ++ rest) → StaysUp xs
prefix-stays xs rest stays i =
    elim (cases_lt i (length xs)) [
      | inl h ↦ ap (λ t. none_up (flags_after t)) (sym (take-append-le i xs rest (omega arith))) ∙ stays i
      | inr h ↦
          ap (λ t. none_up (flags_after t)) (take_all i xs h ∙ sym (take-length xs) ∙ sym (take-append-le (length xs) xs rest (omega arith)))
          ∙ stays (length xs)
    ]

before-agree : (p q : ℕ → Picture) (t : ℕ) → ((i : ℕ) → p i ≡ q i) → picture_before p t ≡ picture_before q t
before-agree p q zero same = refl
before-agree p q (suc t) same = same t

blocks-agree : (p q : ℕ → Picture) (t : ℕ) → ((i : ℕ) → p i ≡ q i) → blocks p t ≡ blocks q t
unfolding blocks
blocks-agree p q zero same = refl
blocks-agree p q (suc t) same =
    ap (λ x. x ++ block t (picture_before p t) (p t)) (blocks-agree p q t same)
    ∙ ap (λ x. blocks q t ++ block t x (p t)) (before-agree p q t same)
    ∙ ap (λ x. blocks q t ++ block t (picture_before q t) x) (same t)

module _ (b : Book) (asked : names_computer b ≡ false) where
  same-moments : (h : List Event) → StaysUp h → (k : ℕ) → SameUpTo b (moment_of (era (without_failures h))) (moment_of (era h)) k
  unfolding strip
  same-moments h stays k =
      let same : (i : ℕ) → moment_of (era (without_failures h)) i ≡ strip (moment_of (era h) i) =
      λ i. ap (λ (e : Era). moment_of e i) (eras-same h stays) ∙ moments-same (era h) i in
      record {
        words = λ i l. ap (λ (x : Moment). x.words) (same i);
        strokes = λ i l. ap (λ (x : Moment). x.strokes) (same i);
        flags = inl asked;
      }

  count-same : (h : List Event) → StaysUp h → length (era (without_failures h)).moments ≡ length (era h).moments
  unfolding strip strip-era
  count-same h stays = ap (λ (e : Era). length e.moments) (eras-same h stays) ∙ length-map (era h).moments strip

  picture-at-same : (h : List Event) → StaysUp h → picture_at b (without_failures h) ≡ picture_at b h
  unfolding picture_at
  picture-at-same h stays =
      pick (none_up (flags_after (without_failures h))) dead (picture_in b (moment_of (era (without_failures h))) (length (era (without_failures h)).moments - 1)) (up-without h stays)
      ∙ ap (λ n. picture_in b (moment_of (era (without_failures h))) (n - 1)) (count-same h stays)
      ∙ picture-same b (moment_of (era (without_failures h))) (moment_of (era h)) (length (era h).moments - 1) (same-moments h stays (length (era h).moments - 1)) (length (era h).moments - 1) (omega arith)
      ∙ sym (pick (none_up (flags_after h)) dead (picture_in b (moment_of (era h)) (length (era h).moments - 1)) (up-now h stays))

  -- up to each Tick
  through-without : (n : ℕ) (h : List Event) → through n (without_failures h) ≡ without_failures (through n h)
  unfolding through
  through-without zero h = refl
  through-without (suc n) [] = refl
  through-without (suc n) (x ∷ h) =
      (elim (changes_computers x) as (λ c. changes_computers x ≡ c → through (suc n) (cond (not c) (x ∷ without_failures h) (without_failures h)) ≡ cond (not c) (x ∷ without_failures (through (if is_tick x then n else suc n) h)) (without_failures (through (if is_tick x then n else suc n) h))) [
        | true ↦ λ e. through-without (suc n) h ∙ ap (λ t. without_failures (through (if t then n else suc n) h)) (sym (changes-tick x e))
        | false ↦ λ e. ap (λ ys. x ∷ ys)
            (elim (is_tick x) as (λ t. through (if t then n else suc n) (without_failures h) ≡ without_failures (through (if t then n else suc n) h)) [
              | true ↦ through-without n h
              | false ↦ through-without (suc n) h
            ])
      ]) refl

  -- what comes up to a Tick begins the history
  begins-with : (n : ℕ) (h : List Event) → (rest : List Event) × (h ≡ through n h ++ rest)
  unfolding through
  begins-with zero h = (h, refl)
  begins-with (suc n) [] = ([], refl)
  begins-with (suc n) (x ∷ h) =
      let more = begins-with (if is_tick x then n else suc n) h in
      (more.0, ap (λ ys. x ∷ ys) more.1)

  stays-through : (n : ℕ) (h : List Event) → StaysUp h → StaysUp (through n h)
  stays-through n h stays i = prefix-stays (through n h) (begins-with n h).0 (subst StaysUp (begins-with n h).1 stays) i

  pictures-same : (h : List Event) → StaysUp h → (t : ℕ) → picture b (without_failures h) t ≡ picture b h t
  unfolding picture
  pictures-same h stays t = ap (picture_at b) (through-without (t + 1) h) ∙ picture-at-same (through (t + 1) h) (stays-through (t + 1) h stays)

  ticks-same : (h : List Event) → tick_count (without_failures h) ≡ tick_count h
  unfolding tick_count
  ticks-same [] = refl
  ticks-same (x ∷ h) =
      (elim (changes_computers x) as (λ c. changes_computers x ≡ c → count_by is_tick (cond (not c) (x ∷ without_failures h) (without_failures h)) ≡ cond (is_tick x) 1 0 + count_by is_tick h) [
        | true ↦ λ e. ticks-same h ∙ sym (ap (λ t. cond t 1 0 + count_by is_tick h) (changes-tick x e) ∙ omega arith)
        | false ↦ λ e. sum_by-cons (λ y. cond (is_tick y) 1 0) x (without_failures h) ∙ ap (λ n. cond (is_tick x) 1 0 + n) (ticks-same h)
      ]) refl
      ∙ sym (sum_by-cons (λ y. cond (is_tick y) 1 0) x h)

  -- where one computer stays up, the failures of the other change nothing that is written
  pub failures_change_nothing : (h : List Event) → StaysUp h → history_blocks b (without_failures h) ≡ history_blocks b h
  unfolding history_blocks
  failures_change_nothing h stays =
      blocks-agree (picture b (without_failures h)) (picture b h) (tick_count (without_failures h)) (pictures-same h stays)
      ∙ ap (blocks (picture b h)) (ticks-same h)
