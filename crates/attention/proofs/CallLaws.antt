-- What alerts call for: by what is kept of them, by the sets, and in the order of the book's alerts.
use Rattle.std.proofs.Common.{◌≡◌, ℕ, suc, ◌+◌, ◌<◌, ◌≤◌, Bool, true, false, ◌&&◌, List, length, Option, Some, None, inl, inr, nat_le, refl, sym, ◌∙◌, ap}
use Rattle.std.specs.Prelude.{find, filter, option_map, slice_get}
use Rattle.std.specs.List.{list_any}
use Rattle.std.specs.Option.{option_map_or}
use Rattle.std.proofs.lemmas.Option.{slice_get_cases}
use Rattle.std.proofs.Math.Bool.{and-true, and-false}
use Rattle.ecam_spec.specs.Past.{previous}
use Rattle.ecam_spec.specs.Levels.{is_three, is_two}
use Rattle.ecam_spec.specs.Places.{below}
use Rattle.ecam_spec.specs.Book.{Book}
use Rattle.ecam_spec.specs.Screen.{order}
use Rattle.ecam_spec.specs.Lamps as lamps
use Rattle.wakes.specs.Marks.{is_marked}
use Rattle.attention.specs.declared.calls.Calls.{Calls}
use Rattle.attention.specs.declared.callers.Callers.{Callers}
use Rattle.attention.specs.declared.watch.Watch.{Watch}
use Rattle.book_model.specs.declared.draft.Alert.{Alert}
use Rattle.attention.specs.Moments.{AreListed}
use Rattle.attention.specs.Watches.{onset_of, is_open, opened, calling, rings_by, watch_after, AreWatched}
use Rattle.attention.specs.Calling.{AreCalls, AreCallers, Marks, rings_in, chimes_in, is_shown, is_calling}
use Rattle.attention.specs.State.{AreOfBook}
use Rattle.attention.proofs.Passing.{find-filter}
use Rattle.attention.proofs.Below.{find-below, any-below, found-low, found-none}
use Rattle.attention.proofs.Ordered.{any-filter, warning-shown, caution-shown}

-- an onset is kept as open where it is
kept-open : (o : Option ℕ) (f : ℕ → Bool) → is_open (onset_of o (option_map_or f o false)) ≡ option_map_or f o false
kept-open None f = refl
kept-open (Some m) f = elim (f m) as (λ b. is_open (onset_of (Some m) b) ≡ b) [ true ↦ refl | false ↦ refl ]

-- and its moment is kept with it
kept-ring : (o : Option ℕ) (f : ℕ → Bool) (up : Bool) (j : ℕ)
    → ((up && option_map_or f o false) && nat_le j (opened (onset_of o (option_map_or f o false)) + 4))
    ≡ ((up && option_map_or f o false) && rings_in j o)
kept-ring None f up j = rw (and-false up) refl
kept-ring (Some m) f up j =
    elim (f m) as (λ b. ((up && b) && nat_le j (opened (onset_of (Some m) b) + 4)) ≡ ((up && b) && nat_le j (m + 4)))
    [ true ↦ refl | false ↦ rw (and-false up) refl ]

module _ (a : lamps.Attention) (k i : ℕ) where
  -- by what is kept of an alert it is known whether it calls
  pub calls-kept : lamps.calls a i k ≡ calling (watch_after a i (suc k))
  unfolding previous lamps.calls lamps.is_open
  calls-kept = ap (λ b. a.up i k && b) (sym (kept-open (lamps.last_onset a i k) _))

  pub ring-kept : (j : ℕ) → (lamps.calls a i k && nat_le j (opened (watch_after a i (suc k)).onset + 4)) ≡ (lamps.calls a i k && rings_in j (lamps.last_onset a i k))
  unfolding lamps.calls lamps.is_open
  ring-kept j = kept-ring (lamps.last_onset a i k) _ (a.up i k) j

-- the sound of the first number that passes
pub first-sound : (a : lamps.Attention) (alerts : List Alert) → AreListed a alerts → (p : ℕ → Bool) (r : ℕ) → r ≤ length alerts
    → (r < length alerts → p r ≡ true) → ((i : ℕ) → 0 ≤ i → i < r → p i ≡ false)
    → option_map (λ (x : Alert). x.sound) (slice_get alerts r) ≡ option_map a.sound (find p (below (length alerts)))
first-sound a alerts listed p r most here none =
    elim (slice_get_cases alerts r).1 [
      | inl found ↦
          ap (option_map (λ (x : Alert). x.sound)) found.2
          ∙ ap Some (listed.sound r found.0 found.1 (sym found.3))
          ∙ sym (ap (option_map a.sound) (found-low p (length alerts) r most here none found.1))
      | inr past ↦
          ap (option_map (λ (x : Alert). x.sound)) past.1
          ∙ sym (ap (option_map a.sound) (found-none p (length alerts) r most here none past.0))
    ]

-- the marks of an alert, which is shown or isn't, and calls or doesn't
warned : (s c t : Bool) → ((s && c) && t) ≡ (s && (t && c))
warned true true true = refl
warned true true false = refl
warned true false true = refl
warned true false false = refl
warned false c t = refl

chimed : (s c t u r q : Bool) → (c && r) ≡ (c && q) → (((s && c) && (t && u)) && r) ≡ (s && ((t && u) && (q && c)))
chimed false c t u r q same = refl
chimed true false true true r q same = sym (and-false q)
chimed true false false u r q same = refl
chimed true false true false r q same = refl
chimed true true false u r q same = refl
chimed true true true false r q same = refl
chimed true true true true r q same = same ∙ sym (and-true q)

module _ (a : lamps.Attention) (k n : ℕ) (callers : Callers) (are : AreCallers a k n callers) where
  abbrev shown : ℕ → Bool
  shown i = is_shown a k i

  pub warnings-called : find (is_marked callers.warnings) (below n) ≡ find (λ i. is_three (a.level i) && lamps.calls a i k) (filter shown (below n))
  warnings-called =
      find-below _ (λ i. shown i && (is_three (a.level i) && lamps.calls a i k)) n
      (λ i h. ap (λ (m : Marks). m.warning) (are i h) ∙ warned (shown i) (lamps.calls a i k) (is_three (a.level i)))
      ∙ sym (find-filter (λ i. is_three (a.level i) && lamps.calls a i k) shown (below n))

  pub cautions-called : list_any (is_marked callers.cautions) (below n) ≡ list_any (λ i. is_two (a.level i) && lamps.calls a i k) (filter shown (below n))
  cautions-called =
      any-below _ (λ i. shown i && (is_two (a.level i) && lamps.calls a i k)) n
      (λ i h. ap (λ (m : Marks). m.caution) (are i h) ∙ warned (shown i) (lamps.calls a i k) (is_two (a.level i)))
      ∙ sym (any-filter shown (λ i. is_two (a.level i) && lamps.calls a i k) (below n))

  pub chimes-called : (watches : List Watch) (j : ℕ) → AreWatched a (suc k) n watches
      → list_any (λ i. is_marked callers.chimes i && rings_by j watches i) (below n) ≡ list_any (chimes_in a k j) (filter shown (below n))
  chimes-called watches j kept =
      any-below _ (λ i. shown i && chimes_in a k j i) n
      (λ i h.
      ap (λ (m : Marks). m.chime && rings_by j watches i) (are i h)
      ∙ ap (λ o. (is_calling a k i && (is_two (a.level i) && lamps.is_chime (a.sound i))) && option_map_or (λ (w : Watch). nat_le j (opened w.onset + 4)) o false) (kept i h)
      ∙ chimed (shown i) (lamps.calls a i k) (is_two (a.level i)) (lamps.is_chime (a.sound i)) _ _ (ring-kept a k i j))
      ∙ sym (any-filter shown (chimes_in a k j) (below n))

-- the calls of those that are shown, in whichever of the two orders they are looked at
own-test : (x y : Bool) → (x && (x && y)) ≡ (x && y)
own-test true y = refl
own-test false y = refl

own-tests : (x y z : Bool) → (x && (x && y && z)) ≡ (x && y && z)
own-tests true y z = refl
own-tests false y z = refl

pub calls-ordered : (b : Book) (a : lamps.Attention) (k : ℕ) (shown : ℕ → Bool) (c : Calls) → AreOfBook b a
    → AreCalls a k (filter shown (below (length b.alerts))) c → AreCalls a k (filter shown (order b)) c
calls-ordered b a k shown c own are =
    record {
      warning = are.warning ∙ ap (option_map a.sound) (sym (warning-shown b shown _ (λ i. rw (sym (own.level i)) (own-test (is_three (a.level i)) (lamps.calls a i k)))));
      caution = are.caution ∙ sym (caution-shown b shown _ (λ i. rw (sym (own.level i)) (own-test (is_two (a.level i)) (lamps.calls a i k))));
      chime = λ j. are.chime j ∙ sym (caution-shown b shown _ (λ i. rw (sym (own.level i)) (own-tests (is_two (a.level i)) (lamps.is_chime (a.sound i)) (rings_in j (lamps.last_onset a i k) && lamps.calls a i k))));
    }
