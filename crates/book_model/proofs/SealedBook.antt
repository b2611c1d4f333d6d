-- What a book keeps beside its draft is what its book of plain data says.
use Rattle.std.proofs.Common.{◌≡◌, ℕ, zero, suc, ◌≤◌, List, [], ◌∷◌, map, length, get_or, filter, All, None, refl, ap, ◌∙◌, sym, arith, length-append}
use Rattle.std.proofs.lemmas.List.{length-map, get_or-map}
use Rattle.std.proofs.lemmas.List.Elements.{filter_agree}
use Rattle.ecam_spec.specs.declared.kinds.Level.{Level}
use Rattle.ecam_spec.specs.declared.kinds.Level.TheVariants.{One, Two, Three}
use Rattle.ecam_spec.specs.Places.{below}
use Rattle.ecam_spec.specs.Book.{Text, Alert as AlertPlain}
use Rattle.ecam_spec.specs.BookTerms.{lines_of, terms_of}
use Rattle.ecam_spec.specs.Screen.{order}
use Rattle.ecam_spec.specs.Situation.{no_alert}
use Rattle.ecam_spec.specs.TermSize.{trees, placed}
use Rattle.ecam_spec.specs.Draft.{book_of, resolved, alert_names}
use Rattle.ecam_spec.specs.declared.limits.TheConstants.{PARAMETERS}
use Rattle.ecam_spec.specs.KeepsLimits.{IsSound, IsSoundParameter}
use Rattle.ecam_spec.specs.DraftFaults.{draft_fault}
use Rattle.book_model.specs.View.{alert_of, name_of, draft_of, line_of, parameter_of}
use Rattle.book_model.specs.Parts.{order_by, level_places, has_level, is_level, secondaries_by, line_counts, total}
use Rattle.book_model.specs.Slots.{draft_trees, draft_places}
use Rattle.book_model.specs.Sealed.{the_book, IsSealed}
use Rattle.book_model.specs.declared.draft.Alert.{Alert}
use Rattle.book_model.specs.declared.draft.Draft.{Draft}
use Rattle.book_model.proofs.SealedTerms.{draft_trees-view, terms_of-book}

level-at : (xs : List AlertPlain) (i : ℕ) → (get_or xs i no_alert).level ≡ get_or (map (λ a. a.level) xs) i One
level-at [] i = refl
level-at (x ∷ xs) zero = refl
level-at (x ∷ xs) (suc i) = level-at xs i

levels-resolved : (names : List Text) (xs : List Alert) → map (λ (a : AlertPlain). a.level) (map (resolved names) (map alert_of xs)) ≡ map (λ (a : Alert). a.level) xs
levels-resolved names [] = refl
levels-resolved names (x ∷ xs) = ap (λ ls. x.level ∷ ls) (levels-resolved names xs)

level-same : (names : List Text) (xs : List Alert) (wanted : Level) (i : ℕ)
    → has_level xs wanted i ≡ is_level wanted (get_or (map (resolved names) (map alert_of xs)) i no_alert).level
level-same names xs wanted i =
    ap (is_level wanted) (sym (level-at (map (resolved names) (map alert_of xs)) i ∙ ap (λ ls. get_or ls i One) (levels-resolved names xs)))

places-same : (names : List Text) (xs : List Alert) (wanted : Level)
    → level_places xs wanted ≡ filter (λ i. is_level wanted (get_or (map (resolved names) (map alert_of xs)) i no_alert).level) (below (length (map (resolved names) (map alert_of xs))))
places-same names xs wanted =
    let long : length (map (resolved names) (map alert_of xs)) ≡ length xs = length-map (map alert_of xs) (resolved names) ∙ length-map xs alert_of in
    rw long (filter_agree _ _ (level-same names xs wanted) (below (length xs)))

secondaries-view : (names : List Text) (xs : List Alert) → map (secondaries_by names) xs ≡ map (λ (a : AlertPlain). a.secondary) (map (resolved names) (map alert_of xs))
secondaries-view names [] = refl
secondaries-view names (x ∷ xs) = ap (λ ls. secondaries_by names x ∷ ls) (secondaries-view names xs)

names-view : (xs : List Alert) → alert_names (map alert_of xs) ≡ map name_of xs
names-view [] = refl
names-view (x ∷ xs) = ap (λ ns. name_of x ∷ ns) (names-view xs)

counts-view : (names : List Text) (xs : List Alert) → line_counts xs ≡ map (λ (a : AlertPlain). length a.lines) (map (resolved names) (map alert_of xs))
counts-view names [] = refl
counts-view names (x ∷ xs) = ap (λ k. k ∷ line_counts xs) (sym (length-map x.lines.items line_of)) ∙ ap (λ ks. length (map line_of x.lines.items) ∷ ks) (counts-view names xs)

total-view : (xs : List AlertPlain) → total (map (λ a. length a.lines) xs) ≡ length (lines_of xs)
total-view [] = refl
total-view (x ∷ xs) = omega (arith, total-view xs, length-append x.lines (lines_of xs))

module _ (d : Draft) where
  pub order-book : order_by d.alerts.items ≡ order (the_book d)
  unfolding order book_of draft_of
  order-book =
      let names = alert_names (map alert_of d.alerts.items) in
      rw (places-same names d.alerts.items Three, places-same names d.alerts.items Two, places-same names d.alerts.items One) refl

  pub secondaries-book : map (secondaries_by (map name_of d.alerts.items)) d.alerts.items ≡ map (λ a. a.secondary) (the_book d).alerts
  unfolding book_of draft_of
  secondaries-book =
      ap (λ ns. map (secondaries_by ns) d.alerts.items) (sym (names-view d.alerts.items))
      ∙ secondaries-view (alert_names (map alert_of d.alerts.items)) d.alerts.items

  pub counts-book : line_counts d.alerts.items ≡ map (λ a. length a.lines) (the_book d).alerts
  unfolding book_of draft_of
  counts-book = counts-view (alert_names (map alert_of d.alerts.items)) d.alerts.items

  pub total-book : total (line_counts d.alerts.items) ≡ length (lines_of (the_book d).alerts)
  total-book = ap total counts-book ∙ total-view (the_book d).alerts

  pub terms-book : draft_trees d ≡ terms_of (the_book d)
  terms-book = draft_trees-view d ∙ sym (terms_of-book (draft_of d))

  -- how many parameters a sound draft has, and that they are sound
  pub few-parameters : IsSound (draft_of d) → length d.params.items ≤ PARAMETERS
  unfolding draft_of
  few-parameters sound = omega (arith, sound.parameter_count, length-map d.params.items parameter_of)

  pub sound-parameters : IsSound (draft_of d) → All IsSoundParameter (map parameter_of d.params.items)
  unfolding draft_of
  sound-parameters sound = sound.parameters

  -- how many alerts a sound draft has, and how many lines each of them
  pub few-alerts : IsSound (draft_of d) → length d.alerts.items ≤ 2048
  unfolding draft_of
  few-alerts sound = omega (arith, sound.alert_count, length-map d.alerts.items alert_of)

  pub few-lines : IsSound (draft_of d) → All (λ (a : Alert). length a.lines.items ≤ 16) d.alerts.items
  unfolding draft_of
  few-lines sound k a within =
      let own : length (get_or (map alert_of d.alerts.items) k (alert_of a)).lines ≤ 16 =
      (sound.alerts k (alert_of a) (omega (arith, length-map d.alerts.items alert_of))).line_count in
      let there : get_or (map alert_of d.alerts.items) k (alert_of a) ≡ alert_of (get_or d.alerts.items k a) = get_or-map alert_of d.alerts.items k a (alert_of a) within in
      omega (arith, length-map (get_or d.alerts.items k a).lines.items line_of, rw there at own)

-- a draft in which the conditions have their places
module _ (old new : Draft) (same : draft_of new ≡ draft_of old) where
  pub sealed-from : IsSound (draft_of old) → draft_fault (draft_of old) ≡ None → draft_places new ≡ placed 0 (trees (draft_trees old)) → IsSealed new
  sealed-from sound faultless places = record {
    sound = rw same sound;
    faultless = rw same faultless;
    placed = rw same (places ∙ ap (λ cs. placed 0 (trees cs)) (terms-book old));
  }
