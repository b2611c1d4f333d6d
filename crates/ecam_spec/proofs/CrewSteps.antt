-- What the crew's actions make of the next moment: the target, who is cancelled, what is shown by flags, and NORMAL by
-- the last press of RCL.
use Rattle.std.proofs.Common.{◌≡◌, ℕ, zero, suc, ◌+◌, ◌<◌, Bool, true, false, not, ◌&&◌, ◌||◌, List, [], ◌∷◌, length, All, Some, cond, ltb, refl, sym, ◌∙◌, ap}
use Rattle.std.specs.Prelude.{filter, find}
use Rattle.std.specs.Option.{option_map_or}
use Rattle.std.proofs.lemmas.List.Elements.{All-head, All-tail}
use Rattle.std.proofs.Math.Bool.{and-false}
use Rattle.ecam_spec.specs.Past.{historically_from, previous, since, last, last_since}
use Rattle.ecam_spec.specs.Places.{first_in}
use Rattle.ecam_spec.specs.Book.{Book}
use Rattle.ecam_spec.specs.History.{Moment}
use Rattle.ecam_spec.specs.Crew.{Cockpit, Shown, target, is_alert, long_recall, cancelled, is_shown, shown, shows_nothing, normal}
use Rattle.ecam_spec.specs.Screen.{order, cockpit, shown_in, is_shown_in}
use Rattle.ecam_spec.proofs.PastSteps.{since-now}
use Rattle.ecam_spec.proofs.PastMoments.{once_within-last}
use Rattle.ecam_spec.proofs.PastRuns.{last_since-off}
use Rattle.ecam_spec.proofs.CrewLaws.{shown_filter}
use Rattle.ecam_spec.proofs.OrderLaws.{order-below}

first-kept : (b : Bool) (x : ℕ) (xs : List ℕ) → first_in (cond b (x ∷ xs) xs) ≡ cond b (Some x) (first_in xs)
first-kept true x xs = refl
first-kept false x xs = refl

first-filter : (p : ℕ → Bool) (xs : List ℕ) → first_in (filter p xs) ≡ find p xs
first-filter p [] = refl
first-filter p (x ∷ xs) = first-kept (p x) x (filter p xs) ∙ ap (λ o. cond (p x) (Some x) o) (first-filter p xs)

-- two tests that agree on the numbers below n
filter-below : (p q : ℕ → Bool) (n : ℕ) (xs : List ℕ) → All (λ a. a < n) xs → ((a : ℕ) → a < n → p a ≡ q a) → filter p xs ≡ filter q xs
filter-below p q n [] within same = refl
filter-below p q n (x ∷ xs) within same =
    ap (λ b. cond b (x ∷ filter p xs) (filter p xs)) (same x (All-head (λ a. a < n) x xs within))
    ∙ ap (λ ys. cond (q x) (x ∷ ys) ys) (filter-below p q n xs (All-tail (λ a. a < n) x xs within) same)

again : (i p q s : Bool) → (i && (p || (q && s))) ≡ (i && (p || (q && (i && s))))
again true p q s = refl
again false p q s = refl

module _ (c : Cockpit) where
  before_cancelled : (s : Shown) (a k : ℕ) → (c.is_caution a && previous (since (λ j. c.emer j && is_alert a (target s j)) (λ j. not (long_recall c j || c.enters_one j))) k) ≡ previous (cancelled c s a) k
  unfolding previous cancelled
  before_cancelled s a zero = and-false (c.is_caution a)
  before_cancelled s a (suc k) = refl

  pub cancelled-now : (s : Shown) (a k : ℕ) → cancelled c s a k ≡ (c.is_caution a && ((c.emer k && is_alert a (target s k)) || (not (long_recall c k || c.enters_one k) && previous (cancelled c s a) k)))
  unfolding cancelled
  cancelled-now s a k =
      let stays = not (long_recall c k || c.enters_one k) in
      let hit = c.emer k && is_alert a (target s k) in
      ap (λ b. c.is_caution a && b) (since-now (λ j. c.emer j && is_alert a (target s j)) (λ j. not (long_recall c j || c.enters_one j)) k)
      ∙ again (c.is_caution a) hit stays (previous (since (λ j. c.emer j && is_alert a (target s j)) (λ j. not (long_recall c j || c.enters_one j))) k)
      ∙ ap (λ b. c.is_caution a && (hit || (stays && b))) (before_cancelled s a k)

  -- the target of the next moment
  pub target-next : (k : ℕ) → target (shown c) (suc k) ≡ find (λ a. is_shown c (shown c) a k) c.order
  unfolding target
  target-next k = ap first_in (shown_filter c k) ∙ first-filter (λ a. is_shown c (shown c) a k) c.order

  -- a test of the alerts that tells which are shown tells what is shown
  pub shown-told : (test : ℕ → Bool) (n k : ℕ) → All (λ a. a < n) c.order → ((a : ℕ) → a < n → test a ≡ is_shown c (shown c) a k) → shown c k ≡ filter test c.order
  shown-told test n k within tells =
      shown_filter c k ∙ filter-below (λ a. is_shown c (shown c) a k) test n c.order within (λ a h. sym (tells a h))

  -- NORMAL: the last press of RCL since which nothing was shown is at most 29 moments old
  pub normal-last : (k : ℕ) → normal c k ≡ option_map_or (λ j. ltb k (j + 29 + 1)) (last_since c.rcl (shows_nothing c) k) false
  unfolding normal last_since
  normal-last k =
      ap (λ b. shows_nothing c k && b) (once_within-last 29 (λ j. c.rcl j && historically_from j (shows_nothing c) k) k)
      ∙ quiet (shows_nothing c k) refl where
        quiet : (b : Bool) → shows_nothing c k ≡ b
            → (b && option_map_or (λ j. ltb k (j + 29 + 1)) (last (λ j. c.rcl j && historically_from j (shows_nothing c) k) k) false)
            ≡ option_map_or (λ j. ltb k (j + 29 + 1)) (last (λ j. c.rcl j && historically_from j (shows_nothing c) k) k) false
        quiet true e = refl
        quiet false e = sym (ap (λ o. option_map_or (λ j. ltb k (j + 29 + 1)) o false) (last_since-off c.rcl (shows_nothing c) k e))

module _ (b : Book) (moments : ℕ → Moment) where
  -- flags of the alerts that tell which are shown tell what is shown
  pub shown-flags : (test : ℕ → Bool) (k : ℕ) → ((a : ℕ) → a < length b.alerts → test a ≡ is_shown_in b moments a k) → shown_in b moments k ≡ filter test (order b)
  unfolding shown_in is_shown_in cockpit
  shown-flags test k tells = shown-told (cockpit b moments) test (length b.alerts) k (order-below b) tells
