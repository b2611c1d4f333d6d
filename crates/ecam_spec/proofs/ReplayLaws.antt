-- What follows for a replay: nothing that comes later changes the picture of a Tick.
use Rattle.std.proofs.Common.{◌≡◌, ℕ, zero, suc, ◌+◌, ◌<◌, ◌≤◌, true, false, List, [], ◌∷◌, ◌++◌, refl, sym, ◌∙◌, ap, subst, cond, arith}
use Rattle.std.specs.Prelude.{if◌then◌else◌}
use Rattle.std.proofs.lemmas.List.Sums.{sum_by-cons}
use Rattle.ecam_spec.specs.declared.kinds.Event.{Event}
use Rattle.ecam_spec.specs.declared.kinds.Event.TheVariants.{Tick}
use Rattle.ecam_spec.specs.Book.{Book}
use Rattle.ecam_spec.specs.Replay.{is_tick, tick_count, through, picture_at, picture}

tick_count-cons : (e : Event) (h : List Event) → tick_count (e ∷ h) ≡ cond (is_tick e) 1 0 + tick_count h
unfolding tick_count
tick_count-cons e h = sum_by-cons (λ x. cond (is_tick x) 1 0) e h

-- the events up to a Tick are there already
pub through_append : (n : ℕ) (h later : List Event) → n ≤ tick_count h → through n (h ++ later) ≡ through n h
unfolding through tick_count
through_append zero h later enough = refl
through_append (suc n) [] later enough = absurd (omega arith)
through_append (suc n) (e ∷ h) later enough =
    ap (λ t. e ∷ t)
    ((elim (is_tick e) as (λ b. suc n ≤ cond b 1 0 + tick_count h → through (if b then n else suc n) (h ++ later) ≡ through (if b then n else suc n) h) [
      | true ↦ λ l. through_append n h later (omega arith)
      | false ↦ λ l. through_append (suc n) h later (omega arith)
    ])
    (omega (arith, tick_count-cons e h)))

-- the picture of a Tick depends on nothing that comes after it
pub picture_append : (b : Book) (h later : List Event) (t : ℕ) → t < tick_count h → picture b (h ++ later) t ≡ picture b h t
unfolding picture
picture_append b h later t within = ap (picture_at b) (through_append (t + 1) h later (omega arith))

through-nil : (n : ℕ) → through n [] ≡ []
unfolding through
through-nil zero = refl
through-nil (suc n) = refl

-- with all its Ticks and one more, the history is whole
pub through_tick : (n : ℕ) (h : List Event) → tick_count h ≡ n → through (suc n) (h ++ Tick ∷ []) ≡ h ++ Tick ∷ []
unfolding through tick_count
through_tick n [] count = ap (λ t. Tick ∷ t) (through-nil n)
through_tick n (e ∷ h) count =
    ap (λ t. e ∷ t)
    ((elim (is_tick e) as (λ b. cond b 1 0 + tick_count h ≡ n → through (if b then n else suc n) (h ++ Tick ∷ []) ≡ h ++ Tick ∷ []) [
      | true ↦ λ c. let less : suc (tick_count h) ≡ n = omega arith in subst (λ m. through m (h ++ Tick ∷ []) ≡ h ++ Tick ∷ []) less (through_tick (tick_count h) h refl)
      | false ↦ λ c. through_tick n h (omega arith)
    ])
    (sym (tick_count-cons e h) ∙ count))
