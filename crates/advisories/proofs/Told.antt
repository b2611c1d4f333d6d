-- What is told in a moment by what is kept of the advisories.
use Rattle.std.proofs.Common.{◌≡◌, ℕ, suc, ◌<◌, Bool, true, false, not, ◌&&◌, cond, ℤ, List, [], ◌∷◌, map, length, Option, refl, ◌∙◌, ap}
use Rattle.std.specs.Prelude.{filter}
use Rattle.std.proofs.lemmas.List.Elements.{All-cons, All-nil, All-head, All-tail}
use Rattle.ecam_spec.specs.Past.{previous}
use Rattle.ecam_spec.specs.Term.{in_set}
use Rattle.ecam_spec.specs.Book.{Book}
use Rattle.ecam_spec.specs.History.{Moment}
use Rattle.ecam_spec.specs.Situation.{value_in, phase_in}
use Rattle.view_spec.specs.Advisories as plain
use Rattle.view_spec.specs.Advisories.{is_advised, rows_of_told, is_free, rows_in, drift}
use Rattle.advisories.specs.declared.drift.Drift.{Drift}
use Rattle.advisories.specs.declared.watches.Watch.{Watch}
use Rattle.advisories.specs.Watches.{watched, all_watched, AreWithin, rested, stepped, is_told, IsWatched, AreWatched}
use Rattle.advisories.proofs.Drifting.{rest-stands, next-stands}

-- a rest, and a moment, leave the advisories themselves
pub rest-watched : (ws : List Watch) → all_watched (map rested ws) ≡ all_watched ws
rest-watched [] = refl
rest-watched (w ∷ ws) = ap (λ rest. watched w ∷ rest) (rest-watched ws)

pub step-watched : (values : ℕ → Option ℤ) (ws : List Watch) → all_watched (map (stepped values) ws) ≡ all_watched ws
step-watched values [] = refl
step-watched values (w ∷ ws) = ap (λ rest. watched w ∷ rest) (step-watched values ws)

-- after a rest they stand for no moment
pub rest-all : (values : ℕ → ℕ → Option ℤ) (ws : List Watch) → AreWatched values 0 (map rested ws)
rest-all values [] = All-nil (IsWatched values 0)
rest-all values (w ∷ ws) = All-cons (IsWatched values 0) (rested w) (map rested ws) (rest-stands (watched w) (values w.advisory.param)) (rest-all values ws)

-- after a moment with these values for one moment more
module _ (values : ℕ → ℕ → Option ℤ) (k : ℕ) where
  step-one : (w : Watch) → IsWatched values k w → IsWatched values (suc k) (stepped (λ p. values p k) w)
  step-one w stands = next-stands (watched w) (values w.advisory.param) k w.drift stands

  pub step-all : (ws : List Watch) → AreWatched values k ws → AreWatched values (suc k) (map (stepped (λ p. values p k)) ws)
  step-all [] stand = All-nil (IsWatched values (suc k))
  step-all (w ∷ ws) stand =
      All-cons (IsWatched values (suc k)) (stepped (λ p. values p k) w) (map (stepped (λ p. values p k)) ws)
      (step-one w (All-head (IsWatched values k) w ws stand))
      (step-all ws (All-tail (IsWatched values k) w ws stand))

-- where the book's limits hold, their parameters are the book's
pub fit-within : (b : Book) (ws : List Watch) → plain.Fit b (all_watched ws) → AreWithin (length b.parameters) ws
fit-within b [] fit = All-nil (λ (w : Watch). w.advisory.param < length b.parameters)
fit-within b (w ∷ ws) fit =
    All-cons (λ (w : Watch). w.advisory.param < length b.parameters) w ws
    (All-head (plain.IsWithin b) (watched w) (all_watched ws) fit).param
    (fit-within b ws (All-tail (plain.IsWithin b) (watched w) (all_watched ws) fit))

-- what is told in the moment just stepped is what is advised in it
module _ (b : Book) (m : ℕ → Moment) (k phase : ℕ) (is : phase ≡ phase_in b m k) where
  told-one : (w : Watch) → IsWatched (value_in b m) (suc k) w → is_told phase w ≡ is_advised b m (watched w) k
  unfolding is_advised previous
  told-one w stands =
      ap (λ (d : Drift). d.drifts && not (in_set w.advisory.inhibit.0 phase)) stands
      ∙ ap (λ p. drift (watched w) (value_in b m w.advisory.param) k && not (in_set w.advisory.inhibit.0 p)) is

  kept-or-not : (w : Watch) (ws : List Watch) (t u : Bool) → t ≡ u → all_watched (filter (is_told phase) ws) ≡ filter (λ a. is_advised b m a k) (all_watched ws)
      → all_watched (cond t (w ∷ filter (is_told phase) ws) (filter (is_told phase) ws)) ≡ cond u (watched w ∷ filter (λ a. is_advised b m a k) (all_watched ws)) (filter (λ a. is_advised b m a k) (all_watched ws))
  kept-or-not w ws true true e rest = ap (λ more. watched w ∷ more) rest
  kept-or-not w ws true false e rest = absurd (let no : ⊥ = cc in no)
  kept-or-not w ws false true e rest = absurd (let no : ⊥ = cc in no)
  kept-or-not w ws false false e rest = rest

  pub told-all : (ws : List Watch) → AreWatched (value_in b m) (suc k) ws → all_watched (filter (is_told phase) ws) ≡ filter (λ a. is_advised b m a k) (all_watched ws)
  told-all [] stand = refl
  told-all (w ∷ ws) stand =
      kept-or-not w ws (is_told phase w) (is_advised b m (watched w) k) (told-one w (All-head (IsWatched (value_in b m) (suc k)) w ws stand))
      (told-all ws (All-tail (IsWatched (value_in b m) (suc k)) w ws stand))

  pub rows-told : (free : Bool) → free ≡ is_free b m k → (ws : List Watch) → AreWatched (value_in b m) (suc k) ws
      → rows_of_told b free (all_watched (filter (is_told phase) ws)) ≡ rows_in b m (all_watched ws) k
  unfolding rows_in
  rows-told free free-is ws stand =
      ap (rows_of_told b free) (told-all ws stand) ∙ ap (λ f. rows_of_told b f (filter (λ a. is_advised b m a k) (all_watched ws))) free-is
