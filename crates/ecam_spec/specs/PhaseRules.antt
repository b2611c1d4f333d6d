-- The ten flight phases as ten rules, in the words of the phase. That in each moment exactly one of them applies, and
-- that the phase is its number, is a law.
use Rattle.std.specs.Prelude.{ℕ, Bool, not, ◌&&◌, List, [], ◌∷◌}
use Rattle.ecam_spec.specs.Past.{Signal}
use Rattle.ecam_spec.specs.Phase.{Flight, parked, running, airborne, trip, back_lately, climbed, high_last}

module _ (f : Flight) where
  -- neither take-off power nor fast
  abbrev pub idle : Signal
  idle k = not (f.tp k) && not (f.fast k)

  -- the rules of phases 1 to 10
  unfoldable pub rules : ℕ → List Bool
  rules k =
      (parked f k && not (back_lately f k))
      ∷ (running f k && (idle k && not (trip f k)))
      ∷ (running f k && (f.tp k && not (f.fast k)))
      ∷ (running f k && (f.tp k && f.fast k))
      ∷ (airborne f k && not (climbed f k))
      ∷ (airborne f k && (climbed f k && high_last f k))
      ∷ (airborne f k && (climbed f k && not (high_last f k)))
      ∷ (running f k && (not (f.tp k) && f.fast k))
      ∷ (running f k && (idle k && trip f k))
      ∷ (parked f k && back_lately f k)
      ∷ []
