-- A Tick: the moment that it ends, the value in that, and what is called.
use Rattle.std.proofs.Common.{◌≡◌, ℕ, suc, ◌<◌, Bool, true, false, not, None, List, [], ◌∷◌, ◌++◌, length, cond, refl, sym, ◌∙◌, ap, arith}
use Rattle.ecam_spec.specs.declared.kinds.Event.{Event}
use Rattle.ecam_spec.specs.declared.kinds.Event.TheVariants.{Tick}
use Rattle.ecam_spec.specs.Book.{Book}
use Rattle.ecam_spec.specs.History.{none_up, flags_with, Moment, Era, era}
use Rattle.ecam_spec.specs.Replay.{moment_of}
use Rattle.ecam_spec.specs.Situation.{value_in, words_in, parameter_at}
use Rattle.ecam_spec.proofs.HistoryLaws.{flags_step, era_goes_on}
use Rattle.ecam_spec.proofs.MomentSteps.{moment_tick, length_tick}
use Rattle.param_table.specs.TableState.{value_before}
use Rattle.view_spec.specs.Ticks.{is_up, last_moment}
use Rattle.view_spec.specs.Callouts.{call, called}
use Rattle.fwc_lane.specs.LaneStands.{Continues}
use Rattle.fwc_pair.specs.declared.pair.Pair.{Pair}
use Rattle.fwc_pair.specs.PairState.{flags_of, PairStands}
use Rattle.fwc_pair.proofs.Pairs.{some-up}
use Rattle.callouts.specs.declared.state.Callouts.{Callouts}
use Rattle.callouts.specs.State.{CalloutsStand, StandInEra}

module _ (h : List Event) where
  abbrev ended : Era
  ended = era (h ++ Tick ∷ [])

  -- it leaves the computers as they are
  pub up-kept : is_up (h ++ Tick ∷ []) ≡ is_up h
  unfolding flags_with
  up-kept = ap (λ f. not (none_up f)) (flags_step h Tick)

  pub ended-count : length ended.moments ≡ suc (length (era h).moments)
  ended-count = ap (λ (x : Era). length x.moments) (era_goes_on h Tick refl) ∙ length_tick (era h)

  -- whatever goes on after it goes on before it
  pub continued : (m : ℕ → Moment) → Continues ended m → Continues (era h) m
  continued m goes = λ i lt.
      goes i (omega (arith, ended-count))
      ∙ ap (λ x. moment_of x i) (era_goes_on h Tick refl)
      ∙ moment_tick (era h) i (omega arith)

  module _ (b : Book) where
    module _ (c : Callouts) (stand : is_up h ≡ true → StandInEra b (era h) c) where
      -- before it the callouts stood for the moments of the era
      pub stood : is_up (h ++ Tick ∷ []) ≡ true → (m : ℕ → Moment) → Continues ended m
          → CalloutsStand (value_in b m c.param) (length (era h).moments) c
      stood up m goes = stand (sym up-kept ∙ up) m (continued m goes)

    module _ (param : ℕ) where
      pub called-up : is_up (h ++ Tick ∷ []) ≡ true → called b param (h ++ Tick ∷ []) ≡ call (value_in b (moment_of ended) param) (length (era h).moments)
      unfolding called
      called-up up =
          ap (λ u. cond u (call (value_in b (moment_of ended) param) (last_moment ended)) None) up
          ∙ ap (call (value_in b (moment_of ended) param)) (omega (arith, ended-count))

      pub called-down : is_up (h ++ Tick ∷ []) ≡ false → called b param (h ++ Tick ∷ []) ≡ None
      unfolding called
      called-down down = ap (λ u. cond u (call (value_in b (moment_of ended) param) (last_moment ended)) None) down

    -- whether a computer is up, as the pair tells it
    module _ (p : Pair) (pair : PairStands b (h ++ Tick ∷ []) p) where
      told-up : (n : Bool) → none_up (flags_of p) ≡ n → is_up (h ++ Tick ∷ []) ≡ not n
      told-up n tells = ap (λ f. not (none_up f)) (sym pair.flags) ∙ ap not tells

      pub is-down : none_up (flags_of p) ≡ true → is_up (h ++ Tick ∷ []) ≡ false
      is-down tells = told-up true tells

      pub is-live : (none_up (flags_of p) ≡ true → true ≡ false) → is_up (h ++ Tick ∷ []) ≡ true
      is-live tells = told-up false (some-up p (λ none. absurd (let w : true ≡ false = tells none in cc)))
