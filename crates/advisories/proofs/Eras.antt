-- The era that an event goes into, and what is kept for it then.
use Rattle.std.proofs.Common.{◌≡◌, ℕ, suc, Bool, true, false, not, ◌&&◌, ℤ, Option, List, [], ◌∷◌, ◌++◌, length, cond, refl, sym, ◌∙◌, ap, subst, arith}
use Rattle.ecam_spec.specs.declared.kinds.Event.{Event}
use Rattle.ecam_spec.specs.declared.kinds.Event.TheVariants.{Tick}
use Rattle.ecam_spec.specs.Book.{Book}
use Rattle.ecam_spec.specs.History.{none_up, flags_with, flags_after, comes_up, Moment, Era, empty_era, era_with, era, begun}
use Rattle.ecam_spec.specs.Replay.{is_tick, moment_of}
use Rattle.ecam_spec.specs.Situation.{value_in}
use Rattle.ecam_spec.proofs.HistoryLaws.{flags_step, era_next, era_goes_on}
use Rattle.ecam_spec.proofs.MomentSteps.{moments_kept, moment_kept, moment_tick, length_tick}
use Rattle.view_spec.specs.Ticks.{is_up, begins_anew}
use Rattle.fwc_lane.specs.LaneStands.{Continues}
use Rattle.fwc_pair.specs.declared.pair.Pair.{Pair}
use Rattle.fwc_pair.specs.PairState.{flags_of, PairStands}
use Rattle.fwc_pair.proofs.Histories.{was-up}
use Rattle.advisories.specs.declared.watches.Watch.{Watch}
use Rattle.advisories.specs.Watches.{AreWatched}
use Rattle.advisories.specs.State.{StandInEra}

module _ (h : List Event) (e : Event) where
  not-true : (n : Bool) → not n ≡ true → n ≡ false
  not-true false is = refl
  not-true true is = absurd (let w : ⊥ = cc in w)

  were-up : (c n : Bool) → comes_up e ≡ c → none_up (flags_after h) ≡ n → (c && n) ≡ false → is_up (h ++ e ∷ []) ≡ true → is_up h ≡ true
  were-up true true comes down goes up = absurd (let w : ⊥ = cc in w)
  were-up c false comes down goes up = ap not down
  were-up false true comes down goes up =
      ap not (was-up e (flags_after h) comes (sym (ap none_up (flags_step h e)) ∙ not-true (none_up (flags_after (h ++ e ∷ []))) up))

  module _ (b : Book) (ws : List Watch) where
    -- one that goes on in an era finds a computer up, and what is kept is kept for that era
    pub stand-on : begins_anew h e ≡ false → is_up (h ++ e ∷ []) ≡ true → (is_up h ≡ true → StandInEra b (era h) ws) → StandInEra b (begun h e) ws
    unfolding begun
    stand-on goes up stand =
        subst (λ x. StandInEra b x ws) (sym (ap (λ x. cond x (empty_era (flags_after h)) (era h)) goes))
        (stand (were-up (comes_up e) (none_up (flags_after h)) refl refl goes up))

    -- one that begins an era finds no moment in it
    pub stand-anew : begins_anew h e ≡ true → ((values : ℕ → ℕ → Option ℤ) → AreWatched values 0 ws) → StandInEra b (begun h e) ws
    unfolding begun
    stand-anew fresh none =
        subst (λ x. StandInEra b x ws) (sym (ap (λ x. cond x (empty_era (flags_after h)) (era h)) fresh)) (λ m goes. none (value_in b m))

    -- one that ends no moment adds none
    quiet-era : (x : Era) → is_tick e ≡ false → StandInEra b x ws → StandInEra b (era_with x e) ws
    quiet-era x quiet stand m goes =
        let same : length (era_with x e).moments ≡ length x.moments = ap length (moments_kept x e quiet) in
        subst (λ n. AreWatched (value_in b m) n ws) (sym same)
        (stand m (λ i lt. goes i (omega (arith, same)) ∙ moment_kept x e i quiet lt))

    pub stand-quiet : is_tick e ≡ false → (is_up (h ++ e ∷ []) ≡ true → StandInEra b (begun h e) ws) → is_up (h ++ e ∷ []) ≡ true → StandInEra b (era (h ++ e ∷ [])) ws
    stand-quiet quiet stand up = subst (λ x. StandInEra b x ws) (sym (era_next h e)) (quiet-era (begun h e) quiet (stand up))

-- ---- a Tick

module _ (h : List Event) where
  abbrev pub ended : Era
  ended = era (h ++ Tick ∷ [])

  -- it leaves the computers as they are
  pub up-kept : is_up (h ++ Tick ∷ []) ≡ is_up h
  unfolding flags_with
  up-kept = ap (λ f. not (none_up f)) (flags_step h Tick)

  pub ended-count : length ended.moments ≡ suc (length (era h).moments)
  ended-count = ap (λ (x : Era). length x.moments) (era_goes_on h Tick refl) ∙ length_tick (era h)

  -- whatever goes on after it goes on before it
  pub continued : (m : ℕ → Moment) → Continues ended m → Continues (era h) m
  continued m goes = λ i lt.
      goes i (omega (arith, ended-count))
      ∙ ap (λ x. moment_of x i) (era_goes_on h Tick refl)
      ∙ moment_tick (era h) i (omega arith)

  -- whether a computer is up, as the pair tells it
  module _ (b : Book) (p : Pair) (pair : PairStands b (h ++ Tick ∷ []) p) where
    pub told-up : (n : Bool) → none_up (flags_of p) ≡ n → is_up (h ++ Tick ∷ []) ≡ not n
    told-up n tells = ap (λ f. not (none_up f)) (sym pair.flags) ∙ ap not tells
