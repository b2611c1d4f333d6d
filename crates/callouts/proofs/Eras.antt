-- The era that an event goes into, and what the callouts stand for then.
use Rattle.std.proofs.Common.{◌≡◌, ℕ, Bool, true, false, not, ◌&&◌, List, [], ◌∷◌, ◌++◌, length, cond, refl, sym, ◌∙◌, ap, subst, arith, ℤ, Option}
use Rattle.ecam_spec.specs.declared.kinds.Event.{Event}
use Rattle.ecam_spec.specs.Book.{Book}
use Rattle.ecam_spec.specs.History.{none_up, flags_after, comes_up, Era, empty_era, era_with, era, begun}
use Rattle.ecam_spec.specs.Replay.{is_tick, tick_count}
use Rattle.ecam_spec.specs.Situation.{value_in}
use Rattle.ecam_spec.proofs.HistoryLaws.{flags_step, era_nil, era_next}
use Rattle.ecam_spec.proofs.MomentSteps.{moments_kept, moment_kept}
use Rattle.ecam_spec.proofs.ReplaySteps.{tick_count_kept}
use Rattle.view_spec.specs.Ticks.{is_up, begins_anew}
use Rattle.fwc_pair.proofs.Histories.{was-up}
use Rattle.callouts.specs.declared.state.Callouts.{Callouts}
use Rattle.callouts.specs.State.{CalloutsStand, StandInEra, StandAfter}

-- before any event
pub stand-new : (b : Book) (c : Callouts) → c.ticks ≡ 0 → ((values : ℕ → Option ℤ) → CalloutsStand values 0 c) → StandAfter b [] c
unfolding tick_count
stand-new b c count none = record {
  ticks = count;
  heights = λ up. subst (λ x. StandInEra b x c) (sym era_nil) (λ m goes. none (value_in b m c.param));
}

module _ (h : List Event) (e : Event) where
  not-true : (n : Bool) → not n ≡ true → n ≡ false
  not-true false is = refl
  not-true true is = absurd (let w : ⊥ = cc in w)

  were-up : (c n : Bool) → comes_up e ≡ c → none_up (flags_after h) ≡ n → (c && n) ≡ false → is_up (h ++ e ∷ []) ≡ true → is_up h ≡ true
  were-up true true comes down goes up = absurd (let w : ⊥ = cc in w)
  were-up c false comes down goes up = ap not down
  were-up false true comes down goes up =
      ap not (was-up e (flags_after h) comes (sym (ap none_up (flags_step h e)) ∙ not-true (none_up (flags_after (h ++ e ∷ []))) up))

  module _ (b : Book) (c : Callouts) where
    -- one that goes on in an era finds a computer up, and the callouts stand for that era
    pub stand-on : begins_anew h e ≡ false → is_up (h ++ e ∷ []) ≡ true → StandAfter b h c → StandInEra b (begun h e) c
    unfolding begun
    stand-on goes up stand =
        subst (λ x. StandInEra b x c) (sym (ap (λ x. cond x (empty_era (flags_after h)) (era h)) goes))
        (stand.heights (were-up (comes_up e) (none_up (flags_after h)) refl refl goes up))

    -- one that begins an era finds no moment in it
    pub stand-anew : begins_anew h e ≡ true → ((values : ℕ → Option ℤ) → CalloutsStand values 0 c) → StandInEra b (begun h e) c
    unfolding begun
    stand-anew fresh none =
        subst (λ x. StandInEra b x c) (sym (ap (λ x. cond x (empty_era (flags_after h)) (era h)) fresh)) (λ m goes. none (value_in b m c.param))

    -- one that ends no moment adds none
    quiet-era : (x : Era) → is_tick e ≡ false → StandInEra b x c → StandInEra b (era_with x e) c
    quiet-era x quiet stand m goes =
        let same : length (era_with x e).moments ≡ length x.moments = ap length (moments_kept x e quiet) in
        subst (λ n. CalloutsStand (value_in b m c.param) n c) (sym same)
        (stand m (λ i lt. goes i (omega (arith, same)) ∙ moment_kept x e i quiet lt))

    pub stand-quiet : is_tick e ≡ false → c.ticks ≡ tick_count h → (is_up (h ++ e ∷ []) ≡ true → StandInEra b (begun h e) c)
        → StandAfter b (h ++ e ∷ []) c
    stand-quiet quiet count stand = record {
      ticks = count ∙ sym (tick_count_kept h e quiet);
      heights = λ up. subst (λ x. StandInEra b x c) (sym (era_next h e)) (quiet-era (begun h e) quiet (stand up));
    }
