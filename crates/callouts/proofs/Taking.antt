-- An event that the callouts take: where it is a Tick, and where it is none.
use Rattle.std.proofs.Common.{◌≡◌, ℕ, ◌+◌, true, false, Option, List, [], ◌∷◌, ◌++◌, sym, ◌∙◌, ap, subst, arith, append-nil}
use Rattle.ecam_spec.specs.declared.kinds.Event.{Event}
use Rattle.ecam_spec.specs.declared.kinds.Event.TheVariants.{Tick}
use Rattle.ecam_spec.specs.Book.{Book}
use Rattle.ecam_spec.specs.History.{era, begun}
use Rattle.ecam_spec.specs.Replay.{is_tick, tick_count}
use Rattle.ecam_spec.proofs.ReplaySteps.{tick_count_tick}
use Rattle.view_spec.specs.Ticks.{is_up}
use Rattle.view_spec.specs.Callouts.{call_line, called, tells, text}
use Rattle.view_spec.proofs.TickLaws.{each_tick_kept, each_tick_tick}
use Rattle.fwc_pair.specs.PairState.{PairStands}
use Rattle.fwc_pair.specs.declared.pair.Pair.{Pair}
use Rattle.fwc_pair.proofs.VisitSteps.{is-tick}
use Rattle.callouts.specs.declared.state.Callouts.{Callouts}
use Rattle.callouts.specs.State.{StandInEra, StandAfter}
use Rattle.callouts.proofs.LastMoments.{up-kept}

module _ (b : Book) (h : List Event) (e : Event) (is : is_tick e ≡ true) where
  by-tick : (P : Event → Type 0) → P Tick → P e
  by-tick P at = subst P (sym (is-tick e is)) at

  pub pair-ticks : (p : Pair) → PairStands b (h ++ e ∷ []) p → PairStands b (h ++ Tick ∷ []) p
  pair-ticks p = by-tick (λ x. PairStands b (h ++ x ∷ []) p → PairStands b (h ++ Tick ∷ []) p) (λ stands. stands)

  -- it goes into the era that there is
  pub stand-before : (c : Callouts) → (is_up (h ++ e ∷ []) ≡ true → StandInEra b (begun h e) c) → is_up h ≡ true → StandInEra b (era h) c
  unfolding begun
  stand-before c =
      by-tick (λ x. (is_up (h ++ x ∷ []) ≡ true → StandInEra b (begun h x) c) → is_up h ≡ true → StandInEra b (era h) c)
      (λ stand up. stand (up-kept h ∙ up))

  pub stand-ended : (c : Callouts) (before : ℕ) → c.ticks ≡ before + 1 → before ≡ tick_count h
      → (is_up h ≡ true → StandInEra b (era (h ++ Tick ∷ [])) c) → StandAfter b (h ++ e ∷ []) c
  stand-ended c before one count stand =
      by-tick (λ x. StandAfter b (h ++ x ∷ []) c) record {
        ticks = omega (arith, one, count, tick_count_tick h);
        heights = λ up. stand (sym (up-kept h) ∙ up);
      }

  pub text-tick : (param tick : ℕ) (answer : Option ℕ) → tick ≡ tick_count h → answer ≡ called b param (h ++ Tick ∷ [])
      → text b param (h ++ e ∷ []) ≡ text b param h ++ call_line tick answer
  text-tick param tick answer count calls =
      by-tick (λ x. text b param (h ++ x ∷ []) ≡ text b param h ++ call_line tick answer)
      (each_tick_tick (tells b param) h
      ∙ ap (λ n. text b param h ++ call_line n (called b param (h ++ Tick ∷ []))) (sym count)
      ∙ ap (λ o. text b param h ++ call_line tick o) (sym calls))

pub text-quiet : (b : Book) (param : ℕ) (h : List Event) (e : Event) → is_tick e ≡ false → text b param (h ++ e ∷ []) ≡ text b param h ++ []
text-quiet b param h e quiet = each_tick_kept (tells b param) h e quiet ∙ sym (append-nil (text b param h))
