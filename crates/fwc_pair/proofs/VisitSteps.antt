-- The nodes that the computers visit at one event.
use Rattle.std.proofs.Common.{◌≡◌, ℕ, true, false, ◌==◌, List, [], ◌∷◌, ◌++◌, length, cond, refl, sym, ap, subst, ◌∙◌}
use Rattle.ecam_spec.specs.declared.kinds.Event.{Event}
use Rattle.ecam_spec.specs.declared.kinds.Event.TheVariants.{Word, Tick, Press, Release, Fail, Up, End}
use Rattle.ecam_spec.specs.Book.{Book}
use Rattle.ecam_spec.specs.History.{Era, era, era_with, begun}
use Rattle.ecam_spec.specs.Replay.{is_tick, moment_of}
use Rattle.ecam_spec.proofs.HistoryLaws.{era_next}
use Rattle.fwc_lane.specs.Visits.{visits}
use Rattle.fwc_pair.specs.declared.pair.Pair.{Pair}
use Rattle.fwc_pair.specs.PairVisits.{tick_visits, NoVisits}
use Rattle.fwc_pair.proofs.Pairs.{goes-on}

no-path : false ≡ true → ⊥
no-path e = cc

pub is-tick : (x : Event) → is_tick x ≡ true → x ≡ Tick
is-tick (Word bus bits) e = absurd (no-path e)
is-tick Tick e = refl
is-tick (Press key) e = absurd (no-path e)
is-tick (Release key) e = absurd (no-path e)
is-tick (Fail n) e = absurd (no-path e)
is-tick (Up n) e = absurd (no-path e)
is-tick End e = absurd (no-path e)

-- a Tick goes on in the era
pub visits-are : (b : Book) (h : List Event) → visits b (moment_of (era_with (begun h Tick) Tick)) (length (begun h Tick).moments) ≡ tick_visits b h
visits-are b h =
    ap (λ (e : Era). visits b (moment_of e) (length (begun h Tick).moments)) (sym (era_next h Tick))
    ∙ ap (λ (e : Era). visits b (moment_of (era (h ++ Tick ∷ []))) (length e.moments)) (goes-on h Tick refl)

pub fail-visits : (n : ℕ) (old new : Pair) → new ≡ cond (n == 1) (record old { one_up = false }) (record old { two_up = false }) → NoVisits old new
fail-visits n old new is =
    let none : NoVisits old (cond (n == 1) (record old { one_up = false }) (record old { two_up = false })) =
    elim (n == 1) as (λ c. NoVisits old (cond c (record old { one_up = false }) (record old { two_up = false }))) [
      | true ↦ (refl, refl)
      | false ↦ (refl, refl)
    ] in
    subst (NoVisits old) (sym is) none
