use Rattle.std.proofs.Common.{◌≡◌, ℕ, ◌+◌, true, false, List, [], ◌∷◌, ◌++◌, sym, ◌∙◌, ap, subst, arith}
use Rattle.ecam_spec.specs.declared.kinds.Event.{Event}
use Rattle.ecam_spec.specs.declared.kinds.Event.TheVariants.{Tick}
use Rattle.ecam_spec.specs.Book.{Book}
use Rattle.ecam_spec.specs.History.{era, begun}
use Rattle.ecam_spec.specs.Replay.{is_tick, tick_count}
use Rattle.ecam_spec.proofs.ReplaySteps.{tick_count_kept, tick_count_tick}
use Rattle.view_spec.specs.Ticks.{is_up}
use Rattle.view_spec.specs.Advisories as plain
use Rattle.book_model.specs.Sealed.{the_book}
use Rattle.fwc_pair.specs.declared.pair.Pair.{Pair}
use Rattle.fwc_pair.specs.PairState.{PairStands}
use Rattle.fwc_pair.proofs.VisitSteps.{is-tick}
use Rattle.advisories.specs.declared.watches.Watch.{Watch}
use Rattle.advisories.specs.declared.view.Advisories.{Advisories}
use Rattle.advisories.specs.Panel.{rows_of}
use Rattle.advisories.specs.State.{settings_of, StandInEra, StandAfter}
use Rattle.advisories.proofs.Eras.{up-kept, stand-quiet}
use Rattle.advisories.proofs.RowsAtTicks.{before-quiet, before-tick, text-quiet, text-tick}
use Rattle.advisories.proofs.view.Advisories.take.Goals as goal

-- ---- a Tick

module _ (b : Book) (h : List Event) (e : Event) (is : is_tick e ≡ true) where
  by-tick : (P : Event → Type 0) → P Tick → P e
  by-tick P at = subst P (sym (is-tick e is)) at

  pair-ticks : (p : Pair) → PairStands b (h ++ e ∷ []) p → PairStands b (h ++ Tick ∷ []) p
  pair-ticks p = by-tick (λ x. PairStands b (h ++ x ∷ []) p → PairStands b (h ++ Tick ∷ []) p) (λ stands. stands)

  -- it goes into the era that there is
  stand-before : (ws : List Watch) → (is_up (h ++ e ∷ []) ≡ true → StandInEra b (begun h e) ws) → is_up h ≡ true → StandInEra b (era h) ws
  unfolding begun
  stand-before ws =
      by-tick (λ x. (is_up (h ++ x ∷ []) ≡ true → StandInEra b (begun h x) ws) → is_up h ≡ true → StandInEra b (era h) ws)
      (λ stand up. stand (up-kept h ∙ up))

  stand-ended : (v : Advisories) (before : ℕ) → v.ticks ≡ before + 1 → before ≡ tick_count h
      → (limits : List plain.Advisory) → settings_of v ≡ limits → rows_of v.panel ≡ plain.rows_at b limits (h ++ Tick ∷ [])
      → (is_up h ≡ true → StandInEra b (era (h ++ Tick ∷ [])) v.watches.items) → StandAfter b (h ++ e ∷ []) v
  stand-ended v before one count limits same rows stand =
      by-tick (λ x. StandAfter b (h ++ x ∷ []) v) record {
        ticks = omega (arith, one, count, tick_count_tick h);
        panel = rows ∙ sym (before-tick b limits h) ∙ ap (λ l. plain.rows_before b l (tick_count (h ++ Tick ∷ [])) (h ++ Tick ∷ [])) (sym same);
        watches = λ up. stand (sym (up-kept h) ∙ up);
      }

  text-ended : (limits : List plain.Advisory) (tick : ℕ) (old new : plain.Rows) → tick ≡ tick_count h → old ≡ plain.rows_before b limits (tick_count h) h
      → new ≡ plain.rows_at b limits (h ++ Tick ∷ []) → plain.text b limits (h ++ e ∷ []) ≡ plain.text b limits h ++ plain.block tick old new
  text-ended limits tick old new count was is-new =
      by-tick (λ x. plain.text b limits (h ++ x ∷ []) ≡ plain.text b limits h ++ plain.block tick old new)
      (text-tick b limits h tick old new count was is-new)

-- ---- another event

stand-kept : (b : Book) (h : List Event) (e : Event) → is_tick e ≡ false → (old new : Advisories) → settings_of new ≡ settings_of old → new.panel ≡ old.panel → new.ticks ≡ old.ticks
    → StandAfter b h old → (is_up (h ++ e ∷ []) ≡ true → StandInEra b (begun h e) new.watches.items) → StandAfter b (h ++ e ∷ []) new
stand-kept b h e quiet old new same panel ticks stand watches = record {
  ticks = ticks ∙ stand.ticks ∙ sym (tick_count_kept h e quiet);
  panel =
      ap rows_of panel ∙ stand.panel ∙ ap (λ l. plain.rows_before b l (tick_count h) h) (sym same)
      ∙ sym (before-quiet b (settings_of new) h e quiet);
  watches = stand-quiet h e b new.watches.items quiet watches;
}

pub tick-requires-clause-fit : goal.tick-requires-clause-fit
tick-requires-clause-fit c = subst (plain.Fit (the_book c.args.book.now)) (sym c.begin.ensures.settings) c.requires.3

pub returns-then-is_tick-clause-stands : goal.returns-then-is_tick-clause-stands
returns-then-is_tick-clause-stands c h stand next fit =
    let b = the_book c.args.book.now in
    let e = c.args.event.now in
    let is : is_tick e ≡ true = sym c.is_tick.ensures ∙ c.if-is_tick.true in
    let pair = pair-ticks b h e is c.args.pair.now next.pair in
    let before = stand-before b h e is c.begin.new.self.watches.items (λ up. c.begin.ensures.stands b h e next.fresh_is up stand.watches) in
    stand-ended b h e is c.tick.new.self c.args.self.now.ticks (c.tick.ensures.ticks ∙ ap (λ n. n + 1) c.begin.ensures.ticks) stand.ticks
    (settings_of c.args.self.now) (c.tick.ensures.settings ∙ c.begin.ensures.settings)
    (c.tick.ensures.panel h pair before ∙ ap (λ l. plain.rows_at b l (h ++ Tick ∷ [])) c.begin.ensures.settings)
    (c.tick.ensures.stands h pair before)

pub returns-then-is_tick-clause-text : goal.returns-then-is_tick-clause-text
returns-then-is_tick-clause-text c h stand next fit =
    let b = the_book c.args.book.now in
    let e = c.args.event.now in
    let limits = settings_of c.args.self.now in
    let is : is_tick e ≡ true = sym c.is_tick.ensures ∙ c.if-is_tick.true in
    let pair = pair-ticks b h e is c.args.pair.now next.pair in
    let before = stand-before b h e is c.begin.new.self.watches.items (λ up. c.begin.ensures.stands b h e next.fresh_is up stand.watches) in
    let new = rows_of c.tick.new.self.panel in
    let written : c.tick.result.items ≡ plain.block c.args.self.now.ticks (rows_of c.args.self.now.panel) new =
    c.tick.ensures.block ∙ ap (λ t. plain.block t (rows_of c.begin.new.self.panel) new) c.begin.ensures.ticks
    ∙ ap (λ p. plain.block c.args.self.now.ticks (rows_of p) new) c.begin.ensures.panel in
    text-ended b h e is limits c.args.self.now.ticks (rows_of c.args.self.now.panel) new stand.ticks stand.panel
    (c.tick.ensures.panel h pair before ∙ ap (λ l. plain.rows_at b l (h ++ Tick ∷ [])) c.begin.ensures.settings)
    ∙ ap (λ t. plain.text b limits h ++ t) (sym written)

pub returns-else-is_tick-clause-stands : goal.returns-else-is_tick-clause-stands
returns-else-is_tick-clause-stands c h stand next fit =
    let b = the_book c.args.book.now in
    stand-kept b h c.args.event.now (sym c.is_tick.ensures ∙ c.if-is_tick.false) c.args.self.now c.begin.new.self
    c.begin.ensures.settings c.begin.ensures.panel c.begin.ensures.ticks stand
    (λ up. c.begin.ensures.stands b h c.args.event.now next.fresh_is up stand.watches)

pub returns-else-is_tick-clause-text : goal.returns-else-is_tick-clause-text
returns-else-is_tick-clause-text c h stand next fit =
    let b = the_book c.args.book.now in
    let limits = settings_of c.args.self.now in
    text-quiet b limits h c.args.event.now (sym c.is_tick.ensures ∙ c.if-is_tick.false) ∙ ap (λ t. plain.text b limits h ++ t) (sym c.new.ensures)
