-- The rows at the last Tick of a history, and the text, with one more event.
use Rattle.std.proofs.Common.{◌≡◌, ℕ, zero, suc, ◌≤◌, true, false, List, [], ◌∷◌, ◌++◌, length, cond, refl, sym, ◌∙◌, ap, arith, append-nil}
use Rattle.ecam_spec.specs.declared.kinds.Event.{Event}
use Rattle.ecam_spec.specs.declared.kinds.Event.TheVariants.{Tick}
use Rattle.ecam_spec.specs.Book.{Book}
use Rattle.ecam_spec.specs.History.{era}
use Rattle.ecam_spec.specs.Replay.{is_tick, tick_count, moment_of}
use Rattle.ecam_spec.proofs.ReplayLaws.{through_append, through_tick}
use Rattle.ecam_spec.proofs.ReplaySteps.{tick_count_kept, tick_count_tick}
use Rattle.view_spec.specs.Ticks.{is_up, last_moment}
use Rattle.view_spec.specs.Advisories.{Advisory, Rows, blank_rows, block, rows_in, rows_at, rows_before, tick_text, text}
use Rattle.view_spec.proofs.TickLaws.{each_tick_kept, each_tick_tick}
use Rattle.advisories.proofs.Eras.{ended, ended-count}

module _ (b : Book) (limits : List Advisory) (h : List Event) where
  -- nothing that comes later changes the rows of a Tick
  pub before-stays : (t : ℕ) (later : List Event) → t ≤ tick_count h → rows_before b limits t (h ++ later) ≡ rows_before b limits t h
  unfolding rows_before
  before-stays zero later within = refl
  before-stays (suc t) later within = ap (rows_at b limits) (through_append (suc t) h later within)

  pub before-quiet : (e : Event) → is_tick e ≡ false → rows_before b limits (tick_count (h ++ e ∷ [])) (h ++ e ∷ []) ≡ rows_before b limits (tick_count h) h
  before-quiet e quiet =
      ap (λ n. rows_before b limits n (h ++ e ∷ [])) (tick_count_kept h e quiet) ∙ before-stays (tick_count h) (e ∷ []) (omega arith)

  -- after a Tick the rows at the last one are its own
  pub before-tick : rows_before b limits (tick_count (h ++ Tick ∷ [])) (h ++ Tick ∷ []) ≡ rows_at b limits (h ++ Tick ∷ [])
  unfolding rows_before
  before-tick =
      ap (λ n. rows_before b limits n (h ++ Tick ∷ [])) (tick_count_tick h) ∙ ap (rows_at b limits) (through_tick (tick_count h) h refl)

  pub text-quiet : (e : Event) → is_tick e ≡ false → text b limits (h ++ e ∷ []) ≡ text b limits h ++ []
  text-quiet e quiet = each_tick_kept (tick_text b limits) h e quiet ∙ sym (append-nil (text b limits h))

  -- a Tick adds the block of what it changes
  pub text-tick : (tick : ℕ) (old new : Rows) → tick ≡ tick_count h → old ≡ rows_before b limits (tick_count h) h → new ≡ rows_at b limits (h ++ Tick ∷ [])
      → text b limits (h ++ Tick ∷ []) ≡ text b limits h ++ block tick old new
  text-tick tick old new count was is =
      each_tick_tick (tick_text b limits) h
      ∙ ap (λ n. text b limits h ++ block n (rows_before b limits (tick_count h) (h ++ Tick ∷ [])) (rows_at b limits (h ++ Tick ∷ []))) (sym count)
      ∙ ap (λ r. text b limits h ++ block tick r (rows_at b limits (h ++ Tick ∷ []))) (before-stays (tick_count h) (Tick ∷ []) (omega arith) ∙ sym was)
      ∙ ap (λ r. text b limits h ++ block tick old r) (sym is)

  -- the rows at it, by the last moment of its era
  pub at-up : is_up (h ++ Tick ∷ []) ≡ true → rows_at b limits (h ++ Tick ∷ []) ≡ rows_in b (moment_of (ended h)) limits (length (era h).moments)
  unfolding rows_at
  at-up up =
      ap (λ u. cond u (rows_in b (moment_of (ended h)) limits (last_moment (ended h))) blank_rows) up
      ∙ ap (rows_in b (moment_of (ended h)) limits) (omega (arith, ended-count h))

  pub at-down : is_up (h ++ Tick ∷ []) ≡ false → rows_at b limits (h ++ Tick ∷ []) ≡ blank_rows
  unfolding rows_at
  at-down down = ap (λ u. cond u (rows_in b (moment_of (ended h)) limits (last_moment (ended h))) blank_rows) down
