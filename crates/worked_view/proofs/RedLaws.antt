-- One more event: how many Ticks have a red row then.
use Rattle.std.proofs.Common.{◌≡◌, ℕ, ◌+◌, ◌<◌, ◌^◌, ◌||◌, Bool, true, false, List, [], ◌∷◌, ◌++◌, refl, sym, ◌∙◌, ap, subst, arith}
use Rattle.std.specs.Prelude.{if◌then◌else◌}
use Rattle.std.specs.List.{list_any}
use Rattle.ecam_spec.specs.declared.kinds.Event.{Event}
use Rattle.ecam_spec.specs.declared.kinds.Event.TheVariants.{Word, Tick, Press, Release, Fail, Up, End}
use Rattle.ecam_spec.specs.Book.{Book}
use Rattle.ecam_spec.specs.Replay.{is_tick, tick_count, picture_at, last_picture}
use Rattle.ecam_spec.proofs.ReplaySteps.{last_picture_tick}
use Rattle.view_spec.proofs.TickLaws.{count_ticks_nil, count_ticks_most, count_ticks_kept, count_ticks_tick}
use Rattle.ecam_kinds.specs.Shown.{rows_of}
use Rattle.ecam_kinds.specs.declared.picture.Row.{Row}
use Rattle.fwc_pair.specs.Views.{IsNext}
use Rattle.fwc_pair.specs.declared.pair.Pair.{Pair}
use Rattle.worked_view.specs.RedTicks.{is_red, has_red, red_ticks}

the_tick : (e : Event) → is_tick e ≡ true → e ≡ Tick
the_tick Tick is = refl
the_tick (Word bus bits) is = absurd (let w : ⊥ = cc in w)
the_tick (Press k) is = absurd (let w : ⊥ = cc in w)
the_tick (Release k) is = absurd (let w : ⊥ = cc in w)
the_tick (Fail n) is = absurd (let w : ⊥ = cc in w)
the_tick (Up n) is = absurd (let w : ⊥ = cc in w)
the_tick End is = absurd (let w : ⊥ = cc in w)

module _ (b : Book) where
  pub red_none : red_ticks b [] ≡ 0
  red_none = count_ticks_nil (λ g. has_red (picture_at b g))

  pub red_few : (h : List Event) → tick_count h < 2 ^ 32 → red_ticks b h < 2 ^ 32
  red_few h few = omega (arith, count_ticks_most (λ g. has_red (picture_at b g)) h)

  pub red_kept : (h : List Event) (e : Event) → is_tick e ≡ false → red_ticks b (h ++ e ∷ []) ≡ red_ticks b h
  red_kept h e quiet = count_ticks_kept (λ g. has_red (picture_at b g)) h e quiet

  pub red_tick : (h : List Event)
      → red_ticks b (h ++ Tick ∷ []) ≡ red_ticks b h + (if has_red (last_picture b (h ++ Tick ∷ [])) then 1 else 0)
  red_tick h =
      count_ticks_tick (λ g. has_red (picture_at b g)) h
      ∙ ap (λ p. red_ticks b h + (if has_red p then 1 else 0)) (sym (last_picture_tick b h))

-- a picture of the program has a red row where one of its own rows is red
pub red_rows : (rows : List Row) → list_any (λ (r : Row). is_red r.colour) rows ≡ has_red (rows_of rows)
red_rows [] = refl
red_rows (r ∷ rows) = ap (λ b. is_red r.colour || b) (red_rows rows)

module _ (b : Book) (h : List Event) (e : Event) (fresh : Bool) (p : Pair) (count : ℕ) (stood : count ≡ red_ticks b h) (next : IsNext b h e fresh p) where
  pub red_room : count < 2 ^ 32
  red_room = subst (λ n. n < 2 ^ 32) (sym stood) (red_few b h next.few)

  pub red_stays : is_tick e ≡ false → count ≡ red_ticks b (h ++ e ∷ [])
  red_stays quiet = stood ∙ sym (red_kept b h e quiet)

  pub red_counted : (red : Bool) → red ≡ list_any (λ (r : Row). is_red r.colour) p.face.rows → is_tick e ≡ true
      → count + (if red then 1 else 0) ≡ red_ticks b (h ++ e ∷ [])
  red_counted red told ticks =
      let shown : red ≡ has_red (last_picture b (h ++ e ∷ [])) = told ∙ red_rows p.face.rows ∙ ap has_red next.pair.face in
      let ticked : red_ticks b (h ++ e ∷ []) ≡ red_ticks b h + (if has_red (last_picture b (h ++ e ∷ [])) then 1 else 0) =
      subst (λ x. red_ticks b (h ++ x ∷ []) ≡ red_ticks b h + (if has_red (last_picture b (h ++ x ∷ [])) then 1 else 0)) (sym (the_tick e ticks)) (red_tick b h) in
      ap (λ n. n + (if red then 1 else 0)) stood
      ∙ ap (λ q. red_ticks b h + (if q then 1 else 0)) shown
      ∙ sym ticked
