-- One more event of a record: what is written then, and the picture with which that of the next Tick is compared.
use Rattle.std.proofs.Common.{◌≡◌, ℕ, zero, suc, ◌+◌, ◌-◌, ◌<◌, Bool, true, false, List, [], ◌∷◌, ◌++◌, length, refl, sym, ◌∙◌, ap, cond, arith, add-zero, add-one, append_assoc}
use Rattle.std.proofs.lemmas.List.{append-nil, length_push}
use Rattle.std.proofs.lemmas.List.Sums.{sum_by_push}
use Rattle.ecam_spec.specs.declared.kinds.Event.{Event}
use Rattle.ecam_spec.specs.declared.kinds.Event.TheVariants.{Word, Tick, Press, Release, Fail, Up, End}
use Rattle.ecam_spec.specs.Book.{Text, Book}
use Rattle.ecam_spec.specs.Picture.{Picture, dead}
use Rattle.ecam_spec.specs.Output.{block, picture_before, blocks}
use Rattle.ecam_spec.specs.History.{none_up, flags_with, flags_after, Era, era_with, era}
use Rattle.ecam_spec.specs.Replay.{is_tick, tick_count, through, moment_of, picture_at, picture, last_picture, history_blocks}
use Rattle.ecam_spec.specs.Screen.{picture_in}
use Rattle.ecam_spec.proofs.HistoryLaws.{flags_step, era_goes_on}
use Rattle.ecam_spec.proofs.ReplayLaws.{picture_append, through_tick}

tick_count-push : (h : List Event) (e : Event) → tick_count (h ++ e ∷ []) ≡ tick_count h + cond (is_tick e) 1 0
unfolding tick_count
tick_count-push h e = sum_by_push (λ x. cond (is_tick x) 1 0) h e

pub tick_count_kept : (h : List Event) (e : Event) → is_tick e ≡ false → tick_count (h ++ e ∷ []) ≡ tick_count h
tick_count_kept h e quiet = tick_count-push h e ∙ ap (λ b. tick_count h + cond b 1 0) quiet ∙ add-zero (tick_count h)

pub tick_count_tick : (h : List Event) → tick_count (h ++ Tick ∷ []) ≡ suc (tick_count h)
tick_count_tick h = tick_count-push h Tick ∙ add-one (tick_count h)

-- pictures that agree in the first n Ticks make the same blocks
picture_before-below : (p q : ℕ → Picture) (n : ℕ) → ((t : ℕ) → t < n → p t ≡ q t) → picture_before p n ≡ picture_before q n
picture_before-below p q zero same = refl
picture_before-below p q (suc n) same = same n (omega arith)

blocks-below : (p q : ℕ → Picture) (n : ℕ) → ((t : ℕ) → t < n → p t ≡ q t) → blocks p n ≡ blocks q n
unfolding blocks
blocks-below p q zero same = refl
blocks-below p q (suc n) same =
    let written : blocks p n ≡ blocks q n = blocks-below p q n (λ t h. same t (omega arith)) in
    let before : picture_before p n ≡ picture_before q n = picture_before-below p q n (λ t h. same t (omega arith)) in
    let now : p n ≡ q n = same n (omega arith) in
    cc

module _ (b : Book) (h : List Event) where
  -- an event that is no Tick writes nothing
  pub history_blocks_kept : (e : Event) → is_tick e ≡ false → history_blocks b (h ++ e ∷ []) ≡ history_blocks b h
  unfolding history_blocks
  history_blocks_kept e quiet =
      ap (blocks (picture b (h ++ e ∷ []))) (tick_count_kept h e quiet)
      ∙ blocks-below (picture b (h ++ e ∷ [])) (picture b h) (tick_count h) (λ t l. picture_append b h (e ∷ []) t l)

  pub last_picture_kept : (e : Event) → is_tick e ≡ false → last_picture b (h ++ e ∷ []) ≡ last_picture b h
  unfolding last_picture
  last_picture_kept e quiet =
      ap (picture_before (picture b (h ++ e ∷ []))) (tick_count_kept h e quiet)
      ∙ picture_before-below (picture b (h ++ e ∷ [])) (picture b h) (tick_count h) (λ t l. picture_append b h (e ∷ []) t l)

  picture-tick : picture b (h ++ Tick ∷ []) (tick_count h) ≡ picture_at b (h ++ Tick ∷ [])
  unfolding picture
  picture-tick =
      ap (picture_at b) (ap (λ n. through n (h ++ Tick ∷ [])) (add-one (tick_count h)) ∙ through_tick (tick_count h) h refl)

  -- a Tick writes the block of its picture
  pub history_blocks_tick : history_blocks b (h ++ Tick ∷ []) ≡ history_blocks b h ++ block (tick_count h) (last_picture b h) (picture_at b (h ++ Tick ∷ []))
  unfolding history_blocks last_picture blocks
  history_blocks_tick =
      let p = picture b (h ++ Tick ∷ []) in
      let q = picture b h in
      let n = tick_count h in
      let same : (t : ℕ) → t < n → p t ≡ q t = λ t l. picture_append b h (Tick ∷ []) t l in
      let count : tick_count (h ++ Tick ∷ []) ≡ suc n = tick_count_tick h in
      let written : blocks p n ≡ blocks q n = blocks-below p q n same in
      let before : picture_before p n ≡ picture_before q n = picture_before-below p q n same in
      ap (blocks p) count
      ∙ ap (λ text. text ++ block n (picture_before p n) (p n)) written
      ∙ ap (λ old. blocks q n ++ block n old (p n)) before
      ∙ ap (λ new. blocks q n ++ block n (picture_before q n) new) picture-tick

  pub last_picture_tick : last_picture b (h ++ Tick ∷ []) ≡ picture_at b (h ++ Tick ∷ [])
  unfolding last_picture
  last_picture_tick = ap (picture_before (picture b (h ++ Tick ∷ []))) (tick_count_tick h) ∙ picture-tick

  -- the picture at a Tick: that of the moment which it ends, or the fault while no computer is up
  pub picture_at_up : none_up (flags_after h) ≡ false → picture_at b (h ++ Tick ∷ []) ≡ picture_in b (moment_of (era_with (era h) Tick)) (length (era h).moments)
  unfolding picture_at flags_with era_with
  picture_at_up up =
      let of : Bool → Era → Picture = λ f e. cond f dead (picture_in b (moment_of e) (length e.moments - 1)) in
      let place : length ((era h).moments ++ (era h).open_moment ∷ []) - 1 ≡ length (era h).moments =
      omega (arith, length_push (era h).moments (era h).open_moment) in
      ap (λ f. of (none_up f) (era (h ++ Tick ∷ []))) (flags_step h Tick)
      ∙ ap (λ f. of f (era (h ++ Tick ∷ []))) up
      ∙ ap (of false) (era_goes_on h Tick refl)
      ∙ ap (picture_in b (moment_of (era_with (era h) Tick))) place

  pub picture_at_down : none_up (flags_after h) ≡ true → picture_at b (h ++ Tick ∷ []) ≡ dead
  unfolding picture_at flags_with
  picture_at_down down =
      let of : Bool → Picture = λ f. cond f dead (picture_in b (moment_of (era (h ++ Tick ∷ []))) (length (era (h ++ Tick ∷ [])).moments - 1)) in
      ap (λ f. of (none_up f)) (flags_step h Tick) ∙ ap of down

-- what was written stays
begun_step : (b : Book) (h : List Event) (e : Event) → (more : Text) × (history_blocks b (h ++ e ∷ []) ≡ history_blocks b h ++ more)
begun_step b h e =
    let kept : (x : Event) → is_tick x ≡ false → (more : Text) × (history_blocks b (h ++ x ∷ []) ≡ history_blocks b h ++ more) =
    λ x quiet. ([], history_blocks_kept b h x quiet ∙ sym (append-nil (history_blocks b h))) in
    elim e as (λ x. (more : Text) × (history_blocks b (h ++ x ∷ []) ≡ history_blocks b h ++ more)) [
      | Word bus bits ↦ kept (Word bus bits) refl
      | Tick ↦ (block (tick_count h) (last_picture b h) (picture_at b (h ++ Tick ∷ [])), history_blocks_tick b h)
      | Press k ↦ kept (Press k) refl
      | Release k ↦ kept (Release k) refl
      | Fail n ↦ kept (Fail n) refl
      | Up n ↦ kept (Up n) refl
      | End ↦ kept End refl
    ]

pub history_blocks_begun : (b : Book) (h g : List Event) → (more : Text) × (history_blocks b (h ++ g) ≡ history_blocks b h ++ more)
history_blocks_begun b h [] = ([], ap (history_blocks b) (append-nil h) ∙ sym (append-nil (history_blocks b h)))
history_blocks_begun b h (e ∷ g) =
    let first = begun_step b h e in
    let rest = history_blocks_begun b (h ++ e ∷ []) g in (
      first.0 ++ rest.0,
      ap (history_blocks b) (sym (append_assoc h (e ∷ []) g))
          ∙ rest.1
          ∙ ap (λ text. text ++ rest.0) first.1
          ∙ append_assoc (history_blocks b h) first.0 rest.0,
    )
