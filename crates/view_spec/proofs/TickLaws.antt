-- What follows for the Ticks of a history: nothing that comes later changes what one of them tells, and a further Tick
-- tells its own behind the others.
use Rattle.std.proofs.Common.{◌≡◌, ℕ, zero, suc, ◌+◌, ◌<◌, ◌≤◌, Bool, true, false, not, List, [], ◌∷◌, ◌++◌, length, refl, sym, ◌∙◌, ap, cond, arith, add-one}
use Rattle.std.specs.Prelude.{if◌then◌else◌}
use Rattle.std.proofs.lemmas.List.{append-nil, length_push}
use Rattle.ecam_spec.specs.declared.kinds.Event.{Event}
use Rattle.ecam_spec.specs.declared.kinds.Event.TheVariants.{Word, Tick, Press, Release, Fail, Up, End}
use Rattle.ecam_spec.specs.Book.{Text}
use Rattle.ecam_spec.specs.Past.{Signal}
use Rattle.ecam_spec.specs.History.{none_up, flags_with, era_with, era}
use Rattle.ecam_spec.specs.Replay.{is_tick, tick_count, through}
use Rattle.ecam_spec.proofs.HistoryLaws.{flags_step, era_goes_on}
use Rattle.ecam_spec.proofs.ReplayLaws.{through_append, through_tick}
use Rattle.ecam_spec.proofs.ReplaySteps.{tick_count_kept, tick_count_tick}
use Rattle.view_spec.specs.Ticks.{is_up, last_moment, live, era_at, moment_at, texts, each_tick, count_below, count_ticks}

-- ---- a Tick that is there already

module _ (h later : List Event) (t : ℕ) (within : t < tick_count h) where
  pub through_stays : through (t + 1) (h ++ later) ≡ through (t + 1) h
  through_stays = through_append (t + 1) h later (omega arith)

  pub live_stays : live (h ++ later) t ≡ live h t
  unfolding live
  live_stays = ap is_up through_stays

  pub era_stays : era_at (h ++ later) t ≡ era_at h t
  unfolding era_at
  era_stays = ap era through_stays

  pub moment_stays : moment_at (h ++ later) t ≡ moment_at h t
  unfolding moment_at
  moment_stays = ap last_moment era_stays

-- ---- the last Tick of a history that ends with one

module _ (h : List Event) where
  pub through_last : through (tick_count h + 1) (h ++ Tick ∷ []) ≡ h ++ Tick ∷ []
  through_last = ap (λ n. through n (h ++ Tick ∷ [])) (add-one (tick_count h)) ∙ through_tick (tick_count h) h refl

  pub live_last : live (h ++ Tick ∷ []) (tick_count h) ≡ is_up h
  unfolding live flags_with
  live_last = ap is_up through_last ∙ ap (λ f. not (none_up f)) (flags_step h Tick)

  pub era_last : era_at (h ++ Tick ∷ []) (tick_count h) ≡ era_with (era h) Tick
  unfolding era_at
  era_last = ap era through_last ∙ era_goes_on h Tick refl

  pub moment_last : moment_at (h ++ Tick ∷ []) (tick_count h) ≡ length (era h).moments
  unfolding moment_at era_with
  moment_last = ap last_moment era_last ∙ omega (arith, length_push (era h).moments (era h).open_moment)

-- ---- what the Ticks tell, in order

-- texts that agree on the first n numbers are the same
pub texts_below : (p q : ℕ → Text) (n : ℕ) → ((t : ℕ) → t < n → p t ≡ q t) → texts p n ≡ texts q n
unfolding texts
texts_below p q zero same = refl
texts_below p q (suc n) same =
    let before : texts p n ≡ texts q n = texts_below p q n (λ t l. same t (omega arith)) in
    let now : p n ≡ q n = same n (omega arith) in
    cc

module _ (f : ℕ → List Event → Text) where
  pub each_tick_nil : each_tick f [] ≡ []
  unfolding each_tick texts tick_count
  each_tick_nil = refl

  module _ (h : List Event) where
    texts-stay : (e : Event) → texts (λ t. f t (through (t + 1) (h ++ e ∷ []))) (tick_count h) ≡ each_tick f h
    unfolding each_tick
    texts-stay e =
        texts_below (λ t. f t (through (t + 1) (h ++ e ∷ []))) (λ t. f t (through (t + 1) h)) (tick_count h)
        (λ t within. ap (f t) (through_stays h (e ∷ []) t within))

    -- an event that is no Tick adds nothing
    pub each_tick_kept : (e : Event) → is_tick e ≡ false → each_tick f (h ++ e ∷ []) ≡ each_tick f h
    unfolding each_tick
    each_tick_kept e quiet =
        ap (texts (λ t. f t (through (t + 1) (h ++ e ∷ [])))) (tick_count_kept h e quiet) ∙ texts-stay e

    -- a Tick adds what it tells
    pub each_tick_tick : each_tick f (h ++ Tick ∷ []) ≡ each_tick f h ++ f (tick_count h) (h ++ Tick ∷ [])
    unfolding each_tick texts
    each_tick_tick =
        let p : ℕ → Text = λ t. f t (through (t + 1) (h ++ Tick ∷ [])) in
        ap (texts p) (tick_count_tick h)
        ∙ ap (λ text. text ++ p (tick_count h)) (texts-stay Tick)
        ∙ ap (λ g. each_tick f h ++ f (tick_count h) g) (through_last h)

    -- so what was told stays
    pub each_tick_begun : (e : Event) → (more : Text) × (each_tick f (h ++ e ∷ []) ≡ each_tick f h ++ more)
    each_tick_begun e =
        let kept : (x : Event) → is_tick x ≡ false → (more : Text) × (each_tick f (h ++ x ∷ []) ≡ each_tick f h ++ more) =
        λ x quiet. ([], each_tick_kept x quiet ∙ sym (append-nil (each_tick f h))) in
        elim e as (λ x. (more : Text) × (each_tick f (h ++ x ∷ []) ≡ each_tick f h ++ more)) [
          | Word bus bits ↦ kept (Word bus bits) refl
          | Tick ↦ (f (tick_count h) (h ++ Tick ∷ []), each_tick_tick)
          | Press k ↦ kept (Press k) refl
          | Release k ↦ kept (Release k) refl
          | Fail n ↦ kept (Fail n) refl
          | Up n ↦ kept (Up n) refl
          | End ↦ kept End refl
        ]

-- ---- of how many Ticks something is so

count-below : (p q : Signal) (n : ℕ) → ((t : ℕ) → t < n → p t ≡ q t) → count_below p n ≡ count_below q n
unfolding count_below
count-below p q zero same = refl
count-below p q (suc n) same =
    let before : count_below p n ≡ count_below q n = count-below p q n (λ t l. same t (omega arith)) in
    let now : p n ≡ q n = same n (omega arith) in
    cc

count-most : (p : Signal) (n : ℕ) → count_below p n ≤ n
unfolding count_below
count-most p zero = omega arith
count-most p (suc n) =
    let before : count_below p n ≤ n = count-most p n in
    elim (p n) as (λ b. count_below p n + cond b 1 0 ≤ suc n) [ true ↦ omega arith | false ↦ omega arith ]

module _ (p : List Event → Bool) where
  pub count_ticks_nil : count_ticks p [] ≡ 0
  unfolding count_ticks count_below tick_count
  count_ticks_nil = refl

  -- not more than there are
  pub count_ticks_most : (h : List Event) → count_ticks p h ≤ tick_count h
  unfolding count_ticks
  count_ticks_most h = count-most (λ t. p (through (t + 1) h)) (tick_count h)

  module _ (h : List Event) where
    count-stays : (e : Event) → count_below (λ t. p (through (t + 1) (h ++ e ∷ []))) (tick_count h) ≡ count_ticks p h
    unfolding count_ticks
    count-stays e =
        count-below (λ t. p (through (t + 1) (h ++ e ∷ []))) (λ t. p (through (t + 1) h)) (tick_count h)
        (λ t within. ap p (through_stays h (e ∷ []) t within))

    -- an event that is no Tick counts for nothing
    pub count_ticks_kept : (e : Event) → is_tick e ≡ false → count_ticks p (h ++ e ∷ []) ≡ count_ticks p h
    unfolding count_ticks
    count_ticks_kept e quiet =
        ap (count_below (λ t. p (through (t + 1) (h ++ e ∷ [])))) (tick_count_kept h e quiet) ∙ count-stays e

    -- a Tick counts where it is so of it
    pub count_ticks_tick : count_ticks p (h ++ Tick ∷ []) ≡ count_ticks p h + (if p (h ++ Tick ∷ []) then 1 else 0)
    unfolding count_ticks count_below
    count_ticks_tick =
        let q : Signal = λ t. p (through (t + 1) (h ++ Tick ∷ [])) in
        ap (count_below q) (tick_count_tick h)
        ∙ ap (λ n. n + (if q (tick_count h) then 1 else 0)) (count-stays Tick)
        ∙ ap (λ g. count_ticks p h + (if p g then 1 else 0)) (through_last h)
