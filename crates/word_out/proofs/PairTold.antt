-- What the pair tells at a Tick are the words of that Tick.
use Rattle.std.proofs.Common.{◌≡◌, ℕ, zero, suc, ◌-◌, ◌<◌, Bool, true, false, not, ◌||◌, List, [], ◌∷◌, ◌++◌, length, get_or, map, cond, refl, sym, ap, ◌∙◌, arith, subst, inl, inr}
use Rattle.std.proofs.lemmas.Bool.{cases_lt}
use Rattle.std.proofs.lemmas.List.{ext_get_or, length-map, get_or-map, get_or-append_right}
use Rattle.std.proofs.Math.ListN.{get_or-append}
use Rattle.ecam_spec.specs.declared.kinds.Event.{Event}
use Rattle.ecam_spec.specs.declared.kinds.Event.TheVariants.{Tick}
use Rattle.ecam_spec.specs.Book.{Book}
use Rattle.ecam_spec.specs.Past.{previous}
use Rattle.ecam_spec.specs.Places.{below}
use Rattle.ecam_spec.specs.History.{none_up, flags_after, Moment, Era, era}
use Rattle.ecam_spec.specs.Replay.{moment_of}
use Rattle.ecam_spec.specs.Screen.{alert_numbers, is_shown_in, shown_in, attention}
use Rattle.ecam_spec.specs.Lamps as lamps
use Rattle.ecam_spec.proofs.HistoryLaws.{era_goes_on}
use Rattle.ecam_spec.proofs.MomentSteps.{length_tick}
use Rattle.ecam_spec.proofs.OrderLaws.{length-below}
use Rattle.arinc_words.specs.Composed.{composed}
use Rattle.attention.proofs.Heard.{lights-told}
use Rattle.fwc_lane.specs.declared.lane.Lane.{Lane}
use Rattle.fwc_lane.specs.LaneStands.{WholeStands, LaneStands}
use Rattle.fwc_pair.specs.declared.pair.Pair.{Pair}
use Rattle.fwc_pair.specs.PairState.{flags_of, UpStand, PairStands}
use Rattle.view_spec.specs.Ticks.{last_moment}
use Rattle.view_spec.specs.OutputWords.{label_of, sdi_of, status_data, group_data, shown_flags, data_in, word_at}
use Rattle.word_out.specs.Told.{lane_data, pair_word}

-- ---- places of numbers in a row

pub get_or-below : (n i d : ℕ) → i < n → get_or (below n) i d ≡ i
unfolding below
get_or-below zero i d within = absurd (omega arith)
get_or-below (suc n) i d within =
    elim (cases_lt i n) [
      | inl before ↦ get_or-append (below n) (n ∷ []) d i (let size = length-below n in omega arith) ∙ get_or-below n i d before
      | inr last ↦
          let here : i ≡ n = omega arith in
          get_or-append_right (below n) (n ∷ []) n i d (length-below n) (omega arith) ∙ rw here (let none : n - n ≡ 0 = omega arith in rw none refl)
    ]

module _ (b : Book) (m : ℕ → Moment) (j : ℕ) (l : Lane) (stands : WholeStands b m (suc j) l) where
  -- ---- the alerts

  shown_told : (a : ℕ) → a < length b.alerts → get_or l.marks.sets.shown a false ≡ is_shown_in b m a j
  unfolding previous is_shown_in shown_in
  shown_told a within = (stands.marks.marks a within).shown

  flags_told : length l.marks.sets.shown ≡ length b.alerts → l.marks.sets.shown ≡ shown_flags b m j
  unfolding shown_flags
  flags_told many =
      let f : ℕ → Bool = λ a. is_shown_in b m a j in
      ext_get_or false l.marks.sets.shown (map f (alert_numbers b))
      (many ∙ sym (length-map (alert_numbers b) f ∙ length-below (length b.alerts)))
      (λ a within.
      let known : a < length b.alerts = omega arith in
      shown_told a known
      ∙ sym (get_or-map f (alert_numbers b) a 0 false (let size = length-below (length b.alerts) in omega arith) ∙ ap f (get_or-below (length b.alerts) a 0 known)))

  -- ---- the data

  status_told : lane_data l 0 ≡ data_in b m j 0
  unfolding data_in
  status_told =
      let a = attention b m in
      let told = lights-told a b (suc j) l.attention stands.attention in
      ap (λ x. status_data x.warn x.caut x.sound l.phase.number) told
      ∙ ap (λ p. status_data (lamps.warns a j) (lamps.cautions a j) (lamps.sound a j) p) (stands.phase j refl)

  data_told : length l.marks.sets.shown ≡ length b.alerts → (n : ℕ) → lane_data l n ≡ data_in b m j n
  unfolding data_in
  data_told many zero = status_told
  data_told many (suc g) = ap (λ flags. group_data flags g) (flags_told many)

-- ---- the first computer that is up

second_up : (two : Bool) → not two ≡ false → two ≡ true
second_up true e = refl
second_up false e = sym e

module _ (b : Book) (h : List Event) (p : Pair) (st : PairStands b (h ++ Tick ∷ []) p) where
  abbrev now : List Event
  now = h ++ Tick ∷ []

  first_up : none_up (flags_of p) ≡ false → LaneStands b (era now) (cond p.one_up p.one p.two)
  unfolding UpStand
  first_up up =
      (elim p.one_up as (λ x. p.one_up ≡ x → not (x || p.two_up) ≡ false → LaneStands b (era now) (cond x p.one p.two)) [
        | true ↦ λ is some. st.up.one is
        | false ↦ λ is some. st.up.two (second_up p.two_up some)
      ])
      refl up

  number : length (era now).moments ≡ suc (length (era h).moments)
  number = ap (λ (e : Era). length e.moments) (era_goes_on h Tick refl) ∙ length_tick (era h)

  live_told : (n : ℕ) → none_up (flags_of p) ≡ false → lane_data (cond p.one_up p.one p.two) n ≡ data_in b (moment_of (era now)) (last_moment (era now)) n
  live_told n up =
      let l : Lane = cond p.one_up p.one p.two in
      let j : ℕ = length (era h).moments in
      let lane = first_up up in
      let whole = subst (λ k. WholeStands b (moment_of (era now)) k l) number (lane.whole (moment_of (era now)) (λ i w. refl)) in
      data_told b (moment_of (era now)) j l whole lane.fits.marks.many.shown n
      ∙ ap (λ k. data_in b (moment_of (era now)) k n) (let e : j ≡ length (era now).moments - 1 = omega (arith, number) in e)

  -- each word of the pair is that of the Tick
  pub pair_told : (n : ℕ) → pair_word p n ≡ word_at b now n
  unfolding word_at
  pair_told n = by (none_up (flags_of p)) refl where
    by : (none : Bool) → none_up (flags_of p) ≡ none → pair_word p n ≡ cond (not (none_up (flags_after now))) (composed (label_of n) (sdi_of n) (data_in b (moment_of (era now)) (last_moment (era now)) n) 0) (composed (label_of n) (sdi_of n) 0 1)
    by true is =
        ap (λ x. cond x (composed (label_of n) (sdi_of n) 0 1) (composed (label_of n) (sdi_of n) (lane_data (cond p.one_up p.one p.two) n) 0)) is
        ∙ sym (ap (λ x. cond (not x) (composed (label_of n) (sdi_of n) (data_in b (moment_of (era now)) (last_moment (era now)) n) 0) (composed (label_of n) (sdi_of n) 0 1)) (ap none_up (sym st.flags) ∙ is))
    by false is =
        ap (λ x. cond x (composed (label_of n) (sdi_of n) 0 1) (composed (label_of n) (sdi_of n) (lane_data (cond p.one_up p.one p.two) n) 0)) is
        ∙ ap (λ d. composed (label_of n) (sdi_of n) d 0) (live_told n is)
        ∙ sym (ap (λ x. cond (not x) (composed (label_of n) (sdi_of n) (data_in b (moment_of (era now)) (last_moment (era now)) n) 0) (composed (label_of n) (sdi_of n) 0 1)) (ap none_up (sym st.flags) ∙ is))
