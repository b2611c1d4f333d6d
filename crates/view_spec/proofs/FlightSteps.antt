-- One more Tick in the course of a record: which flights there are, what came up in each, and what their reports say.
use Rattle.std.proofs.Common.{◌≡◌, ℕ, zero, suc, ◌+◌, ◌*◌, ◌<◌, ◌≤◌, Bool, true, false, ◌&&◌, List, [], ◌∷◌, ◌++◌, All, Some, None, cond, eqb, refl, sym, ◌∙◌, ap, length, length-append, append-nil, arith}
use Rattle.std.specs.Prelude.{filter, flat_map, take}
use Rattle.std.specs.Option.{option_map_or}
use Rattle.std.proofs.Math.Nat.{mul-suc}
use Rattle.std.proofs.lemmas.List.{length-map}
use Rattle.std.proofs.lemmas.Bool.{ne_eqb}
use Rattle.std.proofs.lemmas.List.Elements.{All-filter, All-head, All-tail, All-weaker, filter-append}
use Rattle.std.proofs.lemmas.List.Concat.{flat_map-cons, flat_map-append}
use Rattle.ecam_spec.specs.Places.{below}
use Rattle.ecam_spec.proofs.ListLaws.{eqb-self}
use Rattle.ecam_spec.proofs.OrderLaws.{below-below}
use Rattle.ecam_spec.proofs.PastSteps.{last-zero, last-suc}
use Rattle.view_spec.specs.declared.flight_report.TheConstants.{ENTRIES}
use Rattle.view_spec.specs.declared.flight_report.Entry.{Entry}
use Rattle.view_spec.specs.FlightReport.{Course, is_number, entry_line, flight_line, begins, flights, flight_at, is_of, entries_at, entries, flight_report, last_flight, earlier_reports, last_report}

-- what two functions give alike of each element
pub flat_map-alike : {X A : Type 0} (f g : X → List A) (xs : List X) → All (λ x. f x ≡ g x) xs → flat_map f xs ≡ flat_map g xs
flat_map-alike f g [] same = refl
flat_map-alike f g (x ∷ xs) same =
    let here : f x ≡ g x = All-head (λ y. f y ≡ g y) x xs same in
    let rest : flat_map f xs ≡ flat_map g xs = flat_map-alike f g xs (All-tail (λ y. f y ≡ g y) x xs same) in
    flat_map-cons f x xs ∙ ap (λ t. t ++ flat_map f xs) here ∙ ap (λ t. g x ++ t) rest ∙ sym (flat_map-cons g x xs)

-- what is given of an element, or of none
flat_map-cond : {X A : Type 0} (f : X → List A) (b : Bool) (x : X) → flat_map f (cond b (x ∷ []) []) ≡ cond b (f x) []
flat_map-cond f true x = flat_map-cons f x [] ∙ append-nil (f x)
flat_map-cond f false x = refl

and-false : (p q : Bool) → q ≡ false → (p && q) ≡ false
and-false true q h = h
and-false false q h = refl

module _ (c : Course) where
  pub flights-more : (n : ℕ) → flights c (suc n) ≡ flights c n ++ cond (begins c n) (n ∷ []) []
  unfolding flights below
  flights-more n = filter-append (begins c) (below n) (n ∷ [])

  pub flights-below : (n : ℕ) → All (λ x. x < n) (flights c n)
  unfolding flights
  flights-below n = All-filter (begins c) (λ x. x < n) (below n) (below-below n)

  last-more : (n : ℕ) → last_flight c (suc n) ≡ cond (begins c n) (Some n) (last_flight c n)
  unfolding last_flight flight_at
  last-more zero = last-zero (begins c)
  last-more (suc n) = last-suc (begins c) n

  -- a flight begins: it is the last
  pub last-begun : (n : ℕ) → begins c n ≡ true → last_flight c (suc n) ≡ Some n
  last-begun n here = last-more n ∙ ap (λ b. cond b (Some n) (last_flight c n)) here

  -- none does: the last stays
  pub last-kept : (n : ℕ) → begins c n ≡ false → last_flight c (suc n) ≡ last_flight c n
  last-kept n none = last-more n ∙ ap (λ b. cond b (Some n) (last_flight c n)) none

  flights-begun : (n : ℕ) → begins c n ≡ true → flights c (suc n) ≡ flights c n ++ n ∷ []
  flights-begun n here = flights-more n ∙ ap (λ b. flights c n ++ cond b (n ∷ []) []) here

  flights-kept : (n : ℕ) → begins c n ≡ false → flights c (suc n) ≡ flights c n
  flights-kept n none = flights-more n ∙ ap (λ b. flights c n ++ cond b (n ∷ []) []) none ∙ append-nil (flights c n)

  -- the last flight is the last of all
  pub flights-last : (n s : ℕ) → last_flight c n ≡ Some s → flights c n ≡ flights c s ++ s ∷ []
  unfolding last_flight
  flights-last zero s is = absurd (let w : ⊥ = cc in w)
  flights-last (suc n) s is =
      (elim (begins c n) as (λ b. begins c n ≡ b → flights c (suc n) ≡ flights c s ++ s ∷ []) [
        | true ↦ λ here.
            let last = last-begun n here in
            let same : n ≡ s = cc in
            flights-begun n here ∙ ap (λ x. flights c x ++ x ∷ []) same
        | false ↦ λ none.
            let last = last-kept n none in
            flights-kept n none ∙ flights-last n s (sym last ∙ is)
      ]) refl

  -- and where there is none, there are no flights
  pub flights-none : (n : ℕ) → last_flight c n ≡ None → flights c n ≡ []
  unfolding last_flight flights below
  flights-none zero is = refl
  flights-none (suc n) is =
      (elim (begins c n) as (λ b. begins c n ≡ b → flights c (suc n) ≡ []) [
        | true ↦ λ here. let last = last-begun n here in absurd (let w : ⊥ = cc in w)
        | false ↦ λ none. flights-kept n none ∙ flights-none n (sym (last-kept n none) ∙ is)
      ]) refl

  pub entries-more : (n s : ℕ) → entries c (suc n) s ≡ entries c n s ++ cond (is_of c s n) (entries_at c n) []
  unfolding entries below
  entries-more n s =
      ap (flat_map (entries_at c)) (filter-append (is_of c s) (below n) (n ∷ []))
      ∙ flat_map-append (entries_at c) (filter (is_of c s) (below n)) (cond (is_of c s n) (n ∷ []) [])
      ∙ ap (λ es. entries c n s ++ es) (flat_map-cond (entries_at c) (is_of c s n) n)

  -- what comes up at a Tick of the flight comes behind what came up before
  pub entries-came : (n s : ℕ) → is_of c s n ≡ true → entries c (suc n) s ≡ entries c n s ++ entries_at c n
  entries-came n s here = entries-more n s ∙ ap (λ b. entries c n s ++ cond b (entries_at c n) []) here

  -- at a Tick that isn't of the flight nothing comes
  pub entries-kept : (n s : ℕ) → is_of c s n ≡ false → entries c (suc n) s ≡ entries c n s
  entries-kept n s none =
      entries-more n s ∙ ap (λ b. entries c n s ++ cond b (entries_at c n) []) none ∙ append-nil (entries c n s)

  report-kept : (n s : ℕ) → is_of c s n ≡ false → flight_report c (suc n) s ≡ flight_report c n s
  unfolding flight_report
  report-kept n s none =
      ap (λ es. flight_line (length (flights c s)) s (length es) ++ flat_map (entry_line c.name) (take ENTRIES es)) (entries-kept n s none)

  -- a Tick at which a computer is up is of the last flight
  pub of-last : (n s : ℕ) → c.live n ≡ true → last_flight c (suc n) ≡ Some s → is_of c s n ≡ true
  unfolding is_of last_flight
  of-last n s live last = rw (live, last) (eqb-self s)

  -- and of no other
  of-other : (n s x : ℕ) → last_flight c (suc n) ≡ Some s → x < s → is_of c x n ≡ false
  unfolding is_of last_flight
  of-other n s x last less = rw last (and-false (c.live n) (eqb x s) (ne_eqb x s (λ e. absurd (let w : ⊥ = omega (arith, less, e) in w))))

  -- so the reports of the flights before the last stay
  earlier-kept : (n s : ℕ) → last_flight c (suc n) ≡ Some s → flat_map (flight_report c (suc n)) (flights c s) ≡ flat_map (flight_report c n) (flights c s)
  earlier-kept n s last =
      flat_map-alike (flight_report c (suc n)) (flight_report c n) (flights c s)
      (All-weaker (λ x. x < s) (λ x. flight_report c (suc n) x ≡ flight_report c n x) (λ x less. report-kept n x (of-other n s x last less)) (flights c s) (flights-below s))

  -- a Tick that begins a flight ends the report of the flight before, if there is one
  pub reports-begun : (n : ℕ) → begins c n ≡ true → earlier_reports c (suc n) ≡ earlier_reports c n ++ last_report c n
  unfolding earlier_reports last_report
  reports-begun n here =
      ap (λ o. option_map_or (λ s. flat_map (flight_report c (suc n)) (flights c s)) o []) (last-begun n here)
      ∙ earlier-kept n n (last-begun n here)
      ∙ (elim (last_flight c n) as (λ o. last_flight c n ≡ o
      → flat_map (flight_report c n) (flights c n)
      ≡ option_map_or (λ s. flat_map (flight_report c n) (flights c s)) o [] ++ option_map_or (flight_report c n) o []) [
        | None ↦ λ is. ap (flat_map (flight_report c n)) (flights-none n is)
        | Some s ↦ λ is.
            ap (flat_map (flight_report c n)) (flights-last n s is)
            ∙ flat_map-append (flight_report c n) (flights c s) (s ∷ [])
            ∙ ap (λ t. flat_map (flight_report c n) (flights c s) ++ t) (flat_map-cons (flight_report c n) s [] ∙ append-nil (flight_report c n s))
      ]) refl

  -- any other adds nothing to the reports of the flights before the last
  pub reports-kept : (n : ℕ) → begins c n ≡ false → earlier_reports c (suc n) ≡ earlier_reports c n
  unfolding earlier_reports
  reports-kept n none =
      ap (λ o. option_map_or (λ s. flat_map (flight_report c (suc n)) (flights c s)) o []) (last-kept n none)
      ∙ (elim (last_flight c n) as (λ o. last_flight c n ≡ o
      → option_map_or (λ s. flat_map (flight_report c (suc n)) (flights c s)) o []
      ≡ option_map_or (λ s. flat_map (flight_report c n) (flights c s)) o []) [
        | None ↦ λ is. refl
        | Some s ↦ λ is. earlier-kept n s (last-kept n none ∙ is)
      ]) refl

  -- before any Tick nothing is written
  pub reports-none : earlier_reports c 0 ≡ []
  unfolding earlier_reports last_flight
  reports-none = refl

  -- the last flight began before
  pub last-within : (n s : ℕ) → last_flight c n ≡ Some s → s < n
  unfolding last_flight
  last-within zero s is = absurd (let w : ⊥ = cc in w)
  last-within (suc n) s is =
      (elim (begins c n) as (λ b. begins c n ≡ b → s < suc n) [
        | true ↦ λ here.
            let last = last-begun n here in
            let same : n ≡ s = cc in
            omega (arith, same)
        | false ↦ λ none. let less = last-within n s (sym (last-kept n none) ∙ is) in omega (arith, less)
      ]) refl

  -- a flight has no Tick before the one that begins it
  of-later : (s t : ℕ) → t < s → is_of c s t ≡ false
  unfolding is_of last_flight
  of-later s t before =
      (elim (flight_at c t) as (λ o. last_flight c (suc t) ≡ o → (c.live t && is_number s o) ≡ false) [
        | None ↦ λ is. and-false (c.live t) false refl
        | Some x ↦ λ is.
            let less : x < suc t = last-within (suc t) x is in
            and-false (c.live t) (eqb s x) (ne_eqb s x (λ e. absurd (let w : ⊥ = omega (arith, before, less, e) in w)))
      ]) refl

  pub entries-none : (n s : ℕ) → n ≤ s → entries c n s ≡ []
  unfolding entries below
  entries-none zero s within = refl
  entries-none (suc n) s within = entries-kept n s (of-later s n (omega (arith, within))) ∙ entries-none n s (omega (arith, within))

  -- there are no more flights than Ticks
  pub flights-few : (n : ℕ) → length (flights c n) ≤ n
  unfolding flights below
  flights-few zero = omega arith
  flights-few (suc n) =
      let before : length (flights c n) ≤ n = flights-few n in
      let more = ap length (flights-more n) ∙ length-append (flights c n) (cond (begins c n) (n ∷ []) []) in
      let one : length (cond (begins c n) (n ∷ []) []) ≤ 1 = elim (begins c n) as (λ b. length (cond b (n ∷ []) []) ≤ 1) [ true ↦ omega arith | false ↦ omega arith ] in
      omega (arith, before, more, one)

  -- and not more entries than so many a Tick
  pub entries-few : (n s most : ℕ) → ((t : ℕ) → length (c.onsets t) ≤ most) → length (entries c n s) ≤ most * n
  unfolding entries entries_at below
  entries-few zero s most few = omega arith
  entries-few (suc n) s most few =
      let before : length (entries c n s) ≤ most * n = entries-few n s most few in
      let more = ap length (entries-more n s) ∙ length-append (entries c n s) (cond (is_of c s n) (entries_at c n) []) in
      let here : length (entries_at c n) ≤ most = rw (length-map (c.onsets n) (λ a. let e : Entry = record { tick = n; phase = c.phase n; alert = a } in e)) (few n) in
      let one : length (cond (is_of c s n) (entries_at c n) []) ≤ most = elim (is_of c s n) as (λ b. length (cond b (entries_at c n) []) ≤ most) [ true ↦ here | false ↦ omega arith ] in
      let sum : most * suc n ≡ most * n + most = mul-suc most n in
      omega (arith, before, more, one, sum)
