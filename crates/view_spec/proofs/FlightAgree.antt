-- Courses that agree up to a Tick have the same flights before it, with the same reports: what comes later has no bearing.
use Rattle.std.proofs.Common.{◌≡◌, ℕ, zero, suc, ◌<◌, ◌≤◌, ◌&&◌, [], ◌∷◌, ◌++◌, Some, None, cond, refl, sym, ◌∙◌, ap, length, arith}
use Rattle.std.specs.Prelude.{flat_map, take}
use Rattle.std.specs.Option.{option_map_or}
use Rattle.std.proofs.lemmas.List.Elements.{All-weaker}
use Rattle.ecam_spec.specs.Places.{below}
use Rattle.ecam_spec.proofs.PastAgree.{last-below}
use Rattle.view_spec.specs.declared.flight_report.TheConstants.{ENTRIES}
use Rattle.view_spec.specs.FlightReport.{Course, is_number, entries_of, entry_line, flight_line, begins, flights, flight_at, is_of, entries_at, entries, flight_report, last_flight, earlier_reports, last_report}
use Rattle.view_spec.proofs.FlightSteps.{flat_map-alike, flights-more, flights-below, entries-more, last-within}

-- they tell the same of each of the first n Ticks
pub record AgreeBelow (n : ℕ) (c d : Course) : Type 0 where
  pub live : (t : ℕ) → t < n → c.live t ≡ d.live t
  pub first : (t : ℕ) → t < n → c.first t ≡ d.first t
  pub enters_one : (t : ℕ) → t < n → c.enters_one t ≡ d.enters_one t
  pub phase : (t : ℕ) → t < n → c.phase t ≡ d.phase t
  pub onsets : (t : ℕ) → t < n → c.onsets t ≡ d.onsets t
  pub name : c.name ≡ d.name

module _ (n : ℕ) (c d : Course) (same : AgreeBelow n c d) where
  begins-same : (t : ℕ) → t < n → begins c t ≡ begins d t
  unfolding begins
  begins-same t within =
      let live = same.live t within in
      let first = same.first t within in
      let enters = same.enters_one t within in
      cc

  pub flights-same : (m : ℕ) → m ≤ n → flights c m ≡ flights d m
  unfolding flights below
  flights-same zero within = refl
  flights-same (suc m) within =
      flights-more c m
      ∙ ap (λ fs. fs ++ cond (begins c m) (m ∷ []) []) (flights-same m (omega arith))
      ∙ ap (λ b. flights d m ++ cond b (m ∷ []) []) (begins-same m (omega arith))
      ∙ sym (flights-more d m)

  flight_at-same : (t : ℕ) → t < n → flight_at c t ≡ flight_at d t
  unfolding flight_at
  flight_at-same t within = last-below (begins c) (begins d) t (λ i h. begins-same i (omega (arith, within, h)))

  pub last-same : (m : ℕ) → m ≤ n → last_flight c m ≡ last_flight d m
  unfolding last_flight
  last-same zero within = refl
  last-same (suc m) within = flight_at-same m (omega arith)

  is_of-same : (s t : ℕ) → t < n → is_of c s t ≡ is_of d s t
  unfolding is_of
  is_of-same s t within =
      ap (λ b. b && is_number s (flight_at c t)) (same.live t within) ∙ ap (λ o. d.live t && is_number s o) (flight_at-same t within)

  entries_at-same : (t : ℕ) → t < n → entries_at c t ≡ entries_at d t
  unfolding entries_at
  entries_at-same t within =
      ap (λ p. entries_of t p (c.onsets t)) (same.phase t within) ∙ ap (entries_of t (d.phase t)) (same.onsets t within)

  pub entries-same : (m s : ℕ) → m ≤ n → entries c m s ≡ entries d m s
  unfolding entries below
  entries-same zero s within = refl
  entries-same (suc m) s within =
      entries-more c m s
      ∙ ap (λ es. es ++ cond (is_of c s m) (entries_at c m) []) (entries-same m s (omega arith))
      ∙ ap (λ b. entries d m s ++ cond b (entries_at c m) []) (is_of-same s m (omega arith))
      ∙ ap (λ es. entries d m s ++ cond (is_of d s m) es []) (entries_at-same m (omega arith))
      ∙ sym (entries-more d m s)

  pub report-same : (s : ℕ) → s ≤ n → flight_report c n s ≡ flight_report d n s
  unfolding flight_report
  report-same s within =
      let began : flights c s ≡ flights d s = flights-same s within in
      let came : entries c n s ≡ entries d n s = entries-same n s (omega arith) in
      ap (λ fs. flight_line (length fs) s (length (entries c n s)) ++ flat_map (entry_line c.name) (take ENTRIES (entries c n s))) began
      ∙ ap (λ es. flight_line (length (flights d s)) s (length es) ++ flat_map (entry_line c.name) (take ENTRIES es)) came
      ∙ ap (λ name. flight_line (length (flights d s)) s (length (entries d n s)) ++ flat_map (entry_line name) (take ENTRIES (entries d n s))) same.name

  pub earlier-same : earlier_reports c n ≡ earlier_reports d n
  unfolding earlier_reports
  earlier-same =
      (elim (last_flight c n) as (λ o. last_flight c n ≡ o
      → option_map_or (λ s. flat_map (flight_report c n) (flights c s)) o []
      ≡ option_map_or (λ s. flat_map (flight_report d n) (flights d s)) o []) [
        | None ↦ λ is. refl
        | Some s ↦ λ is.
            let less : s < n = last-within c n s is in
            flat_map-alike (flight_report c n) (flight_report d n) (flights c s)
            (All-weaker (λ x. x < s) (λ x. flight_report c n x ≡ flight_report d n x) (λ x before. report-same x (omega (arith, less, before))) (flights c s) (flights-below c s))
            ∙ ap (flat_map (flight_report d n)) (flights-same s (omega (arith, less)))
      ]) refl
      ∙ ap (λ o. option_map_or (λ s. flat_map (flight_report d n) (flights d s)) o []) (last-same n (omega arith))

  pub last_report-same : last_report c n ≡ last_report d n
  unfolding last_report
  last_report-same =
      (elim (last_flight c n) as (λ o. last_flight c n ≡ o → option_map_or (flight_report c n) o [] ≡ option_map_or (flight_report d n) o []) [
        | None ↦ λ is. refl
        | Some s ↦ λ is. report-same s (let less : s < n = last-within c n s is in omega (arith, less))
      ]) refl
      ∙ ap (λ o. option_map_or (flight_report d n) o []) (last-same n (omega arith))
