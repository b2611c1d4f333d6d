-- What is kept of the last flight, with one more Tick.
use Rattle.std.proofs.Common.{◌≡◌, ℕ, suc, ◌+◌, ◌*◌, ◌^◌, ◌<◌, ◌≤◌, true, false, List, [], ◌++◌, ◌∷◌, length, length-append, take, Option, Some, None, refl, sym, ◌∙◌, ap, subst, arith}
use Rattle.std.specs.Prelude.{IfSome, flat_map}
use Rattle.std.specs.Option.{option_map_or}
use Rattle.std.proofs.lemmas.List.{length-map}
use Rattle.view_spec.specs.declared.flight_report.TheConstants.{ENTRIES}
use Rattle.view_spec.specs.declared.flight_report.Entry.{Entry}
use Rattle.view_spec.specs.FlightReport.{Course, entries_of, entry_line, flight_line, begins, flights, is_of, entries_at, entries, flight_report, last_flight, last_report}
use Rattle.view_spec.proofs.FlightSteps.{last-begun, last-kept, last-within, flights-last, flights-none, flights-few, entries-came, entries-kept, entries-none, entries-few, of-last}
use Rattle.view_spec.proofs.FlightAgree.{AgreeBelow, flights-same, last-same, entries-same}
use Rattle.flight_report.specs.Kept.{last_text, IsKept, IsLast}
use Rattle.flight_report.specs.declared.flight.Flight.{Flight}

module _ (c : Course) (n : ℕ) where
  -- how many flights have begun
  pub count-some : (f : Flight) → IsKept c n (last_flight c n) f → f.number + 1 ≡ length (flights c n)
  count-some f kept =
      let all = ap length (flights-last c n f.from kept.from) ∙ length-append (flights c f.from) (f.from ∷ []) in
      let before = kept.number in
      omega (arith, all, before)

  pub count-none : last_flight c n ≡ None → 0 ≡ length (flights c n)
  count-none none = sym (ap length (flights-none c n none))

  -- a flight begins, in which nothing has come up
  pub kept-begun : (f : Flight) → begins c n ≡ true → f.from ≡ n → f.number ≡ length (flights c n) → f.onsets ≡ 0 → f.entries.items ≡ []
      → IsKept c n (last_flight c (suc n)) f
  kept-begun f here from number onsets items =
      let none : entries c n f.from ≡ [] = entries-none c n f.from (omega (arith, from)) in
      record {
        from = last-begun c n here ∙ ap Some (sym from);
        number = number ∙ ap (λ s. length (flights c s)) (sym from);
        onsets = onsets ∙ sym (ap length none);
        entries = items ∙ sym (ap (take ENTRIES) none);
      }

  -- none begins, so the last stays
  pub last-stays : (f : Option Flight) → begins c n ≡ false → IsLast c n (last_flight c n) f → IsLast c n (last_flight c (suc n)) f
  last-stays f none last = subst (λ o. IsLast c n o f) (sym (last-kept c n none)) last

  -- what comes up at the Tick is added
  pub kept-added : (f g : Flight) (alerts : List ℕ) → c.live n ≡ true → alerts ≡ c.onsets n → IsKept c n (last_flight c (suc n)) f
      → g.number ≡ f.number → g.from ≡ f.from → g.onsets ≡ f.onsets + length alerts
      → ((es : List Entry) → f.entries.items ≡ take ENTRIES es → g.entries.items ≡ take ENTRIES (es ++ entries_of n (c.phase n) alerts))
      → IsKept c (suc n) (last_flight c (suc n)) g
  unfolding entries_at
  kept-added f g alerts live are kept number from onsets items =
      let came : entries c (suc n) f.from ≡ entries c n f.from ++ entries_of n (c.phase n) (c.onsets n) = entries-came c n f.from (of-last c n f.from live kept.from) in
      let all : entries c (suc n) g.from ≡ entries c n f.from ++ entries_of n (c.phase n) alerts =
      ap (entries c (suc n)) from ∙ came ∙ ap (λ xs. entries c n f.from ++ entries_of n (c.phase n) xs) (sym are) in
      record {
        from = kept.from ∙ ap Some (sym from);
        number = number ∙ kept.number ∙ ap (λ s. length (flights c s)) (sym from);
        onsets =
            onsets
            ∙ ap (λ k. k + length alerts) kept.onsets
            ∙ ap (λ k. length (entries c n f.from) + k) (sym (length-map alerts (λ a. let e : Entry = record { tick = n; phase = c.phase n; alert = a } in e)))
            ∙ sym (length-append (entries c n f.from) (entries_of n (c.phase n) alerts))
            ∙ sym (ap length all);
        entries = items (entries c n f.from) kept.entries ∙ ap (take ENTRIES) (sym all);
      }

  -- at a Tick at which no computer is up nothing comes
  pub last-dead : (f : Option Flight) → c.live n ≡ false → IsLast c n (last_flight c n) f → IsLast c (suc n) (last_flight c (suc n)) f
  unfolding begins is_of
  last-dead None dead none =
      last-kept c n (rw dead refl) ∙ none
  last-dead (Some f) dead kept =
      let same : entries c (suc n) f.from ≡ entries c n f.from = entries-kept c n f.from (rw dead refl) in
      record {
        from = last-kept c n (rw dead refl) ∙ kept.from;
        number = kept.number;
        onsets = kept.onsets ∙ sym (ap length same);
        entries = kept.entries ∙ sym (ap (take ENTRIES) same);
      }

  -- the report of the last flight is what is kept of it
  pub last-text : (f : Option Flight) → IsLast c n (last_flight c n) f → last_text c.name f ≡ last_report c n
  unfolding last_report flight_report
  last-text None none = sym (ap (λ o. option_map_or (flight_report c n) o []) none)
  last-text (Some f) kept =
      ap (λ k. flight_line k f.from f.onsets ++ flat_map (entry_line c.name) f.entries.items) kept.number
      ∙ ap (λ k. flight_line (length (flights c f.from)) f.from k ++ flat_map (entry_line c.name) f.entries.items) kept.onsets
      ∙ ap (λ es. flight_line (length (flights c f.from)) f.from (length (entries c n f.from)) ++ flat_map (entry_line c.name) es) kept.entries
      ∙ sym (ap (λ o. option_map_or (flight_report c n) o []) kept.from)

  -- there is room for one more
  pub number-few : (f : Option Flight) → n < 2 ^ 32 → IsLast c n (last_flight c n) f → IfSome f (λ x. x.number < 2 ^ 32)
  number-few None few last = tt
  number-few (Some f) few kept =
      let within : f.from < n = last-within c n f.from kept.from in
      let number = kept.number in
      let less : length (flights c f.from) ≤ f.from = flights-few c f.from in
      omega (arith, few, within, number, less)

  pub onsets-few : (f : Option Flight) → n < 2 ^ 32 → ((t : ℕ) → length (c.onsets t) ≤ 2048) → IsLast c n (last_flight c n) f → IfSome f (λ x. x.onsets ≤ 2 ^ 43)
  onsets-few None few most last = tt
  onsets-few (Some f) few most kept =
      let onsets = kept.onsets in
      let less : length (entries c n f.from) ≤ 2048 * n = entries-few c n f.from 2048 most in
      omega (arith, few, onsets, less)

-- a course that agrees so far has the same last flight
pub last-agrees : (n : ℕ) (c d : Course) → AgreeBelow n c d → (f : Option Flight) → IsLast d n (last_flight d n) f → IsLast c n (last_flight c n) f
last-agrees n c d same None none = last-same n c d same n (omega arith) ∙ none
last-agrees n c d same (Some f) kept =
    let last : last_flight c n ≡ last_flight d n = last-same n c d same n (omega arith) in
    let within : f.from < n = last-within d n f.from kept.from in
    record {
      from = last ∙ kept.from;
      number = kept.number ∙ sym (ap length (flights-same n c d same f.from (omega (arith, within))));
      onsets = kept.onsets ∙ sym (ap length (entries-same n c d same n f.from (omega arith)));
      entries = kept.entries ∙ sym (ap (take ENTRIES) (entries-same n c d same n f.from (omega arith)));
    }
