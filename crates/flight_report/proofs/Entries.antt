-- The first entries of a list that grows, and the alerts that come up so far.
use Rattle.std.proofs.Common.{◌≡◌, ℕ, ◌+◌, ◌<◌, ◌≤◌, Bool, true, false, not, ◌&&◌, List, [], ◌∷◌, ◌++◌, Result, Ok, Err, cond, length, get_or, take, map, refl, sym, ◌∙◌, ap, arith, length-take, length-append, append_assoc}
use Rattle.std.specs.Prelude.{IsOk, OnOk, OnErr, filter}
use Rattle.std.proofs.lemmas.List.{take_all, take-append-le, take_more, map-append}
use Rattle.std.proofs.lemmas.List.Elements.{filter-append}
use Rattle.arrayvec.specs.ArrayVec.{ArrayVec}
use Rattle.view_spec.specs.declared.flight_report.TheConstants.{ENTRIES}
use Rattle.view_spec.specs.declared.flight_report.Entry.{Entry}
use Rattle.view_spec.specs.FlightReport.{entries_of}
use Rattle.flight_report.specs.Kept.{come_up}

-- one more is kept while there is room, and else dropped
pub first-more : {T E : Type 0} (r : Result T E) (es : List Entry) (old new : ArrayVec Entry) (e : Entry) → old.items ≡ take ENTRIES es
    → (IsOk r → length old.items < ENTRIES) → OnOk r (new.items ≡ old.items ++ e ∷ []) → OnErr r (length old.items ≡ ENTRIES) → OnErr r (new ≡ old)
    → new.items ≡ take ENTRIES (es ++ e ∷ [])
first-more (Ok v) es old new e is room pushed full same =
    let free : length old.items < ENTRIES = room refl in
    let count : length old.items ≡ length (take ENTRIES es) = ap length is in
    let short : length es < ENTRIES = omega (arith, free, count, length-take ENTRIES es) in
    let all : take ENTRIES es ≡ es = take_all ENTRIES es (omega (arith, short)) in
    pushed ∙ ap (λ xs. xs ++ e ∷ []) (is ∙ all) ∙ sym (take_all ENTRIES (es ++ e ∷ []) (omega (arith, short, length-append es (e ∷ []))))
first-more (Err v) es old new e is room pushed full same =
    let count : length old.items ≡ length (take ENTRIES es) = ap length is in
    let long : ENTRIES ≤ length es = omega (arith, full, count, length-take ENTRIES es) in
    ap (λ (v : ArrayVec Entry). v.items) same ∙ is ∙ sym (take-append-le ENTRIES es (e ∷ []) long)

abbrev entry : ℕ → ℕ → ℕ → Entry
entry tick phase a = record { tick = tick; phase = phase; alert = a }

length-cond : (b : Bool) (a : ℕ) → length (cond b (a ∷ []) []) ≡ cond b 1 0
length-cond true a = refl
length-cond false a = refl

pub one-at-most : (b : Bool) → cond b 1 0 ≤ 1
one-at-most true = omega arith
one-at-most false = omega arith

map-cond : {X Y : Type 0} (f : X → Y) (b : Bool) (x : X) → map f (cond b (x ∷ []) []) ≡ cond b (f x ∷ []) []
map-cond f true x = refl
map-cond f false x = refl

module _ (order : List ℕ) (was up : List Bool) where
  abbrev pub comes : ℕ → Bool
  comes a = get_or up a false && not (get_or was a false)

  -- those that come up among the first i
  abbrev pub so_far : ℕ → List ℕ
  so_far i = come_up (take i order) was up

  so_far-more : (i : ℕ) → i < length order → so_far (i + 1) ≡ so_far i ++ cond (comes (get_or order i 0)) (get_or order i 0 ∷ []) []
  so_far-more i within =
      ap (filter comes) (take_more order i 0 within) ∙ filter-append comes (take i order) (get_or order i 0 ∷ [])

  pub so_far-all : (i : ℕ) → i ≡ length order → so_far i ≡ come_up order was up
  so_far-all i all = ap (λ xs. come_up xs was up) (take_all i order (omega (arith, all)))

  -- the alert whose turn it is is counted if it comes up
  pub count-more : (i : ℕ) → i < length order → length (so_far (i + 1)) ≡ length (so_far i) + cond (comes (get_or order i 0)) 1 0
  count-more i within =
      ap length (so_far-more i within)
      ∙ length-append (so_far i) (cond (comes (get_or order i 0)) (get_or order i 0 ∷ []) [])
      ∙ ap (λ n. length (so_far i) + n) (length-cond (comes (get_or order i 0)) (get_or order i 0))

  -- and added behind the others
  pub entries-more : (i tick phase : ℕ) (es : List Entry) → i < length order
      → es ++ entries_of tick phase (so_far (i + 1))
      ≡ (es ++ entries_of tick phase (so_far i)) ++ cond (comes (get_or order i 0)) (entry tick phase (get_or order i 0) ∷ []) []
  entries-more i tick phase es within =
      ap (λ xs. es ++ entries_of tick phase xs) (so_far-more i within)
      ∙ ap (λ xs. es ++ xs) (map-append (entry tick phase) (so_far i) (cond (comes (get_or order i 0)) (get_or order i 0 ∷ []) []))
      ∙ ap (λ xs. es ++ (entries_of tick phase (so_far i) ++ xs)) (map-cond (entry tick phase) (comes (get_or order i 0)) (get_or order i 0))
      ∙ sym (append_assoc es (entries_of tick phase (so_far i)) (cond (comes (get_or order i 0)) (entry tick phase (get_or order i 0) ∷ []) []))
