-- What a moment's flight phase says beside that of the moment before, and which alerts come up in it.
use Rattle.std.proofs.Common.{◌≡◌, ℕ, zero, suc, ◌<◌, Bool, true, false, not, ◌&&◌, ◌||◌, List, length, eqb, get_or, All, [], ◌∷◌, cond, Option, Some, None, refl, sym, ◌∙◌, ap}
use Rattle.std.specs.Prelude.{filter, option_map}
use Rattle.std.specs.Box.{boxed_slice_items}
use Rattle.std.proofs.lemmas.Bool.{ne_eqb}
use Rattle.std.proofs.lemmas.List.Elements.{All-head, All-tail, All-weaker}
use Rattle.ecam_spec.specs.Book.{Book}
use Rattle.ecam_spec.specs.Past.{previous, rise, previously}
use Rattle.ecam_spec.specs.Alert.{onset}
use Rattle.ecam_spec.specs.Situation.{phase_in, up_in}
use Rattle.ecam_spec.specs.Screen.{order, enters_one}
use Rattle.ecam_spec.proofs.OrderLaws.{order-below}
use Rattle.ecam_kinds.specs.declared.phase.Phase.{Phase}
use Rattle.view_spec.specs.FlightReport.{Course, begins}
use Rattle.flight_report.specs.Kept.{come_up, Comes}
use Rattle.flight_report.specs.declared.watch.Watch.{Watch}

-- tests that agree on the members of a list keep the same
filter-where : (p q : ℕ → Bool) (xs : List ℕ) → All (λ x. p x ≡ q x) xs → filter p xs ≡ filter q xs
filter-where p q [] same = refl
filter-where p q (x ∷ xs) same =
    let here : p x ≡ q x = All-head (λ y. p y ≡ q y) x xs same in
    let rest : filter p xs ≡ filter q xs = filter-where p q xs (All-tail (λ y. p y ≡ q y) x xs same) in
    ap (λ b. cond b (x ∷ filter p xs) (filter p xs)) here ∙ ap (λ ys. cond (q x) (x ∷ ys) ys) rest

-- a moment is the first, or follows on another, as what is kept of the phase before says
first-or-later : (phases : ℕ → ℕ) (k : ℕ) (o : Option Phase) → option_map (λ (p : Phase). p.number) o ≡ previously (λ j. Some (phases j)) k → o ≡ None
    → (eqb k 0 || (eqb (phases k) 1 && previous (λ i. not (eqb (phases i) 1)) k)) ≡ true
first-or-later phases zero o is none = refl
first-or-later phases (suc j) None is none = absurd (let w : ⊥ = cc in w)
first-or-later phases (suc j) (Some p) is none = absurd (let w : ⊥ = cc in w)

later-is : (phases : ℕ → ℕ) (k : ℕ) (p : Phase) → option_map (λ (q : Phase). q.number) (Some p) ≡ previously (λ j. Some (phases j)) k
    → (eqb k 0 || (eqb (phases k) 1 && previous (λ i. not (eqb (phases i) 1)) k)) ≡ (eqb (phases k) 1 && not (eqb p.number 1))
unfolding previous
later-is phases zero p is = absurd (let w : ⊥ = cc in w)
later-is phases (suc j) p is =
    let before : p.number ≡ phases j = cc in
    ap (λ b. b || (eqb (phases (suc j)) 1 && not (eqb (phases j) 1))) (ne_eqb (suc j) 0 (λ e. absurd (let w : ⊥ = cc in w)))
    ∙ ap (λ n. eqb (phases (suc j)) 1 && not (eqb n 1)) (sym before)

module _ (b : Book) (c : Course) (n phase : ℕ) (up : List Bool) (w : Watch) (comes : Comes b c n phase up w) where
  begins-is : begins c n ≡ (eqb comes.number 0 || (eqb (phase_in b comes.moments comes.number) 1 && previous (λ i. not (eqb (phase_in b comes.moments i) 1)) comes.number))
  unfolding begins enters_one
  begins-is = rw (comes.live, comes.first, comes.enters_one) refl

  -- the first moment of an era begins a flight
  pub begins-first : w.phase ≡ None → begins c n ≡ true
  begins-first none = begins-is ∙ first-or-later (phase_in b comes.moments) comes.number w.phase comes.watch.phase none

  -- a later one does where it enters phase 1
  pub begins-later : (p : Phase) → w.phase ≡ Some p → begins c n ≡ (eqb phase 1 && not (eqb p.number 1))
  begins-later p is =
      begins-is
      ∙ later-is (phase_in b comes.moments) comes.number p (ap (option_map (λ (q : Phase). q.number)) (sym is) ∙ comes.watch.phase)
      ∙ ap (λ k. eqb k 1 && not (eqb p.number 1)) (sym comes.phase_is)

  -- the alerts that come up are those that are up, and weren't in the moment before
  comes-up : (a : ℕ) → a < length b.alerts
      → (get_or up a false && not (get_or (boxed_slice_items w.up) a false)) ≡ onset (up_in b comes.moments a) comes.number
  unfolding onset rise previous
  comes-up a within =
      ap (λ x. x && not (get_or (boxed_slice_items w.up) a false)) (comes.up_are a within)
      ∙ ap (λ x. up_in b comes.moments a comes.number && not x) (comes.watch.up a within)

  pub onsets-are : come_up (order b) (boxed_slice_items w.up) up ≡ c.onsets n
  onsets-are =
      filter-where (λ a. get_or up a false && not (get_or (boxed_slice_items w.up) a false)) (λ a. onset (up_in b comes.moments a) comes.number) (order b)
      (All-weaker (λ a. a < length b.alerts) (λ a. (get_or up a false && not (get_or (boxed_slice_items w.up) a false)) ≡ onset (up_in b comes.moments a) comes.number) comes-up (order b) (order-below b))
      ∙ sym comes.onsets
