-- The nodes that the computers visit over a history.
use Rattle.std.proofs.Common.{◌≡◌, ℕ, zero, suc, ◌+◌, ◌-◌, ◌^◌, ◌≤◌, min, Bool, true, false, ◌&&◌, List, [], ◌∷◌, ◌++◌, length, get_or, take, cond, refl, ap, subst, ◌∙◌, arith}
use Rattle.std.proofs.lemmas.List.{length-append, get_or_append_left, get_or_at, take-append-le}
use Rattle.std.proofs.Math.Seq.{take-length}
use Rattle.ecam_spec.specs.declared.kinds.Event.{Event}
use Rattle.ecam_spec.specs.declared.kinds.Event.TheVariants.{End}
use Rattle.ecam_spec.specs.Book.{Book}
use Rattle.ecam_spec.specs.History.{Flags, flags_after}
use Rattle.ecam_spec.specs.Replay.{is_tick}
use Rattle.fwc_lane.specs.declared.lane.Lane.{Lane}
use Rattle.fwc_pair.specs.PairState.{PairFits, flags_of}
use Rattle.fwc_pair.specs.PairVisits.{visited, tick_visits, Visits, NoVisits, event_visits, visits_before, history_visits, HaveVisited}
use Rattle.fwc_pair.specs.declared.pair.Pair.{Pair}

-- ---- what one event more costs

module _ (b : Book) (h : List Event) (e : Event) (is_up : Flags → Bool) where
  -- nothing of what the events before it cost
  before-same : (n : ℕ) → n ≤ length h → visits_before b (h ++ e ∷ []) is_up n ≡ visits_before b h is_up n
  unfolding visits_before
  before-same zero within = refl
  before-same (suc n) within =
      ap (λ v. v + event_visits b (take n (h ++ e ∷ [])) (get_or (h ++ e ∷ []) n End) is_up) (before-same n (omega arith))
      ∙ ap (λ t. visits_before b h is_up n + event_visits b t (get_or (h ++ e ∷ []) n End) is_up) (take-append-le n h (e ∷ []) (omega arith))
      ∙ ap (λ x. visits_before b h is_up n + event_visits b (take n h) x is_up) (get_or_append_left h (e ∷ []) End n (omega arith))

  pub history_visits-next : history_visits b (h ++ e ∷ []) is_up ≡ history_visits b h is_up + event_visits b h e is_up
  unfolding visits_before
  history_visits-next =
      let one-more : length (h ++ e ∷ []) ≡ suc (length h) = omega (arith, length-append h (e ∷ [])) in
      ap (visits_before b (h ++ e ∷ []) is_up) one-more
      ∙ ap (λ v. v + event_visits b (take (length h) (h ++ e ∷ [])) (get_or (h ++ e ∷ []) (length h) End) is_up) (before-same (length h) (omega arith))
      ∙ ap (λ t. history_visits b h is_up + event_visits b t (get_or (h ++ e ∷ []) (length h) End) is_up) (take-append-le (length h) h (e ∷ []) (omega arith) ∙ take-length h)
      ∙ ap (λ x. history_visits b h is_up + event_visits b h x is_up) (get_or_at h e [] End (length h) refl)

-- ---- what the computers visited

none-visited : (old new : ℕ) → old ≤ 2 ^ 64 - 1 → new ≡ old → new ≡ min (old + 0) (2 ^ 64 - 1)
none-visited old new most same = omega (arith, most, same)

one-event : (tick up : Bool) (more : ℕ) (old new : Lane) → visited old ≤ 2 ^ 64 - 1 → (tick ≡ true → Visits up more old new) → (tick ≡ false → visited new ≡ visited old)
    → visited new ≡ min (visited old + cond (tick && up) more 0) (2 ^ 64 - 1)
one-event true true more old new most on off = on refl
one-event true false more old new most on off = none-visited (visited old) (visited new) most (on refl)
one-event false up more old new most on off = none-visited (visited old) (visited new) most (off refl)

-- at an event
pub visited-event : (b : Book) (h : List Event) (e : Event) (old new : Pair) → PairFits b old → flags_of old ≡ flags_after h
    → (is_tick e ≡ true → Visits old.one_up (tick_visits b h) old.one new.one × Visits old.two_up (tick_visits b h) old.two new.two)
    → (is_tick e ≡ false → NoVisits old new) → HaveVisited (event_visits b h e) old new
unfolding PairFits
visited-event b h e old new fits flags on off = record {
  one = subst (λ (f : Flags). visited new.one ≡ min (visited old.one + cond (is_tick e && f.one) (tick_visits b h) 0) (2 ^ 64 - 1)) flags
      (one-event (is_tick e) old.one_up (tick_visits b h) old.one new.one fits.one.terms.visits (λ t. (on t).0) (λ t. (off t).0));
  two = subst (λ (f : Flags). visited new.two ≡ min (visited old.two + cond (is_tick e && f.two) (tick_visits b h) 0) (2 ^ 64 - 1)) flags
      (one-event (is_tick e) old.two_up (tick_visits b h) old.two new.two fits.two.terms.visits (λ t. (on t).1) (λ t. (off t).1));
}

-- before any
pub visited-none : (b : Book) (old new : Pair) → PairFits b old → NoVisits old new → HaveVisited (history_visits b []) old new
unfolding visits_before PairFits
visited-none b old new fits none = record {
  one = none-visited (visited old.one) (visited new.one) fits.one.terms.visits none.0;
  two = none-visited (visited old.two) (visited new.two) fits.two.terms.visits none.1;
}

both : (old mid new first next all : ℕ) → mid ≡ min (old + first) (2 ^ 64 - 1) → new ≡ min (mid + next) (2 ^ 64 - 1) → all ≡ first + next
    → new ≡ min (old + all) (2 ^ 64 - 1)
both old mid new first next all e f g = omega (arith, e, f, g)

-- and at one more
pub visited-next : (b : Book) (h : List Event) (e : Event) (old mid new : Pair) → HaveVisited (history_visits b h) old mid → HaveVisited (event_visits b h e) mid new
    → HaveVisited (history_visits b (h ++ e ∷ [])) old new
visited-next b h e old mid new first next = record {
  one = both (visited old.one) (visited mid.one) (visited new.one) (history_visits b h (λ f. f.one)) (event_visits b h e (λ f. f.one)) (history_visits b (h ++ e ∷ []) (λ f. f.one))
      first.one next.one (history_visits-next b h e (λ f. f.one));
  two = both (visited old.two) (visited mid.two) (visited new.two) (history_visits b h (λ f. f.two)) (event_visits b h e (λ f. f.two)) (history_visits b (h ++ e ∷ []) (λ f. f.two))
      first.two next.two (history_visits-next b h e (λ f. f.two));
}
