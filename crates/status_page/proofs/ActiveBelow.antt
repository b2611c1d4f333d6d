-- The active alerts below a number, one alert more.
use Rattle.std.proofs.Common.{◌≡◌, ℕ, zero, suc, ◌+◌, ◌-◌, ◌<◌, ◌≤◌, Bool, true, false, List, [], ◌∷◌, ◌++◌, cond, refl, sym, ap, ◌∙◌, arith}
use Rattle.std.specs.Prelude.{filter}
use Rattle.std.proofs.lemmas.List.{append-nil}
use Rattle.ecam_spec.specs.Places.{below}
use Rattle.book_model.specs.Told.{flagged}
use Rattle.book_model.proofs.LevelPlaces.{filter_below-more}
use Rattle.wakes.specs.Marks.{is_marked}

module _ (active : ℕ → Bool) where
  abbrev found : ℕ → List ℕ
  found n = filter active (below n)

  pub active-more : (a : ℕ) → active a ≡ true → filter active (below (a + 1)) ≡ filter active (below a) ++ a ∷ []
  active-more a is = filter_below-more active a ∙ ap (λ p. found a ++ cond p (a ∷ []) []) is

  pub active-same : (a : ℕ) → active a ≡ false → filter active (below (a + 1)) ≡ filter active (below a)
  active-same a off = filter_below-more active a ∙ ap (λ p. found a ++ cond p (a ∷ []) []) off ∙ append-nil (found a)

  -- none of the next few is active
  none-next : (a few : ℕ) → ((c : ℕ) → a ≤ c → c < a + few → active c ≡ false) → found (a + few) ≡ found a
  none-next a zero off = let e : a + 0 ≡ a = omega arith in ap found e
  none-next a (suc few) off =
      let e : a + suc few ≡ a + few + 1 = omega arith in
      ap found e
      ∙ active-same (a + few) (off (a + few) (omega arith) (omega arith))
      ∙ none-next a few (λ c from to. off c from (omega (arith, to)))

module _ (flags : List Bool) (near : List ℕ) (among : (a : ℕ) → flagged flags a ≡ true → is_marked near a ≡ true) where
  -- what isn't near isn't active
  away : (n : ℕ) (on : Bool) → flagged flags n ≡ on → is_marked near n ≡ false → flagged flags n ≡ false
  away n true is off = absurd (let clash : true ≡ false = sym (among n is) ∙ off in cc)
  away n false is off = is

  -- between two numbers between which none is near, none is active
  pub none-near : (a c : ℕ) → a ≤ c → ((n : ℕ) → a ≤ n → n < c → is_marked near n ≡ false)
      → filter (flagged flags) (below c) ≡ filter (flagged flags) (below a)
  none-near a c le none =
      let e : a + (c - a) ≡ c = omega (arith, le) in
      sym (ap (found (flagged flags)) e)
      ∙ none-next (flagged flags) a (c - a) (λ n from to. away n (flagged flags n) refl (none n from (omega (arith, to, le))))
