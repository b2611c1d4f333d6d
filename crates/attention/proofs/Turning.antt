-- The latest onset of the alerts that call with a chime, where one of them turns.
use Rattle.std.proofs.Common.{◌≡◌, ◌≢◌, ℕ, zero, suc, ◌+◌, ◌<◌, ◌≤◌, ◌==◌, Bool, true, false, not, ◌&&◌, ◌||◌, nat_le, List, length, get_or, slice_get, Option, Some, None, inl, inr, refl, sym, ◌∙◌, ap, arith}
use Rattle.std.specs.List.{list_any}
use Rattle.std.specs.Option.{option_map_or}
use Rattle.std.proofs.lemmas.Bool.{cases_eq, or_cases, leb-true, le-leb, eq-eqb, ne_eqb, or_left, or_right}
use Rattle.std.proofs.lemmas.Option.{slice_get-get_or}
use Rattle.std.proofs.Math.Bool.{or-false}
use Rattle.ecam_spec.specs.Places.{below}
use Rattle.wakes.specs.Marks.{is_marked}
use Rattle.attention.specs.declared.callers.Callers.{Callers}
use Rattle.attention.specs.declared.latest.Latest.{Latest}
use Rattle.attention.specs.declared.watch.Watch.{Watch}
use Rattle.attention.specs.Watches.{opened, rings_by}
use Rattle.attention.specs.Calling.{Marks, rings_in}
use Rattle.attention.specs.Latest.{any_rings, IsLatest, EndsOnce, Tells}
use Rattle.attention.specs.Walked.{IsLeft}
use Rattle.attention.proofs.Below.{any-below, any-more}

pub tells-same : (p q : ℕ → Bool) (l : Latest) → ((j : ℕ) → p j ≡ q j) → Tells p l → Tells q l
tells-same p q l same tells = record {
  most = λ j is. tells.most j (same j ∙ is);
  least = λ known j is. sym (same j) ∙ tells.least known j is;
}

-- where it is known
pub known-latest : (m n : ℕ) (kept watches : List Watch) (chimes : List ℕ) (latest : Option ℕ) → m ≡ n → kept ≡ watches → IsLatest m kept chimes latest
    → Tells (any_rings n watches chimes) (record { onset = latest; is_known = true })
known-latest m n kept watches chimes latest many same is =
    let rings = λ (j : ℕ). is j ∙ ap (λ x. any_rings x kept chimes j) many ∙ ap (λ ws. any_rings n ws chimes j) same in
    record {
      most = λ j sounds. rings j ∙ sounds;
      least = λ known j on. sym (rings j) ∙ on;
    }

-- one of an earlier onset than the latest leaves
left-least : (others : ℕ → Bool) (o : ℕ) (latest : Option ℕ) → EndsOnce others → (latest ≡ Some o → ⊥)
    → ((j : ℕ) → (others j || nat_le j (o + 4)) ≡ true → rings_in j latest ≡ true)
    → ((j : ℕ) → rings_in j latest ≡ true → (others j || nat_le j (o + 4)) ≡ true)
    → (j : ℕ) → rings_in j latest ≡ true → others j ≡ true
left-least others o None ends apart most least j is = cc
left-least others o (Some m) ends apart most least j is =
    let low : o + 4 ≤ m + 4 = leb-true (o + 4) (m + 4) (most (o + 4) (or_right (others (o + 4)) _ (le-leb (o + 4) (o + 4) (omega arith)))) in
    let other : o ≢ m = λ e. apart (ap Some (sym e)) in
    let last : (others (m + 4) || nat_le (m + 4) (o + 4)) ≡ true = least (m + 4) (le-leb (m + 4) (m + 4) (omega arith)) in
    ends j (m + 4) (leb-true j (m + 4) is) (elim (or_cases _ _ last) [
      | inl on ↦ on
      | inr late ↦ absurd (let x : ⊥ = other (omega (arith, low, leb-true (m + 4) (o + 4) late)) in x)
    ])

pub tells-left : (others : ℕ → Bool) (o : ℕ) (l : Latest) → EndsOnce others → (l.onset ≡ Some o → ⊥)
    → Tells (λ j. others j || nat_le j (o + 4)) l → Tells others l
tells-left others o l ends apart tells = record {
  most = λ j is. tells.most j (or_left (others j) _ is);
  least = λ known j is. left-least others o l.onset ends apart tells.most (tells.least known) j is;
}

-- a test of the numbers below n, and of all but one of them
any-swap : (e x y : Bool) → ((e || x) || y) ≡ ((e || y) || x)
any-swap true x y = refl
any-swap false true true = refl
any-swap false true false = refl
any-swap false false true = refl
any-swap false false false = refl

module _ (p : ℕ → Bool) (i : ℕ) where
  abbrev pub except : ℕ → Bool
  except m = not (m == i) && p m

  except-other : (m : ℕ) → m ≢ i → except m ≡ p m
  except-other m apart = rw (ne_eqb m i apart) refl

  pub any-except : (n : ℕ) → i < n → list_any p (below n) ≡ (list_any except (below n) || p i)
  any-except zero within = absurd (let x : ⊥ = omega (arith, within) in x)
  any-except (suc n) within = any-more p n ∙ elim (cases_eq n i) [
    | inl e ↦
        let own : except n ≡ false = rw (eq-eqb n i e) refl in
        ap (λ b. b || p n) (sym (any-below except p n (λ m h. except-other m (λ same. absurd (let x : ⊥ = omega (arith, h, same, e) in x)))))
        ∙ ap (λ m. list_any except (below n) || p m) e
        ∙ ap (λ b. b || p i) (sym (any-more except n ∙ ap (λ b. list_any except (below n) || b) own ∙ or-false (list_any except (below n))))
    | inr apart ↦
        ap (λ b. b || p n) (any-except n (omega (arith, within, apart)))
        ∙ any-swap (list_any except (below n)) (p i) (p n)
        ∙ ap (λ b. b || p i) (sym (any-more except n ∙ ap (λ b. list_any except (below n) || b) (except-other n apart)))
  ]

-- what sounds since some onsets ends once, as each of them does
any-ends : (q : ℕ → ℕ → Bool) → ((m : ℕ) → EndsOnce (λ j. q j m)) → (n : ℕ) → EndsOnce (λ j. list_any (q j) (below n))
unfolding below
any-ends q each zero i j order is = cc
any-ends q each (suc n) i j order is = any-more (q i) n ∙ elim (or_cases _ _ (sym (any-more (q j) n) ∙ is)) [
  | inl low ↦ or_left _ _ (any-ends q each n i j order low)
  | inr last ↦ or_right _ _ (each n i j order last)
]

one-ends : (x y : Bool) (o : Option Watch) → EndsOnce (λ j. x && (y && option_map_or (λ w. nat_le j (opened w.onset + 4)) o false))
one-ends false y o i j order is = cc
one-ends true false o i j order is = cc
one-ends true true None i j order is = cc
one-ends true true (Some w) i j order is =
    le-leb i (opened w.onset + 4) (omega (arith, order, leb-true j (opened w.onset + 4) is))

-- how long one rings, by what is kept of it
module _ (watches : List Watch) (i : ℕ) (w : Watch) where
  pub watch-rings : (on is : Bool) (o : Option ℕ) → slice_get watches i ≡ Some w → on ≡ is
      → ((j : ℕ) → rings_in j o ≡ (on && nat_le j (opened w.onset + 4))) → (j : ℕ) → rings_in j o ≡ (is && rings_by j watches i)
  watch-rings on is o read same rings j =
      rings j
      ∙ ap (λ b. b && nat_le j (opened w.onset + 4)) same
      ∙ ap (λ x. is && option_map_or (λ (v : Watch). nat_le j (opened v.onset + 4)) x false) (sym read)

pub read-rings : (watches : List Watch) (i : ℕ) (d : Watch) (on is : Bool) (o : Option ℕ) → i < length watches → on ≡ is
    → ((j : ℕ) → rings_in j o ≡ (on && nat_le j (opened (get_or watches i d).onset + 4))) → (j : ℕ) → rings_in j o ≡ (is && rings_by j watches i)
read-rings watches i d on is o within = watch-rings watches i (get_or watches i d) on is o (slice_get-get_or watches i d within)

module _ (n i : ℕ) (watches news : List Watch) (callers next : Callers) (within : i < n) (others : (m : ℕ) → m ≢ i → IsLeft m watches callers news next) where
  abbrev rest : ℕ → Bool
  rest j = list_any (except (λ m. is_marked callers.chimes m && rings_by j watches m) i) (below n)

  same-at : (j m : ℕ) → except (λ m. is_marked next.chimes m && rings_by j news m) i m ≡ except (λ m. is_marked callers.chimes m && rings_by j watches m) i m
  same-at j m = elim (cases_eq m i) [
    | inl e ↦ rw (eq-eqb m i e) refl
    | inr apart ↦
        let left = others m apart in
        ap (λ b. not (m == i) && (b && rings_by j news m)) (ap (λ (x : Marks). x.chime) left.marks)
        ∙ ap (λ x. not (m == i) && (is_marked callers.chimes m && option_map_or (λ (v : Watch). nat_le j (opened v.onset + 4)) x false)) left.watch
  ]

  -- what is known of the latest onset before that one turns is known after it
  pub turned : (before after : Option ℕ) (old new : Latest)
      → ((j : ℕ) → rings_in j before ≡ (is_marked callers.chimes i && rings_by j watches i))
      → ((j : ℕ) → rings_in j after ≡ (is_marked next.chimes i && rings_by j news i))
      → ((sounds : ℕ → Bool) → EndsOnce sounds → Tells (λ j. sounds j || rings_in j before) old → Tells (λ j. sounds j || rings_in j after) new)
      → Tells (any_rings n watches callers.chimes) old → Tells (any_rings n news next.chimes) new
  turned before after old new was is turn tells =
      tells-same _ _ new
      (λ j.
      ap (λ b. rest j || b) (is j)
      ∙ ap (λ b. b || (is_marked next.chimes i && rings_by j news i)) (sym (any-below _ _ n (λ m h. same-at j m)))
      ∙ sym (any-except (λ m. is_marked next.chimes m && rings_by j news m) i n within))
      (turn rest (any-ends (λ j. except (λ m. is_marked callers.chimes m && rings_by j watches m) i) (λ m. one-ends (not (m == i)) (is_marked callers.chimes m) (slice_get watches m)) n)
      (tells-same _ _ old
      (λ j.
      any-except (λ m. is_marked callers.chimes m && rings_by j watches m) i n within
      ∙ ap (λ b. rest j || b) (sym (was j)))
      tells))
