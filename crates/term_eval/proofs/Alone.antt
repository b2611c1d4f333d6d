-- One temporal node while its condition stays as it is: it keeps its truth up to a due moment of its own, and turns in it.
use Rattle.std.proofs.Common.{◌≡◌, ℕ, zero, suc, ◌+◌, ◌-◌, ◌<◌, ◌≤◌, ◌^◌, ◌⊎◌, min, Bool, true, false, not, ◌&&◌, Option, Some, None, inl, inr, ltb, leb, cond, refl, sym, ◌∙◌, ap, arith}
use Rattle.std.proofs.lemmas.Bool.{lt-ltb, le-ltb, le-leb, lt-leb, cases_lt}
use Rattle.std.specs.Option.{option_map_or}
use Rattle.ecam_spec.specs.Past.{Signal, once_within, historically_within, last, start_of, rise}
use Rattle.ecam_spec.proofs.PastSteps.{start_of-off, start_of-on-le, last-here, last-le, rise-suc}
use Rattle.term_eval.specs.CellWords.{never, end_of}
use Rattle.term_eval.specs.OwnDue.{confirmed_due, held_due, risen_due}
use Rattle.term_eval.specs.Woken.{differ, turned}
use Rattle.term_eval.specs.Due.{Before}
use Rattle.ecam_spec.proofs.PastMoments.{historically_within-start, once_within-last}
use Rattle.term_eval.proofs.Stays.{Stays, start-stays, last-stays}

-- a node with truth q over a condition with truth p
pub record Alone (p q : Signal) (k own : ℕ) : Type 0 where
  pub steady : (m : ℕ) → k ≤ m → Before m own → Stays p k m → q m ≡ q k
  pub comes : (own ≡ never) ⊎ ((k < own) × (own < never) × (Stays p k own → turned q own ≡ true))

-- a test that was one thing and becomes the other
pub turned-by : (q : Signal) (k : ℕ) (before now : Bool) → q (k - 1) ≡ before → q k ≡ now → differ now before ≡ true → turned q k ≡ true
turned-by q k before now was is h = ap (λ b. differ b (q (k - 1))) is ∙ ap (λ b. differ now b) was ∙ h

confirmed-off : (p : Signal) (n m : ℕ) → p m ≡ false → historically_within n p m ≡ false
confirmed-off p n m off =
    historically_within-start n p m ∙ ap (λ s. leb (s + n) m) (start_of-off p m off) ∙ lt-leb (suc m + n) m (omega arith)

pub alone-confirmed : (n : ℕ) (p : Signal) (k : ℕ) → k < 2 ^ 63 → n < 2 ^ 32 →
    Alone p (historically_within n p) k (confirmed_due (p k) (min (start_of p k + n) never) k)
alone-confirmed n p k small few = by (p k) refl where
  by : (now : Bool) → p k ≡ now → Alone p (historically_within n p) k (confirmed_due now (min (start_of p k + n) never) k)
  by false off = record {
    steady = λ m within before stays. confirmed-off p n m (stays m within (omega arith) ∙ off) ∙ sym (confirmed-off p n k off);
    comes = inl refl;
  }
  by true on =
      let low : start_of p k ≤ k = start_of-on-le p k on in
      let full : min (start_of p k + n) never ≡ start_of p k + n = omega arith in
      let said : (m : ℕ) → k ≤ m → Stays p k m → historically_within n p m ≡ leb (start_of p k + n) m
      = λ m within stays. historically_within-start n p m ∙ ap (λ s. leb (s + n) m) (start-stays p k m within stays on) in
      rw full
      (elim (cases_lt k (start_of p k + n)) [
        | inl later ↦
            rw (lt-leb (start_of p k + n) k later)
            (record {
              steady = λ m within before stays.
                  let early : m < start_of p k + n = elim before [ inl h ↦ h | inr e ↦ omega arith ] in
                  said m within stays ∙ lt-leb (start_of p k + n) m early
                  ∙ sym (said k (omega arith) (λ i a b. let e : i ≡ k = omega arith in ap p e) ∙ lt-leb (start_of p k + n) k later);
              comes = inr (
                later,
                omega arith,
                λ stays.
                    turned-by (historically_within n p) (start_of p k + n) false true
                    (said (start_of p k + n - 1) (omega arith) (λ i a b. stays i a (omega arith)) ∙ lt-leb (start_of p k + n) (start_of p k + n - 1) (omega arith))
                    (said (start_of p k + n) (omega arith) stays ∙ le-leb (start_of p k + n) (start_of p k + n) (omega arith))
                    refl,
              );
            })
        | inr passed ↦
            rw (le-leb (start_of p k + n) k passed)
            (record {
              steady = λ m within before stays.
                  said m within stays ∙ le-leb (start_of p k + n) m (omega arith)
                  ∙ sym (said k (omega arith) (λ i a b. let e : i ≡ k = omega arith in ap p e) ∙ le-leb (start_of p k + n) k passed);
              comes = inl refl;
            })
      ])

held-on : (p : Signal) (n m : ℕ) → p m ≡ true → once_within n p m ≡ true
held-on p n m on =
    once_within-last n p m ∙ ap (λ o. option_map_or (λ j. ltb m (j + n + 1)) o false) (last-here p m on) ∙ lt-ltb m (m + n + 1) (omega arith)

pub alone-held : (n : ℕ) (p : Signal) (k : ℕ) → k < 2 ^ 63 → n < 2 ^ 32 →
    Alone p (once_within n p) k (held_due (p k) (end_of (last p k) n) k)
alone-held n p k small few = by (p k) refl where
  said : (o : Option ℕ) → last p k ≡ o → p k ≡ false → (m : ℕ) → k ≤ m → Stays p k m → once_within n p m ≡ option_map_or (λ j. ltb m (j + n + 1)) o false
  said o is off m within stays = once_within-last n p m ∙ ap (λ l. option_map_or (λ j. ltb m (j + n + 1)) l false) (last-stays p k m within stays off ∙ is)

  here : Stays p k k
  here i a b = let e : i ≡ k = omega arith in ap p e

  gone : (o : Option ℕ) → last p k ≡ o → p k ≡ false → Alone p (once_within n p) k (cond (ltb k (end_of o n)) (end_of o n) never)
  gone None is off =
      rw (le-ltb k 0 (omega arith))
      (record {
        steady = λ m within before stays. said None is off m within stays ∙ sym (said None is off k (omega arith) here);
        comes = inl refl;
      })
  gone (Some j) is off =
      let low : j ≤ k = let h = last-le p k in let e = ap (λ (o : Option ℕ). option_map_or (λ i. i) o 0) is in omega arith in
      let end : min (j + n + 1) never ≡ j + n + 1 = omega arith in
      rw end
      (elim (cases_lt k (j + n + 1)) [
        | inl later ↦
            rw (lt-ltb k (j + n + 1) later)
            (record {
              steady = λ m within before stays.
                  let early : m < j + n + 1 = elim before [ inl h ↦ h | inr e ↦ omega arith ] in
                  said (Some j) is off m within stays ∙ lt-ltb m (j + n + 1) early
                  ∙ sym (said (Some j) is off k (omega arith) here ∙ lt-ltb k (j + n + 1) later);
              comes = inr (
                later,
                omega arith,
                λ stays.
                    turned-by (once_within n p) (j + n + 1) true false
                    (said (Some j) is off (j + n + 1 - 1) (omega arith) (λ i a b. stays i a (omega arith)) ∙ lt-ltb (j + n + 1 - 1) (j + n + 1) (omega arith))
                    (said (Some j) is off (j + n + 1) (omega arith) stays ∙ le-ltb (j + n + 1) (j + n + 1) (omega arith))
                    refl,
              );
            })
        | inr passed ↦
            rw (le-ltb k (j + n + 1) passed)
            (record {
              steady = λ m within before stays.
                  said (Some j) is off m within stays ∙ le-ltb m (j + n + 1) (omega arith)
                  ∙ sym (said (Some j) is off k (omega arith) here ∙ le-ltb k (j + n + 1) passed);
              comes = inl refl;
            })
      ])

  by : (now : Bool) → p k ≡ now → Alone p (once_within n p) k (held_due now (end_of (last p k) n) k)
  by true on = record {
    steady = λ m within before stays. held-on p n m (stays m within (omega arith) ∙ on) ∙ sym (held-on p n k on);
    comes = inl refl;
  }
  by false off = gone (last p k) refl off

pub no-rise : (a b : Bool) → a ≡ b → (a && not b) ≡ false
no-rise true true e = refl
no-rise false b e = refl
no-rise true false e = e

pub alone-risen : (p : Signal) (k : ℕ) → k < 2 ^ 63 → Alone p (rise p) k (risen_due (rise p k) k)
alone-risen p k small = by (rise p k) refl where
  later : (m : ℕ) → k ≤ m → Stays p k (suc m) → rise p (suc m) ≡ false
  later m within stays =
      rise-suc p m ∙ no-rise (p (suc m)) (p m) (stays (suc m) (omega arith) (omega arith) ∙ sym (stays m within (omega arith)))

  settled : (m : ℕ) → k < m → Stays p k m → rise p m ≡ false
  settled zero within stays = absurd (omega arith)
  settled (suc m) within stays = later m (omega arith) stays

  by : (rises : Bool) → rise p k ≡ rises → Alone p (rise p) k (risen_due rises k)
  by false off = record {
    steady = λ m within before stays.
        elim (cases_lt k m) [
          | inl after ↦ settled m after stays ∙ sym off
          | inr now ↦ let e : m ≡ k = omega arith in ap (rise p) e
        ];
    comes = inl refl;
  }
  by true on =
      let next : min (k + 1) never ≡ k + 1 = omega arith in
      rw next
      (record {
        steady = λ m within before stays.
            let early : m < k + 1 = elim before [ inl h ↦ h | inr e ↦ omega arith ] in
            let e : m ≡ k = omega arith in ap (rise p) e;
        comes = inr (
          omega arith,
          omega arith,
          λ stays.
              let back : k + 1 - 1 ≡ k = omega arith in
              turned-by (rise p) (k + 1) true false (ap (rise p) back ∙ on) (settled (k + 1) (omega arith) stays) refl,
        );
      })
