-- What a source takes of the words that are written: the one of its label and SDI, as it stood when it was last written.
use Rattle.std.proofs.Common.{◌≡◌, ℕ, zero, suc, ◌+◌, ◌%◌, ◌<◌, ◌≤◌, Bool, true, false, ◌||◌, ◌==◌, List, [], ◌∷◌, ◌++◌, Option, Some, None, cond, refl, sym, ap, ◌∙◌, arith, inl, inr, append-nil}
use Rattle.std.proofs.lemmas.Bool.{cases_eq, eq-eqb, ne_eqb, lt-ltb}
use Rattle.std.specs.Prelude.{is_some, option_and_then}
use Rattle.std.specs.List.{list_any}
use Rattle.std.specs.Option.{option_or, option_map_or}
use Rattle.std.proofs.Math.Dec.{ltb}
use Rattle.ecam_spec.specs.declared.kinds.Kind.TheVariants.{Disc}
use Rattle.ecam_spec.specs.Past.{last, once_within}
use Rattle.ecam_spec.specs.Places.{below}
use Rattle.ecam_spec.specs.Book.{Source}
use Rattle.ecam_spec.specs.Reading.{discrete}
use Rattle.ecam_spec.specs.Value.{BusWord, takes, last_taken, arrives, word_of, is_fresh, reading, source_value}
use Rattle.ecam_spec.proofs.PastAgree.{last-below}
use Rattle.ecam_spec.proofs.PastMoments.{once_within-last}
use Rattle.ecam_spec.proofs.PastSteps.{last-here, last-skip}
use Rattle.word_out.proofs.SentMoments.{on_bus, sent_words, sent-next}

-- ---- the last of some words

or_first : (t : Bool) (x : ℕ) → option_or None (cond t (Some x) None) ≡ option_or (cond t (Some x) None) None
or_first true x = refl
or_first false x = refl

or_assoc : (a b c : Option ℕ) → option_or (option_or a b) c ≡ option_or a (option_or b c)
or_assoc None b c = refl
or_assoc (Some x) b c = refl

taken_push : (s : Source) (ws : List BusWord) (w : BusWord) → last_taken s (ws ++ w ∷ []) ≡ option_or (cond (takes s w) (Some w.bits) None) (last_taken s ws)
unfolding last_taken
taken_push s [] w = or_first (takes s w) w.bits
taken_push s (v ∷ ws) w =
    ap (λ o. option_or o (cond (takes s v) (Some v.bits) None)) (taken_push s ws w)
    ∙ or_assoc (cond (takes s w) (Some w.bits) None) (last_taken s ws) (cond (takes s v) (Some v.bits) None)

some_or : (o : Option ℕ) (t : Bool) (x : ℕ) → (t || is_some o) ≡ is_some (option_or o (cond t (Some x) None))
some_or None true x = refl
some_or None false x = refl
some_or (Some y) true x = refl
some_or (Some y) false x = refl

any_taken : (s : Source) (ws : List BusWord) → list_any (takes s) ws ≡ is_some (last_taken s ws)
unfolding last_taken
any_taken s [] = refl
any_taken s (w ∷ ws) = ap (λ b. takes s w || b) (any_taken s ws) ∙ some_or (last_taken s ws) (takes s w) w.bits

some_cond : (b : Bool) (x : ℕ) → is_some {T = ℕ} (cond b (Some x) None) ≡ b
some_cond true x = refl
some_cond false x = refl

-- ---- when a word was last written

module _ (on : ℕ → Bool) (what : ℕ → ℕ) (due : (t : ℕ) → t % 100 ≡ 0 → on t ≡ true) (kept : (t : ℕ) → on (suc t) ≡ false → what (suc t) ≡ what t) where
  pub record LastOn (t : ℕ) : Type 0 where
    pub at : ℕ
    pub is : last on t ≡ Some at
    pub was_on : on at ≡ true
    pub same : what at ≡ what t
    pub lately : t ≤ at + t % 100

  on_next : (t : ℕ) (b : Bool) → on (suc t) ≡ b → LastOn t → LastOn (suc t)
  on_next t true now before = record { at = suc t; is = last-here on (suc t) now; was_on = now; same = refl; lately = omega arith }
  on_next t false off before =
      let apart : suc t % 100 ≡ 0 → ⊥ = λ h. let e : true ≡ false = sym (due (suc t) h) ∙ off in let w : ⊥ = cc in w in
      record {
        at = before.at;
        is = last-skip on t off ∙ before.is;
        was_on = before.was_on;
        same = before.same ∙ sym (kept t off);
        lately = omega (arith, before.lately, apart);
      }

  last_on : (t : ℕ) → LastOn t
  last_on zero =
      let now = due 0 (omega arith) in
      record { at = 0; is = last-here on 0 now; was_on = now; same = refl; lately = omega arith }
  last_on (suc t) = on_next t (on (suc t)) refl (last_on t)

-- ---- what the source gives

module _ (s : Source) (m count : ℕ) (written : ℕ → ℕ → Bool) (word : ℕ → ℕ → ℕ) (known : m < count)
    (takes_is : (t n : ℕ) → n < count → takes s (on_bus (word t n)) ≡ (n == m)) where
  abbrev sent : ℕ → ℕ → List BusWord
  sent = sent_words written word count

  -- a further word, which isn't the source's
  pass_other : (t n : ℕ) (o : Option ℕ) → n < count → (n ≡ m → ⊥) → last_taken s (sent t n) ≡ o → last_taken s (sent t (suc n)) ≡ o
  pass_other t n o within other before =
      ap (last_taken s) (sent-next written word count t n)
      ∙ (elim (written t n) as (λ b. last_taken s (sent t n ++ cond b (on_bus (word t n) ∷ []) []) ≡ o) [
        | true ↦
            taken_push s (sent t n) (on_bus (word t n))
            ∙ ap (λ b. option_or (cond b (Some (word t n)) None) (last_taken s (sent t n))) (takes_is t n within ∙ ne_eqb n m other)
            ∙ before
        | false ↦ ap (last_taken s) (append-nil (sent t n)) ∙ before
      ])

  taken_none : (t n : ℕ) → n ≤ m → last_taken s (sent t n) ≡ None
  unfolding last_taken sent_words below
  taken_none t zero within = refl
  taken_none t (suc n) within = pass_other t n None (omega arith) (λ h. omega arith) (taken_none t n (omega arith))

  taken_own : (t : ℕ) → last_taken s (sent t (suc m)) ≡ cond (written t m) (Some (word t m)) None
  taken_own t =
      ap (last_taken s) (sent-next written word count t m)
      ∙ (elim (written t m) as (λ b. last_taken s (sent t m ++ cond b (on_bus (word t m) ∷ []) []) ≡ cond b (Some (word t m)) None) [
        | true ↦
            taken_push s (sent t m) (on_bus (word t m))
            ∙ ap (λ b. option_or (cond b (Some (word t m)) None) (last_taken s (sent t m))) (takes_is t m known ∙ eq-eqb m m refl)
        | false ↦ ap (last_taken s) (append-nil (sent t m)) ∙ taken_none t m (omega arith)
      ])

  taken_from : (t n : ℕ) → m < n → n ≤ count → last_taken s (sent t n) ≡ cond (written t m) (Some (word t m)) None
  taken_from t zero after within = absurd (omega arith)
  taken_from t (suc n) after within =
      elim (cases_eq n m) [
        | inl here ↦ ap (λ k. last_taken s (sent t (suc k))) here ∙ taken_own t
        | inr other ↦ pass_other t n (cond (written t m) (Some (word t m)) None) (omega arith) other (taken_from t n (omega arith) (omega arith))
      ]

  abbrev coming : ℕ → List BusWord
  coming t = sent t count

  arrives_is : (t : ℕ) → arrives s coming t ≡ written t m
  arrives_is t =
      any_taken s (coming t) ∙ ap is_some (taken_from t count known (omega arith)) ∙ some_cond (written t m) (word t m)

  module _ (due : (t : ℕ) → t % 100 ≡ 0 → written t m ≡ true) (kept : (t : ℕ) → written (suc t) m ≡ false → word (suc t) m ≡ word t m) where
    -- a source that forgives a hundred moments reads the word as it is at each Tick
    pub source_gives : (stale t : ℕ) → 100 ≤ stale → source_value Disc stale s coming t ≡ discrete s.bit (word t m)
    unfolding source_value is_fresh word_of reading
    source_gives stale t long =
        let found = last_on (λ k. written k m) (λ k. word k m) due kept t in
        let is : last (arrives s coming) t ≡ Some found.at = last-below (arrives s coming) (λ k. written k m) t (λ i h. arrives_is i) ∙ found.is in
        let fresh : once_within stale (arrives s coming) t ≡ true =
        once_within-last stale (arrives s coming) t
        ∙ ap (λ o. option_map_or (λ j. ltb t (j + stale + 1)) o false) is
        ∙ lt-ltb t (found.at + stale + 1) (omega (arith, found.lately)) in
        let given : option_and_then (λ k. last_taken s (coming k)) (last (arrives s coming) t) ≡ Some (word t m) =
        ap (option_and_then (λ k. last_taken s (coming k))) is
        ∙ taken_from found.at count known (omega arith)
        ∙ ap (λ b. cond b (Some (word found.at m)) None) found.was_on
        ∙ ap Some found.same in
        ap (λ b. cond b (option_and_then (λ w. discrete s.bit w) (option_and_then (λ k. last_taken s (coming k)) (last (arrives s coming) t))) None) fresh
        ∙ ap (option_and_then (λ w. discrete s.bit w)) given
