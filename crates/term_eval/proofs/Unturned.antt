-- A temporal node in one moment more, where what stands right below it keeps its truth and the node isn't due: it is as it
-- was, and so is its cell.
use Rattle.std.proofs.Common.{◌≡◌, ℕ, suc, ◌+◌, ◌<◌, ◌^◌, min, Bool, true, false, not, ◌&&◌, Some, inl, inr, cond, leb, ltb, refl, sym, ◌∙◌, ap, arith}
use Rattle.std.proofs.lemmas.Bool.{cases_lt, lt-ltb, le-ltb, lt-leb, le-leb}
use Rattle.ecam_spec.specs.Past.{Signal, last, start_of, rise, previous}
use Rattle.ecam_spec.proofs.PastSteps.{start_of-on, last-suc, rise-suc}
use Rattle.ecam_spec.proofs.PastMoments.{since-rest}
use Rattle.ecam_spec.specs.Book.{Tree, confirmed, held, risen, latched}
use Rattle.ecam_spec.specs.Term.{World, holds, latch}
use Rattle.term_eval.specs.declared.memory.Cell.TheVariants.{Off, On, At}
use Rattle.term_eval.specs.CellWords.{never, end_of, stretch, lasted, on_if, at_last}
use Rattle.term_eval.specs.OwnDue.{own_due, confirmed_due, held_due, risen_due}
use Rattle.term_eval.proofs.Stays.{Stays}
use Rattle.term_eval.proofs.Alone.{no-rise, alone-confirmed, alone-held, alone-risen}

-- the node holds where it held in the moment before, and is due when it was
pub record Unturned (w : World) (h : ℕ) (c : Tree) : Type 0 where
  pub truth : holds w c (suc h) ≡ holds w c h
  pub due : own_due w c (suc h) ≡ own_due w c h

-- ---- signals that stay for one moment more

pub stays-one : (p : Signal) (h : ℕ) → p (suc h) ≡ p h → Stays p h (suc h)
stays-one p h same i low high = elim (cases_lt h i) [
  | inl after ↦ let e : i ≡ suc h = omega arith in ap p e ∙ same
  | inr now ↦ let e : i ≡ h = omega arith in ap p e
]

-- what the cells of temporal nodes keep of them
pub stretch-stays : (p : Signal) (h : ℕ) → p (suc h) ≡ p h → stretch p (suc (suc h)) ≡ stretch p (suc h)
unfolding stretch
stretch-stays p h same = by (p h) refl where
  by : (b : Bool) → p h ≡ b → cond (p (suc h)) (At (start_of p (suc h))) Off ≡ cond b (At (start_of p h)) Off
  by true on = ap (λ b. cond b (At (start_of p (suc h))) Off) (same ∙ on) ∙ ap At (start_of-on p h (same ∙ on))
  by false off = ap (λ b. cond b (At (start_of p (suc h))) Off) (same ∙ off)

pub lasted-stays : (p : Signal) (h : ℕ) → p (suc h) ≡ p h → lasted p (suc (suc h)) ≡ lasted p (suc h)
unfolding lasted
lasted-stays p h same = by (p h) refl where
  by : (b : Bool) → p h ≡ b → cond (p (suc h)) On (at_last (last p (suc h))) ≡ cond b On (at_last (last p h))
  by true on = ap (λ b. cond b On (at_last (last p (suc h)))) (same ∙ on)
  by false off =
      ap (λ b. cond b On (at_last (last p (suc h)))) (same ∙ off)
      ∙ ap at_last (last-suc p h ∙ ap (λ b. cond b (Some (suc h)) (last p h)) (same ∙ off))

pub on-stays : (p : Signal) (h : ℕ) → p (suc h) ≡ p h → on_if (previous p (suc (suc h))) ≡ on_if (previous p (suc h))
unfolding previous
on-stays p h same = ap on_if same

pub latch-rests : (s r : Signal) (h : ℕ) → s (suc h) ≡ s h → r (suc h) ≡ r h → latch s r (suc h) ≡ latch s r h
latch-rests s r h set reset =
    since-rest (λ i. s i && not (r i)) (λ i. not (r i)) h
    (ap (λ b. b && not (r (suc h))) set ∙ ap (λ b. s h && not b) reset) (ap not reset)

pub latched-stays : (s r : Signal) (h : ℕ) → s (suc h) ≡ s h → r (suc h) ≡ r h → on_if (previous (latch s r) (suc (suc h))) ≡ on_if (previous (latch s r) (suc h))
latched-stays s r h set reset = on-stays (latch s r) h (latch-rests s r h set reset)

-- ---- nodes that count moments

confirmed-due : (p : Signal) (n h : ℕ) → p (suc h) ≡ p h → suc h < confirmed_due (p h) (min (start_of p h + n) never) h →
    confirmed_due (p (suc h)) (min (start_of p (suc h) + n) never) (suc h) ≡ confirmed_due (p h) (min (start_of p h + n) never) h
confirmed-due p n h same = by (p h) refl where
  full : (m : ℕ) → suc h < cond (leb m h) never m → cond (leb m (suc h)) never m ≡ cond (leb m h) never m
  full m soon = elim (cases_lt h m) [
    | inl later ↦
        let after : suc h < m = rw (lt-leb m h later) at soon in
        ap (λ b. cond b never m) (lt-leb m (suc h) after ∙ sym (lt-leb m h later))
    | inr passed ↦ ap (λ b. cond b never m) (le-leb m (suc h) (omega arith) ∙ sym (le-leb m h passed))
  ]

  by : (b : Bool) → p h ≡ b → suc h < confirmed_due b (min (start_of p h + n) never) h →
      confirmed_due (p (suc h)) (min (start_of p (suc h) + n) never) (suc h) ≡ confirmed_due b (min (start_of p h + n) never) h
  by true on soon =
      ap (λ b. confirmed_due b (min (start_of p (suc h) + n) never) (suc h)) (same ∙ on)
      ∙ ap (λ s. confirmed_due true (min (s + n) never) (suc h)) (start_of-on p h (same ∙ on))
      ∙ full (min (start_of p h + n) never) soon
  by false off soon = ap (λ b. confirmed_due b (min (start_of p (suc h) + n) never) (suc h)) (same ∙ off)

pub unturned-confirmed : (w : World) (h : ℕ) (c : Tree) (n : ℕ) → suc h < 2 ^ 63 → n < 2 ^ 32 → holds w c (suc h) ≡ holds w c h →
    suc h < own_due w (confirmed c n) h → Unturned w h (confirmed c n)
unfolding holds own_due
unturned-confirmed w h c n small few same soon = record {
  truth = (alone-confirmed n (holds w c) h (omega arith) few).steady (suc h) (omega arith) (inl soon) (stays-one (holds w c) h same);
  due = confirmed-due (holds w c) n h same soon;
}

held-due : (p : Signal) (n h : ℕ) → p (suc h) ≡ p h → suc h < held_due (p h) (end_of (last p h) n) h →
    held_due (p (suc h)) (end_of (last p (suc h)) n) (suc h) ≡ held_due (p h) (end_of (last p h) n) h
held-due p n h same = by (p h) refl where
  ended : (m : ℕ) → suc h < cond (ltb h m) m never → cond (ltb (suc h) m) m never ≡ cond (ltb h m) m never
  ended m soon = elim (cases_lt h m) [
    | inl later ↦
        let after : suc h < m = rw (lt-ltb h m later) at soon in
        ap (λ b. cond b m never) (lt-ltb (suc h) m after ∙ sym (lt-ltb h m later))
    | inr passed ↦ ap (λ b. cond b m never) (le-ltb (suc h) m (omega arith) ∙ sym (le-ltb h m passed))
  ]

  by : (b : Bool) → p h ≡ b → suc h < held_due b (end_of (last p h) n) h →
      held_due (p (suc h)) (end_of (last p (suc h)) n) (suc h) ≡ held_due b (end_of (last p h) n) h
  by true on soon = ap (λ b. held_due b (end_of (last p (suc h)) n) (suc h)) (same ∙ on)
  by false off soon =
      ap (λ b. held_due b (end_of (last p (suc h)) n) (suc h)) (same ∙ off)
      ∙ ap (λ l. held_due false (end_of l n) (suc h)) (last-suc p h ∙ ap (λ b. cond b (Some (suc h)) (last p h)) (same ∙ off))
      ∙ ended (end_of (last p h) n) soon

pub unturned-held : (w : World) (h : ℕ) (c : Tree) (n : ℕ) → suc h < 2 ^ 63 → n < 2 ^ 32 → holds w c (suc h) ≡ holds w c h →
    suc h < own_due w (held c n) h → Unturned w h (held c n)
unfolding holds own_due
unturned-held w h c n small few same soon = record {
  truth = (alone-held n (holds w c) h (omega arith) few).steady (suc h) (omega arith) (inl soon) (stays-one (holds w c) h same);
  due = held-due (holds w c) n h same soon;
}

risen-due : (p : Signal) (h : ℕ) → p (suc h) ≡ p h → suc h < risen_due (rise p h) h → risen_due (rise p (suc h)) (suc h) ≡ risen_due (rise p h) h
risen-due p h same = by (rise p h) refl where
  by : (b : Bool) → rise p h ≡ b → suc h < risen_due b h → risen_due (rise p (suc h)) (suc h) ≡ risen_due b h
  by true on soon = absurd (let w : ⊥ = omega arith in w)
  by false off soon = ap (λ b. risen_due b (suc h)) (rise-suc p h ∙ no-rise (p (suc h)) (p h) same)

pub unturned-risen : (w : World) (h : ℕ) (c : Tree) → suc h < 2 ^ 63 → holds w c (suc h) ≡ holds w c h →
    suc h < own_due w (risen c) h → Unturned w h (risen c)
unfolding holds own_due
unturned-risen w h c small same soon = record {
  truth = (alone-risen (holds w c) h (omega arith)).steady (suc h) (omega arith) (inl soon) (stays-one (holds w c) h same);
  due = risen-due (holds w c) h same soon;
}

pub unturned-latched : (w : World) (h : ℕ) (s r : Tree) → holds w s (suc h) ≡ holds w s h → holds w r (suc h) ≡ holds w r h → Unturned w h (latched s r)
unfolding holds own_due
unturned-latched w h s r set reset = record { truth = latch-rests (holds w s) (holds w r) h set reset; due = refl }
