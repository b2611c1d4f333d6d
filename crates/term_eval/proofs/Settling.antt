-- How a node settles, from its children: its own due moment and theirs, whichever comes first.
use Rattle.std.proofs.Common.{◌≡◌, ℕ, zero, suc, ◌-◌, ◌<◌, ◌≤◌, ◌⊎◌, min, Bool, true, false, not, ◌&&◌, ◌||◌, ◌∷◌, inl, inr, refl, sym, ◌∙◌, ap, arith}
use Rattle.std.proofs.Math.Nat.{le-suc_iff}
use Rattle.std.proofs.lemmas.Bool.{cases_lt}
use Rattle.std.specs.Prelude.{count_by, nat_le}
use Rattle.std.specs.List.{list_any, list_all}
use Rattle.std.proofs.Math.Bool.{or-true}
use Rattle.ecam_spec.specs.Past.{Signal}
use Rattle.ecam_spec.specs.Book.{Tree, Trees, negation, all, any, at_least, latched, none, more}
use Rattle.ecam_spec.specs.Term.{World, holds, truths, latch}
use Rattle.term_eval.specs.CellWords.{never}
use Rattle.term_eval.specs.Woken.{differ, turned, turns, turns_of}
use Rattle.term_eval.specs.Due.{Before}
use Rattle.term_eval.specs.Settles.{Settles, SettlesAll}
use Rattle.ecam_spec.proofs.PastMoments.{since-rest}
use Rattle.term_eval.proofs.Stays.{Stays}
use Rattle.term_eval.proofs.Alone.{Alone}

pub differ-same : (a b : Bool) → a ≡ b → differ a b ≡ false
differ-same true true e = refl
differ-same true false e = e
differ-same false b e = sym e

-- no due moment is later than never
abbrev Comes : ℕ → ℕ → Type 0
Comes k due = (due ≡ never) ⊎ ((k < due) × (due < never))

pub before-left : (m a b : ℕ) → a ≤ never → Before m (min a b) → Before m a
before-left m a b bound before = elim before [ inl h ↦ inl (omega arith) | inr e ↦ inr (omega arith) ]

pub before-right : (m a b : ℕ) → b ≤ never → Before m (min a b) → Before m b
before-right m a b bound before = elim before [ inl h ↦ inl (omega arith) | inr e ↦ inr (omega arith) ]

pub before-earlier : (i m due : ℕ) → i ≤ m → Before m due → Before i due
before-earlier i m due within before = elim before [ inl h ↦ inl (omega arith) | inr e ↦ inr e ]

pub due-bound : (w : World) (c : Tree) (k due : ℕ) → Settles w c k due → due ≤ never
due-bound w c k due s = elim s.comes [ inl e ↦ omega arith | inr (later, early, t) ↦ omega arith ]

pub due-bound-all : (w : World) (cs : Trees) (k due : ℕ) → SettlesAll w cs k due → due ≤ never
due-bound-all w cs k due s = elim s.comes [ inl e ↦ omega arith | inr (later, early, t) ↦ omega arith ]

own-bound : (p q : Signal) (k own : ℕ) → Alone p q k own → own ≤ never
own-bound p q k own a = elim a.comes [ inl e ↦ omega arith | inr (later, early, t) ↦ omega arith ]

-- an atom rests
pub settles-atom : (w : World) (c : Tree) (k : ℕ) → ((m : ℕ) → k ≤ m → holds w c m ≡ holds w c k) → ((m : ℕ) → turns w c m ≡ false) → Settles w c k never
settles-atom w c k steady quiet = record { steady = λ m within before. steady m within; quiet = λ m later before. quiet m; comes = inl refl }

-- a temporal node over one condition
pub settles-node : (w : World) (c node : Tree) (k own due : ℕ) → Alone (holds w c) (holds w node) k own →
    ((m : ℕ) → turns w node m ≡ (turned (holds w node) m || turns w c m)) → Settles w c k due → Settles w node k (min own due)
settles-node w c node k own due alone told inner = record { steady = steady; quiet = quiet; comes = comes } where
  ownmost : own ≤ never
  ownmost = own-bound (holds w c) (holds w node) k own alone

  duemost : due ≤ never
  duemost = due-bound w c k due inner

  stays : (m : ℕ) → k ≤ m → Before m due → Stays (holds w c) k m
  stays m within before i low high = inner.steady i low (before-earlier i m due high before)

  steady : (m : ℕ) → k ≤ m → Before m (min own due) → holds w node m ≡ holds w node k
  steady m within before = alone.steady m within (before-left m own due ownmost before) (stays m within (before-right m own due duemost before))

  quiet : (m : ℕ) → k < m → Before m (min own due) → turns w node m ≡ false
  quiet m later before =
      told m
      ∙ ap (λ b. b || turns w c m)
      (differ-same (holds w node m) (holds w node (m - 1))
      (steady m (omega arith) before ∙ sym (steady (m - 1) (omega arith) (before-earlier (m - 1) m (min own due) (omega arith) before))))
      ∙ inner.quiet m later (before-right m own due duemost before)

  by-own : (m : ℕ) → turned (holds w node) m ≡ true → turns w node m ≡ true
  by-own m h = told m ∙ ap (λ b. b || turns w c m) h

  by-inner : (m : ℕ) → turns w c m ≡ true → turns w node m ≡ true
  by-inner m h = told m ∙ ap (λ b. turned (holds w node) m || b) h ∙ or-true (turned (holds w node) m)

  comes : (min own due ≡ never) ⊎ ((k < min own due) × (min own due < never) × (turns w node (min own due) ≡ true))
  comes = elim alone.comes [
    | inl rests ↦ elim inner.comes [
      | inl also ↦ inl (omega arith)
      | inr (later, early, t) ↦ let e : min own due ≡ due = omega arith in rw e (inr (later, early, by-inner due t))
    ]
    | inr (after, soon, own_turns) ↦ elim (cases_lt own due) [
      | inl first ↦
          let e : min own due ≡ own = omega arith in
          rw e (inr (after, soon, by-own own (own_turns (stays own (omega arith) (inl first)))))
      | inr second ↦
          let e : min own due ≡ due = omega arith in
          elim inner.comes [
            | inl also ↦ absurd (let w : ⊥ = omega arith in w)
            | inr (later, early, t) ↦ rw e (inr (later, early, by-inner due t))
          ]
    ]
  ]

pub settles-negation : (w : World) (c : Tree) (k due : ℕ) → Settles w c k due → Settles w (negation c) k due
unfolding holds turns
settles-negation w c k due inner = record { steady = λ m within before. ap not (inner.steady m within before); quiet = inner.quiet; comes = inner.comes }

-- two things that settle side by side turn where the first of them does
beside : (k a b : ℕ) (s t both : ℕ → Bool) → ((m : ℕ) → both m ≡ (s m || t m)) → a ≤ never → b ≤ never →
    ((a ≡ never) ⊎ ((k < a) × (a < never) × (s a ≡ true))) → ((b ≡ never) ⊎ ((k < b) × (b < never) × (t b ≡ true))) →
    (min a b ≡ never) ⊎ ((k < min a b) × (min a b < never) × (both (min a b) ≡ true))
beside k a b s t both told amost bmost first second = elim first [
  | inl rests ↦ elim second [
    | inl also ↦ inl (omega arith)
    | inr (later, early, h) ↦
        let e : min a b ≡ b = omega arith in
        rw e (inr (later, early, told b ∙ ap (λ x. s b || x) h ∙ or-true (s b)))
  ]
  | inr (after, soon, g) ↦ elim (cases_lt b a) [
    | inr front ↦
        let e : min a b ≡ a = omega arith in
        rw e (inr (after, soon, told a ∙ ap (λ x. x || t a) g))
    | inl behind ↦
        let e : min a b ≡ b = omega arith in
        elim second [
          | inl also ↦ absurd (let w : ⊥ = omega arith in w)
          | inr (later, early, h) ↦ rw e (inr (later, early, told b ∙ ap (λ x. s b || x) h ∙ or-true (s b)))
        ]
  ]
]

pub latch-stays : (s r : Signal) (k m : ℕ) → k ≤ m → Stays s k m → Stays r k m → latch s r m ≡ latch s r k
latch-stays s r k zero within set reset = let e : k ≡ 0 = omega arith in rw e refl
latch-stays s r k (suc m) within set reset =
    elim (le-suc_iff.0 within) [
      | inl h ↦
          let same : s (suc m) ≡ s m = set (suc m) (omega arith) (omega arith) ∙ sym (set m h (omega arith)) in
          let also : r (suc m) ≡ r m = reset (suc m) (omega arith) (omega arith) ∙ sym (reset m h (omega arith)) in
          since-rest (λ i. s i && not (r i)) (λ i. not (r i)) m (ap (λ b. b && not (r (suc m))) same ∙ ap (λ b. s m && not b) also) (ap not also)
          ∙ latch-stays s r k m h (λ i low high. set i low (omega arith)) (λ i low high. reset i low (omega arith))
      | inr e ↦ rw e refl
    ]

pub settles-latched : (w : World) (s r : Tree) (k a b : ℕ) → Settles w s k a → Settles w r k b → Settles w (latched s r) k (min a b)
unfolding holds turns
settles-latched w s r k a b set reset =
    let amost = due-bound w s k a set in
    let bmost = due-bound w r k b reset in
    record {
      steady = λ m within before.
          latch-stays (holds w s) (holds w r) k m within
          (λ i low high. set.steady i low (before-earlier i m a high (before-left m a b amost before)))
          (λ i low high. reset.steady i low (before-earlier i m b high (before-right m a b bmost before)));
      quiet = λ m later before.
          ap (λ x. x || turns w r m) (set.quiet m later (before-left m a b amost before)) ∙ reset.quiet m later (before-right m a b bmost before);
      comes = beside k a b (turns w s) (turns w r) (turns w (latched s r)) (λ m. refl) amost bmost set.comes reset.comes;
    }

pub settles-none : (w : World) (k : ℕ) → SettlesAll w none k never
unfolding holds turns
settles-none w k = record { steady = λ m within before. refl; quiet = λ m later before. refl; comes = inl refl }

pub settles-more : (w : World) (c : Tree) (cs : Trees) (k a b : ℕ) → Settles w c k a → SettlesAll w cs k b → SettlesAll w (more c cs) k (min a b)
unfolding holds turns
settles-more w c cs k a b first rest =
    let amost = due-bound w c k a first in
    let bmost = due-bound-all w cs k b rest in
    record {
      steady = λ m within before.
          ap (λ x. x ∷ truths w cs m) (first.steady m within (before-left m a b amost before))
          ∙ ap (λ xs. holds w c k ∷ xs) (rest.steady m within (before-right m a b bmost before));
      quiet = λ m later before.
          ap (λ x. x || turns_of w cs m) (first.quiet m later (before-left m a b amost before)) ∙ rest.quiet m later (before-right m a b bmost before);
      comes = beside k a b (turns w c) (turns_of w cs) (turns_of w (more c cs)) (λ m. refl) amost bmost first.comes rest.comes;
    }

pub settles-all : (w : World) (cs : Trees) (k due : ℕ) → SettlesAll w cs k due → Settles w (all cs) k due
unfolding holds turns
settles-all w cs k due inner = record { steady = λ m within before. ap (list_all (λ b. b)) (inner.steady m within before); quiet = inner.quiet; comes = inner.comes }

pub settles-any : (w : World) (cs : Trees) (k due : ℕ) → SettlesAll w cs k due → Settles w (any cs) k due
unfolding holds turns
settles-any w cs k due inner = record { steady = λ m within before. ap (list_any (λ b. b)) (inner.steady m within before); quiet = inner.quiet; comes = inner.comes }

pub settles-at_least : (w : World) (n : ℕ) (cs : Trees) (k due : ℕ) → SettlesAll w cs k due → Settles w (at_least n cs) k due
unfolding holds turns
settles-at_least w n cs k due inner = record { steady = λ m within before. ap (λ bs. nat_le n (count_by (λ b. b) bs)) (inner.steady m within before); quiet = inner.quiet; comes = inner.comes }
