-- How a node settles from its own due moment and those of its children, kind by kind, in a world that is still.
use Rattle.std.proofs.Common.{◌≡◌, ℕ, ◌<◌, ◌^◌, min, Bool, true, false, ◌||◌, List, [], ◌∷◌, inl, inr, refl, sym, ◌∙◌, ap, arith}
use Rattle.std.specs.Prelude.{pos, is_some}
use Rattle.std.specs.Ordering.{int_eq}
use Rattle.ecam_spec.specs.Book.{Tree, constant, discrete, valid, compared, in_phase, alert, press, computer, negation, all, any, at_least, confirmed, held, risen, latched, none, more}
use Rattle.ecam_spec.specs.Term.{World, holds, in_set, is_so, stands}
use Rattle.ecam_spec.specs.TermSize.{children}
use Rattle.term_eval.specs.CellWords.{never}
use Rattle.term_eval.specs.Woken.{turns}
use Rattle.term_eval.specs.Settles.{Still, Settles, SettlesAll}
use Rattle.term_eval.specs.OwnDue.{own_due}
use Rattle.term_eval.specs.Code.{IsShort}
use Rattle.term_eval.proofs.Alone.{alone-confirmed, alone-held, alone-risen}
use Rattle.term_eval.proofs.Settling.{before-earlier, due-bound, settles-atom, settles-node, settles-negation, settles-all, settles-any, settles-at_least, latch-stays}

abbrev first_of : List Bool → Bool
first_of [] = false
first_of (b ∷ bs) = b

abbrev second_of : List Bool → Bool
second_of [] = false
second_of (b ∷ bs) = first_of bs

or-none : (b : Bool) → (b || false) ≡ b
or-none true = refl
or-none false = refl

settles-one : (w : World) (c : Tree) (k due : ℕ) → SettlesAll w (more c none) k due → Settles w c k due
unfolding holds turns
settles-one w c k due s = record {
  steady = λ m within before. ap first_of (s.steady m within before);
  quiet = λ m later before. sym (or-none (turns w c m)) ∙ s.quiet m later before;
  comes = elim s.comes [ inl e ↦ inl e | inr (later, early, t) ↦ inr (later, early, sym (or-none (turns w c due)) ∙ t) ];
}

settles-two : (w : World) (s r : Tree) (k due : ℕ) → SettlesAll w (more s (more r none)) k due → Settles w (latched s r) k due
unfolding holds turns
settles-two w s r k due both = record {
  steady = λ m within before.
      latch-stays (holds w s) (holds w r) k m within
      (λ i low high. ap first_of (both.steady i low (before-earlier i m due high before)))
      (λ i low high. ap second_of (both.steady i low (before-earlier i m due high before)));
  quiet = λ m later before. ap (λ b. turns w s m || b) (sym (or-none (turns w r m))) ∙ both.quiet m later before;
  comes = elim both.comes [ inl e ↦ inl e | inr (later, early, t) ↦ inr (later, early, ap (λ b. turns w s due || b) (sym (or-none (turns w r due))) ∙ t) ];
}

nothing : (w : World) (k due : ℕ) → SettlesAll w none k due → due ≡ never
unfolding turns
nothing w k due s = elim s.comes [ inl e ↦ e | inr (later, early, t) ↦ absurd (let z : ⊥ = cc in z) ]

-- what never turns by itself settles as what stands below it does
resting : (w : World) (c : Tree) (k due : ℕ) → Settles w c k due → Settles w c k (min never due)
resting w c k due s = let most = due-bound w c k due s in let e : min never due ≡ due = omega arith in rw e s

alone : (w : World) (c : Tree) (k due : ℕ) → SettlesAll w none k due → Settles w c k never → Settles w c k (min never due)
alone w c k due rest s = let e : min never due ≡ never = let d = nothing w k due rest in omega arith in rw e s

pub settles-kind : (w : World) (k : ℕ) (c : Tree) (inner : ℕ) → k < 2 ^ 63 → IsShort c → Still w k → SettlesAll w (children c) k inner → Settles w c k (min (own_due w c k) inner)
unfolding IsShort children own_due holds turns
settles-kind w k (constant b) inner small short still below = alone w (constant b) k inner below (settles-atom w (constant b) k (λ m later. refl) (λ m. refl))
settles-kind w k (discrete x) inner small short still below =
    alone w (discrete x) k inner below (settles-atom w (discrete x) k (λ m later. ap (is_so (int_eq (pos 1))) (still.values x m later)) (λ m. refl))
settles-kind w k (valid x) inner small short still below = alone w (valid x) k inner below (settles-atom w (valid x) k (λ m later. ap is_some (still.values x m later)) (λ m. refl))
settles-kind w k (compared x op n) inner small short still below =
    alone w (compared x op n) k inner below (settles-atom w (compared x op n) k (λ m later. ap (is_so (λ z. stands op z n)) (still.values x m later)) (λ m. refl))
settles-kind w k (in_phase set) inner small short still below = alone w (in_phase set) k inner below (settles-atom w (in_phase set) k (λ m later. ap (in_set set) (still.phase m later)) (λ m. refl))
settles-kind w k (alert a) inner small short still below = alone w (alert a) k inner below (settles-atom w (alert a) k (λ m later. still.active a m later) (λ m. refl))
settles-kind w k (press key) inner small short still below = alone w (press key) k inner below (settles-atom w (press key) k (λ m later. still.pressed key m later) (λ m. refl))
settles-kind w k (computer n) inner small short still below = alone w (computer n) k inner below (settles-atom w (computer n) k (λ m later. still.up n m later) (λ m. refl))
settles-kind w k (negation c) inner small short still below = resting w (negation c) k inner (settles-negation w c k inner (settles-one w c k inner below))
settles-kind w k (all cs) inner small short still below = resting w (all cs) k inner (settles-all w cs k inner below)
settles-kind w k (any cs) inner small short still below = resting w (any cs) k inner (settles-any w cs k inner below)
settles-kind w k (at_least n cs) inner small short still below = resting w (at_least n cs) k inner (settles-at_least w n cs k inner below)
settles-kind w k (confirmed c n) inner small short still below =
    settles-node w c (confirmed c n) k _ inner (alone-confirmed n (holds w c) k small short.0) (λ m. refl) (settles-one w c k inner below)
settles-kind w k (held c n) inner small short still below = settles-node w c (held c n) k _ inner (alone-held n (holds w c) k small short.0) (λ m. refl) (settles-one w c k inner below)
settles-kind w k (risen c) inner small short still below = settles-node w c (risen c) k _ inner (alone-risen (holds w c) k small) (λ m. refl) (settles-one w c k inner below)
settles-kind w k (latched s r) inner small short still below = resting w (latched s r) k inner (settles-two w s r k inner below)
