-- A condition is due when the first of its temporal nodes is due by its own.
use Rattle.std.proofs.Common.{◌≡◌, ℕ, suc, ◌+◌, ◌-◌, ◌<◌, ◌≤◌, ◌^◌, min, true, List, refl, sym, ◌∙◌, ap, subst, arith}
use Rattle.std.specs.Prelude.{slice_index}
use Rattle.ecam_spec.specs.Past.{last, start_of}
use Rattle.ecam_spec.proofs.PastAgree.{start_of-below, last-below}
use Rattle.ecam_spec.specs.Book.{Tree, Trees, constant, discrete, valid, compared, in_phase, alert, press, computer, negation, all, any, at_least, confirmed, held, risen, latched, none, more}
use Rattle.ecam_spec.specs.Term.{World, holds}
use Rattle.ecam_spec.specs.TermSize.{slots, slots_of, children}
use Rattle.term_eval.specs.CellWords.{never, end_of}
use Rattle.term_eval.specs.Due.{staying, IsDue}
use Rattle.term_eval.specs.OwnDue.{own_due, confirmed_due, held_due, risen_due}
use Rattle.term_eval.specs.Settles.{Settles, SettlesAll}
use Rattle.term_eval.specs.Code.{IsShort, AreShort}
use Rattle.term_eval.specs.NodeState.{first_wake}
use Rattle.term_eval.specs.Parts.{Part, Heads, is_temporal}
use Rattle.term_eval.proofs.FirstWake.{first-most, first-splits, first-before}
use Rattle.term_eval.proofs.Inside.{inside}
use Rattle.term_eval.proofs.PartLaws.{for-tree, slots-within}
use Rattle.term_eval.proofs.Short.{shorts}
use Rattle.term_eval.proofs.Below.{Each, EachOf, own, inner, front, rest, whole}
use Rattle.term_eval.proofs.Settling.{settles-none, settles-more}
use Rattle.term_eval.proofs.SettlingKinds.{settles-kind}
use Rattle.term_eval.proofs.Staying.{holds-staying, still-staying}

slots-some : (c : Tree) → is_temporal c ≡ true → 1 ≤ slots c
unfolding slots is_temporal
slots-some (constant b) temporal = absurd (let w : ⊥ = cc in w)
slots-some (discrete x) temporal = absurd (let w : ⊥ = cc in w)
slots-some (valid x) temporal = absurd (let w : ⊥ = cc in w)
slots-some (compared x op n) temporal = absurd (let w : ⊥ = cc in w)
slots-some (in_phase set) temporal = absurd (let w : ⊥ = cc in w)
slots-some (alert a) temporal = absurd (let w : ⊥ = cc in w)
slots-some (press key) temporal = absurd (let w : ⊥ = cc in w)
slots-some (computer n) temporal = absurd (let w : ⊥ = cc in w)
slots-some (negation c) temporal = absurd (let w : ⊥ = cc in w)
slots-some (all cs) temporal = absurd (let w : ⊥ = cc in w)
slots-some (any cs) temporal = absurd (let w : ⊥ = cc in w)
slots-some (at_least n cs) temporal = absurd (let w : ⊥ = cc in w)
slots-some (confirmed c n) temporal = omega arith
slots-some (held c n) temporal = omega arith
slots-some (risen c) temporal = omega arith
slots-some (latched s r) temporal = omega arith

-- where the first comes later than a moment each does
pub wakes-later : (k : ℕ) (c : Tree) (at : ℕ) (wakes : List ℕ) → k < first_wake wakes at (slots c) →
    (i : ℕ) (x : Part) → Heads c at i x → is_temporal x.tree ≡ true → k < slice_index wakes x.at
wakes-later k c at wakes later i x heads temporal =
    let within = slots-within at 0 c i x heads in
    let some = slots-some x.tree temporal in
    let there : at + (x.at - at) ≡ x.at = omega (arith, within.0) in
    let before = first-before wakes at (slots c) (x.at - at) (omega (arith, within.0, within.1, some)) in
    subst (λ s. k < slice_index wakes s) there (omega (arith, later, before))

-- ---- own due moments in the world that stays

due-staying : (w : World) (k : ℕ) (c : Tree) → own_due (staying w k) c k ≡ own_due w c k
unfolding own_due holds
due-staying w k (constant b) = refl
due-staying w k (discrete x) = refl
due-staying w k (valid x) = refl
due-staying w k (compared x op n) = refl
due-staying w k (in_phase set) = refl
due-staying w k (alert a) = refl
due-staying w k (press key) = refl
due-staying w k (computer n) = refl
due-staying w k (negation c) = refl
due-staying w k (all cs) = refl
due-staying w k (any cs) = refl
due-staying w k (at_least n cs) = refl
due-staying w k (latched s r) = refl
due-staying w k (confirmed c n) =
    ap (λ b. confirmed_due b (min (start_of (holds (staying w k) c) k + n) never) k) (holds-staying w k c k (omega arith))
    ∙ ap (λ s. confirmed_due (holds w c k) (min (s + n) never) k) (start_of-below (holds (staying w k) c) (holds w c) k (holds-staying w k c))
due-staying w k (held c n) =
    ap (λ b. held_due b (end_of (last (holds (staying w k) c) k) n) k) (holds-staying w k c k (omega arith))
    ∙ ap (λ l. held_due (holds w c k) (end_of l n) k) (last-below (holds (staying w k) c) (holds w c) k (holds-staying w k c))
due-staying w k (risen c) = ap (λ b. risen_due b k) (holds-staying w k (risen c) k (omega arith))

-- ---- the whole

-- a temporal part wakes in its own due moment
abbrev OwnWake : World → ℕ → List ℕ → ℕ → Part → Type 0
OwnWake w k wakes i x = is_temporal x.tree ≡ true → slice_index wakes x.at ≡ own_due w x.tree k

-- the first wake of a condition is its node's own due moment, or one of those of its children
abbrev FirstBy : ℕ → List ℕ → ℕ → Tree → Type 0
FirstBy due wakes at c = min due (first_wake wakes (inside at c) (slots_of (children c))) ≡ first_wake wakes at (slots c)

first-untimed : (wakes : List ℕ) (at n : ℕ) → min never (first_wake wakes at n) ≡ first_wake wakes at n
first-untimed wakes at n = omega (arith, first-most wakes at n)

first-timed : (wakes : List ℕ) (at due n m : ℕ) → slice_index wakes at ≡ due → m ≡ suc n → min due (first_wake wakes (at + 1) n) ≡ first_wake wakes at m
unfolding first_wake
first-timed wakes at due n m is long = ap (λ d. min d (first_wake wakes (at + 1) n)) (sym is) ∙ ap (first_wake wakes at) (sym long)

first-by : (w : World) (k : ℕ) (wakes : List ℕ) (at up p : ℕ) (c : Tree) → Each (OwnWake w k wakes) at up c p → FirstBy (own_due (staying w k) c k) wakes at c
unfolding own_due slots children is_temporal
first-by w k wakes at up p (constant b) each = first-untimed wakes at 0
first-by w k wakes at up p (discrete x) each = first-untimed wakes at 0
first-by w k wakes at up p (valid x) each = first-untimed wakes at 0
first-by w k wakes at up p (compared x op n) each = first-untimed wakes at 0
first-by w k wakes at up p (in_phase set) each = first-untimed wakes at 0
first-by w k wakes at up p (alert a) each = first-untimed wakes at 0
first-by w k wakes at up p (press key) each = first-untimed wakes at 0
first-by w k wakes at up p (computer n) each = first-untimed wakes at 0
first-by w k wakes at up p (negation c) each = let e : slots c + 0 ≡ slots c = omega arith in first-untimed wakes at (slots c + 0) ∙ ap (first_wake wakes at) e
first-by w k wakes at up p (all cs) each = first-untimed wakes at (slots_of cs)
first-by w k wakes at up p (any cs) each = first-untimed wakes at (slots_of cs)
first-by w k wakes at up p (at_least n cs) each = first-untimed wakes at (slots_of cs)
first-by w k wakes at up p (confirmed c n) each =
    first-timed wakes at _ (slots c + 0) (slots c + 1) (own (OwnWake w k wakes) at up (confirmed c n) p each refl ∙ sym (due-staying w k (confirmed c n))) (omega arith)
first-by w k wakes at up p (held c n) each =
    first-timed wakes at _ (slots c + 0) (slots c + 1) (own (OwnWake w k wakes) at up (held c n) p each refl ∙ sym (due-staying w k (held c n))) (omega arith)
first-by w k wakes at up p (risen c) each =
    first-timed wakes at _ (slots c + 0) (slots c + 1) (own (OwnWake w k wakes) at up (risen c) p each refl ∙ sym (due-staying w k (risen c))) (omega arith)
first-by w k wakes at up p (latched s r) each =
    first-timed wakes at _ (slots s + (slots r + 0)) (slots s + slots r + 1) (own (OwnWake w k wakes) at up (latched s r) p each refl ∙ sym (due-staying w k (latched s r))) (omega arith)

module _ (w : World) (k : ℕ) (wakes : List ℕ) (small : k < 2 ^ 63) where
  Due : Tree → Type 0
  Due c = (at up p : ℕ) → IsShort c → Each (OwnWake w k wakes) at up c p → Settles (staying w k) c k (first_wake wakes at (slots c))

  DueAll : Trees → Type 0
  DueAll cs = (at up p : ℕ) → AreShort cs → EachOf (OwnWake w k wakes) at up cs p → SettlesAll (staying w k) cs k (first_wake wakes at (slots_of cs))

  due-node : (c : Tree) → DueAll (children c) → Due c
  unfolding Due DueAll
  due-node c below at up p short each =
      subst (Settles (staying w k) c k) (first-by w k wakes at up p c each)
      (settles-kind (staying w k) k c (first_wake wakes (inside at c) (slots_of (children c))) small short (still-staying w k)
      (below (inside at c) 1 (p + 1) (shorts c short) (inner (OwnWake w k wakes) at up c p each)))

  due-none : DueAll none
  unfolding DueAll first_wake slots
  due-none at up p short each = settles-none (staying w k) k

  due-more : (c : Tree) (cs : Trees) → Due c → DueAll cs → DueAll (more c cs)
  unfolding Due DueAll slots IsShort
  due-more c cs one others at up p short each =
      subst (SettlesAll (staying w k) (more c cs) k) (sym (first-splits wakes at (slots c) (slots_of cs)))
      (settles-more (staying w k) c cs k _ _
      (one at up p short.0 (front (OwnWake w k wakes) at up c cs p each))
      (others (at + slots c) (up + _) (p + _) short.1 (rest (OwnWake w k wakes) at up c cs p each)))

  settles : (c : Tree) → Due c
  settles = for-tree Due DueAll due-node due-none due-more

pub due-of : (w : World) (k : ℕ) (c : Tree) (at : ℕ) (wakes : List ℕ) → k < 2 ^ 63 → IsShort c →
    ((i : ℕ) (x : Part) → Heads c at i x → is_temporal x.tree ≡ true → slice_index wakes x.at ≡ own_due w x.tree k) →
    IsDue (staying w k) c k (first_wake wakes at (slots c))
unfolding Due
due-of w k c at wakes small short each =
    let s = settles w k wakes small c at 0 0 short (whole (OwnWake w k wakes) c at each) in
    record { quiet = s.quiet; comes = s.comes }
