-- Equal truth of what a condition names gives it equal truth.
use Rattle.std.proofs.Common.{◌≡◌, ℕ, ◌≤◌, not, ◌&&◌, ◌∷◌, refl, ap, ◌∙◌, arith}
use Rattle.std.specs.Prelude.{pos, is_some, nat_le, count_by}
use Rattle.std.specs.List.{list_any, list_all}
use Rattle.std.specs.Ordering.{int_eq}
use Rattle.ecam_spec.specs.Book.{Tree, Trees, constant, discrete, valid, compared, in_phase, alert, press, computer, negation, all, any, at_least, confirmed, held, risen, latched, none, more}
use Rattle.ecam_spec.specs.Term.{World, holds, truths, is_so, stands, in_set}
use Rattle.ecam_spec.specs.TermNames.{AgreeOn, AgreeOnAll}
use Rattle.ecam_spec.proofs.PastAgree.{historically_within-below, once_within-below, rise-below, since-below}

mutual
  unfolding AgreeOn holds

  pub holds-below : (v w : World) (c : Tree) (k : ℕ) → ((i : ℕ) → i ≤ k → AgreeOn v w i c) → holds v c k ≡ holds w c k
  holds-below v w (constant b) k same = refl
  holds-below v w (discrete p) k same = ap (is_so (int_eq (pos 1))) (same k (omega arith))
  holds-below v w (valid p) k same = ap is_some (same k (omega arith))
  holds-below v w (compared p op x) k same = ap (is_so (λ z. stands op z x)) (same k (omega arith))
  holds-below v w (in_phase set) k same = ap (in_set set) (same k (omega arith))
  holds-below v w (alert a) k same = same k (omega arith)
  holds-below v w (press key) k same = same k (omega arith)
  holds-below v w (computer n) k same = same k (omega arith)
  holds-below v w (negation c) k same = ap not (holds-below v w c k same)
  holds-below v w (all cs) k same = ap (list_all (λ b. b)) (truths-below v w cs k same)
  holds-below v w (any cs) k same = ap (list_any (λ b. b)) (truths-below v w cs k same)
  holds-below v w (at_least n cs) k same = ap (λ bs. nat_le n (count_by (λ b. b) bs)) (truths-below v w cs k same)
  holds-below v w (confirmed c n) k same =
      historically_within-below n (holds v c) (holds w c) k (λ i h. holds-below v w c i (λ j below. same j (omega arith)))
  holds-below v w (held c n) k same = once_within-below n (holds v c) (holds w c) k (λ i h. holds-below v w c i (λ j below. same j (omega arith)))
  holds-below v w (risen c) k same = rise-below (holds v c) (holds w c) k (λ i h. holds-below v w c i (λ j below. same j (omega arith)))
  holds-below v w (latched s r) k same =
      let set : (i : ℕ) → i ≤ k → holds v s i ≡ holds w s i = λ i h. holds-below v w s i (λ j below. (same j (omega arith)).0) in
      let reset : (i : ℕ) → i ≤ k → holds v r i ≡ holds w r i = λ i h. holds-below v w r i (λ j below. (same j (omega arith)).1) in
      since-below (λ i. holds v s i && not (holds v r i)) (λ i. holds w s i && not (holds w r i)) (λ i. not (holds v r i)) (λ i. not (holds w r i)) k
      (λ i h. ap (λ b. b && not (holds v r i)) (set i h) ∙ ap (λ b. holds w s i && not b) (reset i h))
      (λ i h. ap not (reset i h))

  pub truths-below : (v w : World) (cs : Trees) (k : ℕ) → ((i : ℕ) → i ≤ k → AgreeOnAll v w i cs) → truths v cs k ≡ truths w cs k
  truths-below v w none k same = refl
  truths-below v w (more c cs) k same =
      ap (λ b. b ∷ truths v cs k) (holds-below v w c k (λ i h. (same i h).0))
      ∙ ap (λ bs. holds w c k ∷ bs) (truths-below v w cs k (λ i h. (same i h).1))
