-- Signals that agree up to now agree in every word of past-time logic: what comes later has no bearing.
use Rattle.std.proofs.Common.{◌≡◌, ℕ, zero, suc, ◌+◌, ◌-◌, ◌<◌, ◌≤◌, true, not, ◌&&◌, ◌||◌, Some, None, cond, ltb, leb, refl, sym, ap, ◌∙◌, arith}
use Rattle.ecam_spec.specs.Past.{Signal, once_from, historically_from, once_within, historically_within, since, previous, rise, last, moment_after, start_of, count_up_to}
use Rattle.ecam_spec.proofs.PastSteps.{once-below, historically-below, last-zero, last-suc, count_up_to-zero, count_up_to-suc}

pub once_from-below : (j : ℕ) (p q : Signal) (k : ℕ) → ((i : ℕ) → i ≤ k → p i ≡ q i) → once_from j p k ≡ once_from j q k
unfolding once_from
once_from-below j p q k same = once-below (λ i. leb j i && p i) (λ i. leb j i && q i) k (λ i h. ap (λ b. leb j i && b) (same i h))

pub historically_from-below : (j : ℕ) (p q : Signal) (k : ℕ) → ((i : ℕ) → i ≤ k → p i ≡ q i) → historically_from j p k ≡ historically_from j q k
unfolding historically_from
historically_from-below j p q k same =
    historically-below (λ i. ltb i j || p i) (λ i. ltb i j || q i) k (λ i h. ap (λ b. ltb i j || b) (same i h))

pub once_within-below : (n : ℕ) (p q : Signal) (k : ℕ) → ((i : ℕ) → i ≤ k → p i ≡ q i) → once_within n p k ≡ once_within n q k
unfolding once_within
once_within-below n p q k same = once_from-below (k - n) p q k same

pub historically_within-below : (n : ℕ) (p q : Signal) (k : ℕ) → ((i : ℕ) → i ≤ k → p i ≡ q i) → historically_within n p k ≡ historically_within n q k
unfolding historically_within
historically_within-below n p q k same = ap (λ b. leb n k && b) (historically_from-below (k - n) p q k same)

pub rise-below : (p q : Signal) (k : ℕ) → ((i : ℕ) → i ≤ k → p i ≡ q i) → rise p k ≡ rise q k
unfolding rise previous
rise-below p q zero same = ap (λ b. b && true) (same 0 (omega arith))
rise-below p q (suc k) same = ap (λ b. b && not (p k)) (same (suc k) (omega arith)) ∙ ap (λ b. q (suc k) && not b) (same k (omega arith))

pub since-below : (p p' q q' : Signal) (k : ℕ) → ((i : ℕ) → i ≤ k → p i ≡ p' i) → ((i : ℕ) → i ≤ k → q i ≡ q' i) → since p q k ≡ since p' q' k
unfolding since
since-below p p' q q' k first rest =
    once-below (λ j. p j && historically_from (suc j) q k) (λ j. p' j && historically_from (suc j) q' k) k
    (λ j h. ap (λ b. b && historically_from (suc j) q k) (first j h) ∙ ap (λ b. p' j && b) (historically_from-below (suc j) q q' k rest))

pub previous-below : (p q : Signal) (k : ℕ) → ((i : ℕ) → i < k → p i ≡ q i) → previous p k ≡ previous q k
unfolding previous
previous-below p q zero same = refl
previous-below p q (suc k) same = same k (omega arith)

pub last-below : (p q : Signal) (k : ℕ) → ((i : ℕ) → i ≤ k → p i ≡ q i) → last p k ≡ last q k
last-below p q zero same = last-zero p ∙ ap (λ b. cond b (Some 0) None) (same 0 (omega arith)) ∙ sym (last-zero q)
last-below p q (suc k) same =
    last-suc p k
    ∙ ap (λ b. cond b (Some (suc k)) (last p k)) (same (suc k) (omega arith))
    ∙ ap (λ l. cond (q (suc k)) (Some (suc k)) l) (last-below p q k (λ i h. same i (omega arith)))
    ∙ sym (last-suc q k)

pub start_of-below : (p q : Signal) (k : ℕ) → ((i : ℕ) → i ≤ k → p i ≡ q i) → start_of p k ≡ start_of q k
unfolding start_of
start_of-below p q k same = ap moment_after (last-below (λ i. not (p i)) (λ i. not (q i)) k (λ i h. ap not (same i h)))

pub count_up_to-below : (p q : Signal) (k : ℕ) → ((i : ℕ) → i ≤ k → p i ≡ q i) → count_up_to p k ≡ count_up_to q k
count_up_to-below p q zero same = count_up_to-zero p ∙ ap (λ b. cond b 1 0) (same 0 (omega arith)) ∙ sym (count_up_to-zero q)
count_up_to-below p q (suc k) same =
    count_up_to-suc p k
    ∙ ap (λ b. cond b (count_up_to p k + 1) (count_up_to p k)) (same (suc k) (omega arith))
    ∙ ap (λ n. cond (q (suc k)) (n + 1) n) (count_up_to-below p q k (λ i h. same i (omega arith)))
    ∙ sym (count_up_to-suc q k)
