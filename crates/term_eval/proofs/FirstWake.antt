-- The first of the wakes of some slots that follow one another.
use Rattle.std.proofs.Common.{◌≡◌, ℕ, zero, suc, ◌+◌, ◌<◌, ◌≤◌, min, List, refl, sym, ◌∙◌, ap, arith}
use Rattle.std.specs.Prelude.{slice_index}
use Rattle.term_eval.specs.CellWords.{never}
use Rattle.term_eval.specs.NodeState.{first_wake}

-- it is a number of 64 bits
pub first-most : (wakes : List ℕ) (at n : ℕ) → first_wake wakes at n ≤ never
unfolding first_wake
first-most wakes at zero = omega arith
first-most wakes at (suc n) = omega (arith, first-most wakes (at + 1) n)

-- it is the first of those in the front and those behind them
pub first-splits : (wakes : List ℕ) (at m n : ℕ) → first_wake wakes at (m + n) ≡ min (first_wake wakes at m) (first_wake wakes (at + m) n)
unfolding first_wake
first-splits wakes at zero n =
    let none : 0 + n ≡ n = omega arith in
    let here : at + 0 ≡ at = omega arith in
    let e : first_wake wakes at n ≡ min never (first_wake wakes at n) = omega (arith, first-most wakes at n) in
    ap (first_wake wakes at) none ∙ e ∙ sym (ap (λ a. min never (first_wake wakes a n)) here)
first-splits wakes at (suc m) n =
    let more : suc m + n ≡ suc (m + n) = omega arith in
    let next : at + 1 + m ≡ at + suc m = omega arith in
    let e : min (slice_index wakes at) (min (first_wake wakes (at + 1) m) (first_wake wakes (at + 1 + m) n)) ≡
    min (min (slice_index wakes at) (first_wake wakes (at + 1) m)) (first_wake wakes (at + 1 + m) n) = omega arith in
    ap (first_wake wakes at) more
    ∙ ap (min (slice_index wakes at)) (first-splits wakes (at + 1) m n)
    ∙ e
    ∙ ap (λ a. min (min (slice_index wakes at) (first_wake wakes (at + 1) m)) (first_wake wakes a n)) next

-- none of them is before it
pub first-before : (wakes : List ℕ) (at n d : ℕ) → d < n → first_wake wakes at n ≤ slice_index wakes (at + d)
unfolding first_wake
first-before wakes at zero d within = absurd (let w : ⊥ = omega arith in w)
first-before wakes at (suc n) zero within = let here : at + 0 ≡ at = omega arith in rw here (omega arith)
first-before wakes at (suc n) (suc d) within =
    let there : at + suc d ≡ at + 1 + d = omega arith in
    rw there (omega (arith, first-before wakes (at + 1) n d (omega (arith, within))))

-- it rests on them alone
pub first-same : (old new : List ℕ) (at n : ℕ) → ((i : ℕ) → at ≤ i → slice_index new i ≡ slice_index old i) → first_wake new at n ≡ first_wake old at n
unfolding first_wake
first-same old new at zero same = refl
first-same old new at (suc n) same =
    ap (λ a. min a (first_wake new (at + 1) n)) (same at (omega arith))
    ∙ ap (min (slice_index old at)) (first-same old new (at + 1) n (λ i low. same i (omega arith)))
