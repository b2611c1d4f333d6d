-- The nodes of conditions follow one another.
use Rattle.std.proofs.Common.{◌≡◌, ℕ, zero, suc, ◌+◌, ◌<◌, ◌≤◌, List, [], ◌∷◌, ◌++◌, length, slice_get, Some, refl, ap, arith}
use Rattle.std.proofs.lemmas.Option.{slice_get_within}
use Rattle.ecam_spec.specs.TermSize.{Placed, nodes}
use Rattle.condition_codes.specs.Places.{nodes_before}

-- none come before the first condition
pub nodes-none : (ps : List Placed) → nodes_before ps 0 ≡ 0
unfolding nodes_before
nodes-none [] = refl
nodes-none (p ∷ ps) = refl

-- a condition's come behind those before it
pub nodes-next : (ps : List Placed) (j : ℕ) (p : Placed) → slice_get ps j ≡ Some p → nodes_before ps j + nodes p.tree ≡ nodes_before ps (suc j)
unfolding nodes_before
nodes-next [] j p is = absurd (let no : j < 0 = slice_get_within [] j p is in omega arith)
nodes-next (q ∷ qs) zero p is = let same : q ≡ p = cc in omega (arith, ap (λ (r : Placed). nodes r.tree) same, nodes-none qs)
nodes-next (q ∷ qs) (suc j) p is = omega (arith, nodes-next qs j p is)

-- those before stand where they stood
pub nodes-old : (ps : List Placed) (p : Placed) (j : ℕ) → j ≤ length ps → nodes_before (ps ++ p ∷ []) j ≡ nodes_before ps j
unfolding nodes_before
nodes-old [] p zero le = refl
nodes-old [] p (suc j) le = absurd (omega arith)
nodes-old (q ∷ qs) p zero le = refl
nodes-old (q ∷ qs) p (suc j) le = ap (λ n. nodes q.tree + n) (nodes-old qs p j (omega arith))

-- and those of one condition more behind them
pub nodes-new : (ps : List Placed) (p : Placed) → nodes_before (ps ++ p ∷ []) (suc (length ps)) ≡ nodes_before ps (length ps) + nodes p.tree
unfolding nodes_before
nodes-new [] p = omega arith
nodes-new (q ∷ qs) p = omega (arith, nodes-new qs p)
