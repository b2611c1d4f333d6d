-- What stands right below a temporal node.
use Rattle.std.proofs.Common.{◌≡◌, ℕ, suc, ◌+◌, ◌<◌, ◌≤◌, Bool, true, ◌∷◌, ◌++◌, Some, refl, sym, ◌∙◌, ap, arith}
use Rattle.std.specs.List.{slice_get}
use Rattle.ecam_spec.specs.Book.{Tree, Trees, constant, discrete, valid, compared, in_phase, alert, press, computer, negation, all, any, at_least, confirmed, held, risen, latched, none, more}
use Rattle.ecam_spec.specs.Term.{World, holds, truths}
use Rattle.ecam_spec.specs.TermSize.{nodes, nodes_of, slots}
use Rattle.term_eval.specs.Parts.{Part, parts, Heads, is_temporal}
use Rattle.term_eval.specs.NodeState.{SayTheSame}
use Rattle.term_eval.proofs.PartLaws.{parts-is, parts-inner, says-after}
use Rattle.term_eval.proofs.Codes.{nodes-some}

-- a temporal node stands over one
pub stands-over : (c : Tree) → is_temporal c ≡ true → 1 < nodes c
unfolding is_temporal nodes
stands-over (constant b) temporal = absurd (let z : ⊥ = cc in z)
stands-over (discrete x) temporal = absurd (let z : ⊥ = cc in z)
stands-over (valid x) temporal = absurd (let z : ⊥ = cc in z)
stands-over (compared x op n) temporal = absurd (let z : ⊥ = cc in z)
stands-over (in_phase set) temporal = absurd (let z : ⊥ = cc in z)
stands-over (alert a) temporal = absurd (let z : ⊥ = cc in z)
stands-over (press key) temporal = absurd (let z : ⊥ = cc in z)
stands-over (computer n) temporal = absurd (let z : ⊥ = cc in z)
stands-over (negation c) temporal = absurd (let z : ⊥ = cc in z)
stands-over (all cs) temporal = absurd (let z : ⊥ = cc in z)
stands-over (any cs) temporal = absurd (let z : ⊥ = cc in z)
stands-over (at_least n cs) temporal = absurd (let z : ⊥ = cc in z)
stands-over (confirmed c n) temporal = omega (arith, nodes-some c)
stands-over (held c n) temporal = omega (arith, nodes-some c)
stands-over (risen c) temporal = omega (arith, nodes-some c)
stands-over (latched s r) temporal = omega (arith, nodes-some s, nodes-some r)

-- where each that stands right below it says what it said, they keep their truths
pub still-truths : (w : World) (h : ℕ) (updated : ℕ → Bool) (cs : Trees) (p : ℕ) → ((i : ℕ) → p ≤ i → i < p + nodes_of cs → updated i ≡ true) → SayTheSame w h updated cs p →
    truths w cs (suc h) ≡ truths w cs h
unfolding SayTheSame holds nodes
still-truths w h updated none p each same = refl
still-truths w h updated (more c cs) p each same =
    ap (λ b. b ∷ truths w cs (suc h)) (sym (says-after w h updated c p (λ i low high. each i low (omega arith))) ∙ same.0)
    ∙ ap (λ bs. holds w c h ∷ bs) (still-truths w h updated cs (p + nodes c) (λ i low high. each i (omega arith) (omega arith)) same.1)

-- the first of the two conditions of a latch stands right behind it
set-second : (at up : ℕ) (s r : Tree) → slice_get (parts at up (latched s r)) 1 ≡ Some (record { tree = s; at = at + 1; up = 1 })
unfolding parts
set-second at up s r = ap (λ l. slice_get (l ++ parts (at + 1 + slots s) (1 + nodes s) r) 0) (parts-is (at + 1) 1 s)

pub set-heads : (c : Tree) (at m : ℕ) (x : Part) (s r : Tree) → Heads c at m x → is_temporal x.tree ≡ true → x.tree ≡ latched s r → Heads c at (m + 1) (record { tree = s; at = x.at + 1; up = 1 })
set-heads c at m x s r heads temporal is =
    parts-inner at 0 c m x heads 1 (stands-over x.tree temporal) ∙ ap (λ t. slice_get (parts x.at x.up t) 1) is ∙ set-second x.at x.up s r
