-- Nodes by their kind: an atom, a gate, which goes at once by what its children say, or a temporal node.
use Rattle.std.proofs.Common.{◌≡◌, ℕ, ◌+◌, ◌≤◌, Bool, true, false, not, Result, Ok, Err, eqb, leb, refl, sym, ap, arith}
use Rattle.std.proofs.lemmas.Bool.Decides.{nat_tests}
use Rattle.ecam_spec.specs.Book.{Tree, constant, discrete, valid, compared, in_phase, alert, press, computer, negation, all, any, at_least, confirmed, held, risen, latched, none}
use Rattle.ecam_spec.specs.Term.{World}
use Rattle.ecam_spec.specs.TermSize.{children, slots}
use Rattle.term_eval.specs.Code.{many}
use Rattle.term_eval.specs.Links.{gate_of, number_of}
use Rattle.term_eval.specs.Climb.{gate_says}
use Rattle.term_eval.specs.Parts.{is_temporal}
use Rattle.term_eval.specs.NodeState.{own_says}
use Rattle.term_eval.proofs.Inside.{node_at, inside}
use Rattle.term_eval.proofs.PartLaws.{spoken}

-- a node that goes at once by what its children say
unfoldable pub is_gate : Tree → Bool
is_gate (negation c) = true
is_gate (all cs) = true
is_gate (any cs) = true
is_gate (at_least n cs) = true
is_gate _ = false

-- what the link of a node says of whose children so many hold
abbrev pub link_says : ℕ → Tree → ℕ → Result Bool ℕ
link_says at c count = gate_says (gate_of (node_at at c)) (number_of (node_at at c)) count

pub data Kind (c : Tree) : Type 0 where
  an_atom : is_temporal c ≡ false → children c ≡ none → Kind c
  a_gate : is_temporal c ≡ false →
      ((w : World) (h : ℕ) (updated : Bool) (at count : ℕ) → count ≤ many (children c) → link_says at c count ≡ Ok (spoken w h updated c count)) → Kind c
  a_temporal : is_temporal c ≡ true → ((at : ℕ) → inside at c ≡ at + 1) → ((at count : ℕ) → link_says at c count ≡ Err at) → is_gate c ≡ false → Kind c

none-below : (count : ℕ) → not (leb 1 count) ≡ eqb count 0
none-below count = grind (arith, nat_tests)

-- of so many, all do where at least so many do
all-do : (count most : ℕ) → count ≤ most → leb most count ≡ eqb count most
all-do count most fits = grind (arith, nat_tests)

pub kind-of : (c : Tree) → Kind c
unfolding children is_temporal is_gate
kind-of (constant b) = an_atom refl refl
kind-of (discrete x) = an_atom refl refl
kind-of (valid x) = an_atom refl refl
kind-of (compared x op n) = an_atom refl refl
kind-of (in_phase set) = an_atom refl refl
kind-of (alert a) = an_atom refl refl
kind-of (press key) = an_atom refl refl
kind-of (computer n) = an_atom refl refl
kind-of (negation c) = a_gate refl (λ w h updated at count fits. ap Ok (none-below count))
kind-of (all cs) = a_gate refl (λ w h updated at count fits. ap Ok (all-do count (many cs) fits))
kind-of (any cs) = a_gate refl (λ w h updated at count fits. refl)
kind-of (at_least n cs) = a_gate refl (λ w h updated at count fits. refl)
kind-of (confirmed c n) = a_temporal refl (λ at. refl) (λ at count. refl) refl
kind-of (held c n) = a_temporal refl (λ at. refl) (λ at count. refl) refl
kind-of (risen c) = a_temporal refl (λ at. refl) (λ at count. refl) refl
kind-of (latched s r) = a_temporal refl (λ at. refl) (λ at count. refl) refl

-- a temporal node's slot comes before those of its children
pub own-inside : (c : Tree) (at : ℕ) → is_temporal c ≡ true → inside at c ≡ at + 1
own-inside c at temporal =
    by (kind-of c)
  where
    by : Kind c → inside at c ≡ at + 1
    by (an_atom is alone) = absurd (let f : ⊥ = cc in f)
    by (a_gate is says) = absurd (let f : ⊥ = cc in f)
    by (a_temporal temporal is says own) = is at

-- what is no gate says by itself
pub spoken-own : (w : World) (h : ℕ) (updated : Bool) (c : Tree) (count : ℕ) → is_gate c ≡ false → spoken w h updated c count ≡ own_says w h updated c
unfolding is_gate
spoken-own w h updated (constant b) count own = refl
spoken-own w h updated (discrete x) count own = refl
spoken-own w h updated (valid x) count own = refl
spoken-own w h updated (compared x op n) count own = refl
spoken-own w h updated (in_phase set) count own = refl
spoken-own w h updated (alert a) count own = refl
spoken-own w h updated (press key) count own = refl
spoken-own w h updated (computer n) count own = refl
spoken-own w h updated (negation c) count own = absurd (let e : ⊥ = cc in e)
spoken-own w h updated (all cs) count own = absurd (let e : ⊥ = cc in e)
spoken-own w h updated (any cs) count own = absurd (let e : ⊥ = cc in e)
spoken-own w h updated (at_least n cs) count own = absurd (let e : ⊥ = cc in e)
spoken-own w h updated (confirmed c n) count own = refl
spoken-own w h updated (held c n) count own = refl
spoken-own w h updated (risen c) count own = refl
spoken-own w h updated (latched s r) count own = refl

pub no-gate : (c : Tree) → is_temporal c ≡ true → is_gate c ≡ false
unfolding is_temporal is_gate
no-gate (constant b) t = refl
no-gate (discrete x) t = refl
no-gate (valid x) t = refl
no-gate (compared x op n) t = refl
no-gate (in_phase set) t = refl
no-gate (alert a) t = refl
no-gate (press key) t = refl
no-gate (computer n) t = refl
no-gate (negation c) t = sym t
no-gate (all cs) t = sym t
no-gate (any cs) t = sym t
no-gate (at_least n cs) t = sym t
no-gate (confirmed c n) t = refl
no-gate (held c n) t = refl
no-gate (risen c) t = refl
no-gate (latched s r) t = refl

-- a temporal node has a slot of its own
pub own-slot : (c : Tree) → is_temporal c ≡ true → 1 ≤ slots c
unfolding is_temporal slots
own-slot (constant b) t = absurd (let e : ⊥ = cc in e)
own-slot (discrete x) t = absurd (let e : ⊥ = cc in e)
own-slot (valid x) t = absurd (let e : ⊥ = cc in e)
own-slot (compared x op n) t = absurd (let e : ⊥ = cc in e)
own-slot (in_phase set) t = absurd (let e : ⊥ = cc in e)
own-slot (alert a) t = absurd (let e : ⊥ = cc in e)
own-slot (press key) t = absurd (let e : ⊥ = cc in e)
own-slot (computer n) t = absurd (let e : ⊥ = cc in e)
own-slot (negation c) t = absurd (let e : ⊥ = cc in e)
own-slot (all cs) t = absurd (let e : ⊥ = cc in e)
own-slot (any cs) t = absurd (let e : ⊥ = cc in e)
own-slot (at_least n cs) t = absurd (let e : ⊥ = cc in e)
own-slot (confirmed c n) t = omega arith
own-slot (held c n) t = omega arith
own-slot (risen c) t = omega arith
own-slot (latched s r) t = omega arith
