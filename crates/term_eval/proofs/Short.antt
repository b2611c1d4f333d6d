-- Each part of a condition whose temporal nodes count few moments is such a one.
use Rattle.std.proofs.Common.{◌≡◌, ℕ, zero, suc, ◌+◌, Some, inl, inr, sym, ◌∙◌, ap, subst}
use Rattle.std.specs.Prelude.{slice_get}
use Rattle.std.proofs.lemmas.Option.{same_Some}
use Rattle.ecam_spec.specs.Book.{Tree, Trees, constant, discrete, valid, compared, in_phase, alert, press, computer, negation, all, any, at_least, confirmed, held, risen, latched, none, more}
use Rattle.ecam_spec.specs.TermSize.{slots, nodes, children}
use Rattle.term_eval.specs.Code.{IsShort, AreShort}
use Rattle.term_eval.specs.Parts.{Part, parts, parts_of}
use Rattle.term_eval.proofs.Inside.{inside}
use Rattle.term_eval.proofs.PartLaws.{for-tree, parts-is}
use Rattle.term_eval.proofs.Below.{in-both}

pub shorts : (c : Tree) → IsShort c → AreShort (children c)
unfolding IsShort children
shorts (constant b) short = tt
shorts (discrete x) short = tt
shorts (valid x) short = tt
shorts (compared x op n) short = tt
shorts (in_phase set) short = tt
shorts (alert a) short = tt
shorts (press key) short = tt
shorts (computer n) short = tt
shorts (negation c) short = (short, tt)
shorts (all cs) short = short
shorts (any cs) short = short
shorts (at_least n cs) short = short
shorts (confirmed c n) short = (short.1, tt)
shorts (held c n) short = (short.1, tt)
shorts (risen c) short = (short, tt)
shorts (latched s r) short = (short.0, (short.1, tt))

Short : Tree → Type 0
Short c = (at up : ℕ) → IsShort c → (j : ℕ) (x : Part) → slice_get (parts at up c) j ≡ Some x → IsShort x.tree

ShortAll : Trees → Type 0
ShortAll cs = (at up : ℕ) → AreShort cs → (j : ℕ) (x : Part) → slice_get (parts_of at up cs) j ≡ Some x → IsShort x.tree

short-node : (c : Tree) → ShortAll (children c) → Short c
unfolding Short ShortAll
short-node c below at up short zero x is = subst (λ (y : Part). IsShort y.tree) (same_Some _ _ (sym (ap (λ l. slice_get l 0) (parts-is at up c)) ∙ is)) short
short-node c below at up short (suc j) x is = below (inside at c) 1 (shorts c short) j x (sym (ap (λ l. slice_get l (suc j)) (parts-is at up c)) ∙ is)

short-none : ShortAll none
unfolding ShortAll parts
short-none at up short j x is = absurd (let w : ⊥ = cc in w)

short-more : (c : Tree) (cs : Trees) → Short c → ShortAll cs → ShortAll (more c cs)
unfolding Short ShortAll parts IsShort
short-more c cs one others at up short j x is = elim (in-both (parts at up c) (parts_of (at + slots c) (up + nodes c) cs) j x is) [
  | inl h ↦ one at up short.0 j x h
  | inr (k, h) ↦ others (at + slots c) (up + nodes c) short.1 k x h
]

pub short-part : (at up : ℕ) (c : Tree) → IsShort c → (j : ℕ) (x : Part) → slice_get (parts at up c) j ≡ Some x → IsShort x.tree
unfolding Short
short-part at up c = for-tree Short ShortAll short-node short-none short-more c at up
