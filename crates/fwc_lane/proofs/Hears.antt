-- Which nodes of a condition hear of the operands that pass a test, and what is kept of the nodes by which of them were asked.
use Rattle.std.proofs.Common.{◌≡◌, ℕ, Bool, true, false, ◌||◌, Option, Some, None, slice_get, refl, sym, ap, ◌∙◌, inl, inr}
use Rattle.std.specs.List.{list_any}
use Rattle.std.specs.Option.{option_map_or}
use Rattle.ecam_spec.specs.Book.{Tree}
use Rattle.ecam_spec.specs.Term.{World}
use Rattle.term_eval.specs.Asked.{Asks, AreAtoms, asked, heard}
use Rattle.term_eval.specs.Memory.{NodeMemory}
use Rattle.term_eval.specs.NodeState.{NodesWait}
use Rattle.term_eval.specs.Woken.{Operand, operands}
use Rattle.term_eval.proofs.KeptSame.{kept-by}
use Rattle.fwc_lane.proofs.Askers.{asks-named, one-of}

-- ---- by whom was asked

pub waits-by : (w : World) (h : ℕ) (old new : ℕ → Bool) (c : Tree) (at first : ℕ) (n : NodeMemory) → ((i : ℕ) → new i ≡ old i)
    → NodesWait w h old c at first n → NodesWait w h new c at first n
waits-by w h old new c at first n same waits i x is = kept-by w h old new x first i n (λ j low high. same j) (waits i x is)

-- ---- who hears

pub heard-asks : (f : Operand → Bool) (c : Tree) (i : ℕ) → heard f c i ≡ true → (x : Operand) × Asks c i x × (f x ≡ true)
heard-asks f c i is = by (slice_get (asked c) i) refl where
  by : (found : Option (Option Operand)) → slice_get (asked c) i ≡ found → (x : Operand) × Asks c i x × (f x ≡ true)
  by None at = absurd (let w : ⊥ = (let clash : false ≡ true = sym (ap (λ o. option_map_or (λ (a : Option Operand). option_map_or f a false) o false) at) ∙ is in cc) in w)
  by (Some None) at = absurd (let w : ⊥ = (let clash : false ≡ true = sym (ap (λ o. option_map_or (λ (a : Option Operand). option_map_or f a false) o false) at) ∙ is in cc) in w)
  by (Some (Some x)) at = (x, at, sym (ap (λ o. option_map_or (λ (a : Option Operand). option_map_or f a false) o false) at) ∙ is)

pub asks-heard : (f : Operand → Bool) (c : Tree) (i : ℕ) (x : Operand) → Asks c i x → heard f c i ≡ f x
asks-heard f c i x at = ap (λ o. option_map_or (λ (a : Option Operand). option_map_or f a false) o false) at

-- by two tests
pub heard-or : (f g both : Operand → Bool) (c : Tree) → ((i : ℕ) (x : Operand) → Asks c i x → both x ≡ (f x || g x)) → (i : ℕ) → heard both c i ≡ (heard f c i || heard g c i)
heard-or f g both c same i = by (slice_get (asked c) i) refl where
  by : (found : Option (Option Operand)) → slice_get (asked c) i ≡ found → heard both c i ≡ (heard f c i || heard g c i)
  by None at =
      ap (λ o. option_map_or (λ (a : Option Operand). option_map_or both a false) o false) at
      ∙ sym (ap (λ o. option_map_or (λ (a : Option Operand). option_map_or f a false) o false || option_map_or (λ (a : Option Operand). option_map_or g a false) o false) at)
  by (Some None) at =
      ap (λ o. option_map_or (λ (a : Option Operand). option_map_or both a false) o false) at
      ∙ sym (ap (λ o. option_map_or (λ (a : Option Operand). option_map_or f a false) o false || option_map_or (λ (a : Option Operand). option_map_or g a false) o false) at)
  by (Some (Some x)) at =
      asks-heard both c i x at ∙ same i x at ∙ ap (λ a. a || g x) (sym (asks-heard f c i x at)) ∙ ap (λ a. heard f c i || a) (sym (asks-heard g c i x at))

pub heard-same : (f g : Operand → Bool) (c : Tree) → ((i : ℕ) (x : Operand) → Asks c i x → f x ≡ g x) → (i : ℕ) → heard f c i ≡ heard g c i
heard-same f g c same i = by (slice_get (asked c) i) refl where
  of : (Operand → Bool) → Option (Option Operand) → Bool
  of hit o = option_map_or (λ (a : Option Operand). option_map_or hit a false) o false

  by : (found : Option (Option Operand)) → slice_get (asked c) i ≡ found → heard f c i ≡ heard g c i
  by None at = ap (of f) at ∙ sym (ap (of g) at)
  by (Some None) at = ap (of f) at ∙ sym (ap (of g) at)
  by (Some (Some x)) at = ap (of f) at ∙ same i x at ∙ sym (ap (of g) at)

-- a condition that names no such operand
pub heard-none : (f : Operand → Bool) (c : Tree) → list_any f (operands c) ≡ false → (i : ℕ) → heard f c i ≡ false
heard-none f c none i = by (heard f c i) refl where
  by : (told : Bool) → heard f c i ≡ told → heard f c i ≡ false
  by false is = is
  by true is =
      let own = heard-asks f c i is in
      absurd (let w : ⊥ = (let clash : false ≡ true = sym none ∙ asks-named f c i own.0 own.1 own.2 in cc) in w)

pub atoms-heard : (f : Operand → Bool) (c : Tree) → AreAtoms c (heard f c)
atoms-heard f c i is = let own = heard-asks f c i is in (own.0, own.1)

pub atoms-more : (f : Operand → Bool) (c : Tree) (asked : ℕ → Bool) → AreAtoms c asked → AreAtoms c (λ i. heard f c i || asked i)
atoms-more f c asked atoms i is = elim (one-of (heard f c i) (asked i) is) [
  | inl on ↦ atoms-heard f c i on
  | inr was ↦ atoms i was
]
