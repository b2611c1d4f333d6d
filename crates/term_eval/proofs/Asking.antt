-- An atom that asks for an operand says by what that reads whether it holds.
use Rattle.std.proofs.Common.{◌≡◌, ℕ, ◌<◌, Bool, true, false, map, Some, refl, sym, ◌∙◌, ap, subst, arith}
use Rattle.std.specs.Option.{option_map}
use Rattle.std.specs.List.{slice_get}
use Rattle.std.proofs.lemmas.Option.{slice_get-map, slice_get_within, same_Some}
use Rattle.ecam_spec.specs.Book.{Tree, constant, discrete, valid, compared, in_phase, alert, press, computer, negation, all, any, at_least, confirmed, held, risen, latched}
use Rattle.ecam_spec.specs.Term.{World, holds}
use Rattle.ecam_spec.specs.TermSize.{nodes}
use Rattle.term_eval.specs.Woken.{Operand}
use Rattle.term_eval.specs.declared.reading.Reading.{Reading}
use Rattle.term_eval.specs.Asked.{Asks, AreAtoms, asked, node_asks}
use Rattle.term_eval.specs.Reading.{Reads, atom_says}
use Rattle.term_eval.specs.Parts.{Part, Heads, is_temporal}
use Rattle.term_eval.proofs.Inside.{node_at}
use Rattle.term_eval.proofs.PartLaws.{step_of, parts-code}
use Rattle.term_eval.proofs.Codes.{step_asks, code-asks, length-asked}
use Rattle.term_eval.proofs.NodeKinds.{is_gate}

pub asks-within : (c : Tree) (i : ℕ) (x : Operand) → Asks c i x → i < nodes c
asks-within c i x asks = let long = length-asked c in let within = slice_get_within (asked c) i (Some x) asks in omega arith

-- a node asks for what its part does
pub asks-part : (c : Tree) (at i : ℕ) (y : Part) (x : Operand) → Heads c at i y → Asks c i x → node_asks (node_at y.at y.tree) ≡ Some x
asks-part c at i y x heads asks =
    same_Some (node_asks (node_at y.at y.tree)) (Some x)
    (sym (ap (λ l. slice_get l i) (sym (code-asks c at 0) ∙ ap (map step_asks) (parts-code at 0 c))
    ∙ slice_get-map step_asks (map step_of _) i
    ∙ ap (option_map step_asks) (slice_get-map step_of _ i ∙ ap (option_map step_of) heads)) ∙ asks)

pub record IsAtom (c : Tree) : Type 0 where
  pub gate : is_gate c ≡ false
  pub temporal : is_temporal c ≡ false

pub asks-atom : (c : Tree) (at : ℕ) (x : Operand) → node_asks (node_at at c) ≡ Some x → IsAtom c
unfolding is_gate is_temporal
asks-atom (constant b) at o asks = absurd (let f : ⊥ = cc in f)
asks-atom (discrete x) at o asks = record { gate = refl; temporal = refl }
asks-atom (valid x) at o asks = record { gate = refl; temporal = refl }
asks-atom (compared x op n) at o asks = record { gate = refl; temporal = refl }
asks-atom (in_phase set) at o asks = record { gate = refl; temporal = refl }
asks-atom (alert a) at o asks = record { gate = refl; temporal = refl }
asks-atom (press key) at o asks = record { gate = refl; temporal = refl }
asks-atom (computer n) at o asks = record { gate = refl; temporal = refl }
asks-atom (negation c) at o asks = absurd (let f : ⊥ = cc in f)
asks-atom (all cs) at o asks = absurd (let f : ⊥ = cc in f)
asks-atom (any cs) at o asks = absurd (let f : ⊥ = cc in f)
asks-atom (at_least n cs) at o asks = absurd (let f : ⊥ = cc in f)
asks-atom (confirmed c n) at o asks = absurd (let f : ⊥ = cc in f)
asks-atom (held c n) at o asks = absurd (let f : ⊥ = cc in f)
asks-atom (risen c) at o asks = absurd (let f : ⊥ = cc in f)
asks-atom (latched s r) at o asks = absurd (let f : ⊥ = cc in f)

pub says-read : (w : World) (k : ℕ) (c : Tree) (at : ℕ) (x : Operand) (reading : Reading) → node_asks (node_at at c) ≡ Some x → Reads w k x reading →
    atom_says (node_at at c) reading ≡ holds w c k
unfolding holds
says-read w k (constant b) at o reading asks reads = absurd (let f : ⊥ = cc in f)
says-read w k (discrete x) at o reading asks reads = ap (atom_says (node_at at (discrete x))) (subst (λ q. Reads w k q reading) (sym (same_Some _ o asks)) reads)
says-read w k (valid x) at o reading asks reads = ap (atom_says (node_at at (valid x))) (subst (λ q. Reads w k q reading) (sym (same_Some _ o asks)) reads)
says-read w k (compared x op n) at o reading asks reads = ap (atom_says (node_at at (compared x op n))) (subst (λ q. Reads w k q reading) (sym (same_Some _ o asks)) reads)
says-read w k (in_phase set) at o reading asks reads = ap (atom_says (node_at at (in_phase set))) (subst (λ q. Reads w k q reading) (sym (same_Some _ o asks)) reads)
says-read w k (alert a) at o reading asks reads = ap (atom_says (node_at at (alert a))) (subst (λ q. Reads w k q reading) (sym (same_Some _ o asks)) reads)
says-read w k (press key) at o reading asks reads = ap (atom_says (node_at at (press key))) (subst (λ q. Reads w k q reading) (sym (same_Some _ o asks)) reads)
says-read w k (computer n) at o reading asks reads = ap (atom_says (node_at at (computer n))) (subst (λ q. Reads w k q reading) (sym (same_Some _ o asks)) reads)
says-read w k (negation c) at o reading asks reads = absurd (let f : ⊥ = cc in f)
says-read w k (all cs) at o reading asks reads = absurd (let f : ⊥ = cc in f)
says-read w k (any cs) at o reading asks reads = absurd (let f : ⊥ = cc in f)
says-read w k (at_least n cs) at o reading asks reads = absurd (let f : ⊥ = cc in f)
says-read w k (confirmed c n) at o reading asks reads = absurd (let f : ⊥ = cc in f)
says-read w k (held c n) at o reading asks reads = absurd (let f : ⊥ = cc in f)
says-read w k (risen c) at o reading asks reads = absurd (let f : ⊥ = cc in f)
says-read w k (latched s r) at o reading asks reads = absurd (let f : ⊥ = cc in f)

-- where all that were asked are atoms, no temporal node was
pub atoms-free : (c : Tree) (at : ℕ) (told : ℕ → Bool) → AreAtoms c told → (j : ℕ) (y : Part) → Heads c at j y → is_temporal y.tree ≡ true → told j ≡ false
atoms-free c at told atoms j y heads temporal =
    by (told j) refl
  where
    by : (b : Bool) → told j ≡ b → b ≡ false
    by false is = refl
    by true is =
        let asks = atoms j is in
        let atom = asks-atom y.tree y.at asks.0 (asks-part c at j y asks.0 heads asks.1) in
        sym temporal ∙ atom.temporal
