-- The parameters of one word are gone through by its bits.
use Rattle.std.proofs.Common.{◌≡◌, ℕ, ◌+◌, ◌-◌, ◌*◌, ◌/◌, ◌%◌, ◌^◌, ◌<◌, ◌≤◌, true, ℤ, List, length, Option, sym, ap, subst, ◌∙◌, inl, inr, arith}
use Rattle.std.specs.Int.{bit_at}
use Rattle.std.proofs.lemmas.Bool.{cases_lt}
use Rattle.std.proofs.lemmas.Nat.{shr-shr}
use Rattle.std.proofs.lemmas.Nat.Bits.{bit_at_above}
use Rattle.ecam_spec.specs.Book.{Book}
use Rattle.ecam_spec.specs.Value.{BusWord, value}
use Rattle.ecam_spec.specs.Situation.{parameter_at}
use Rattle.param_table.specs.Asked.{is_asked_for}
use Rattle.param_table.specs.TableState.{ParamsStand, value_before}
use Rattle.param_table.specs.declared.table.Params.{Params}
use Rattle.fwc_lane.specs.declared.terms.Terms.{Terms}
use Rattle.fwc_lane.specs.ReadTo.{AreReadTo}
use Rattle.fwc_lane.proofs.ValueSteps.{read-over}

-- `rest` has the bits of the word for the numbers from `from` on
module _ (word place from rest : ℕ) (begin : 64 * place ≤ from) (is : rest ≡ word / 2 ^ (from - 64 * place)) where
  bit : (i : ℕ) → bit_at rest i ≡ bit_at word (from - 64 * place + i)
  bit i = ap (λ r. bit_at r i) is ∙ ap (λ x. x % 2) (shr-shr word (from - 64 * place) i)

  -- the number of one that is set
  module _ (low : ℕ) (set : bit_at rest low ≡ 1) where
    pub set-bit : bit_at word (from + low - 64 * place) ≡ 1
    set-bit = ap (bit_at word) (let z : from + low - 64 * place ≡ from - 64 * place + low = omega (arith, begin) in z) ∙ sym (bit low) ∙ set

    pub set-within : word < 2 ^ 64 → from + low < 64 * place + 64
    set-within small = elim (cases_lt (from + low - 64 * place) 64) [
      | inl lt ↦ omega (arith, lt)
      | inr le ↦ absurd (let never : 0 ≡ 1 = sym (bit_at_above word 64 (from + low - 64 * place) small le) ∙ set-bit in let w : ⊥ = omega (arith, never) in w)
    ]

    pub set-rest : rest / 2 ^ low / 2 ^ 1 ≡ word / 2 ^ (from + low + 1 - 64 * place)
    set-rest =
        shr-shr rest low 1 ∙ ap (λ r. r / 2 ^ (low + 1)) is ∙ shr-shr word (from - 64 * place) (low + 1)
        ∙ ap (λ n. word / 2 ^ n) (let z : from - 64 * place + (low + 1) ≡ from + low + 1 - 64 * place = omega (arith, begin) in z)

  -- those whose bits aren't set have no other value
  pub over-unset : (b : Book) (params : Params) → ((words : ℕ → List BusWord) (k : ℕ) → ParamsStand b words k params → (i : ℕ) → i < 64 → bit_at word i ≡ 0 → 64 * place + i < length b.parameters
      → is_asked_for b (64 * place + i) ≡ true → value (parameter_at b (64 * place + i)) words k ≡ value_before (parameter_at b (64 * place + i)) words k)
      → (was : List (Option ℤ)) (first : Terms) (values : List (Option ℤ)) (terms : Terms) → AreReadTo b params was first from values terms
      → (end : ℕ) → from ≤ end → end ≤ 64 * place + 64 → ((i : ℕ) → from + i < end → bit_at rest i ≡ 0) → AreReadTo b params was first end values terms
  over-unset b params same was first values terms read end more most unset =
      read-over b params was first from values terms read end more (λ words k stands p le lt within on.
      let i = p - 64 * place in
      let at : 64 * place + i ≡ p = omega (arith, begin, le) in
      let here : from - 64 * place + (p - from) ≡ i = omega (arith, begin, le) in
      subst (λ q. value (parameter_at b q) words k ≡ value_before (parameter_at b q) words k) at
      (same words k stands i (omega (arith, lt, most, begin, le)) (ap (bit_at word) (sym here) ∙ sym (bit (p - from)) ∙ unset (p - from) (omega (arith, le, lt))) (omega (arith, at, within)) (ap (is_asked_for b) at ∙ on)))
