-- A condition whose names and numbers have no flaw keeps its ranges, and names what is there.
use Rattle.std.proofs.Common.{◌≡◌, ℕ, zero, suc, ◌-◌, ◌<◌, ◌≤◌, ℤ, pos, negsuc, Bool, true, false, List, [], ◌∷◌, ◌++◌, None, refl, ap, arith}
use Rattle.std.specs.Prelude.{fold, bit_or, neg_ℤ, int_le, ◌≤ℤ◌}
use Rattle.std.specs.List.{flat_map, All}
use Rattle.std.proofs.lemmas.Bool.{and_parts}
use Rattle.std.proofs.lemmas.Nat.{or_lt}
use Rattle.std.specs.Int.Signed.{le_z_yes}
use Rattle.std.proofs.lemmas.Float.{T_from_true}
use Rattle.std.proofs.Math.Pow.{pow_mono}
use Rattle.ecam_spec.specs.declared.terms.Span.{Span}
use Rattle.ecam_spec.specs.Book.{Text}
use Rattle.ecam_spec.specs.Grammar.{Form, Forms, truth, name_of, compare_of, valid_of, phase_of, alert_of, press_of, fwc_of, not_of, rise_of, all_of, any_of, at_least_of, conf_of, hold_of, latch_of, no_more, and_then, how_many}
use Rattle.ecam_spec.specs.KeepsLimits.{IsInRange, AreInRange, count_of}
use Rattle.ecam_spec.specs.Token.{bytes_of}
use Rattle.book_spec.proofs.FieldFacts.{between}
use Rattle.book_spec.proofs.TermNames.{passes, named_so}
use Rattle.ecam_spec.specs.TermText.{TermNames, Flaw, out_of_range, earliest, flaws, flaws_of_all, name_flaw, number_flaw, phase_flaw, moments_flaw, compared_flaw, tree_of_form, trees_of_forms, amount}
use Rattle.ecam_spec.specs.TermNumber.{magnitude, value, is_within, one_phase, is_negative}

-- ---- no flaws

pub no_flaws : (fs : List Flaw) → earliest fs ≡ None → fs ≡ []
no_flaws [] h = refl
no_flaws (f ∷ fs) h = absurd (cc)

pub neither : {X : Type 0} (xs ys : List X) → xs ++ ys ≡ [] → (xs ≡ []) × (ys ≡ [])
neither [] ys h = (refl, h)
neither (x ∷ xs) ys h = absurd (cc)

-- ---- numbers

signed_within : (negative : Bool) (m low high : ℕ) → is_within (pos low) (pos high) (elim negative as (λ c. ℤ) [ true ↦ neg_ℤ (pos m) | false ↦ pos m ]) ≡ true → (low ≤ m) × (m ≤ high)
signed_within true zero low high h = between low high 0 h
signed_within true (suc m) low high h = absurd (cc)
signed_within false m low high h = between low high m h

number_within : (low high z : ℤ) → is_within low high z ≡ true → (low ≤ℤ z) × (z ≤ℤ high)
number_within low high z h =
    let parts = and_parts (int_le low z) (int_le z high) h in
    (le_z_yes (T_from_true (int_le low z) parts.0), le_z_yes (T_from_true (int_le z high) parts.1))

pub phase_below : (p : ℕ) → p ≤ 10 → one_phase p < 1024
phase_below p high = omega (arith, pow_mono {i = p - 1} {j = 9} (omega arith))

module _ (names : TermNames) (text : Text) where
  pub amount_within : (low high : ℕ) (n : Span) → number_flaw names text (pos low) (pos high) n ≡ [] → (low ≤ amount names text n) × (amount names text n ≤ high)
  unfolding number_flaw value
  amount_within low high n h = signed_within (is_negative (bytes_of text n)) (magnitude (bytes_of text n)) low high (passes _ (out_of_range n.at) h)

  phases_below : (set : ℕ) (ns : List Span) → set < 1024 → flat_map (phase_flaw names text) ns ≡ [] → fold (λ s p. bit_or s (one_phase (amount names text p))) set ns < 1024
  phases_below set [] h e = h
  phases_below set (n ∷ ns) h e =
      let parts = neither (phase_flaw names text n) (flat_map (phase_flaw names text) ns) e in
      let this = amount_within 1 10 n parts.0 in
      phases_below (bit_or set (one_phase (amount names text n))) ns
      (or_lt 10 set (one_phase (amount names text n)) h (phase_below (amount names text n) this.1)) parts.1

  count-trees : (fs : Forms) → count_of (trees_of_forms names text fs) ≡ how_many fs
  unfolding tree_of_form
  count-trees no_more = refl
  count-trees (and_then f fs) = ap suc (count-trees fs)

  phase_set_in_range : (n : Span) (ns : List Span) → phase_flaw names text n ++ flat_map (phase_flaw names text) ns ≡ []
      → fold (λ s p. bit_or s (one_phase (amount names text p))) (one_phase (amount names text n)) ns < 1024
  phase_set_in_range n ns h =
      let parts = neither (phase_flaw names text n) (flat_map (phase_flaw names text) ns) h in
      let first = amount_within 1 10 n parts.0 in
      phases_below (one_phase (amount names text n)) ns (phase_below (amount names text n) first.1) parts.1

  compared_in_range : (x : Span) → compared_flaw names text x ≡ [] → (negsuc 999999 ≤ℤ value (bytes_of text x)) × (value (bytes_of text x) ≤ℤ pos 1000000)
  unfolding number_flaw
  compared_in_range x h = number_within (neg_ℤ (pos 1000000)) (pos 1000000) (value (bytes_of text x)) (passes _ (out_of_range x.at) h)

module _ (names : TermNames) (text : Text) (known : All (λ t. IsInRange t.tree) names.terms) where
  mutual
    unfolding flaws tree_of_form IsInRange

    pub form_in_range : (f : Form) → flaws names text f ≡ [] → IsInRange (tree_of_form names text f)
    form_in_range (truth b) h = tt
    form_in_range (name_of n) h = named_so names text (λ t. IsInRange t) n tt (λ p below. tt) known
    form_in_range (compare_of n op x) h = compared_in_range names text x (neither (name_flaw names text names.parameters n) (compared_flaw names text x) h).1
    form_in_range (valid_of n) h = tt
    form_in_range (phase_of n ns) h = phase_set_in_range names text n ns h
    form_in_range (alert_of n) h = tt
    form_in_range (press_of key) h = tt
    form_in_range (fwc_of n) h = tt
    form_in_range (not_of f) h = form_in_range f h
    form_in_range (rise_of f) h = form_in_range f h
    form_in_range (all_of f fs) h =
        let parts = neither (flaws names text f) (flaws_of_all names text fs) h in
        (form_in_range f parts.0, forms_in_range fs parts.1)
    form_in_range (any_of f fs) h =
        let parts = neither (flaws names text f) (flaws_of_all names text fs) h in
        (form_in_range f parts.0, forms_in_range fs parts.1)
    form_in_range (at_least_of n f fs) h =
        let number = number_flaw names text (pos 1) (pos (suc (how_many fs))) n in
        let whole = neither (flaws names text f ++ flaws_of_all names text fs) number h in
        let parts = neither (flaws names text f) (flaws_of_all names text fs) whole.0 in
        let amounts = amount_within names text 1 (suc (how_many fs)) n whole.1 in
        (amounts.0, omega (arith, amounts.1, count-trees names text fs), (form_in_range f parts.0, forms_in_range fs parts.1))
    form_in_range (conf_of f n) h =
        let parts = neither (flaws names text f) (moments_flaw names text n) h in
        ((amount_within names text 0 36000 n parts.1).1, form_in_range f parts.0)
    form_in_range (hold_of f n) h =
        let parts = neither (flaws names text f) (moments_flaw names text n) h in
        ((amount_within names text 0 36000 n parts.1).1, form_in_range f parts.0)
    form_in_range (latch_of s r) h =
        let parts = neither (flaws names text s) (flaws names text r) h in
        (form_in_range s parts.0, form_in_range r parts.1)

    pub forms_in_range : (fs : Forms) → flaws_of_all names text fs ≡ [] → AreInRange (trees_of_forms names text fs)
    forms_in_range no_more h = tt
    forms_in_range (and_then f fs) h =
        let parts = neither (flaws names text f) (flaws_of_all names text fs) h in
        (form_in_range f parts.0, forms_in_range fs parts.1)
