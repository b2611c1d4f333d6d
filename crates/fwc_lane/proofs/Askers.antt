-- The nodes of conditions: where those of each start, and that they ask for operands of the book alone.
use Rattle.std.proofs.Common.{◌≡◌, ℕ, zero, suc, ◌+◌, ◌<◌, ◌≤◌, Bool, true, false, ◌||◌, List, [], ◌∷◌, ◌++◌, Option, Some, None, slice_get, refl, sym, ap, subst, ◌∙◌, ◌⊎◌, inl, inr, arith}
use Rattle.std.specs.List.{list_any}
use Rattle.std.specs.Option.{option_map_or}
use Rattle.std.proofs.lemmas.List.Folds.{list_any-append}
use Rattle.std.proofs.lemmas.Map.Keys.{any_passes_from_place}
use Rattle.ecam_spec.specs.Book.{Tree, Trees, constant, discrete, valid, compared, in_phase, alert, press, computer, negation, all, any, at_least, confirmed, held, risen, latched, none, more}
use Rattle.ecam_spec.specs.TermNames.{IsWithin, AreWithin}
use Rattle.ecam_spec.specs.TermSize.{Placed, nodes}
use Rattle.term_eval.specs.Woken.{Operand, operands, operands_of}
use Rattle.term_eval.specs.Woken.Operand.{value, phase, activity, key, health}
use Rattle.term_eval.specs.Asked.{Asks, asked, asked_of}
use Rattle.watch_lists.specs.declared.number.Sizes.{Sizes}
use Rattle.watch_lists.specs.Naming.{IsOperand}
use Rattle.condition_codes.specs.Places.{nodes_before}

-- ---- where the nodes of a condition start

pub nodes-apart : (ps : List Placed) (j i : ℕ) (q : Placed) → j < i → slice_get ps j ≡ Some q → nodes_before ps j + nodes q.tree ≤ nodes_before ps i
unfolding nodes_before
nodes-apart [] j i q lt is = absurd (let w : ⊥ = (let clash : None ≡ Some q = is in cc) in w)
nodes-apart (p ∷ ps) j zero q lt is = absurd (omega arith)
nodes-apart (p ∷ ps) zero (suc i) q lt is =
    let both : Some p ≡ Some q = is in
    let same : p ≡ q = cc in
    let e : nodes p.tree ≡ nodes q.tree = ap (λ (r : Placed). nodes r.tree) same in
    omega (arith, e)
nodes-apart (p ∷ ps) (suc j) (suc i) q lt is = omega (arith, nodes-apart ps j i q (omega arith) is)

-- ---- what they ask for

module _ (n : Sizes) where
  -- none asks for what the book hasn't
  abbrev pub EachIs : List (Option Operand) → Type 0
  EachIs xs = (i : ℕ) (x : Operand) → slice_get xs i ≡ Some (Some x) → IsOperand n x

  each-none : EachIs []
  each-none i x is = absurd (let w : ⊥ = (let clash : None ≡ Some (Some x) = is in cc) in w)

  each-one : (o : Option Operand) (xs : List (Option Operand)) → ((x : Operand) → o ≡ Some x → IsOperand n x) → EachIs xs → EachIs (o ∷ xs)
  each-one o xs here there zero x is = here x (let both : Some o ≡ Some (Some x) = is in cc)
  each-one o xs here there (suc i) x is = there i x is

  gate : (xs : List (Option Operand)) → EachIs xs → EachIs (None ∷ xs)
  gate xs there = each-one None xs (λ x is. absurd (let w : ⊥ = (let clash : None ≡ Some x = is in cc) in w)) there

  atom : (y : Operand) → IsOperand n y → EachIs (Some y ∷ [])
  atom y is = each-one (Some y) [] (λ x e. subst (IsOperand n) (let both : Some y ≡ Some x = e in let same : y ≡ x = cc in same) is) each-none

  join : (xs ys : List (Option Operand)) → EachIs xs → EachIs ys → EachIs (xs ++ ys)
  join [] ys first second = second
  join (o ∷ xs) ys first second = each-one o (xs ++ ys) (λ x e. first 0 x (ap Some e)) (join xs ys (λ i. first (suc i)) second)

  mutual
    unfolding asked IsWithin

    pub asks-operand : (c : Tree) → IsWithin n.params n.alerts c → EachIs (asked c)
    asks-operand (constant b) within = gate [] each-none
    asks-operand (discrete p) within = atom (value p) within
    asks-operand (valid p) within = atom (value p) within
    asks-operand (compared p op x) within = atom (value p) within
    asks-operand (in_phase set) within = atom phase tt
    asks-operand (alert a) within = atom (activity a) within
    asks-operand (press x) within = atom (key x) within
    asks-operand (computer m) within = atom (health m) within
    asks-operand (negation c) within = gate (asked c) (asks-operand c within)
    asks-operand (all cs) within = gate (asked_of cs) (all-ask cs within)
    asks-operand (any cs) within = gate (asked_of cs) (all-ask cs within)
    asks-operand (at_least m cs) within = gate (asked_of cs) (all-ask cs within)
    asks-operand (confirmed c m) within = gate (asked c) (asks-operand c within)
    asks-operand (held c m) within = gate (asked c) (asks-operand c within)
    asks-operand (risen c) within = gate (asked c) (asks-operand c within)
    asks-operand (latched s r) within = gate (asked s ++ asked r) (join (asked s) (asked r) (asks-operand s within.0) (asks-operand r within.1))

    all-ask : (cs : Trees) → AreWithin n.params n.alerts cs → EachIs (asked_of cs)
    all-ask none within = each-none
    all-ask (more c cs) within = join (asked c) (asked_of cs) (asks-operand c within.0) (all-ask cs within.1)

-- ---- what a node asks for is named by its condition

module _ (f : Operand → Bool) where
  abbrev passes : Option Operand → Bool
  passes o = option_map_or f o false

  mutual
    unfolding asked operands

    pub named-asked : (c : Tree) → list_any passes (asked c) ≡ list_any f (operands c)
    named-asked (constant b) = refl
    named-asked (discrete p) = refl
    named-asked (valid p) = refl
    named-asked (compared p op x) = refl
    named-asked (in_phase set) = refl
    named-asked (alert a) = refl
    named-asked (press x) = refl
    named-asked (computer m) = refl
    named-asked (negation c) = named-asked c
    named-asked (all cs) = all-named cs
    named-asked (any cs) = all-named cs
    named-asked (at_least m cs) = all-named cs
    named-asked (confirmed c m) = named-asked c
    named-asked (held c m) = named-asked c
    named-asked (risen c) = named-asked c
    named-asked (latched s r) =
        list_any-append passes (asked s) (asked r) ∙ ap (λ b. b || list_any passes (asked r)) (named-asked s) ∙ ap (λ b. list_any f (operands s) || b) (named-asked r)
        ∙ sym (list_any-append f (operands s) (operands r))

    all-named : (cs : Trees) → list_any passes (asked_of cs) ≡ list_any f (operands_of cs)
    all-named none = refl
    all-named (more c cs) =
        list_any-append passes (asked c) (asked_of cs) ∙ ap (λ b. b || list_any passes (asked_of cs)) (named-asked c) ∙ ap (λ b. list_any f (operands c) || b) (all-named cs)
        ∙ sym (list_any-append f (operands c) (operands_of cs))

  pub asks-named : (c : Tree) (i : ℕ) (x : Operand) → Asks c i x → f x ≡ true → list_any f (operands c) ≡ true
  asks-named c i x is on = sym (named-asked c) ∙ any_passes_from_place passes (asked c) i (Some x) is on

-- one of two tests is passed
pub one-of : (a b : Bool) → (a || b) ≡ true → (a ≡ true) ⊎ (b ≡ true)
one-of true b is = inl refl
one-of false b is = inr is
