-- Two tests that agree on the operands of a book agree on those of a condition that asks for no others.
use Rattle.std.proofs.Common.{◌≡◌, Bool, false, ◌||◌, ◌++◌, List, refl, sym, ap, ◌∙◌}
use Rattle.std.specs.List.{list_any}
use Rattle.std.proofs.lemmas.List.Folds.{list_any-append}
use Rattle.ecam_spec.specs.Book.{Tree, Trees, constant, discrete, valid, compared, in_phase, alert, press, computer, negation, all, any, at_least, confirmed, held, risen, latched, none, more}
use Rattle.ecam_spec.specs.TermNames.{IsWithin, AreWithin}
use Rattle.term_eval.specs.Woken.{Operand, operands, operands_of}
use Rattle.term_eval.specs.Woken.Operand.{value, phase, activity, key, health}
use Rattle.watch_lists.specs.declared.number.Sizes.{Sizes}
use Rattle.watch_lists.specs.Naming.{IsOperand}

module _ (n : Sizes) (f g : Operand → Bool) (same : (x : Operand) → IsOperand n x → f x ≡ g x) where
  own : (x : Operand) → IsOperand n x → (f x || false) ≡ (g x || false)
  own x is = ap (λ b. b || false) (same x is)

  join : (xs ys : List Operand) → list_any f xs ≡ list_any g xs → list_any f ys ≡ list_any g ys → list_any f (xs ++ ys) ≡ list_any g (xs ++ ys)
  join xs ys a b =
      list_any-append f xs ys ∙ ap (λ c. c || list_any f ys) a ∙ ap (λ c. list_any g xs || c) b ∙ sym (list_any-append g xs ys)

  mutual
    unfolding operands IsWithin

    pub any_same : (c : Tree) → IsWithin n.params n.alerts c → list_any f (operands c) ≡ list_any g (operands c)
    any_same (constant b) within = refl
    any_same (discrete p) within = own (value p) within
    any_same (valid p) within = own (value p) within
    any_same (compared p op x) within = own (value p) within
    any_same (in_phase set) within = own phase tt
    any_same (alert a) within = own (activity a) within
    any_same (press x) within = own (key x) within
    any_same (computer m) within = own (health m) within
    any_same (negation c) within = any_same c within
    any_same (all cs) within = any_same_all cs within
    any_same (any cs) within = any_same_all cs within
    any_same (at_least m cs) within = any_same_all cs within
    any_same (confirmed c m) within = any_same c within
    any_same (held c m) within = any_same c within
    any_same (risen c) within = any_same c within
    any_same (latched s r) within = join (operands s) (operands r) (any_same s within.0) (any_same r within.1)

    pub any_same_all : (cs : Trees) → AreWithin n.params n.alerts cs → list_any f (operands_of cs) ≡ list_any g (operands_of cs)
    any_same_all none within = refl
    any_same_all (more c cs) within = join (operands c) (operands_of cs) (any_same c within.0) (any_same_all cs within.1)
