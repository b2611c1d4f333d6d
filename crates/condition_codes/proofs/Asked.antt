-- The nodes of a book's codes ask for operands of the book alone.
use Rattle.std.proofs.Common.{◌≡◌, ℕ, ◌<◌, List, [], ◌∷◌, ◌++◌, Option, Some, None, All, map, sym, subst}
use Rattle.std.specs.List.{flat_map}
use Rattle.std.proofs.lemmas.List.{length-map, get_or-map}
use Rattle.std.proofs.lemmas.List.Elements.{All-nil, All-cons, All-append}
use Rattle.ecam_spec.specs.Book.{Tree, Trees, constant, discrete, valid, compared, in_phase, alert, press, computer, negation, all, any, at_least, confirmed, held, risen, latched, none, more}
use Rattle.ecam_spec.specs.TermNames.{IsWithin, AreWithin}
use Rattle.ecam_spec.specs.TermSize.{Placed}
use Rattle.ecam_spec.proofs.ProperRows.{All-flat}
use Rattle.term_eval.specs.Asked.{asked, asked_of, node_asks}
use Rattle.term_eval.specs.Code.{code}
use Rattle.term_eval.specs.Woken.{Operand}
use Rattle.term_eval.specs.Woken.Operand.{value, phase, activity, key, health}
use Rattle.term_eval.specs.declared.code.Step.{Step}
use Rattle.watch_lists.specs.declared.number.Sizes.{Sizes}
use Rattle.condition_codes.specs.Chains.{AsksWithin}

-- what holds of each mapped item holds of each item, mapped
unmapped : {X Y : Type 0} (P : Y → Type 0) (f : X → Y) (xs : List X) → All P (map f xs) → All (λ x. P (f x)) xs
unmapped P f xs each i e lt = subst P (get_or-map f xs i e (f e) lt) (each i (f e) (subst (λ n. i < n) (sym (length-map xs f)) lt))

module _ (n : Sizes) where
  one : (o : Option Operand) → AsksWithin n o → All (AsksWithin n) (o ∷ [])
  one o is = All-cons (AsksWithin n) o [] is (All-nil (AsksWithin n))

  over : (os : List (Option Operand)) → All (AsksWithin n) os → All (AsksWithin n) (None ∷ os)
  over os each = All-cons (AsksWithin n) None os tt each

  mutual
    unfolding asked IsWithin

    asked-within : (c : Tree) → IsWithin n.params n.alerts c → All (AsksWithin n) (asked c)
    asked-within (constant b) within = one None tt
    asked-within (discrete p) within = one (Some (value p)) within
    asked-within (valid p) within = one (Some (value p)) within
    asked-within (compared p op x) within = one (Some (value p)) within
    asked-within (in_phase set) within = one (Some phase) tt
    asked-within (alert a) within = one (Some (activity a)) within
    asked-within (press x) within = one (Some (key x)) within
    asked-within (computer m) within = one (Some (health m)) within
    asked-within (negation c) within = over (asked c) (asked-within c within)
    asked-within (all cs) within = over (asked_of cs) (all-within cs within)
    asked-within (any cs) within = over (asked_of cs) (all-within cs within)
    asked-within (at_least m cs) within = over (asked_of cs) (all-within cs within)
    asked-within (confirmed c m) within = over (asked c) (asked-within c within)
    asked-within (held c m) within = over (asked c) (asked-within c within)
    asked-within (risen c) within = over (asked c) (asked-within c within)
    asked-within (latched s r) within =
        over (asked s ++ asked r) (All-append (AsksWithin n) (asked s) (asked r) (asked-within s within.0) (asked-within r within.1))

    all-within : (cs : Trees) → AreWithin n.params n.alerts cs → All (AsksWithin n) (asked_of cs)
    all-within none within = All-nil (AsksWithin n)
    all-within (more c cs) within = All-append (AsksWithin n) (asked c) (asked_of cs) (asked-within c within.0) (all-within cs within.1)

  module _ (asks : (c : Tree) (at up : ℕ) → map (λ (s : Step). node_asks s.node) (code at up c) ≡ asked c) where
    -- in the codes of conditions that name operands of the book
    pub steps-within : (ps : List Placed) → All (λ (p : Placed). IsWithin n.params n.alerts p.tree) ps
        → All (λ (s : Step). AsksWithin n (node_asks s.node)) (flat_map (λ (p : Placed). code p.at 0 p.tree) ps)
    steps-within ps names =
        All-flat (λ (p : Placed). IsWithin n.params n.alerts p.tree) (λ (s : Step). AsksWithin n (node_asks s.node)) (λ (p : Placed). code p.at 0 p.tree)
        (λ p within.
        unmapped (AsksWithin n) (λ (s : Step). node_asks s.node) (code p.at 0 p.tree) (subst (All (AsksWithin n)) (sym (asks p.tree p.at 0)) (asked-within p.tree within)))
        ps names
