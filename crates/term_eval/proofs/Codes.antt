-- How long code is, and what it asks for.
use Rattle.std.proofs.Common.{◌≡◌, ℕ, suc, ◌+◌, ◌≤◌, List, [], ◌∷◌, ◌++◌, Option, None, map, length, refl, sym, ◌∙◌, ap, arith, add-one}
use Rattle.std.proofs.lemmas.List.{length-append, map-append}
use Rattle.ecam_spec.specs.Book.{Tree, Trees, constant, discrete, valid, compared, in_phase, alert, press, computer, negation, all, any, at_least, confirmed, held, risen, latched, none, more}
use Rattle.ecam_spec.specs.TermSize.{slots, nodes, nodes_of, trees}
use Rattle.term_eval.specs.declared.code.Step.{Step}
use Rattle.term_eval.specs.Woken.{Operand}
use Rattle.term_eval.specs.Code.{code, codes, many}
use Rattle.term_eval.specs.Asked.{asked, asked_of, node_asks}

longer : (n m : ℕ) → n ≡ m → suc n ≡ m + 1
longer n m e = ap suc e ∙ sym (add-one m)

longer_by_both : (n m a b : ℕ) → n ≡ a → m ≡ b → suc (n + m) ≡ a + b + 1
longer_by_both n m a b e f = omega arith

mutual
  unfolding code nodes

  -- code has a step for each node
  pub length-code : (c : Tree) (at up : ℕ) → length (code at up c) ≡ nodes c
  length-code (constant b) at up = refl
  length-code (discrete p) at up = refl
  length-code (valid p) at up = refl
  length-code (compared p op x) at up = refl
  length-code (in_phase set) at up = refl
  length-code (alert a) at up = refl
  length-code (press key) at up = refl
  length-code (computer n) at up = refl
  length-code (negation c) at up = longer _ _ (length-code c at 1)
  length-code (all cs) at up = longer _ _ (length-codes cs at 1)
  length-code (any cs) at up = longer _ _ (length-codes cs at 1)
  length-code (at_least l cs) at up = longer _ _ (length-codes cs at 1)
  length-code (confirmed c n) at up = longer _ _ (length-code c (at + 1) 1)
  length-code (held c n) at up = longer _ _ (length-code c (at + 1) 1)
  length-code (risen c) at up = longer _ _ (length-code c (at + 1) 1)
  length-code (latched s r) at up =
      ap suc (length-append (code (at + 1) 1 s) (code (at + 1 + slots s) (1 + nodes s) r))
      ∙ longer_by_both _ _ _ _ (length-code s (at + 1) 1) (length-code r (at + 1 + slots s) (1 + nodes s))

  pub length-codes : (cs : Trees) (at up : ℕ) → length (codes at up cs) ≡ nodes_of cs
  length-codes none at up = refl
  length-codes (more c cs) at up =
      length-append (code at up c) (codes (at + slots c) (up + nodes c) cs)
      ∙ ap (λ n. n + length (codes (at + slots c) (up + nodes c) cs)) (length-code c at up)
      ∙ ap (λ n. nodes c + n) (length-codes cs (at + slots c) (up + nodes c))

mutual
  unfolding asked nodes

  -- each node may ask for an operand
  pub length-asked : (c : Tree) → length (asked c) ≡ nodes c
  length-asked (constant b) = refl
  length-asked (discrete p) = refl
  length-asked (valid p) = refl
  length-asked (compared p op x) = refl
  length-asked (in_phase set) = refl
  length-asked (alert a) = refl
  length-asked (press key) = refl
  length-asked (computer n) = refl
  length-asked (negation c) = longer _ _ (length-asked c)
  length-asked (all cs) = longer _ _ (length-asked_of cs)
  length-asked (any cs) = longer _ _ (length-asked_of cs)
  length-asked (at_least l cs) = longer _ _ (length-asked_of cs)
  length-asked (confirmed c n) = longer _ _ (length-asked c)
  length-asked (held c n) = longer _ _ (length-asked c)
  length-asked (risen c) = longer _ _ (length-asked c)
  length-asked (latched s r) = ap suc (length-append (asked s) (asked r)) ∙ longer_by_both _ _ _ _ (length-asked s) (length-asked r)

  pub length-asked_of : (cs : Trees) → length (asked_of cs) ≡ nodes_of cs
  length-asked_of none = refl
  length-asked_of (more c cs) = length-append (asked c) (asked_of cs) ∙ ap (λ n. n + length (asked_of cs)) (length-asked c) ∙ ap (λ n. nodes c + n) (length-asked_of cs)

abbrev pub step_asks : Step → Option Operand
step_asks s = node_asks s.node

both_ask : (xs ys : List Step) (s r : List (Option Operand)) → map step_asks xs ≡ s → map step_asks ys ≡ r → map step_asks (xs ++ ys) ≡ s ++ r
both_ask xs ys s r first second = map-append step_asks xs ys ∙ ap (λ l. l ++ map step_asks ys) first ∙ ap (λ l. s ++ l) second

mutual
  unfolding code asked

  -- the code of a condition asks for what the condition asks for, step by step
  pub code-asks : (c : Tree) (at up : ℕ) → map step_asks (code at up c) ≡ asked c
  code-asks (constant b) at up = refl
  code-asks (discrete p) at up = refl
  code-asks (valid p) at up = refl
  code-asks (compared p op x) at up = refl
  code-asks (in_phase set) at up = refl
  code-asks (alert a) at up = refl
  code-asks (press key) at up = refl
  code-asks (computer n) at up = refl
  code-asks (negation c) at up = ap (λ l. None ∷ l) (code-asks c at 1)
  code-asks (all cs) at up = ap (λ l. None ∷ l) (codes-ask cs at 1)
  code-asks (any cs) at up = ap (λ l. None ∷ l) (codes-ask cs at 1)
  code-asks (at_least l cs) at up = ap (λ l. None ∷ l) (codes-ask cs at 1)
  code-asks (confirmed c n) at up = ap (λ l. None ∷ l) (code-asks c (at + 1) 1)
  code-asks (held c n) at up = ap (λ l. None ∷ l) (code-asks c (at + 1) 1)
  code-asks (risen c) at up = ap (λ l. None ∷ l) (code-asks c (at + 1) 1)
  code-asks (latched s r) at up =
      ap (λ l. None ∷ l)
      (both_ask (code (at + 1) 1 s) (code (at + 1 + slots s) (1 + nodes s) r) (asked s) (asked r)
      (code-asks s (at + 1) 1) (code-asks r (at + 1 + slots s) (1 + nodes s)))

  pub codes-ask : (cs : Trees) (at up : ℕ) → map step_asks (codes at up cs) ≡ asked_of cs
  codes-ask none at up = refl
  codes-ask (more c cs) at up =
      both_ask (code at up c) (codes (at + slots c) (up + nodes c) cs) (asked c) (asked_of cs)
      (code-asks c at up) (codes-ask cs (at + slots c) (up + nodes c))

-- as many are counted as there are
pub many-trees : (cs : List Tree) → many (trees cs) ≡ length cs
unfolding many
many-trees [] = refl
many-trees (c ∷ cs) = ap suc (many-trees cs)

-- each condition has a node
pub nodes-some : (c : Tree) → 1 ≤ nodes c
unfolding nodes
nodes-some (constant b) = omega arith
nodes-some (discrete p) = omega arith
nodes-some (valid p) = omega arith
nodes-some (compared p op x) = omega arith
nodes-some (in_phase set) = omega arith
nodes-some (alert a) = omega arith
nodes-some (press key) = omega arith
nodes-some (computer n) = omega arith
nodes-some (negation c) = omega arith
nodes-some (all cs) = omega arith
nodes-some (any cs) = omega arith
nodes-some (at_least n cs) = omega arith
nodes-some (confirmed c n) = omega arith
nodes-some (held c n) = omega arith
nodes-some (risen c) = omega arith
nodes-some (latched s r) = omega arith

pub many-nodes : (cs : Trees) → many cs ≤ nodes_of cs
unfolding many nodes
many-nodes none = omega arith
many-nodes (more c cs) = omega (arith, nodes-some c, many-nodes cs)
