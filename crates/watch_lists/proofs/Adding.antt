-- A condition is put into lists, one operand after another.
use Rattle.std.proofs.Common.{◌≡◌, ℕ, ◌+◌, ◌<◌, ◌≤◌, ◌==◌, Bool, true, false, ◌&&◌, ◌||◌, List, [], ◌∷◌, ◌++◌, length, get_or, set, drop, refl, sym, ap, ◌∙◌, subst, Result, Ok, Err, OnOk, inl, inr}
use Rattle.std.proofs.lemmas.List.{get_or-set_same, get_or-set_other}
use Rattle.std.proofs.lemmas.List.Folds.{list_any-append}
use Rattle.std.proofs.lemmas.Bool.{cases_eq, eq-eqb, ne_eqb}
use Rattle.ecam_spec.specs.Book.{Tree, latched}
use Rattle.ecam_spec.specs.TermNames.{IsWithin, AreWithin}
use Rattle.term_tree.specs.declared.cond.Cond.{Cond}
use Rattle.term_tree.specs.View.{tree_of, trees_of}
use Rattle.term_tree.proofs.Members.{trees_of-end, trees_of-next}
use Rattle.term_eval.specs.Woken.{operands, operands_of}
use Rattle.watch_lists.specs.declared.number.Sizes.{Sizes}
use Rattle.watch_lists.specs.Naming.{operand_number, names, some_name}
use Rattle.watch_lists.specs.Listed.{has_term, is_listed, Adds}

turned : (a b : Bool) → (b || (a || false)) ≡ ((a && true) || b)
turned true true = refl
turned true false = refl
turned false true = refl
turned false false = refl

off : (a b : Bool) → ((a && false) || b) ≡ b
off true b = refl
off false b = refl

-- into one list
pub adds-one : (old new : List (List ℕ)) (operand t : ℕ) → operand < length old → new ≡ set old operand (get_or old operand [] ++ t ∷ []) → Adds t (λ o. operand == o) old new
adds-one old new operand t within is o j = elim (cases_eq operand o) [
  | inl e ↦
      ap (λ n. is_listed new n j) (sym e)
      ∙ ap (λ ls. is_listed ls operand j) is
      ∙ ap (λ l. has_term l j) (get_or-set_same old operand (get_or old operand [] ++ t ∷ []) [] within)
      ∙ list_any-append (λ x. x == j) (get_or old operand []) (t ∷ [])
      ∙ turned (t == j) (is_listed old operand j)
      ∙ ap (λ b. (t == j && b) || is_listed old operand j) (sym (eq-eqb operand operand refl))
      ∙ ap (λ n. (t == j && operand == n) || is_listed old n j) e
  | inr ne ↦
      ap (λ ls. is_listed ls o j) is
      ∙ ap (λ l. has_term l j) (get_or-set_other old operand o (get_or old operand [] ++ t ∷ []) [] (λ e. ne (sym e)))
      ∙ sym (off (t == j) (is_listed old o j))
      ∙ ap (λ b. (t == j && b) || is_listed old o j) (sym (ne_eqb operand o ne))
]

-- into none
pub adds-none : (lists : List (List ℕ)) (t : ℕ) (named : ℕ → Bool) → ((o : ℕ) → named o ≡ false) → Adds t named lists lists
adds-none lists t named none o j = sym (ap (λ b. (t == j && b) || is_listed lists o j) (none o) ∙ off (t == j) (is_listed lists o j))

both : (a p q b : Bool) → ((a && q) || ((a && p) || b)) ≡ ((a && (p || q)) || b)
both true true true b = refl
both true true false b = refl
both true false true b = refl
both true false false b = refl
both false p q b = refl

-- into those of two conditions, one after the other
pub adds-both : (old mid new : List (List ℕ)) (t : ℕ) (p q named : ℕ → Bool) → ((o : ℕ) → named o ≡ (p o || q o)) → Adds t p old mid → Adds t q mid new → Adds t named old new
adds-both old mid new t p q named is first second o j =
    second o j ∙ ap (λ b. (t == j && q o) || b) (first o j) ∙ both (t == j) (p o) (q o) (is_listed old o j) ∙ sym (ap (λ b. (t == j && b) || is_listed old o j) (is o))

-- of an outcome
pub on-ok : {A B : Type 0} (r : Result A B) (P Q : Type 0) → (P → Q) → OnOk r P → OnOk r Q
on-ok (Ok x) P Q goes p = goes p
on-ok (Err e) P Q goes p = p

module _ (n : Sizes) (t : ℕ) (old mid : List (List ℕ)) where
  -- into those of both conditions of a latch
  pub adds-latch : (s r : Tree) (new : List (List ℕ)) → Adds t (names n s) old mid → Adds t (names n r) mid new → Adds t (names n (latched s r)) old new
  unfolding operands
  adds-latch s r new = adds-both old mid new t (names n s) (names n r) (names n (latched s r)) (λ o. list_any-append (λ x. operand_number n x == o) (operands s) (operands r))

  -- into those of one member more
  pub adds-next : (cs : List Cond) (i : ℕ) (c : Cond) → i < length cs → c ≡ get_or cs i c → Adds t (names n (tree_of c)) old mid → (final : List (List ℕ))
      → Adds t (some_name n (trees_of (drop (i + 1) cs))) mid final → Adds t (some_name n (trees_of (drop i cs))) old final
  unfolding operands
  adds-next cs i c within is first final rest =
      adds-both old mid final t (names n (tree_of c)) (some_name n (trees_of (drop (i + 1) cs))) (some_name n (trees_of (drop i cs)))
      (λ o. ap (λ ts. some_name n ts o) (trees_of-next cs i c within is)
      ∙ list_any-append (λ x. operand_number n x == o) (operands (tree_of c)) (operands_of (trees_of (drop (i + 1) cs))))
      first rest

pub adds-end : (n : Sizes) (t : ℕ) (lists : List (List ℕ)) (cs : List Cond) (i : ℕ) → length cs ≤ i → Adds t (some_name n (trees_of (drop i cs))) lists lists
unfolding operands
adds-end n t lists cs i after = adds-none lists t (some_name n (trees_of (drop i cs))) (λ o. ap (λ ts. some_name n ts o) (trees_of-end cs i after))

pub within-next : (params alerts : ℕ) (cs : List Cond) (i : ℕ) (c : Cond) → i < length cs → c ≡ get_or cs i c → AreWithin params alerts (trees_of (drop i cs))
    → IsWithin params alerts (tree_of c) × AreWithin params alerts (trees_of (drop (i + 1) cs))
unfolding IsWithin
within-next params alerts cs i c within is are = subst (AreWithin params alerts) (trees_of-next cs i c within is) are
