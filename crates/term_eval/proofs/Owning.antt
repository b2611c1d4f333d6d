-- What is read of a code's temporal nodes is put one behind another.
use Rattle.std.proofs.Common.{◌≡◌, ℕ, ◌+◌, ◌<◌, true, false, List, ◌∷◌, ◌++◌, [], length, drop, get_or, cond, sym, ◌∙◌, ap, add-one}
use Rattle.std.proofs.lemmas.List.{append_assoc}
use Rattle.std.proofs.Math.Seq.{drop-cons}
use Rattle.term_eval.specs.declared.code.Step.{Step}
use Rattle.term_eval.specs.declared.owner.Owner.{Owner}
use Rattle.term_eval.specs.Code.{owners, owner_of, has_slot}

owners-from : (i : ℕ) (xs : List Step) (d : Step) → i < length xs →
    owners i (drop i xs) ≡ cond (has_slot (get_or xs i d).node)
    (owner_of i (get_or xs i d).node ∷ owners (i + 1) (drop (i + 1) xs)) (owners (i + 1) (drop (i + 1) xs))
unfolding owners
owners-from i xs d within = ap (owners i) (drop-cons xs i d within ∙ ap (λ n. get_or xs i d ∷ drop n xs) (sym (add-one i)))

module _ (i : ℕ) (xs : List Step) (d : Step) (within : i < length xs) (before : List Owner) where
  pub one-more : true ≡ has_slot (get_or xs i d).node → (before ++ owner_of i (get_or xs i d).node ∷ []) ++ owners (i + 1)
      (drop (i + 1) xs) ≡ before ++ owners i (drop i xs)
  one-more is =
      append_assoc before (owner_of i (get_or xs i d).node ∷ []) (owners (i + 1) (drop (i + 1) xs))
      ∙ ap (λ b. before ++ cond b (owner_of i (get_or xs i d).node ∷ owners (i + 1) (drop (i + 1) xs))
      (owners (i + 1) (drop (i + 1) xs))) is
      ∙ sym (ap (λ l. before ++ l) (owners-from i xs d within))

  pub no-more : false ≡ has_slot (get_or xs i d).node → before ++ owners (i + 1) (drop (i + 1) xs) ≡ before ++ owners i (drop i xs)
  no-more is =
      ap (λ b. before ++ cond b (owner_of i (get_or xs i d).node ∷ owners (i + 1) (drop (i + 1) xs))
      (owners (i + 1) (drop (i + 1) xs))) is
      ∙ sym (ap (λ l. before ++ l) (owners-from i xs d within))
