-- What is so of each part of a condition is so of what its first node heads, and of each part of its children.
use Rattle.std.proofs.Common.{◌≡◌, ℕ, zero, suc, ◌+◌, ◌⊎◌, List, [], ◌∷◌, ◌++◌, Some, inl, inr, sym, ◌∙◌, ap, subst, arith}
use Rattle.std.specs.Prelude.{slice_get}
use Rattle.std.proofs.lemmas.Option.{slice_get_within}
use Rattle.ecam_spec.specs.Book.{Tree, Trees, more}
use Rattle.ecam_spec.specs.TermSize.{slots, nodes, children}
use Rattle.term_eval.specs.Parts.{Part, parts, parts_of, Heads}
use Rattle.term_eval.proofs.Inside.{inside}
use Rattle.term_eval.proofs.PartLaws.{get-left, get-right, parts-is, parts-count, parts-inner}

abbrev pub part : Tree → ℕ → ℕ → Part
part c at up = record { tree = c; at = at; up = up }

-- an item of two lists, one behind the other, is one of the first or of the second
get-first : {X : Type 0} (xs ys : List X) (i : ℕ) (x : X) → slice_get xs i ≡ Some x → slice_get (xs ++ ys) i ≡ Some x
get-first xs ys i x h = get-left xs ys i (slice_get_within xs i x h) ∙ h

pub in-both : {X : Type 0} (xs ys : List X) (i : ℕ) (x : X) → slice_get (xs ++ ys) i ≡ Some x → (slice_get xs i ≡ Some x) ⊎ ((k : ℕ) × (slice_get ys k ≡ Some x))
in-both [] ys i x h = inr (i, h)
in-both (y ∷ xs) ys zero x h = inl h
in-both (y ∷ xs) ys (suc i) x h = in-both xs ys i x h

module _ (P : ℕ → Part → Type 0) where
  -- it is so of each part of a condition whose slots start at a place, and whose first node has this number
  pub record Each (at up : ℕ) (c : Tree) (p : ℕ) : Type 0 where
    pub so : (j : ℕ) (x : Part) → slice_get (parts at up c) j ≡ Some x → P (p + j) x

  -- the same of some conditions one behind another
  pub record EachOf (at up : ℕ) (cs : Trees) (p : ℕ) : Type 0 where
    pub so : (j : ℕ) (x : Part) → slice_get (parts_of at up cs) j ≡ Some x → P (p + j) x

  pub own : (at up : ℕ) (c : Tree) (p : ℕ) → Each at up c p → P p (part c at up)
  own at up c p each =
      let here : p + 0 ≡ p = omega arith in
      subst (λ i. P i (part c at up)) here (each.so 0 (part c at up) (ap (λ l. slice_get l 0) (parts-is at up c)))

  pub inner : (at up : ℕ) (c : Tree) (p : ℕ) → Each at up c p → EachOf (inside at c) 1 (children c) (p + 1)
  inner at up c p each = record {
    so = λ j x h.
        let there : p + suc j ≡ p + 1 + j = omega arith in
        subst (λ i. P i x) there (each.so (suc j) x (ap (λ l. slice_get l (suc j)) (parts-is at up c) ∙ h));
  }

  pub front : (at up : ℕ) (c : Tree) (cs : Trees) (p : ℕ) → EachOf at up (more c cs) p → Each at up c p
  unfolding parts
  front at up c cs p each = record { so = λ j x h. each.so j x (get-first (parts at up c) (parts_of (at + slots c) (up + nodes c) cs) j x h) }

  pub rest : (at up : ℕ) (c : Tree) (cs : Trees) (p : ℕ) → EachOf at up (more c cs) p → EachOf (at + slots c) (up + nodes c) cs (p + nodes c)
  unfolding parts
  rest at up c cs p each = record {
    so = λ j x h.
        let there : p + (nodes c + j) ≡ p + nodes c + j = omega arith in
        let e = ap (λ n. slice_get (parts at up c ++ parts_of (at + slots c) (up + nodes c) cs) (n + j)) (sym (parts-count at up c)) in
        subst (λ i. P i x) there (each.so (nodes c + j) x (e ∙ get-right (parts at up c) (parts_of (at + slots c) (up + nodes c) cs) j ∙ h));
  }

  pub whole : (c : Tree) (at : ℕ) → ((i : ℕ) (x : Part) → Heads c at i x → P i x) → Each at 0 c 0
  whole c at each = record {
    so = λ j x h.
        let here : j ≡ 0 + j = omega arith in
        subst (λ i. P i x) here (each j x h);
  }

  -- and of each part of a part
  pub of-part : (c : Tree) (at : ℕ) → ((i : ℕ) (x : Part) → Heads c at i x → P i x) → (i : ℕ) (x : Part) → Heads c at i x → Each x.at x.up x.tree i
  of-part c at each i x heads = record {
    so = λ j y h.
        let within = slice_get_within (parts x.at x.up x.tree) j y h in
        each (i + j) y (parts-inner at 0 c i x heads j (omega (within, parts-count x.at x.up x.tree, arith)) ∙ h);
  }
