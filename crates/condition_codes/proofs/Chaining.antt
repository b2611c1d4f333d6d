-- Nodes are put before the others that ask for the same operand.
use Rattle.std.proofs.Common.{◌≡◌, ℕ, suc, ◌<◌, ◌≤◌, List, map, replicate, length, get_or, set, slice_get, slice_index, Option, Some, None, sym, ap, subst, ◌∙◌, inl, inr, arith}
use Rattle.std.specs.Option.{option_map}
use Rattle.std.proofs.lemmas.Bool.{cases_eq, cases_lt}
use Rattle.std.proofs.lemmas.List.{get_or-set_same, get_or-set_other, get_or-replicate, length-replicate}
use Rattle.std.proofs.lemmas.Option.{slice_get_within, slice_get-map, slice_get-get_or}
use Rattle.std.proofs.Math.ListN.{length-set}
use Rattle.term_eval.specs.Asked.{node_asks}
use Rattle.term_eval.specs.declared.code.Step.{Step}
use Rattle.watch_lists.specs.declared.number.Sizes.{Sizes}
use Rattle.watch_lists.specs.Naming.{operand_number}
use Rattle.condition_codes.specs.Chains.{wanted, Wants, IsNext, AreChains}

module _ (ws : List (Option ℕ)) where
  -- behind the last node no node asks for anything
  none-next : (o : ℕ) → IsNext ws o (length ws) (length ws)
  none-next o = record {
    low = omega arith;
    high = omega arith;
    asks = λ lt. absurd (omega arith);
    first = λ m le lt wants. absurd (omega arith);
  }

  pub chains-none : (firsts nexts : List ℕ) (k : ℕ) → firsts ≡ replicate k (length ws) → AreChains ws (length ws) firsts nexts
  chains-none firsts nexts k is = record {
    first = λ o lt.
        let inside : o < k = omega (arith, ap length is, length-replicate k (length ws)) in
        let own : slice_index firsts o ≡ length ws = ap (λ l. slice_index l o) is ∙ get_or-replicate k o (length ws) 0 inside in
        subst (IsNext ws o (length ws)) (sym own) (none-next o);
    next = λ m o le wants. absurd (let in_ws : m < length ws = slice_get_within ws m (Some o) wants in omega arith);
  }

  module _ (node : ℕ) (firsts nexts : List ℕ) (old : AreChains ws (suc node) firsts nexts) where
    -- a node that asks for no operand, or for another
    earlier : (o f : ℕ) → (Wants ws node o → ⊥) → IsNext ws o (suc node) f → IsNext ws o node f
    earlier o f not next = record {
      low = omega (arith, next.low);
      high = next.high;
      asks = next.asks;
      first = λ m le lt wants. elim (cases_lt node m) [
        | inl after ↦ next.first m after lt wants
        | inr before ↦ not (subst (λ i. Wants ws i o) (let e : m ≡ node = omega arith in e) wants)
      ];
    }

    pub chains-skip : slice_get ws node ≡ Some None → AreChains ws node firsts nexts
    chains-skip blank = record {
      first = λ o lt. earlier o (slice_index firsts o) (λ wants. let e : Some None ≡ Some (Some o) = sym blank ∙ wants in absurd (let w : ⊥ = cc in w)) (old.first o lt);
      next = λ m o le wants. elim (cases_lt node m) [
        | inl after ↦ old.next m o after wants
        | inr before ↦
            let here : slice_get ws node ≡ Some (Some o) = ap (slice_get ws) (let e : node ≡ m = omega arith in e) ∙ wants in
            absurd (let e : Some None ≡ Some (Some o) = sym blank ∙ here in let w : ⊥ = cc in w)
      ];
    }

    module _ (o : ℕ) (here : slice_get ws node ≡ Some (Some o)) (within : o < length firsts) (inside : node < length nexts) where
      alone : (q : ℕ) → Wants ws node q → o ≡ q
      alone q wants = let e : Some (Some o) ≡ Some (Some q) = sym here ∙ wants in let f : o ≡ q = cc in f

      in-ws : node < length ws
      in-ws = slice_get_within ws node (Some o) here

      -- the node is the first from itself on that asks for its operand
      own-first : IsNext ws o node node
      own-first = record {
        low = omega arith;
        high = omega (arith, in-ws);
        asks = λ lt. here;
        first = λ m le lt wants. absurd (omega arith);
      }

      first-at : (q : ℕ) → q < length firsts → IsNext ws q node (slice_index (set firsts o node) q)
      first-at q lt = elim (cases_eq o q) [
        | inl e ↦ subst (λ r. IsNext ws r node (slice_index (set firsts o node) r)) e (subst (IsNext ws o node) (sym (get_or-set_same firsts o node 0 within)) own-first)
        | inr ne ↦
            subst (IsNext ws q node) (sym (get_or-set_other firsts o q node 0 (λ e. ne (sym e)))) (earlier q (slice_index firsts q) (λ wants. ne (alone q wants)) (old.first q lt))
      ]

      module _ (f : ℕ) (is : f ≡ slice_index firsts o) where
        behind : IsNext ws o (suc node) f
        behind = subst (IsNext ws o (suc node)) (sym is) (old.first o within)

        next-at : (m q : ℕ) → node ≤ m → Wants ws m q → IsNext ws q (suc m) (slice_index (set nexts node f) m)
        next-at m q le wants = elim (cases_eq node m) [
          | inl e ↦
              let same : o ≡ q = alone q (ap (slice_get ws) e ∙ wants) in
              subst (λ i. IsNext ws q (suc i) (slice_index (set nexts node f) i)) e
              (subst (IsNext ws q (suc node)) (sym (get_or-set_same nexts node f 0 inside)) (subst (λ r. IsNext ws r (suc node) f) same behind))
          | inr ne ↦
              subst (IsNext ws q (suc m)) (sym (get_or-set_other nexts node m f 0 (λ e. ne (sym e)))) (old.next m q (omega arith) wants)
        ]

        pub chains-next : AreChains ws node (set firsts o node) (set nexts node f)
        chains-next = record {
          first = λ q lt. first-at q (omega (arith, length-set firsts o node));
          next = next-at;
        }

        pub forward-next : ((m : ℕ) → m < length nexts → m < slice_index nexts m) → (m : ℕ) → m < length (set nexts node f) → m < slice_index (set nexts node f) m
        forward-next forward m lt = elim (cases_eq node m) [
          | inl e ↦ omega (arith, behind.low, ap (slice_index (set nexts node f)) e, get_or-set_same nexts node f 0 inside)
          | inr ne ↦ omega (arith, get_or-set_other nexts node m f 0 (λ e. ne (sym e)), forward m (omega (arith, length-set nexts node f)))
        ]

-- what a node wants, by its step
pub wants-at : (n : Sizes) (steps : List Step) (i : ℕ) (s : Step) (o : Option ℕ) → i < length steps → o ≡ option_map (operand_number n) (node_asks (get_or steps i s).node)
    → slice_get (map (wanted n) steps) i ≡ Some o
wants-at n steps i s o lt is = slice_get-map (wanted n) steps i ∙ ap (option_map (wanted n)) (slice_get-get_or steps i s lt) ∙ ap Some (sym is)
