-- Which slots are of the temporal nodes of which condition.
use Rattle.std.proofs.Common.{◌≡◌, ℕ, suc, ◌+◌, ◌<◌, ◌≤◌, Bool, true, false, cond, List, [], ◌∷◌, map, length, slice_get, get_or, Some, refl, sym, ap, subst, ◌∙◌, inl, inr, arith}
use Rattle.std.proofs.Math.Nat.{eq-or-lt_of_le}
use Rattle.std.proofs.lemmas.Option.{slice_get_within, slice_get-get_or}
use Rattle.ecam_spec.specs.Book.{Book, Tree}
use Rattle.ecam_spec.specs.TermSize.{Placed, slots}
use Rattle.book_model.specs.Conditions.{places}
use Rattle.book_model.proofs.ConditionRanges.{ranges-apart}
use Rattle.term_eval.specs.declared.owner.Owner.{Owner}
use Rattle.term_eval.specs.Code.{code, owners, owner_of}
use Rattle.term_eval.specs.Linked.{AreOwned}
use Rattle.term_eval.specs.Parts.{Part, parts, is_temporal}
use Rattle.term_eval.proofs.Inside.{node_at}
use Rattle.term_eval.proofs.PartLaws.{step_of, parts-code}
use Rattle.term_eval.proofs.Owned.{has-slot, temporal_count, many-slots, follow}
use Rattle.condition_codes.specs.IsCodes.{IsCodes}
use Rattle.condition_codes.specs.Pieces.{owners_of}
use Rattle.condition_codes.specs.declared.codes.CodeTable.{CodeTable}
use Rattle.fwc_lane.specs.TermsFit.{OwnsBelow}
use Rattle.fwc_lane.proofs.NodeFrames.{ends-before}

-- what is read of the temporal ones among some nodes
owners-some : (m : ℕ) (xs : List Part) → length (owners m (map step_of xs)) ≡ temporal_count xs
unfolding owners temporal_count
owners-some m [] = refl
owners-some m (x ∷ xs) =
    ap (λ own. length (cond own (owner_of m (node_at x.at x.tree) ∷ owners (m + 1) (map step_of xs)) (owners (m + 1) (map step_of xs)))) (has-slot x.tree x.at)
    ∙ by (is_temporal x.tree) (owners-some (m + 1) xs) where
      by : (own : Bool) → length (owners (m + 1) (map step_of xs)) ≡ temporal_count xs
          → length (cond own (owner_of m (node_at x.at x.tree) ∷ owners (m + 1) (map step_of xs)) (owners (m + 1) (map step_of xs)))
          ≡ cond own (suc (temporal_count xs)) (temporal_count xs)
      by true is = ap suc is
      by false is = is

-- a condition has as many temporal nodes as slots
pub many-owners : (c : Tree) (at : ℕ) → length (owners 0 (code at 0 c)) ≡ slots c
many-owners c at =
    ap (λ l. length (owners 0 l)) (parts-code at 0 c) ∙ owners-some 0 (parts at 0 c)
    ∙ (let many = many-slots at (at + slots c) (parts at 0 c) (follow c at) in omega (arith, many))

-- the slots of one condition more are told of its temporal nodes
pub owns-next : (b : Book) (i : ℕ) (p : Placed) (old new : List Owner) → slice_get (places b) i ≡ Some p → AreOwned new p.at (owners_of p)
    → ((s : ℕ) → s < p.at → slice_get new s ≡ slice_get old s) → OwnsBelow b i old → OwnsBelow b (i + 1) new
owns-next b i p old new here own before owns = record {
  each = λ j q lt is. elim (eq-or-lt_of_le (let le : j ≤ i = omega arith in le)) [
    | inl same ↦
        let both : Some p ≡ Some q = sym here ∙ ap (slice_get (places b)) (sym same) ∙ is in
        let e : p ≡ q = cc in
        subst (λ (r : Placed). AreOwned new r.at (owners_of r)) e own
    | inr less ↦ λ n o has.
        let inside = slice_get_within (owners_of q) n o has in
        before (q.at + n) (omega (arith, inside, many-owners q.tree q.at, ends-before (places b) j i q p (ranges-apart b) less is here))
        ∙ owns.each j q less is n o has
  ];
}

-- two books of the same codes have the same temporal nodes
pub owns-other : (b other : Book) (c : CodeTable) (all : List Owner) → IsCodes b c → IsCodes other c → OwnsBelow other (length (places other)) all → OwnsBelow b (length (places b)) all
owns-other b other c all coded also owns = record {
  each = λ j p lt is.
      let inside : j < length (places other) = omega (arith, lt, coded.owners.pieces.count, also.owners.pieces.count) in
      let q = get_or (places other) j p in
      let there : slice_get (places other) j ≡ Some q = slice_get-get_or (places other) j p inside in
      let at : q.at ≡ p.at = sym (also.slots j q there) ∙ coded.slots j p is in
      let same : owners_of q ≡ owners_of p = sym (also.owners.each j q there) ∙ coded.owners.each j p is in
      subst (λ n. AreOwned all n (owners_of p)) at (subst (AreOwned all q.at) same (owns.each j q inside there));
}
