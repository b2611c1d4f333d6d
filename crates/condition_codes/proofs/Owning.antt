-- What belongs to one condition more is put behind what belongs to others.
use Rattle.std.proofs.Common.{◌≡◌, ℕ, suc, ◌+◌, ◌-◌, ◌<◌, ◌≤◌, Bool, true, false, cond, List, [], ◌∷◌, ◌++◌, length, slice_get, slice_index, Some, sym, ap, subst, ◌∙◌, inl, inr, arith}
use Rattle.std.proofs.lemmas.List.{get_or_append_left, get_or_push}
use Rattle.std.proofs.lemmas.Option.{slice_get_within, slice_get_cases}
use Rattle.ecam_spec.specs.TermSize.{Placed, nodes}
use Rattle.ecam_spec.specs.declared.limits.TheConstants.{TERM_NODES}
use Rattle.term_eval.specs.Code.{code, owners, owner_of, has_slot}
use Rattle.term_eval.specs.declared.code.Step.{Step}
use Rattle.term_eval.specs.declared.owner.Owner.{Owner}
use Rattle.term_eval.proofs.Codes.{length-code}
use Rattle.condition_codes.specs.Flat.{piece, ArePieces}
use Rattle.condition_codes.specs.Pieces.{AreEach, AreSlots, owners_of}
use Rattle.condition_codes.proofs.Behind.{longer, each-more}
use Rattle.condition_codes.proofs.Flat.{pieces-none, pieces-next, piece-old, piece-new, piece-long}

module _ {X : Type 0} (of : Placed → List X) where
  -- to no condition
  pub each-none : AreEach of [] (0 ∷ []) []
  each-none = record {
    pieces = pieces-none;
    each = λ j p is. absurd (let no : j < 0 = slice_get_within [] j p is in omega arith);
  }

  pub each-next : (ps : List Placed) (starts : List ℕ) (items own : List X) → AreEach of ps starts items → (p : Placed) → own ≡ of p
      → AreEach of (ps ++ p ∷ []) (starts ++ length (items ++ own) ∷ []) (items ++ own)
  each-next ps starts items own old p are =
      let starts' = starts ++ length (items ++ own) ∷ [] in
      record {
        pieces = subst (λ m. ArePieces m starts' (items ++ own)) (sym (longer ps p)) (pieces-next (length ps) starts items own old.pieces);
        each = each-more ps p (λ j q. piece starts' (items ++ own) j ≡ of q)
            (λ j q is. piece-old (length ps) starts items own old.pieces j (slice_get_within ps j q is) ∙ old.each j q is)
            (piece-new (length ps) starts items own old.pieces ∙ are);
      }

pub slots-none : (starts : List ℕ) → AreSlots [] starts
slots-none starts j p is = absurd (let no : j < 0 = slice_get_within [] j p is in omega arith)

-- its slots
pub slots-next : (ps : List Placed) (starts : List ℕ) (p : Placed) → length starts ≡ length ps → AreSlots ps starts → AreSlots (ps ++ p ∷ []) (starts ++ p.at ∷ [])
slots-next ps starts p count old =
    each-more ps p (λ j q. slice_index (starts ++ p.at ∷ []) j ≡ q.at)
    (λ j q is. get_or_append_left starts (p.at ∷ []) 0 j (omega (arith, slice_get_within ps j q is, count)) ∙ old j q is)
    (get_or_push starts p.at 0 (length ps) count)

-- no more nodes are temporal than there are
few-owners : (n : ℕ) (steps : List Step) → length (owners n steps) ≤ length steps
unfolding owners
few-owners n [] = omega arith
few-owners n (s ∷ steps) = by (has_slot s.node) (few-owners (n + 1) steps) where
  by : (own : Bool) → length (owners (n + 1) steps) ≤ length steps → length (cond own (owner_of n s.node ∷ owners (n + 1) steps) (owners (n + 1) steps)) ≤ suc (length steps)
  by true le = omega arith
  by false le = omega arith

-- so a condition has few temporal nodes
pub owners-few : (ps : List Placed) (starts : List ℕ) (temporal : List Owner) → AreEach owners_of ps starts temporal → ((j : ℕ) (p : Placed) → slice_get ps j ≡ Some p → nodes p.tree ≤ TERM_NODES)
    → (j : ℕ) → suc j < length starts → slice_index starts (suc j) - slice_index starts j ≤ TERM_NODES
owners-few ps starts temporal are small j less =
    let inside : j < length ps = omega (arith, less, are.pieces.count) in
    elim (slice_get_cases ps j).1 [
      | inl place ↦
          let p = place.0 in
          omega (
            arith,
            piece-long (length ps) starts temporal are.pieces j inside,
            ap length (are.each j p place.2),
            few-owners 0 (code p.at 0 p.tree),
            length-code p.tree p.at 0,
            small j p place.2,
          )
      | inr past ↦ absurd (omega (arith, past.0, inside))
    ]
