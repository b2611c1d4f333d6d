-- The code of one condition more is put behind those of others.
use Rattle.std.proofs.Common.{◌≡◌, ℕ, suc, ◌<◌, ◌≤◌, List, [], ◌∷◌, ◌++◌, length, slice_get, slice_index, Some, refl, sym, ap, subst, ◌∙◌, inl, inr, arith}
use Rattle.std.specs.List.{flat_map}
use Rattle.std.proofs.lemmas.Bool.{cases_lt}
use Rattle.std.proofs.lemmas.Grind.{flat_map-append}
use Rattle.std.proofs.lemmas.List.{length-append, append-nil}
use Rattle.std.proofs.lemmas.List.FromFn.{length-map-range_with_len}
use Rattle.std.proofs.lemmas.Option.{slice_get_within}
use Rattle.ecam_spec.specs.TermSize.{Placed, nodes}
use Rattle.term_eval.specs.Code.{code, IsCode}
use Rattle.term_eval.specs.Links.{link_from}
use Rattle.term_eval.specs.declared.code.Step.{Step}
use Rattle.term_eval.specs.declared.link.Link.{Link}
use Rattle.term_eval.proofs.Codes.{length-code}
use Rattle.condition_codes.specs.Flat.{piece, ArePieces}
use Rattle.condition_codes.specs.Places.{nodes_before}
use Rattle.condition_codes.specs.Pieces.{AreCodes, AreEach, links_of}
use Rattle.condition_codes.proofs.Behind.{longer, each-more}
use Rattle.condition_codes.proofs.Flat.{pieces-none, pieces-next, piece-old, piece-new, start-old, start-new}
use Rattle.condition_codes.proofs.Places.{nodes-none, nodes-old, nodes-new}

module _ (ps : List Placed) (starts : List ℕ) (steps own : List Step) (old : AreCodes ps starts steps) (p : Placed) (coded : IsCode p.tree p.at own) where
  abbrev n : ℕ
  n = length ps

  abbrev starts' : List ℕ
  starts' = starts ++ length (steps ++ own) ∷ []

  abbrev ps' : List Placed
  ps' = ps ++ p ∷ []

  code-at : (j : ℕ) (q : Placed) → slice_get ps' j ≡ Some q → IsCode q.tree q.at (piece starts' (steps ++ own) j)
  code-at =
      each-more ps p (λ j q. IsCode q.tree q.at (piece starts' (steps ++ own) j))
      (λ j q is. subst (IsCode q.tree q.at) (sym (piece-old n starts steps own old.pieces j (slice_get_within ps j q is))) (old.codes j q is))
      (subst (IsCode p.tree p.at) (sym (piece-new n starts steps own old.pieces)) coded)

  many : length own ≡ nodes p.tree
  many = ap length coded.is ∙ length-code p.tree p.at 0

  nodes-at : (j : ℕ) → j ≤ length ps' → slice_index starts' j ≡ nodes_before ps' j
  nodes-at j le = elim (cases_lt n j) [
    | inl after ↦
        let e : j ≡ suc n = omega (arith, longer ps p) in
        omega (
          arith,
          ap (slice_index starts') e,
          ap (nodes_before ps') e,
          start-new n starts steps own old.pieces,
          length-append steps own,
          many,
          nodes-new ps p,
          old.pieces.ends,
          old.nodes n (omega arith),
        )
    | inr before ↦ start-old n starts steps own old.pieces j before ∙ old.nodes j before ∙ sym (nodes-old ps p j before)
  ]

  pub codes-next : AreCodes ps' starts' (steps ++ own)
  codes-next = record {
    pieces = subst (λ m. ArePieces m starts' (steps ++ own)) (sym (longer ps p)) (pieces-next n starts steps own old.pieces);
    nodes = nodes-at;
    codes = code-at;
    whole = ap (λ l. l ++ own) old.whole
        ∙ ap (λ l. flat_map (λ (q : Placed). code q.at 0 q.tree) ps ++ l) (coded.is ∙ sym (append-nil (code p.at 0 p.tree)))
        ∙ sym (flat_map-append (λ (q : Placed). code q.at 0 q.tree) ps (p ∷ []));
  }

-- each node has a link
pub ends-same : (ps : List Placed) (starts : List ℕ) (steps : List Step) (own : List Link) → AreCodes ps starts steps → AreEach links_of ps starts own → (p : Placed)
    → length (own ++ links_of p) ≡ length (steps ++ code p.at 0 p.tree)
ends-same ps starts steps own codes linked p =
    omega (
      arith,
      length-append own (links_of p),
      length-append steps (code p.at 0 p.tree),
      codes.pieces.ends,
      linked.pieces.ends,
      length-map-range_with_len (link_from (code p.at 0 p.tree)) 0 (length (code p.at 0 p.tree)),
    )

-- of no condition
pub codes-none : AreCodes [] (0 ∷ []) []
codes-none = record {
  pieces = pieces-none;
  nodes = λ j le. let e : j ≡ 0 = omega arith in ap (slice_index (0 ∷ [])) e ∙ sym (nodes-none []) ∙ ap (nodes_before []) (sym e);
  codes = λ j p is. absurd (let no : j < 0 = slice_get_within [] j p is in omega arith);
  whole = refl;
}
