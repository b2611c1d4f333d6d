-- The cells of a condition stand where the own cell of each of its parts does.
use Rattle.std.proofs.Common.{◌≡◌, ℕ, zero, suc, ◌+◌, ◌-◌, false, List, ◌++◌, length, inl, inr, Some, sym, ◌∙◌, ap, subst, arith}
use Rattle.std.specs.List.{slice_get}
use Rattle.std.proofs.lemmas.Bool.{cases_lt}
use Rattle.ecam_spec.specs.Book.{Tree, Trees, constant, discrete, valid, compared, in_phase, alert, press, computer, negation, all, any, at_least, confirmed, held, risen, latched, none, more}
use Rattle.ecam_spec.specs.Term.{World}
use Rattle.ecam_spec.specs.TermSize.{slots, nodes, children}
use Rattle.term_eval.specs.declared.memory.Cell.{Cell}
use Rattle.term_eval.specs.CellWords.{cell_at}
use Rattle.term_eval.specs.CellState.{Stand, StandAll}
use Rattle.term_eval.specs.Parts.{Part, parts, parts_of, Heads, is_temporal}
use Rattle.term_eval.proofs.Inside.{inside, OwnCell, open-cells, close-cells}
use Rattle.term_eval.proofs.PartLaws.{for-tree, parts-is, get-left, get-right}
use Rattle.term_eval.proofs.Below.{Each, EachOf, own, inner, front, rest, whole}

-- what has no slot keeps nothing in a cell
pub untimed-cell : (w : World) (k : ℕ) (c : Tree) (cell : Cell) → is_temporal c ≡ false → OwnCell w k c cell
unfolding is_temporal
untimed-cell w k (constant b) cell untimed = tt
untimed-cell w k (discrete x) cell untimed = tt
untimed-cell w k (valid x) cell untimed = tt
untimed-cell w k (compared x op n) cell untimed = tt
untimed-cell w k (in_phase set) cell untimed = tt
untimed-cell w k (alert a) cell untimed = tt
untimed-cell w k (press key) cell untimed = tt
untimed-cell w k (computer n) cell untimed = tt
untimed-cell w k (negation c) cell untimed = tt
untimed-cell w k (all cs) cell untimed = tt
untimed-cell w k (any cs) cell untimed = tt
untimed-cell w k (at_least n cs) cell untimed = tt
untimed-cell w k (confirmed c n) cell untimed = absurd (let z : ⊥ = cc in z)
untimed-cell w k (held c n) cell untimed = absurd (let z : ⊥ = cc in z)
untimed-cell w k (risen c) cell untimed = absurd (let z : ⊥ = cc in z)
untimed-cell w k (latched s r) cell untimed = absurd (let z : ⊥ = cc in z)

module _ (w : World) (k : ℕ) (cells : List Cell) where
  abbrev PartCell : ℕ → Part → Type 0
  PartCell i x = OwnCell w k x.tree (cell_at cells x.at)

  -- ---- from the whole to the parts

  OpenOf : Trees → Type 0
  OpenOf cs = (at up i : ℕ) (x : Part) → StandAll w k cs at cells → slice_get (parts_of at up cs) i ≡ Some x → PartCell i x

  OpenIn : Tree → Type 0
  OpenIn c = (at up i : ℕ) (x : Part) → Stand w k c at cells → slice_get (parts at up c) i ≡ Some x → PartCell i x

  open-node : (c : Tree) → OpenOf (children c) → OpenIn c
  unfolding OpenOf OpenIn
  open-node c below at up zero x stand is =
      let here : Some (record { tree = c; at = at; up = up }) ≡ Some x = sym (ap (λ l. slice_get l 0) (parts-is at up c)) ∙ is in
      let same : record { tree = c; at = at; up = up } ≡ x = cc in
      subst (PartCell 0) same (open-cells w k c at cells stand).0
  open-node c below at up (suc i) x stand is =
      below (inside at c) 1 i x (open-cells w k c at cells stand).1 (sym (ap (λ l. slice_get l (suc i)) (parts-is at up c)) ∙ is)

  open-none : OpenOf none
  unfolding OpenOf parts
  open-none at up i x stand is = absurd (let z : ⊥ = cc in z)

  open-more : (c : Tree) (cs : Trees) → OpenIn c → OpenOf cs → OpenOf (more c cs)
  unfolding OpenOf OpenIn parts Stand
  open-more c cs first others at up i x stand is =
      let xs = parts at up c in
      let ys = parts_of (at + slots c) (up + nodes c) cs in
      elim (cases_lt i (length xs)) [
        | inl within ↦ first at up i x stand.0 (sym (get-left xs ys i within) ∙ is)
        | inr beyond ↦
            let e : i ≡ length xs + (i - length xs) = omega arith in
            others (at + slots c) (up + nodes c) (i - length xs) x stand.1 (sym (get-right xs ys (i - length xs)) ∙ ap (slice_get (xs ++ ys)) (sym e) ∙ is)
      ]

  pub open-parts : (c : Tree) (at : ℕ) → Stand w k c at cells → (i : ℕ) (x : Part) → Heads c at i x → OwnCell w k x.tree (cell_at cells x.at)
  unfolding OpenIn
  open-parts c at stand i x heads = for-tree OpenIn OpenOf open-node open-none open-more c at 0 i x stand heads

  -- ---- and back

  CloseOf : Trees → Type 0
  CloseOf cs = (at up p : ℕ) → EachOf PartCell at up cs p → StandAll w k cs at cells

  CloseIn : Tree → Type 0
  CloseIn c = (at up p : ℕ) → Each PartCell at up c p → Stand w k c at cells

  close-node : (c : Tree) → CloseOf (children c) → CloseIn c
  unfolding CloseOf CloseIn
  close-node c below at up p each = close-cells w k c at cells (own PartCell at up c p each) (below (inside at c) 1 (p + 1) (inner PartCell at up c p each))

  close-none : CloseOf none
  unfolding CloseOf Stand
  close-none at up p each = tt

  close-more : (c : Tree) (cs : Trees) → CloseIn c → CloseOf cs → CloseOf (more c cs)
  unfolding CloseOf CloseIn Stand
  close-more c cs first others at up p each =
      (first at up p (front PartCell at up c cs p each), others (at + slots c) (up + nodes c) (p + nodes c) (rest PartCell at up c cs p each))

  pub close-parts : (c : Tree) (at : ℕ) → ((i : ℕ) (x : Part) → Heads c at i x → OwnCell w k x.tree (cell_at cells x.at)) → Stand w k c at cells
  unfolding CloseIn
  close-parts c at each = for-tree CloseIn CloseOf close-node close-none close-more c at 0 0 (whole PartCell c at each)
