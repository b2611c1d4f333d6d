-- What is kept of the nodes of a condition stands while their own states and slots stay as they were.
use Rattle.std.proofs.Common.{◌≡◌, ◌≢◌, ℕ, zero, suc, ◌+◌, ◌<◌, ◌≤◌, Bool, false, List, Some, slice_get, slice_index, get_or, min, refl, ap, subst, ◌∙◌, inl, inr, arith, AllPairs}
use Rattle.std.proofs.lemmas.Option.{slice_get_within, get_or_from_slice_get}
use Rattle.std.proofs.lemmas.Bool.{cases_lt}
use Rattle.ecam_spec.specs.Book.{Book, Tree}
use Rattle.ecam_spec.specs.Term.{World, holds}
use Rattle.ecam_spec.specs.TermSize.{Placed, EndsBefore, nodes, slots}
use Rattle.book_model.specs.Conditions.{places}
use Rattle.book_model.proofs.ConditionRanges.{ranges-apart}
use Rattle.term_eval.specs.Memory.{NodeMemory}
use Rattle.term_eval.specs.NodeState.{state_at, NodesWait, NodesStand, Within, first_wake}
use Rattle.term_eval.specs.Parts.{parts}
use Rattle.term_eval.proofs.Codes.{nodes-some}
use Rattle.term_eval.proofs.PartLaws.{parts-is, parts-count, slots-within, says-before}
use Rattle.term_eval.proofs.NodeKinds.{own-slot}
use Rattle.term_eval.proofs.KeptSame.{kept-same}
use Rattle.condition_codes.specs.Places.{nodes_before}
use Rattle.fwc_lane.proofs.Askers.{nodes-apart}

pub waits-same : (w : World) (h : ℕ) (asked : ℕ → Bool) (c : Tree) (at first : ℕ) (old new : NodeMemory)
    → ((i : ℕ) → first ≤ i → i < first + nodes c → state_at new.states i ≡ state_at old.states i)
    → ((s : ℕ) → at ≤ s → s < at + slots c → slice_index new.wakes s ≡ slice_index old.wakes s)
    → NodesWait w h asked c at first old → NodesWait w h asked c at first new
waits-same w h asked c at first old new states wakes waits i x is =
    let inside = slice_get_within (parts at 0 c) i x is in
    let lies = slots-within at 0 c i x is in
    kept-same w h asked x first i old new (states (first + i) (omega arith) (omega (arith, inside, parts-count at 0 c)))
    (λ temporal. wakes x.at lies.0 (omega (arith, lies.1, own-slot x.tree temporal)))
    (waits i x is)

pub wake-same : (old new : List ℕ) (at n : ℕ) → ((s : ℕ) → at ≤ s → s < at + n → slice_index new s ≡ slice_index old s) → first_wake new at n ≡ first_wake old at n
unfolding first_wake
wake-same old new at zero same = refl
wake-same old new at (suc n) same =
    ap (λ x. min x (first_wake new (at + 1) n)) (same at (omega arith) (omega arith))
    ∙ ap (min (slice_index old at)) (wake-same old new (at + 1) n (λ s low high. same s (omega arith) (omega arith)))

-- the first node tells for all
pub stands-told : (w : World) (h : ℕ) (c : Tree) (at first : ℕ) (n : NodeMemory) → NodesStand w h c at first n → (state_at n.states first).told ≡ holds w c h
stands-told w h c at first n stands =
    let own : slice_get (parts at 0 c) 0 ≡ Some (record { tree = c; at = at; up = 0 }) = ap (λ xs. slice_get xs 0) (parts-is at 0 c) in
    ap (λ i. (state_at n.states i).told) (let z : first ≡ first + 0 = omega arith in z)
    ∙ (stands 0 (record { tree = c; at = at; up = 0 }) own).told
    ∙ says-before w h (λ i. false) c 0 (λ i low high. refl)

-- ---- of two conditions of a book nothing that is kept of one is the other's

-- of two conditions the earlier ends before the later begins
pub ends-before : (ps : List Placed) (i j : ℕ) (p q : Placed) → AllPairs EndsBefore ps → i < j → slice_get ps i ≡ Some p → slice_get ps j ≡ Some q → EndsBefore p q
ends-before ps i j p q apart lt here there =
    subst (λ r. EndsBefore r q) (get_or_from_slice_get ps i p p here)
    (subst (EndsBefore (get_or ps i p)) (get_or_from_slice_get ps j q p there) (apart i j p lt (slice_get_within ps j q there)))

module _ (b : Book) (own j : ℕ) (q p : Placed) (here : slice_get (places b) own ≡ Some q) (there : slice_get (places b) j ≡ Some p) (other : j ≢ own)
    (old new : NodeMemory) (within : Within (nodes_before (places b) own) (nodes_before (places b) own + nodes q.tree) q.at (q.at + slots q.tree) old new) where
  states-apart : (i : ℕ) → nodes_before (places b) j ≤ i → i < nodes_before (places b) j + nodes p.tree → state_at new.states i ≡ state_at old.states i
  states-apart i low high = elim (cases_lt j own) [
    | inl lt ↦ within.before i (omega (arith, high, nodes-apart (places b) j own p lt there))
    | inr le ↦ within.behind i (omega (arith, low, nodes-apart (places b) own j q (omega (arith, le, other)) here))
  ]

  slots-apart : (s : ℕ) → p.at ≤ s → s < p.at + slots p.tree → slice_index new.wakes s ≡ slice_index old.wakes s
  slots-apart s low high = elim (cases_lt j own) [
    | inl lt ↦ within.slots_before s (omega (arith, high, ends-before (places b) j own p q (ranges-apart b) lt there here))
    | inr le ↦ within.slots_behind s (omega (arith, low, ends-before (places b) own j q p (ranges-apart b) (omega (arith, le, other)) here there))
  ]

  pub waits-apart : (w : World) (h : ℕ) (asked : ℕ → Bool) → NodesWait w h asked p.tree p.at (nodes_before (places b) j) old → NodesWait w h asked p.tree p.at (nodes_before (places b) j) new
  waits-apart w h asked waits = waits-same w h asked p.tree p.at (nodes_before (places b) j) old new states-apart slots-apart waits

  pub wake-apart : first_wake new.wakes p.at (slots p.tree) ≡ first_wake old.wakes p.at (slots p.tree)
  wake-apart = wake-same old.wakes new.wakes p.at (slots p.tree) slots-apart

  pub told-apart : (state_at new.states (nodes_before (places b) j)).told ≡ (state_at old.states (nodes_before (places b) j)).told
  told-apart = ap (λ s. s.told) (states-apart (nodes_before (places b) j) (omega arith) (omega (arith, nodes-some p.tree)))
