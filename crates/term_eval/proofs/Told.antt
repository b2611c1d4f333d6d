-- What a temporal node that is looked at says, keeps and is due.
use Rattle.std.proofs.Common.{◌≡◌, ◌≢◌, ℕ, suc, ◌+◌, ◌<◌, ◌^◌, Bool, true, false, List, [], ltb, length, refl, ◌∙◌, ap, arith}
use Rattle.std.specs.Prelude.{slice_set}
use Rattle.std.proofs.lemmas.List.{length-set, get_or-set_same, get_or-set_other}
use Rattle.std.proofs.lemmas.Bool.{lt-ltb, le-ltb}
use Rattle.ecam_spec.specs.Past.{previous}
use Rattle.ecam_spec.specs.Book.{Tree, constant, discrete, valid, compared, in_phase, alert, press, computer, negation, all, any, at_least, confirmed, held, risen, latched}
use Rattle.ecam_spec.specs.Term.{World, holds, truths}
use Rattle.ecam_spec.specs.TermSize.{children}
use Rattle.term_eval.specs.declared.memory.Cell.{Cell}
use Rattle.term_eval.specs.declared.memory.Cell.TheVariants.{Off}
use Rattle.term_eval.specs.CellWords.{cell_at, on_if}
use Rattle.term_eval.specs.OwnDue.{own_due, risen_due}
use Rattle.term_eval.specs.NodeState.{one_if}
use Rattle.term_eval.specs.Parts.{is_temporal}
use Rattle.term_eval.specs.Run.{temporal_says, cells_after, due_after, second}
use Rattle.term_eval.proofs.Members.{how_many, counted}
use Rattle.term_eval.proofs.NodeSteps.{confirm_truth, confirm_cell, confirm_due, hold_truth, hold_cell, hold_due, rise_truth, latch_truth}
use Rattle.term_eval.proofs.Inside.{node_at, OwnCell}

one-held : (b : Bool) (n : ℕ) → n ≡ one_if b + 0 → ltb 0 n ≡ b
one-held true n is = lt-ltb 0 n (omega arith)
one-held false n is = le-ltb 0 n (omega arith)

other-held : (a b : Bool) (n : ℕ) → n ≡ one_if a + (one_if b + 0) → second a n ≡ b
other-held true true n is = lt-ltb 1 n (omega arith)
other-held true false n is = le-ltb 1 n (omega arith)
other-held false true n is = lt-ltb 0 n (omega arith)
other-held false false n is = le-ltb 0 n (omega arith)

pub record Right (w : World) (k : ℕ) (c : Tree) (at : ℕ) (cells : List Cell) (count : ℕ) (first : Bool) : Type 0 where
  pub told : temporal_says k cells count first (node_at at c) ≡ holds w c k
  pub wake : due_after k cells count (node_at at c) ≡ own_due w c k
  pub cell : OwnCell w (suc k) c (cell_at (cells_after k cells count first (node_at at c)) at)

-- the first of the two conditions of a latch holds or not
abbrev pub FirstHolds : World → ℕ → Tree → Bool → Type 0
FirstHolds w k c first = (s r : Tree) → c ≡ latched s r → first ≡ holds w s k

-- it goes by how many of its children hold
pub right : (w : World) (k : ℕ) (c : Tree) (at : ℕ) (cells : List Cell) (count : ℕ) (first : Bool) → is_temporal c ≡ true → k < 2 ^ 63 → at < length cells →
    count ≡ how_many (truths w (children c) k) → FirstHolds w k c first → OwnCell w k c (cell_at cells at) → Right w k c at cells count first
unfolding is_temporal holds own_due children previous
right w k (constant b) at cells count first temporal small fits is-count is-first own = absurd (let z : ⊥ = cc in z)
right w k (discrete x) at cells count first temporal small fits is-count is-first own = absurd (let z : ⊥ = cc in z)
right w k (valid x) at cells count first temporal small fits is-count is-first own = absurd (let z : ⊥ = cc in z)
right w k (compared x op n) at cells count first temporal small fits is-count is-first own = absurd (let z : ⊥ = cc in z)
right w k (in_phase set) at cells count first temporal small fits is-count is-first own = absurd (let z : ⊥ = cc in z)
right w k (alert a) at cells count first temporal small fits is-count is-first own = absurd (let z : ⊥ = cc in z)
right w k (press key) at cells count first temporal small fits is-count is-first own = absurd (let z : ⊥ = cc in z)
right w k (computer n) at cells count first temporal small fits is-count is-first own = absurd (let z : ⊥ = cc in z)
right w k (negation c) at cells count first temporal small fits is-count is-first own = absurd (let z : ⊥ = cc in z)
right w k (all cs) at cells count first temporal small fits is-count is-first own = absurd (let z : ⊥ = cc in z)
right w k (any cs) at cells count first temporal small fits is-count is-first own = absurd (let z : ⊥ = cc in z)
right w k (at_least n cs) at cells count first temporal small fits is-count is-first own = absurd (let z : ⊥ = cc in z)
right w k (confirmed c n) at cells count first temporal small fits is-count is-first own =
    let now = one-held (holds w c k) count (is-count ∙ counted (holds w c k) []) in
    record {
      told = confirm_truth n (holds w c) k (cell_at cells at) (ltb 0 count) small own now;
      wake = confirm_due n (holds w c) k (cell_at cells at) (ltb 0 count) own now;
      cell = get_or-set_same cells at _ Off fits ∙ confirm_cell (holds w c) k (cell_at cells at) (ltb 0 count) own now;
    }
right w k (held c n) at cells count first temporal small fits is-count is-first own =
    let now = one-held (holds w c k) count (is-count ∙ counted (holds w c k) []) in
    record {
      told = hold_truth n (holds w c) k (cell_at cells at) (ltb 0 count) small own now;
      wake = hold_due n (holds w c) k (cell_at cells at) (ltb 0 count) own now;
      cell = get_or-set_same cells at _ Off fits ∙ hold_cell (holds w c) k (cell_at cells at) (ltb 0 count) own now;
    }
right w k (risen c) at cells count first temporal small fits is-count is-first own =
    let now = one-held (holds w c k) count (is-count ∙ counted (holds w c k) []) in
    let told = rise_truth (holds w c) k (cell_at cells at) (ltb 0 count) own now in
    record { told = told; wake = ap (λ b. risen_due b k) told; cell = get_or-set_same cells at _ Off fits ∙ ap on_if now }
right w k (latched s r) at cells count first temporal small fits is-count is-first own =
    let both = is-count ∙ counted (holds w s k) (truths w (children (risen r)) k) ∙ ap (λ n. one_if (holds w s k) + n) (counted (holds w r k) []) in
    let set = is-first s r refl in
    let reset : second first count ≡ holds w r k = ap (λ b. second b count) set ∙ other-held (holds w s k) (holds w r k) count both in
    let told = latch_truth (holds w s) (holds w r) k (cell_at cells at) first (second first count) own set reset in
    record { told = told; wake = refl; cell = get_or-set_same cells at _ Off fits ∙ ap on_if told }

-- no cell is written but the node's own
pub record Apart (at : ℕ) (old new : List Cell) : Type 0 where
  pub len : length new ≡ length old
  pub others : (i : ℕ) → i ≢ at → cell_at new i ≡ cell_at old i

apart-set : (at : ℕ) (cells : List Cell) (value : Cell) → Apart at cells (slice_set cells at value)
apart-set at cells value = record { len = length-set cells at value; others = λ i other. get_or-set_other cells at i value Off other }

apart-none : (at : ℕ) (cells : List Cell) → Apart at cells cells
apart-none at cells = record { len = refl; others = λ i other. refl }

pub apart : (k : ℕ) (c : Tree) (at : ℕ) (cells : List Cell) (count : ℕ) (first : Bool) → Apart at cells (cells_after k cells count first (node_at at c))
apart k (constant b) at cells count first = apart-none at cells
apart k (discrete x) at cells count first = apart-none at cells
apart k (valid x) at cells count first = apart-none at cells
apart k (compared x op n) at cells count first = apart-none at cells
apart k (in_phase set) at cells count first = apart-none at cells
apart k (alert a) at cells count first = apart-none at cells
apart k (press key) at cells count first = apart-none at cells
apart k (computer n) at cells count first = apart-none at cells
apart k (negation c) at cells count first = apart-none at cells
apart k (all cs) at cells count first = apart-none at cells
apart k (any cs) at cells count first = apart-none at cells
apart k (at_least n cs) at cells count first = apart-none at cells
apart k (confirmed c n) at cells count first = apart-set at cells _
apart k (held c n) at cells count first = apart-set at cells _
apart k (risen c) at cells count first = apart-set at cells _
apart k (latched s r) at cells count first = apart-set at cells _
