-- What a node that is asked in the first moment says, keeps and is due, kind by kind.
use Rattle.std.proofs.Common.{◌≡◌, ◌≢◌, ℕ, suc, ◌+◌, ◌<◌, ◌≤◌, ◌⊎◌, min, Bool, true, false, not, List, [], ◌∷◌, eqb, leb, ltb, length, inl, inr, refl, sym, ◌∙◌, ap, arith}
use Rattle.std.specs.Prelude.{slice_set, slice_index}
use Rattle.std.proofs.lemmas.List.{length-set, get_or-set_same, get_or-set_other}
use Rattle.std.proofs.lemmas.Bool.{lt-ltb, le-ltb}
use Rattle.std.proofs.lemmas.Bool.Decides.{nat_tests}
use Rattle.ecam_spec.specs.Past.{previous}
use Rattle.ecam_spec.specs.Book.{Tree, Trees, constant, discrete, valid, compared, in_phase, alert, press, computer, negation, all, any, at_least, confirmed, held, risen, latched, none, more}
use Rattle.ecam_spec.specs.Term.{World, holds, truths}
use Rattle.ecam_spec.specs.TermSize.{slots, slots_of, children}
use Rattle.ecam_spec.specs.TermNames.{IsWithin}
use Rattle.term_eval.specs.declared.env.Env.{Env}
use Rattle.term_eval.specs.declared.memory.Cell.{Cell}
use Rattle.term_eval.specs.declared.memory.Cell.TheVariants.{Off}
use Rattle.term_eval.specs.CellWords.{never, cell_at, on_if}
use Rattle.term_eval.specs.CellState.{Stand}
use Rattle.term_eval.specs.Shown.{Shows}
use Rattle.term_eval.specs.OwnDue.{own_due, risen_due}
use Rattle.term_eval.specs.Code.{many}
use Rattle.term_eval.specs.NodeState.{one_if, first_wake}
use Rattle.term_eval.specs.Parts.{is_temporal}
use Rattle.term_eval.specs.Run.{cells_after, due_after, second}
use Rattle.term_eval.specs.Begin.{answer, wakes_after}
use Rattle.term_eval.proofs.Members.{how_many, counted, all_hold, any_holds, length-many}
use Rattle.term_eval.proofs.Atoms.{steps-constant, steps-discrete, steps-valid, steps-compared, steps-in_phase, steps-alert, steps-press, steps-computer}
use Rattle.term_eval.proofs.NodeSteps.{confirm_truth, confirm_cell, confirm_due, hold_truth, hold_cell, hold_due, rise_truth, latch_truth}
use Rattle.term_eval.proofs.FirstWake.{first-most, first-same}
use Rattle.term_eval.proofs.Inside.{node_at, inside, OwnCell}

-- ---- how many children hold

one-counted : (b : Bool) → how_many (b ∷ []) ≡ one_if b + 0
one-counted b = counted b []

two-counted : (a b : Bool) → how_many (a ∷ b ∷ []) ≡ one_if a + (one_if b + 0)
two-counted a b = counted a (b ∷ []) ∙ ap (λ n. one_if a + n) (one-counted b)

one-held : (b : Bool) (n : ℕ) → n ≡ one_if b + 0 → ltb 0 n ≡ b
one-held true n is = lt-ltb 0 n (omega arith)
one-held false n is = le-ltb 0 n (omega arith)

none-held : (b : Bool) (n : ℕ) → n ≡ one_if b + 0 → eqb n 0 ≡ not b
none-held true n is = grind (arith, nat_tests)
none-held false n is = grind (arith, nat_tests)

other-held : (a b : Bool) (n : ℕ) → n ≡ one_if a + (one_if b + 0) → second a n ≡ b
other-held true true n is = lt-ltb 1 n (omega arith)
other-held true false n is = le-ltb 1 n (omega arith)
other-held false true n is = lt-ltb 0 n (omega arith)
other-held false false n is = le-ltb 0 n (omega arith)

-- the first of some conditions holds, if there is one
abbrev pub FirstHolds : World → Trees → Bool → Type 0
FirstHolds w none first = Unit {0}
FirstHolds w (more c cs) first = first ≡ holds w c 0

-- ---- what a node says by how many of its children hold, and the first or not

pub record Right (env : Env) (w : World) (c : Tree) (at : ℕ) (cells : List Cell) (count : ℕ) (first : Bool) : Type 0 where
  pub told : answer env cells count first (node_at at c) ≡ holds w c 0
  pub wake : due_after 0 cells count (node_at at c) ≡ own_due w c 0
  pub cell : OwnCell w 1 c (cell_at (cells_after 0 cells count first (node_at at c)) at)

pub right : (env : Env) (w : World) (c : Tree) (at : ℕ) (cells : List Cell) (count : ℕ) (first : Bool) → Shows env w 0 → IsWithin (length env.values.now) (length env.active.now) c →
    at + slots c ≤ length cells → count ≡ how_many (truths w (children c) 0) → FirstHolds w (children c) first → OwnCell w 0 c (cell_at cells at) → Right env w c at cells count first
unfolding IsWithin slots holds own_due previous children Stand
right env w (constant b) at cells count first shows names fits is-count is-first own = record { told = (steps-constant env 0 b at cells).truth w shows tt; wake = refl; cell = tt }
right env w (discrete x) at cells count first shows names fits is-count is-first own = record { told = (steps-discrete env 0 x at cells names).truth w shows tt; wake = refl; cell = tt }
right env w (valid x) at cells count first shows names fits is-count is-first own = record { told = (steps-valid env 0 x at cells names).truth w shows tt; wake = refl; cell = tt }
right env w (compared x op n) at cells count first shows names fits is-count is-first own = record { told = (steps-compared env 0 x op n at cells names).truth w shows tt; wake = refl; cell = tt }
right env w (in_phase set) at cells count first shows names fits is-count is-first own = record { told = (steps-in_phase env 0 set at cells).truth w shows tt; wake = refl; cell = tt }
right env w (alert a) at cells count first shows names fits is-count is-first own = record { told = (steps-alert env 0 a at cells names).truth w shows tt; wake = refl; cell = tt }
right env w (press key) at cells count first shows names fits is-count is-first own = record { told = (steps-press env 0 key at cells names).truth w shows tt; wake = refl; cell = tt }
right env w (computer n) at cells count first shows names fits is-count is-first own = record { told = (steps-computer env 0 n at cells names.0 names.1).truth w shows tt; wake = refl; cell = tt }
right env w (negation c) at cells count first shows names fits is-count is-first own = record { told = none-held (holds w c 0) count (is-count ∙ one-counted (holds w c 0)); wake = refl; cell = tt }
right env w (all cs) at cells count first shows names fits is-count is-first own = record {
  told = ap (λ n. eqb n (many cs)) is-count ∙ ap (λ n. eqb (how_many (truths w cs 0)) n) (sym (length-many w cs 0)) ∙ all_hold (truths w cs 0);
  wake = refl;
  cell = tt;
}
right env w (any cs) at cells count first shows names fits is-count is-first own = record { told = ap (λ n. ltb 0 n) is-count ∙ any_holds (truths w cs 0); wake = refl; cell = tt }
right env w (at_least n cs) at cells count first shows names fits is-count is-first own = record { told = ap (λ m. leb n m) is-count; wake = refl; cell = tt }
right env w (confirmed c n) at cells count first shows names fits is-count is-first own =
    let now = one-held (holds w c 0) count (is-count ∙ one-counted (holds w c 0)) in
    record {
      told = confirm_truth n (holds w c) 0 (cell_at cells at) (ltb 0 count) (omega arith) own now;
      wake = confirm_due n (holds w c) 0 (cell_at cells at) (ltb 0 count) own now;
      cell = get_or-set_same cells at _ Off (omega arith) ∙ confirm_cell (holds w c) 0 (cell_at cells at) (ltb 0 count) own now;
    }
right env w (held c n) at cells count first shows names fits is-count is-first own =
    let now = one-held (holds w c 0) count (is-count ∙ one-counted (holds w c 0)) in
    record {
      told = hold_truth n (holds w c) 0 (cell_at cells at) (ltb 0 count) (omega arith) own now;
      wake = hold_due n (holds w c) 0 (cell_at cells at) (ltb 0 count) own now;
      cell = get_or-set_same cells at _ Off (omega arith) ∙ hold_cell (holds w c) 0 (cell_at cells at) (ltb 0 count) own now;
    }
right env w (risen c) at cells count first shows names fits is-count is-first own =
    let now = one-held (holds w c 0) count (is-count ∙ one-counted (holds w c 0)) in
    let told = rise_truth (holds w c) 0 (cell_at cells at) (ltb 0 count) own now in
    record { told = told; wake = ap (λ b. risen_due b 0) told; cell = get_or-set_same cells at _ Off (omega arith) ∙ ap on_if now }
right env w (latched s r) at cells count first shows names fits is-count is-first own =
    let reset : second first count ≡ holds w r 0
    = ap (λ b. second b count) is-first ∙ other-held (holds w s 0) (holds w r 0) count (is-count ∙ two-counted (holds w s 0) (holds w r 0)) in
    let told = latch_truth (holds w s) (holds w r) 0 (cell_at cells at) first (second first count) own is-first reset in
    record { told = told; wake = refl; cell = get_or-set_same cells at _ Off (omega arith) ∙ ap on_if told }

-- ---- no cell and no wake is written but the node's own

apart : (at i : ℕ) → (i < at) ⊎ (at + 1 ≤ i) → i ≢ at
apart at i away e = elim away [ inl h ↦ absurd (let w : ⊥ = omega arith in w) | inr h ↦ absurd (let w : ⊥ = omega arith in w) ]

pub record Apart (at behind : ℕ) (old new : List Cell) : Type 0 where
  pub len : length new ≡ length old
  pub others : (i : ℕ) → (i < at) ⊎ (behind ≤ i) → cell_at new i ≡ cell_at old i

apart-none : (at behind : ℕ) (cells : List Cell) → Apart at behind cells cells
apart-none at behind cells = record { len = refl; others = λ i away. refl }

apart-set : (at : ℕ) (cells : List Cell) (value : Cell) → Apart at (at + 1) cells (slice_set cells at value)
apart-set at cells value = record { len = length-set cells at value; others = λ i away. get_or-set_other cells at i value Off (apart at i away) }

pub cells-apart : (c : Tree) (at : ℕ) (cells : List Cell) (count : ℕ) (first : Bool) → Apart at (inside at c) cells (cells_after 0 cells count first (node_at at c))
cells-apart (constant b) at cells count first = apart-none at at cells
cells-apart (discrete x) at cells count first = apart-none at at cells
cells-apart (valid x) at cells count first = apart-none at at cells
cells-apart (compared x op n) at cells count first = apart-none at at cells
cells-apart (in_phase set) at cells count first = apart-none at at cells
cells-apart (alert a) at cells count first = apart-none at at cells
cells-apart (press key) at cells count first = apart-none at at cells
cells-apart (computer n) at cells count first = apart-none at at cells
cells-apart (negation c) at cells count first = apart-none at at cells
cells-apart (all cs) at cells count first = apart-none at at cells
cells-apart (any cs) at cells count first = apart-none at at cells
cells-apart (at_least n cs) at cells count first = apart-none at at cells
cells-apart (confirmed c n) at cells count first = apart-set at cells _
cells-apart (held c n) at cells count first = apart-set at cells _
cells-apart (risen c) at cells count first = apart-set at cells _
cells-apart (latched s r) at cells count first = apart-set at cells _

-- ---- the first of the wakes, once a node's own is written

pub record Woken (c : Tree) (at : ℕ) (wakes new : List ℕ) (due : ℕ) : Type 0 where
  pub len : length new ≡ length wakes
  pub others : (i : ℕ) → (i < at) ⊎ (inside at c ≤ i) → slice_index new i ≡ slice_index wakes i
  pub own : is_temporal c ≡ true → slice_index new at ≡ due
  pub first : first_wake new at (slots c) ≡ min due (first_wake wakes (inside at c) (slots_of (children c)))

-- an atom, a gate, and a temporal node
woken-atom : (c : Tree) (at : ℕ) (wakes : List ℕ) → is_temporal c ≡ false → inside at c ≡ at → slots c ≡ slots_of (children c) → Woken c at wakes wakes never
woken-atom c at wakes still place size = record {
  len = refl;
  others = λ i away. refl;
  own = λ is. absurd (let w : ⊥ = cc in w);
  first = rw place (rw size (omega (arith, first-most wakes at (slots_of (children c)))));
}

woken-slot : (c : Tree) (at : ℕ) (wakes : List ℕ) (due : ℕ) → inside at c ≡ at + 1 → slots c ≡ suc (slots_of (children c)) → at < length wakes → Woken c at wakes (slice_set wakes at due) due
unfolding first_wake
woken-slot c at wakes due place size within =
    let others : (i : ℕ) → (i < at) ⊎ (at + 1 ≤ i) → slice_index (slice_set wakes at due) i ≡ slice_index wakes i = λ i away. get_or-set_other wakes at i due 0 (apart at i away) in
    let own : slice_index (slice_set wakes at due) at ≡ due = get_or-set_same wakes at due 0 within in
    record {
      len = length-set wakes at due;
      others = rw place others;
      own = λ is. own;
      first = rw place (rw size (ap (λ n. min n (first_wake (slice_set wakes at due) (at + 1) (slots_of (children c)))) own
          ∙ ap (min due) (first-same wakes (slice_set wakes at due) (at + 1) (slots_of (children c)) (λ i low. others i (inr low)))));
    }

pub woken : (c : Tree) (at : ℕ) (wakes : List ℕ) (cells : List Cell) (count : ℕ) → at + slots c ≤ length wakes →
    Woken c at wakes (wakes_after (node_at at c) wakes (due_after 0 cells count (node_at at c))) (due_after 0 cells count (node_at at c))
unfolding slots children is_temporal
woken (constant b) at wakes cells count fits = woken-atom (constant b) at wakes refl refl refl
woken (discrete x) at wakes cells count fits = woken-atom (discrete x) at wakes refl refl refl
woken (valid x) at wakes cells count fits = woken-atom (valid x) at wakes refl refl refl
woken (compared x op n) at wakes cells count fits = woken-atom (compared x op n) at wakes refl refl refl
woken (in_phase set) at wakes cells count fits = woken-atom (in_phase set) at wakes refl refl refl
woken (alert a) at wakes cells count fits = woken-atom (alert a) at wakes refl refl refl
woken (press key) at wakes cells count fits = woken-atom (press key) at wakes refl refl refl
woken (computer n) at wakes cells count fits = woken-atom (computer n) at wakes refl refl refl
woken (negation c) at wakes cells count fits = woken-atom (negation c) at wakes refl refl (omega arith)
woken (all cs) at wakes cells count fits = woken-atom (all cs) at wakes refl refl refl
woken (any cs) at wakes cells count fits = woken-atom (any cs) at wakes refl refl refl
woken (at_least n cs) at wakes cells count fits = woken-atom (at_least n cs) at wakes refl refl refl
woken (confirmed c n) at wakes cells count fits = woken-slot (confirmed c n) at wakes _ refl (omega arith) (omega arith)
woken (held c n) at wakes cells count fits = woken-slot (held c n) at wakes _ refl (omega arith) (omega arith)
woken (risen c) at wakes cells count fits = woken-slot (risen c) at wakes _ refl (omega arith) (omega arith)
woken (latched s r) at wakes cells count fits = woken-slot (latched s r) at wakes _ refl (omega arith) (omega arith)
