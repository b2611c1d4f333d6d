-- One step of a condition without slots: no cell changes.
use Rattle.std.proofs.Common.{◌≡◌, ℕ, suc, ◌<◌, ◌≤◌, Bool, false, List, length, inl, inr, refl, ap, eqb, cond, arith}
use Rattle.std.specs.Prelude.{ℤ, pos, is_some}
use Rattle.std.specs.Ordering.{int_eq}
use Rattle.std.proofs.lemmas.Bool.{cases_lt}
use Rattle.ecam_spec.specs.declared.kinds.Key.{Key}
use Rattle.ecam_spec.specs.declared.kinds.Op.{Op}
use Rattle.ecam_spec.specs.Keys.{IsKey}
use Rattle.ecam_spec.specs.Book.{Tree, constant, discrete, valid, compared, in_phase, alert, press, computer}
use Rattle.ecam_spec.specs.Term.{World, holds, in_set, is_so, stands}
use Rattle.ecam_kinds.specs.KeyState.{is_pressed}
use Rattle.term_eval.specs.declared.env.Env.{Env}
use Rattle.term_eval.specs.Shown.{Shows, value_of, is_active}
use Rattle.term_eval.specs.declared.memory.Cell.{Cell}
use Rattle.term_eval.specs.CellWords.{never}
use Rattle.term_eval.specs.CellState.{Stand}
use Rattle.term_eval.specs.Woken.{turns}
use Rattle.term_eval.specs.Settles.{Still}
use Rattle.term_eval.specs.Steps.{Steps}
use Rattle.term_eval.proofs.Settling.{settles-atom}

steps-atom : (env : Env) (k : ℕ) (c : Tree) (at : ℕ) (cells : List Cell) (answer : Bool) → ((w : World) → Shows env w k → answer ≡ holds w c k) →
    ((w : World) → Still w k → (m : ℕ) → k ≤ m → holds w c m ≡ holds w c k) → ((w : World) (m : ℕ) → turns w c m ≡ false) →
    ((w : World) → Stand w k c at cells → Stand w (suc k) c at cells) → Steps env k c at cells cells answer never
steps-atom env k c at cells answer truth steady quiet stays =
    record {
      truth = λ w shows h. truth w shows;
      stands = λ w shows h. stays w h;
      settles = λ w shows still h. settles-atom w c k (steady w still) (quiet w);
      before = λ i h. refl;
      behind = λ i h. refl;
    }

pub steps-constant : (env : Env) (k : ℕ) (b : Bool) (at : ℕ) (cells : List Cell) → Steps env k (constant b) at cells cells (b) never
unfolding Stand holds turns
steps-constant env k b at cells =
    steps-atom env k (constant b) at cells (b) (λ w shows. refl) (λ w still m later. refl) (λ w m. refl) (λ w h. h)

pub steps-discrete : (env : Env) (k : ℕ) (p : ℕ) (at : ℕ) (cells : List Cell) → p < length env.values.now → Steps env k (discrete p) at cells cells (is_so (int_eq (pos 1)) (value_of env p)) never
unfolding Stand holds turns
steps-discrete env k p at cells within =
    steps-atom env k (discrete p) at cells (is_so (int_eq (pos 1)) (value_of env p)) (λ w shows. ap (is_so (int_eq (pos 1))) (shows.values p within)) (λ w still m later. ap (is_so (int_eq (pos 1))) (still.values p m later)) (λ w m. refl) (λ w h. h)

pub steps-valid : (env : Env) (k : ℕ) (p : ℕ) (at : ℕ) (cells : List Cell) → p < length env.values.now → Steps env k (valid p) at cells cells (is_some (value_of env p)) never
unfolding Stand holds turns
steps-valid env k p at cells within =
    steps-atom env k (valid p) at cells (is_some (value_of env p)) (λ w shows. ap is_some (shows.values p within)) (λ w still m later. ap is_some (still.values p m later)) (λ w m. refl) (λ w h. h)

pub steps-compared : (env : Env) (k : ℕ) (p : ℕ) (op : Op) (x : ℤ) (at : ℕ) (cells : List Cell) → p < length env.values.now → Steps env k (compared p op x) at cells cells (is_so (λ z. stands op z x) (value_of env p)) never
unfolding Stand holds turns
steps-compared env k p op x at cells within =
    steps-atom env k (compared p op x) at cells (is_so (λ z. stands op z x) (value_of env p)) (λ w shows. ap (is_so (λ z. stands op z x)) (shows.values p within)) (λ w still m later. ap (is_so (λ z. stands op z x)) (still.values p m later)) (λ w m. refl) (λ w h. h)

pub steps-in_phase : (env : Env) (k : ℕ) (set : ℕ) (at : ℕ) (cells : List Cell) → Steps env k (in_phase set) at cells cells (in_set set env.phase.number) never
unfolding Stand holds turns
steps-in_phase env k set at cells =
    steps-atom env k (in_phase set) at cells (in_set set env.phase.number) (λ w shows. ap (in_set set) shows.phase) (λ w still m later. ap (in_set set) (still.phase m later)) (λ w m. refl) (λ w h. h)

pub steps-alert : (env : Env) (k : ℕ) (a : ℕ) (at : ℕ) (cells : List Cell) → a < length env.active.now → Steps env k (alert a) at cells cells (is_active env a) never
unfolding Stand holds turns
steps-alert env k a at cells within =
    steps-atom env k (alert a) at cells (is_active env a) (λ w shows. shows.active a within) (λ w still m later. still.active a m later) (λ w m. refl) (λ w h. h)

pub steps-press : (env : Env) (k : ℕ) (key : Key) (at : ℕ) (cells : List Cell) → IsKey key → Steps env k (press key) at cells cells (is_pressed env.keys.now key) never
unfolding Stand holds turns
steps-press env k key at cells within =
    steps-atom env k (press key) at cells (is_pressed env.keys.now key) (λ w shows. shows.pressed key within) (λ w still m later. still.pressed key m later) (λ w m. refl) (λ w h. h)

one_or_two : (env : Env) (w : World) (k n : ℕ) → 1 ≤ n → n ≤ 2 → Shows env w k → cond (eqb n 1) env.one_up env.two_up ≡ w.up n k
one_or_two env w k n first last shows =
    elim (cases_lt 1 n) [
      | inl above ↦ let two : n ≡ 2 = omega arith in rw two shows.two_up
      | inr below ↦ let one : n ≡ 1 = omega arith in rw one shows.one_up
    ]

pub steps-computer : (env : Env) (k n at : ℕ) (cells : List Cell) → 1 ≤ n → n ≤ 2 → Steps env k (computer n) at cells cells (cond (eqb n 1) env.one_up env.two_up) never
unfolding Stand holds turns
steps-computer env k n at cells first last =
    steps-atom env k (computer n) at cells (cond (eqb n 1) env.one_up env.two_up) (λ w shows. one_or_two env w k n first last shows)
    (λ w still m later. still.up n m later) (λ w m. refl) (λ w h. h)
