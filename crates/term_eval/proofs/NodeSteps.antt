-- One step of each kind of node, from the steps of its children.
use Rattle.std.proofs.Common.{◌≡◌, ◌≢◌, ℕ, zero, suc, ◌+◌, ◌-◌, ◌<◌, ◌^◌, min, Bool, true, false, not, ◌&&◌, ◌||◌, List, Option, Some, None, inl, inr, cond, leb, ltb, length, refl, sym, ◌∙◌, ap, arith}
use Rattle.std.specs.Prelude.{slice_set}
use Rattle.std.specs.Option.{option_map_or}
use Rattle.std.proofs.lemmas.List.{get_or-set_same, get_or-set_other}
use Rattle.std.proofs.lemmas.Bool.{cases_lt, lt-ltb, le-ltb, le-leb, lt-leb}
use Rattle.ecam_spec.specs.Past.{Signal, last, start_of, previous, historically_within, once_within, rise}
use Rattle.ecam_spec.proofs.PastSteps.{since-zero, since-suc, start_of-on, start_of-rise, start_of-off, last-here, last-suc, last-zero}
use Rattle.ecam_spec.specs.Book.{Tree, negation, confirmed, held, risen, latched}
use Rattle.ecam_spec.specs.Term.{World, holds, latch}
use Rattle.ecam_spec.specs.TermSize.{slots}
use Rattle.term_eval.specs.declared.env.Env.{Env}
use Rattle.term_eval.specs.declared.memory.Cell.{Cell}
use Rattle.term_eval.specs.declared.memory.Cell.TheVariants.{Off, On, At}
use Rattle.term_eval.specs.Shown.{Shows}
use Rattle.term_eval.specs.CellWords.{never, cell_at, on_if, is_on, at_last, stretch, lasted, start_by, last_by, end_of}
use Rattle.term_eval.specs.CellState.{Stand}
use Rattle.term_eval.specs.Woken.{turns}
use Rattle.term_eval.specs.Steps.{Steps}
use Rattle.term_eval.proofs.Frames.{Stand-same}
use Rattle.ecam_spec.proofs.PastMoments.{historically_within-start, once_within-last}
use Rattle.term_eval.specs.OwnDue.{confirmed_due, held_due, risen_due}
use Rattle.term_eval.proofs.Alone.{alone-confirmed, alone-held, alone-risen}
use Rattle.term_eval.proofs.Settling.{settles-node, settles-negation, settles-latched}

-- what each cell tells of the moments before, in the words of past-time logic

-- the stretch that goes on in moment k started when the cell says, if the condition holds in k
start-told : (p : Signal) (k : ℕ) → p k ≡ true → start_by (stretch p k) k ≡ start_of p k
unfolding stretch previous
start-told p zero on = sym (start_of-rise p 0 on refl)
start-told p (suc k) on = by (p k) refl where
  by : (before : Bool) → p k ≡ before → start_by (cond before (At (start_of p k)) Off) (suc k) ≡ start_of p (suc k)
  by true before = sym (start_of-on p k on)
  by false off = sym (start_of-on p k on ∙ start_of-off p k off)

-- the condition held last when the cell says, if it doesn't hold in k
last-told : (p : Signal) (k : ℕ) → p k ≡ false → last_by (lasted p k) k ≡ last p k
unfolding lasted
last-told p zero off = sym (last-zero p ∙ ap (λ b. cond b (Some 0) None) off)
last-told p (suc k) off = by (p k) refl where
  skip : last p (suc k) ≡ last p k
  skip = last-suc p k ∙ ap (λ b. cond b (Some (suc k)) (last p k)) off

  kept : (o : Option ℕ) → last_by (at_last o) (suc k) ≡ o
  kept None = refl
  kept (Some j) = refl

  by : (before : Bool) → p k ≡ before → last_by (cond before On (at_last (last p k))) (suc k) ≡ last p (suc k)
  by true before = let back : suc k - 1 ≡ k = omega arith in ap Some back ∙ sym (skip ∙ last-here p k before)
  by false gone = kept (last p k) ∙ sym skip

pub confirm_truth : (n : ℕ) (p : Signal) (k : ℕ) (cell : Cell) (now : Bool) → k < 2 ^ 63 → cell ≡ stretch p k → now ≡ p k →
    (now && leb (min (start_by cell k + n) never) k) ≡ historically_within n p k
confirm_truth n p k cell now small is-cell is-now = ap (λ b. b && leb (min (start_by cell k + n) never) k) is-now ∙ by (p k) refl where
  small-test : (a : ℕ) → leb (min a never) k ≡ leb a k
  small-test a = elim (cases_lt k a) [
    | inl above ↦ sym (lt-leb a k above ∙ sym (lt-leb (min a never) k (omega arith)))
    | inr below ↦ le-leb (min a never) k (omega arith) ∙ sym (le-leb a k below)
  ]

  by : (b : Bool) → p k ≡ b → (b && leb (min (start_by cell k + n) never) k) ≡ historically_within n p k
  by true on =
      ap (λ c. leb (min (start_by c k + n) never) k) is-cell ∙ ap (λ s. leb (min (s + n) never) k) (start-told p k on) ∙ small-test (start_of p k + n)
      ∙ sym (historically_within-start n p k)
  by false off = sym (historically_within-start n p k ∙ ap (λ s. leb (s + n) k) (start_of-off p k off) ∙ lt-leb (suc k + n) k (omega arith))

pub confirm_cell : (p : Signal) (k : ℕ) (cell : Cell) (now : Bool) → cell ≡ stretch p k → now ≡ p k → cond now (At (start_by cell k)) Off ≡ stretch p (suc k)
unfolding stretch
confirm_cell p k cell now is-cell is-now = ap (λ b. cond b (At (start_by cell k)) Off) is-now ∙ by (p k) refl where
  by : (b : Bool) → p k ≡ b → cond b (At (start_by cell k)) Off ≡ cond b (At (start_of p k)) Off
  by true on = ap At (ap (λ c. start_by c k) is-cell ∙ start-told p k on)
  by false off = refl

-- the node's own due moment, as the cell's call gives it
pub confirm_due : (n : ℕ) (p : Signal) (k : ℕ) (cell : Cell) (now : Bool) → cell ≡ stretch p k → now ≡ p k →
    confirmed_due now (min (start_by cell k + n) never) k ≡ confirmed_due (p k) (min (start_of p k + n) never) k
confirm_due n p k cell now is-cell is-now = ap (λ b. confirmed_due b (min (start_by cell k + n) never) k) is-now ∙ by (p k) refl where
  by : (b : Bool) → p k ≡ b → confirmed_due b (min (start_by cell k + n) never) k ≡ confirmed_due b (min (start_of p k + n) never) k
  by true on = ap (λ s. confirmed_due true (min (s + n) never) k) (ap (λ c. start_by c k) is-cell ∙ start-told p k on)
  by false off = refl

pub hold_truth : (n : ℕ) (p : Signal) (k : ℕ) (cell : Cell) (now : Bool) → k < 2 ^ 63 → cell ≡ lasted p k → now ≡ p k →
    (now || ltb k (end_of (last_by cell k) n)) ≡ once_within n p k
hold_truth n p k cell now small is-cell is-now = ap (λ b. b || ltb k (end_of (last_by cell k) n)) is-now ∙ by (p k) refl where
  end-test : (o : Option ℕ) → ltb k (end_of o n) ≡ option_map_or (λ j. ltb k (j + n + 1)) o false
  end-test None = le-ltb k 0 (omega arith)
  end-test (Some j) = elim (cases_lt k (j + n + 1)) [
    | inl before ↦ lt-ltb k (min (j + n + 1) never) (omega arith) ∙ sym (lt-ltb k (j + n + 1) before)
    | inr after ↦ le-ltb k (min (j + n + 1) never) (omega arith) ∙ sym (le-ltb k (j + n + 1) after)
  ]

  by : (b : Bool) → p k ≡ b → (b || ltb k (end_of (last_by cell k) n)) ≡ once_within n p k
  by true on =
      sym (once_within-last n p k ∙ ap (λ o. option_map_or (λ j. ltb k (j + n + 1)) o false) (last-here p k on) ∙ lt-ltb k (k + n + 1) (omega arith))
  by false off =
      ap (λ c. ltb k (end_of (last_by c k) n)) is-cell ∙ ap (λ o. ltb k (end_of o n)) (last-told p k off) ∙ end-test (last p k)
      ∙ sym (once_within-last n p k)

pub hold_cell : (p : Signal) (k : ℕ) (cell : Cell) (now : Bool) → cell ≡ lasted p k → now ≡ p k → cond now On (at_last (last_by cell k)) ≡ lasted p (suc k)
unfolding lasted
hold_cell p k cell now is-cell is-now = ap (λ b. cond b On (at_last (last_by cell k))) is-now ∙ by (p k) refl where
  by : (b : Bool) → p k ≡ b → cond b On (at_last (last_by cell k)) ≡ cond b On (at_last (last p k))
  by true on = refl
  by false off = ap at_last (ap (λ c. last_by c k) is-cell ∙ last-told p k off)

pub hold_due : (n : ℕ) (p : Signal) (k : ℕ) (cell : Cell) (now : Bool) → cell ≡ lasted p k → now ≡ p k →
    held_due now (end_of (last_by cell k) n) k ≡ held_due (p k) (end_of (last p k) n) k
hold_due n p k cell now is-cell is-now = ap (λ b. held_due b (end_of (last_by cell k) n) k) is-now ∙ by (p k) refl where
  by : (b : Bool) → p k ≡ b → held_due b (end_of (last_by cell k) n) k ≡ held_due b (end_of (last p k) n) k
  by true on = refl
  by false off = ap (λ o. held_due false (end_of o n) k) (ap (λ c. last_by c k) is-cell ∙ last-told p k off)

is_on-if : (b : Bool) → is_on (on_if b) ≡ b
is_on-if true = refl
is_on-if false = refl

pub rise_truth : (p : Signal) (k : ℕ) (cell : Cell) (now : Bool) → cell ≡ on_if (previous p k) → now ≡ p k → (now && not (is_on cell)) ≡ rise p k
unfolding rise
rise_truth p k cell now is-cell is-now =
    ap (λ b. b && not (is_on cell)) is-now ∙ ap (λ c. p k && not (is_on c)) is-cell ∙ ap (λ b. p k && not b) (is_on-if (previous p k))

first_latch : (s r : Bool) → (not r && (s || false)) ≡ (s && not r)
first_latch true true = refl
first_latch true false = refl
first_latch false true = refl
first_latch false false = refl

later_latch : (s r q : Bool) → (not r && (s || q)) ≡ (s && not r || not r && q)
later_latch true true q = refl
later_latch true false q = refl
later_latch false true q = refl
later_latch false false q = refl

latch_now : (s r : Signal) (k : ℕ) → (not (r k) && (s k || previous (latch s r) k)) ≡ latch s r k
unfolding previous
latch_now s r zero = first_latch (s 0) (r 0) ∙ sym (since-zero (λ k. s k && not (r k)) (λ k. not (r k)))
latch_now s r (suc k) = later_latch (s (suc k)) (r (suc k)) (latch s r k) ∙ sym (since-suc (λ k. s k && not (r k)) (λ k. not (r k)) k)

pub latch_truth : (s r : Signal) (k : ℕ) (cell : Cell) (set reset : Bool) → cell ≡ on_if (previous (latch s r) k) → set ≡ s k → reset ≡ r k →
    (not reset && (set || is_on cell)) ≡ latch s r k
latch_truth s r k cell set reset is-cell is-set is-reset =
    ap (λ b. not b && (set || is_on cell)) is-reset ∙ ap (λ b. not (r k) && (b || is_on cell)) is-set ∙ ap (λ c. not (r k) && (s k || is_on c)) is-cell
    ∙ ap (λ b. not (r k) && (s k || b)) (is_on-if (previous (latch s r) k))
    ∙ latch_now s r k

-- one cell is written, and no other
pub record Writes (at : ℕ) (mid new : List Cell) (value : Cell) : Type 0 where
  pub own : cell_at new at ≡ value
  pub others : (i : ℕ) → i ≢ at → cell_at new i ≡ cell_at mid i

pub Writes-set : (at : ℕ) (mid : List Cell) (value : Cell) → at < length mid → Writes at mid (slice_set mid at value) value
Writes-set at mid value within = record { own = get_or-set_same mid at value Off within; others = λ i other. get_or-set_other mid at i value Off other }

pub steps-negation : (env : Env) (k : ℕ) (c : Tree) (at : ℕ) (old new : List Cell) (answer : Bool) (due : ℕ) → Steps env k c at old new answer due →
    Steps env k (negation c) at old new (not answer) due
unfolding Stand holds slots
steps-negation env k c at old new answer due inner =
    record {
      truth = λ w shows h. ap not (inner.truth w shows h);
      stands = inner.stands;
      settles = λ w shows still h. settles-negation w c k due (inner.settles w shows still h);
      before = inner.before;
      behind = inner.behind;
    }

pub steps-confirmed : (env : Env) (k : ℕ) (c : Tree) (n at : ℕ) (old mid new : List Cell) (now : Bool) (due : ℕ) → k < 2 ^ 63 → n < 2 ^ 32 →
    Steps env k c (at + 1) old mid now due → Writes at mid new (cond now (At (start_by (cell_at mid at) k)) Off) →
    Steps env k (confirmed c n) at old new (now && leb (min (start_by (cell_at mid at) k + n) never) k)
    (min (confirmed_due now (min (start_by (cell_at mid at) k + n) never) k) due)
unfolding Stand holds slots turns
steps-confirmed env k c n at old mid new now due small few inner wrote =
    let kept : cell_at mid at ≡ cell_at old at = inner.before at (omega arith) in
    record {
      truth = λ w shows h. confirm_truth n (holds w c) k (cell_at mid at) now small (kept ∙ h.0) (inner.truth w shows h.1);
      stands = λ w shows h. (
        wrote.own ∙ confirm_cell (holds w c) k (cell_at mid at) now (kept ∙ h.0) (inner.truth w shows h.1),
        Stand-same w (suc k) c (at + 1) mid new (record { same = λ i low high. wrote.others i (omega arith) }) (inner.stands w shows h.1),
      );
      settles = λ w shows still h.
          rw (confirm_due n (holds w c) k (cell_at mid at) now (kept ∙ h.0) (inner.truth w shows h.1))
          (settles-node w c (confirmed c n) k _ due (alone-confirmed n (holds w c) k small few) (λ m. refl) (inner.settles w shows still h.1));
      before = λ i h. wrote.others i (omega arith) ∙ inner.before i (omega arith);
      behind = λ i h. wrote.others i (omega arith) ∙ inner.behind i (omega arith);
    }

pub steps-held : (env : Env) (k : ℕ) (c : Tree) (n at : ℕ) (old mid new : List Cell) (now : Bool) (due : ℕ) → k < 2 ^ 63 → n < 2 ^ 32 →
    Steps env k c (at + 1) old mid now due → Writes at mid new (cond now On (at_last (last_by (cell_at mid at) k))) →
    Steps env k (held c n) at old new (now || ltb k (end_of (last_by (cell_at mid at) k) n))
    (min (held_due now (end_of (last_by (cell_at mid at) k) n) k) due)
unfolding Stand holds slots turns
steps-held env k c n at old mid new now due small few inner wrote =
    let kept : cell_at mid at ≡ cell_at old at = inner.before at (omega arith) in
    record {
      truth = λ w shows h. hold_truth n (holds w c) k (cell_at mid at) now small (kept ∙ h.0) (inner.truth w shows h.1);
      stands = λ w shows h. (
        wrote.own ∙ hold_cell (holds w c) k (cell_at mid at) now (kept ∙ h.0) (inner.truth w shows h.1),
        Stand-same w (suc k) c (at + 1) mid new (record { same = λ i low high. wrote.others i (omega arith) }) (inner.stands w shows h.1),
      );
      settles = λ w shows still h.
          rw (hold_due n (holds w c) k (cell_at mid at) now (kept ∙ h.0) (inner.truth w shows h.1))
          (settles-node w c (held c n) k _ due (alone-held n (holds w c) k small few) (λ m. refl) (inner.settles w shows still h.1));
      before = λ i h. wrote.others i (omega arith) ∙ inner.before i (omega arith);
      behind = λ i h. wrote.others i (omega arith) ∙ inner.behind i (omega arith);
    }

pub steps-risen : (env : Env) (k : ℕ) (c : Tree) (at : ℕ) (old mid new : List Cell) (now : Bool) (due : ℕ) → k < 2 ^ 63 →
    Steps env k c (at + 1) old mid now due → Writes at mid new (on_if now) →
    Steps env k (risen c) at old new (now && not (is_on (cell_at mid at))) (min (risen_due (now && not (is_on (cell_at mid at))) k) due)
unfolding Stand holds slots turns previous
steps-risen env k c at old mid new now due small inner wrote =
    let kept : cell_at mid at ≡ cell_at old at = inner.before at (omega arith) in
    record {
      truth = λ w shows h. rise_truth (holds w c) k (cell_at mid at) now (kept ∙ h.0) (inner.truth w shows h.1);
      stands = λ w shows h. (
        wrote.own ∙ ap on_if (inner.truth w shows h.1),
        Stand-same w (suc k) c (at + 1) mid new (record { same = λ i low high. wrote.others i (omega arith) }) (inner.stands w shows h.1),
      );
      settles = λ w shows still h.
          rw (rise_truth (holds w c) k (cell_at mid at) now (kept ∙ h.0) (inner.truth w shows h.1))
          (settles-node w c (risen c) k _ due (alone-risen (holds w c) k small) (λ m. refl) (inner.settles w shows still h.1));
      before = λ i h. wrote.others i (omega arith) ∙ inner.before i (omega arith);
      behind = λ i h. wrote.others i (omega arith) ∙ inner.behind i (omega arith);
    }

pub steps-latched : (env : Env) (k : ℕ) (s r : Tree) (at : ℕ) (old mid last new : List Cell) (set reset answer : Bool) (a b : ℕ) →
    Steps env k s (at + 1) old mid set a → Steps env k r (at + 1 + slots s) mid last reset b → answer ≡ (not reset && (set || is_on (cell_at last at))) →
    Writes at last new (on_if answer) → Steps env k (latched s r) at old new answer (min a b)
unfolding Stand holds slots previous
steps-latched env k s r at old mid last new set reset answer a b first second is wrote =
    let kept : cell_at last at ≡ cell_at old at = second.before at (omega arith) ∙ first.before at (omega arith) in
    let resets : (w : World) → Stand w k r (at + 1 + slots s) old → Stand w k r (at + 1 + slots s) mid
    = λ w h. Stand-same w k r (at + 1 + slots s) old mid (record { same = λ i low high. first.behind i (omega arith) }) h in
    let holding : (w : World) → Shows env w k → Stand w k (latched s r) at old → answer ≡ latch (holds w s) (holds w r) k
    = λ w shows h. is ∙ latch_truth (holds w s) (holds w r) k (cell_at last at) set reset (kept ∙ h.0) (first.truth w shows h.1) (second.truth w shows (resets w h.2)) in
    record {
      truth = holding;
      stands = λ w shows h. (
        wrote.own ∙ ap on_if (holding w shows h),
        Stand-same w (suc k) s (at + 1) mid new (record { same = λ i low high. wrote.others i (omega arith) ∙ second.before i (omega arith) }) (first.stands w shows h.1),
        Stand-same w (suc k) r (at + 1 + slots s) last new (record { same = λ i low high. wrote.others i (omega arith) }) (second.stands w shows (resets w h.2)),
      );
      settles = λ w shows still h. settles-latched w s r k a b (first.settles w shows still h.1) (second.settles w shows still (resets w h.2));
      before = λ i h. wrote.others i (omega arith) ∙ second.before i (omega arith) ∙ first.before i (omega arith);
      behind = λ i h. wrote.others i (omega arith) ∙ second.behind i (omega arith) ∙ first.behind i (omega arith);
    }
