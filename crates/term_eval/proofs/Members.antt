-- One step of several conditions, one after another, and of the nodes that count them.
use Rattle.std.proofs.Common.{◌≡◌, ℕ, suc, ◌+◌, ◌≤◌, min, Bool, true, false, List, [], ◌∷◌, cond, eqb, leb, ltb, length, refl, sym, ◌∙◌, ap, arith, zero-add}
use Rattle.std.specs.Prelude.{count_by}
use Rattle.std.specs.List.{list_any, list_all}
use Rattle.std.proofs.lemmas.Bool.{lt-ltb}
use Rattle.std.proofs.lemmas.Bool.Decides.{nat_tests}
use Rattle.std.proofs.lemmas.List.Sums.{sum_by-cons, count_by-le-length}
use Rattle.ecam_spec.specs.Book.{Tree, Trees, all, any, at_least, none, more}
use Rattle.ecam_spec.specs.Term.{World, holds, truths}
use Rattle.ecam_spec.specs.TermSize.{trees, slots}
use Rattle.term_eval.specs.declared.env.Env.{Env}
use Rattle.term_eval.specs.declared.memory.Cell.{Cell}
use Rattle.term_eval.specs.CellWords.{never}
use Rattle.term_eval.specs.CellState.{Stand, StandAll}
use Rattle.term_eval.specs.Steps.{Steps, StepsAll}
use Rattle.term_eval.specs.Code.{many}
use Rattle.term_eval.proofs.Frames.{Stand-same, StandAll-same}
use Rattle.term_eval.proofs.Settling.{settles-none, settles-more, settles-all, settles-any, settles-at_least}

-- one where it is true
abbrev pub one_if : Bool → ℕ
one_if b = cond b 1 0

-- how many are true
abbrev pub how_many : List Bool → ℕ
how_many bs = count_by (λ b. b) bs

pub counted : (b : Bool) (bs : List Bool) → how_many (b ∷ bs) ≡ one_if b + how_many bs
counted true bs = sum_by-cons (λ x. cond x 1 0) true bs
counted false bs = sum_by-cons (λ x. cond x 1 0) false bs

pub steps-none : (env : Env) (k at : ℕ) (cells : List Cell) → StepsAll env k none at cells cells 0 never
unfolding Stand holds slots
steps-none env k at cells =
    record { truth = λ w shows h. refl; stands = λ w shows h. h; settles = λ w shows still h. settles-none w k; before = λ i h. refl; behind = λ i h. refl }

-- one condition, and then the others behind it
pub steps-more : (env : Env) (k : ℕ) (c : Tree) (cs : Trees) (at : ℕ) (old mid new : List Cell) (answer : Bool) (count due later : ℕ) →
    Steps env k c at old mid answer due → StepsAll env k cs (at + slots c) mid new count later →
    StepsAll env k (more c cs) at old new (one_if answer + count) (min due later)
unfolding Stand holds slots
steps-more env k c cs at old mid new answer count due later first rest =
    let others : (w : World) → StandAll w k cs (at + slots c) old → StandAll w k cs (at + slots c) mid
    = λ w h. StandAll-same w k cs (at + slots c) old mid (record { same = λ i low high. first.behind i low }) h in
    record {
      truth = λ w shows h.
          ap (λ b. one_if b + count) (first.truth w shows h.0) ∙ ap (λ n. one_if (holds w c k) + n) (rest.truth w shows (others w h.1))
          ∙ sym (counted (holds w c k) (truths w cs k));
      stands = λ w shows h. (
        Stand-same w (suc k) c at mid new (record { same = λ i low high. rest.before i high }) (first.stands w shows h.0),
        rest.stands w shows (others w h.1),
      );
      settles = λ w shows still h. settles-more w c cs k due later (first.settles w shows still h.0) (rest.settles w shows still (others w h.1));
      before = λ i h. rest.before i (omega arith) ∙ first.before i h;
      behind = λ i h. rest.behind i (omega arith) ∙ first.behind i (omega arith);
    }

one_more : (m l : ℕ) → eqb (1 + m) (suc l) ≡ eqb m l
one_more m l = grind (arith, nat_tests)

too_few : (m l : ℕ) → m ≤ l → eqb (0 + m) (suc l) ≡ false
too_few m l h = grind (arith, nat_tests)

-- all hold where as many hold as there are
pub all_hold : (bs : List Bool) → eqb (how_many bs) (length bs) ≡ list_all (λ b. b) bs
all_hold [] = refl
all_hold (true ∷ bs) = ap (λ n. eqb n (suc (length bs))) (counted true bs) ∙ one_more (how_many bs) (length bs) ∙ all_hold bs
all_hold (false ∷ bs) = ap (λ n. eqb n (suc (length bs))) (counted false bs) ∙ too_few (how_many bs) (length bs) (count_by-le-length (λ b. b) bs)

pub any_holds : (bs : List Bool) → ltb 0 (how_many bs) ≡ list_any (λ b. b) bs
any_holds [] = refl
any_holds (true ∷ bs) = ap (λ n. ltb 0 n) (counted true bs) ∙ lt-ltb 0 (1 + how_many bs) (omega arith)
any_holds (false ∷ bs) = ap (λ n. ltb 0 n) (counted false bs ∙ zero-add (how_many bs)) ∙ any_holds bs

-- there are as many truths as conditions
length-truths : (w : World) (cs : List Tree) (k : ℕ) → length (truths w (trees cs) k) ≡ length cs
unfolding holds
length-truths w [] k = refl
length-truths w (c ∷ cs) k = ap suc (length-truths w cs k)

pub steps-all : (env : Env) (k : ℕ) (cs : List Tree) (at : ℕ) (old new : List Cell) (count due : ℕ) → StepsAll env k (trees cs) at old new count due →
    Steps env k (all (trees cs)) at old new (eqb count (length cs)) due
unfolding Stand holds slots
steps-all env k cs at old new count due inner =
    record {
      truth = λ w shows h.
          ap (λ n. eqb n (length cs)) (inner.truth w shows h) ∙ ap (λ n. eqb (how_many (truths w (trees cs) k)) n) (sym (length-truths w cs k))
          ∙ all_hold (truths w (trees cs) k);
      stands = inner.stands;
      settles = λ w shows still h. settles-all w (trees cs) k due (inner.settles w shows still h);
      before = inner.before;
      behind = inner.behind;
    }

-- the same of conditions counted one by one
pub length-many : (w : World) (cs : Trees) (k : ℕ) → length (truths w cs k) ≡ many cs
unfolding holds many
length-many w none k = refl
length-many w (more c cs) k = ap suc (length-many w cs k)

pub steps-any : (env : Env) (k : ℕ) (cs : Trees) (at : ℕ) (old new : List Cell) (count due : ℕ) → StepsAll env k cs at old new count due →
    Steps env k (any cs) at old new (ltb 0 count) due
unfolding Stand holds slots
steps-any env k cs at old new count due inner =
    record {
      truth = λ w shows h. ap (λ n. ltb 0 n) (inner.truth w shows h) ∙ any_holds (truths w cs k);
      stands = inner.stands;
      settles = λ w shows still h. settles-any w cs k due (inner.settles w shows still h);
      before = inner.before;
      behind = inner.behind;
    }

pub steps-at_least : (env : Env) (k least : ℕ) (cs : Trees) (at : ℕ) (old new : List Cell) (count due : ℕ) → StepsAll env k cs at old new count due →
    Steps env k (at_least least cs) at old new (leb least count) due
unfolding Stand holds slots
steps-at_least env k least cs at old new count due inner =
    record {
      truth = λ w shows h. ap (λ n. leb least n) (inner.truth w shows h);
      stands = inner.stands;
      settles = λ w shows still h. settles-at_least w least cs k due (inner.settles w shows still h);
      before = inner.before;
      behind = inner.behind;
    }
