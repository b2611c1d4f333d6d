-- The steps of a node as the walk's code puts them.
use Rattle.std.proofs.Common.{◌≡◌, ℕ, ◌+◌, ◌<◌, ◌^◌, min, Bool, not, ◌&&◌, ◌||◌, List, cond, leb, ltb, length, refl, sym, ◌∙◌, ap, subst}
use Rattle.std.specs.Prelude.{slice_set}
use Rattle.ecam_spec.specs.Book.{Tree, Trees, confirmed, held, risen, latched}
use Rattle.ecam_spec.specs.TermSize.{slots}
use Rattle.ecam_spec.specs.TermNames.{IsWithin, AreWithin}
use Rattle.term_eval.specs.declared.env.Env.{Env}
use Rattle.term_eval.specs.declared.memory.Cell.{Cell}
use Rattle.term_eval.specs.declared.memory.Cell.TheVariants.{Off, On, At}
use Rattle.term_eval.specs.CellWords.{never, cell_at, on_if, is_on, at_last, start_by, last_by, end_of}
use Rattle.term_eval.specs.Steps.{Steps, StepsAll}
use Rattle.term_eval.specs.OwnDue.{confirmed_due, held_due, risen_due}
use Rattle.term_eval.proofs.NodeSteps.{Writes, Writes-set, steps-confirmed, steps-held, steps-risen, steps-latched}

-- another name for the condition, the slot, the answer or the due moment
pub steps-as : (env : Env) (k : ℕ) (c d : Tree) (i j : ℕ) (old new : List Cell) (a b : Bool) (m n : ℕ) → c ≡ d → i ≡ j → a ≡ b → m ≡ n →
    Steps env k d j old new b n → Steps env k c i old new a m
steps-as env k c d i j old new a b m n tree place answer due h =
    subst (λ t. Steps env k t i old new a m) (sym tree)
    (subst (λ x. Steps env k d x old new a m) (sym place)
    (subst (λ x. Steps env k d j old new x m) (sym answer) (subst (λ x. Steps env k d j old new b x) (sym due) h)))

pub steps_all-as : (env : Env) (k : ℕ) (cs ds : Trees) (i j : ℕ) (old new : List Cell) (n due : ℕ) → cs ≡ ds → i ≡ j →
    StepsAll env k ds j old new n due → StepsAll env k cs i old new n due
steps_all-as env k cs ds i j old new n due trees place h =
    subst (λ t. StepsAll env k t i old new n due) (sym trees) (subst (λ x. StepsAll env k ds x old new n due) (sym place) h)

pub names-of : (params alerts : ℕ) (c d : Tree) → c ≡ d → IsWithin params alerts c → IsWithin params alerts d
names-of params alerts c d tree h = subst (λ t. IsWithin params alerts t) tree h

pub names_of_all : (params alerts : ℕ) (cs ds : Trees) → cs ≡ ds → AreWithin params alerts cs → AreWithin params alerts ds
names_of_all params alerts cs ds trees h = subst (λ t. AreWithin params alerts t) trees h

writes-as : (at own : ℕ) (mid : List Cell) (value v : Cell) → own ≡ at → at < length mid → v ≡ value → Writes at mid (slice_set mid own v) value
writes-as at own mid value v place within is =
    subst (λ i. Writes at mid (slice_set mid i v) value) (sym place) (subst (λ x. Writes at mid (slice_set mid at x) value) (sym is) (Writes-set at mid value within))

pub arm-confirmed : (env : Env) (k : ℕ) (t c : Tree) (n at own : ℕ) (old mid : List Cell) (now : Bool) (inner : ℕ) (was v : Cell) (answer : Bool) (first due : ℕ) →
    k < 2 ^ 63 → n < 2 ^ 32 → t ≡ confirmed c n → own ≡ at → at < length mid → was ≡ cell_at mid own → Steps env k c (at + 1) old mid now inner →
    answer ≡ (now && leb (min (start_by was k + n) never) k) → v ≡ cond now (At (start_by was k)) Off →
    first ≡ confirmed_due now (min (start_by was k + n) never) k → due ≡ min first inner → Steps env k t at old (slice_set mid own v) answer due
arm-confirmed env k t c n at own old mid now inner was v answer first due small few tree place within is-was below is-answer is-cell is-first is-due =
    let same = is-was ∙ ap (cell_at mid) place in
    steps-as env k t (confirmed c n) at at old (slice_set mid own v) answer (now && leb (min (start_by (cell_at mid at) k + n) never) k)
    due (min (confirmed_due now (min (start_by (cell_at mid at) k + n) never) k) inner) tree refl
    (is-answer ∙ ap (λ x. now && leb (min (start_by x k + n) never) k) same)
    (is-due ∙ ap (λ x. min x inner) (is-first ∙ ap (λ x. confirmed_due now (min (start_by x k + n) never) k) same))
    (steps-confirmed env k c n at old mid (slice_set mid own v) now inner small few below
    (writes-as at own mid (cond now (At (start_by (cell_at mid at) k)) Off) v place within (is-cell ∙ ap (λ x. cond now (At (start_by x k)) Off) same)))

pub arm-held : (env : Env) (k : ℕ) (t c : Tree) (n at own : ℕ) (old mid : List Cell) (now : Bool) (inner : ℕ) (was v : Cell) (answer : Bool) (first due : ℕ) →
    k < 2 ^ 63 → n < 2 ^ 32 → t ≡ held c n → own ≡ at → at < length mid → was ≡ cell_at mid own → Steps env k c (at + 1) old mid now inner →
    answer ≡ (now || ltb k (end_of (last_by was k) n)) → v ≡ cond now On (at_last (last_by was k)) →
    first ≡ held_due now (end_of (last_by was k) n) k → due ≡ min first inner → Steps env k t at old (slice_set mid own v) answer due
arm-held env k t c n at own old mid now inner was v answer first due small few tree place within is-was below is-answer is-cell is-first is-due =
    let same = is-was ∙ ap (cell_at mid) place in
    steps-as env k t (held c n) at at old (slice_set mid own v) answer (now || ltb k (end_of (last_by (cell_at mid at) k) n))
    due (min (held_due now (end_of (last_by (cell_at mid at) k) n) k) inner) tree refl
    (is-answer ∙ ap (λ x. now || ltb k (end_of (last_by x k) n)) same)
    (is-due ∙ ap (λ x. min x inner) (is-first ∙ ap (λ x. held_due now (end_of (last_by x k) n) k) same))
    (steps-held env k c n at old mid (slice_set mid own v) now inner small few below
    (writes-as at own mid (cond now On (at_last (last_by (cell_at mid at) k))) v place within (is-cell ∙ ap (λ x. cond now On (at_last (last_by x k))) same)))

pub arm-risen : (env : Env) (k : ℕ) (t c : Tree) (at own : ℕ) (old mid : List Cell) (now : Bool) (inner : ℕ) (was v : Cell) (answer : Bool) (first due : ℕ) →
    k < 2 ^ 63 → t ≡ risen c → own ≡ at → at < length mid → was ≡ cell_at mid own → Steps env k c (at + 1) old mid now inner →
    answer ≡ (now && not (is_on was)) → v ≡ on_if now →
    first ≡ risen_due (now && not (is_on was)) k → due ≡ min first inner → Steps env k t at old (slice_set mid own v) answer due
arm-risen env k t c at own old mid now inner was v answer first due small tree place within is-was below is-answer is-cell is-first is-due =
    let same = is-was ∙ ap (cell_at mid) place in
    steps-as env k t (risen c) at at old (slice_set mid own v) answer (now && not (is_on (cell_at mid at)))
    due (min (risen_due (now && not (is_on (cell_at mid at))) k) inner) tree refl
    (is-answer ∙ ap (λ x. now && not (is_on x)) same)
    (is-due ∙ ap (λ x. min x inner) (is-first ∙ ap (λ x. risen_due (now && not (is_on x)) k) same))
    (steps-risen env k c at old mid (slice_set mid own v) now inner small below (writes-as at own mid (on_if now) v place within is-cell))

pub arm-latched : (env : Env) (k : ℕ) (t s r : Tree) (at own : ℕ) (old mid last : List Cell) (set reset : Bool) (a b : ℕ) (was v : Cell) (answer : Bool) (due : ℕ) →
    t ≡ latched s r → own ≡ at → at < length last → was ≡ cell_at last own → Steps env k s (at + 1) old mid set a → Steps env k r (at + 1 + slots s) mid last reset b →
    answer ≡ (not reset && (set || is_on was)) → v ≡ on_if answer → due ≡ min a b → Steps env k t at old (slice_set last own v) answer due
arm-latched env k t s r at own old mid last set reset a b was v answer due tree place within is-was first second is-answer is-cell is-due =
    let same = is-was ∙ ap (cell_at last) place in
    steps-as env k t (latched s r) at at old (slice_set last own v) answer answer due (min a b) tree refl refl is-due
    (steps-latched env k s r at old mid last (slice_set last own v) set reset answer a b first second
    (is-answer ∙ ap (λ x. not reset && (set || is_on x)) same)
    (writes-as at own last (on_if answer) v place within is-cell))
