-- Code is gone through from its last step to its first, and each node is asked.
use Rattle.std.proofs.Common.{◌≡◌, ℕ, zero, suc, ◌+◌, ◌<◌, min, Bool, List, [], ◌∷◌, length, drop, get_or, sym, ◌∙◌, ap, arith, add-one}
use Rattle.std.specs.Prelude.{slice_set}
use Rattle.std.proofs.lemmas.List.{get_or_default, drop_all}
use Rattle.std.proofs.Math.Seq.{drop-cons}
use Rattle.term_eval.specs.declared.env.Env.{Env}
use Rattle.term_eval.specs.declared.memory.Cell.{Cell}
use Rattle.term_eval.specs.declared.nodes.NodeState.{NodeState}
use Rattle.term_eval.specs.declared.code.Step.{Step}
use Rattle.term_eval.specs.NodeState.{state_at}
use Rattle.term_eval.specs.Climb.{told_as}
use Rattle.term_eval.specs.Run.{Run, cells_after, due_after}
use Rattle.term_eval.specs.Begin.{answer, wakes_after, count_up, ask, ask_over, CanAsk, AllCanAsk}

-- a node has been asked where each part of what is kept is as it says
pub asks : (env : Env) (i : ℕ) (x : Step) (s : Run) (holds : Bool) (due : ℕ) (states : List NodeState) (wakes : List ℕ) (cells : List Cell) (first : ℕ) →
    holds ≡ answer env s.cells (state_at s.states i).count (state_at s.states (i + 1)).told x.node → due ≡ due_after 0 s.cells (state_at s.states i).count x.node →
    states ≡ count_up i x.up holds (slice_set s.states i (told_as holds (state_at s.states i))) → wakes ≡ wakes_after x.node s.wakes due →
    cells ≡ cells_after 0 s.cells (state_at s.states i).count (state_at s.states (i + 1)).told x.node → first ≡ min s.due due →
    record { states = states; wakes = wakes; cells = cells; due = first } ≡ ask env i x s
unfolding ask
asks env i x s holds due states wakes cells first is-holds is-due is-states is-wakes is-cells is-first =
    let own = state_at s.states i in
    let set = (state_at s.states (i + 1)).told in
    let says = answer env s.cells own.count set x.node in
    let turns = due_after 0 s.cells own.count x.node in
    let told = is-states ∙ ap (λ b. count_up i x.up b (slice_set s.states i (told_as b own))) is-holds in
    ap (λ l. record { states = l; wakes = wakes; cells = cells; due = first }) told
    ∙ ap (λ l. record { states = count_up i x.up says (slice_set s.states i (told_as says own)); wakes = l; cells = cells; due = first }) (is-wakes ∙ ap (wakes_after x.node s.wakes) is-due)
    ∙ ap (λ l. record { states = count_up i x.up says (slice_set s.states i (told_as says own)); wakes = wakes_after x.node s.wakes turns; cells = l; due = first }) is-cells
    ∙ ap (λ n. record { states = count_up i x.up says (slice_set s.states i (told_as says own)); wakes = wakes_after x.node s.wakes turns; cells = cells_after 0 s.cells own.count set x.node; due = n }) (is-first ∙ ap (min s.due) is-due)

-- a step that stands in a list is itself, whatever is said of places behind its end
item : (xs : List Step) (i : ℕ) (d : Step) → i < length xs → get_or xs i d ≡ get_or xs i (get_or xs i d)
item xs i d within = get_or_default xs i d (get_or xs i d) within

-- what a step asks for is there
pub can-at : (env : Env) (nodes slots cells i : ℕ) (xs : List Step) (j : ℕ) (d : Step) → j < length xs → AllCanAsk env nodes slots cells i xs → CanAsk env nodes slots cells (i + j) (get_or xs j d)
unfolding AllCanAsk
can-at env nodes slots cells i [] j d within can = absurd (let w : ⊥ = omega arith in w)
can-at env nodes slots cells i (x ∷ xs) zero d within can =
    let e : i + 0 ≡ i = omega arith in
    rw e can.0
can-at env nodes slots cells i (x ∷ xs) (suc j) d within can =
    let e : i + suc j ≡ i + 1 + j = omega arith in
    rw e (can-at env nodes slots cells (i + 1) xs j d (omega arith) can.1)

-- from one step to that before it
pub ask-next : (env : Env) (i : ℕ) (xs : List Step) (j : ℕ) (d : Step) (s t : Run) → j < length xs → t ≡ ask_over env (i + (j + 1)) (drop (j + 1) xs) s →
    ask env (i + j) (get_or xs j d) t ≡ ask_over env (i + j) (drop j xs) s
unfolding ask_over
ask-next env i xs j d s t within is =
    let e : i + (j + 1) ≡ i + j + 1 = omega arith in
    ap (ask env (i + j) (get_or xs j d)) (is ∙ ap (λ n. ask_over env n (drop (j + 1) xs) s) e ∙ ap (λ n. ask_over env (i + j + 1) (drop n xs) s) (add-one j))
    ∙ sym (ap (λ l. ask_over env (i + j) l s) (drop-cons xs j (get_or xs j d) within ∙ ap (λ y. y ∷ drop (suc j) xs) (sym (item xs j d within))))

pub ask-end : (env : Env) (i : ℕ) (xs : List Step) (s : Run) → s ≡ ask_over env (i + length xs) (drop (length xs) xs) s
unfolding ask_over
ask-end env i xs s = ap (λ l. ask_over env (i + length xs) l s) (sym (drop_all (length xs) xs (omega arith)))
