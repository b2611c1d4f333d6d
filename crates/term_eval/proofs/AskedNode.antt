-- What asking one node leaves of the states.
use Rattle.std.proofs.Common.{◌≡◌, ◌≢◌, ℕ, ◌+◌, ◌-◌, ◌<◌, ◌≤◌, Bool, List, length, inl, inr, refl, sym, ◌∙◌, ap, arith}
use Rattle.std.specs.Prelude.{slice_set}
use Rattle.std.proofs.lemmas.List.{length-set, get_or-set_same, get_or-set_other}
use Rattle.std.proofs.lemmas.Bool.{cases_lt, lt-ltb, le-ltb}
use Rattle.term_eval.specs.declared.env.Env.{Env}
use Rattle.term_eval.specs.declared.nodes.NodeState.{NodeState}
use Rattle.term_eval.specs.declared.code.Step.{Step}
use Rattle.term_eval.specs.NodeState.{state_at, unasked}
use Rattle.term_eval.specs.Climb.{told_as}
use Rattle.term_eval.specs.Run.{Run}
use Rattle.term_eval.specs.Begin.{answer, raised, count_up, ask}

-- the parent alone counts it
module _ (i up : ℕ) (holds : Bool) (states : List NodeState) where
  up-len : length (count_up i up holds states) ≡ length states
  up-len = elim (cases_lt 0 up) [
    | inl some ↦ rw (lt-ltb 0 up some) (length-set states (i - up) _)
    | inr none ↦ rw (le-ltb 0 up none) refl
  ]

  up-other : (j : ℕ) → up ≤ i → (j < i → j + up ≢ i) → state_at (count_up i up holds states) j ≡ state_at states j
  up-other j far other = elim (cases_lt 0 up) [
    | inl some ↦
        let not_it : j ≢ i - up = λ e. other (omega arith) (omega arith) in
        rw (lt-ltb 0 up some) (get_or-set_other states (i - up) j _ unasked not_it)
    | inr none ↦ rw (le-ltb 0 up none) refl
  ]

  up-parent : (j : ℕ) → i < length states → j + up ≡ i → j < i → state_at (count_up i up holds states) j ≡ raised holds (state_at states j)
  up-parent j within parent before =
      let some : 0 < up = omega arith in
      let e : i - up ≡ j = omega arith in
      rw (lt-ltb 0 up some) (rw e (get_or-set_same states j _ unasked (omega arith)))

pub record Asked (env : Env) (i : ℕ) (x : Step) (m t : Run) : Type 0 where
  pub told : (state_at t.states i).told ≡ answer env m.cells (state_at m.states i).count (state_at m.states (i + 1)).told x.node
  pub count : (state_at t.states i).count ≡ (state_at m.states i).count
  pub nodes : length t.states ≡ length m.states
  pub parent : (j : ℕ) → j + x.up ≡ i → j < i → state_at t.states j ≡ raised (state_at t.states i).told (state_at m.states j)
  pub others : (j : ℕ) → j ≢ i → (j < i → j + x.up ≢ i) → state_at t.states j ≡ state_at m.states j

pub is-asked : (env : Env) (i : ℕ) (x : Step) (m : Run) → i < length m.states → x.up ≤ i → Asked env i x m (ask env i x m)
unfolding ask
is-asked env i x m within far =
    let own = state_at m.states i in
    let holds = answer env m.cells own.count (state_at m.states (i + 1)).told x.node in
    let mid = slice_set m.states i (told_as holds own) in
    let len : length mid ≡ length m.states = length-set m.states i (told_as holds own) in
    let here : state_at (count_up i x.up holds mid) i ≡ told_as holds own
    = up-other i x.up holds mid i far (λ lt. absurd (let w : ⊥ = omega arith in w)) ∙ get_or-set_same m.states i (told_as holds own) unasked within in
    let others : (j : ℕ) → j ≢ i → state_at mid j ≡ state_at m.states j = λ j other. get_or-set_other m.states i j (told_as holds own) unasked other in
    record {
      told = ap (λ (s : NodeState). s.told) here;
      count = ap (λ (s : NodeState). s.count) here;
      nodes = up-len i x.up holds mid ∙ len;
      parent = λ j at before.
          up-parent i x.up holds mid j (omega (arith, len, within)) at before
          ∙ ap (raised holds) (others j (λ e. absurd (let w : ⊥ = omega arith in w)))
          ∙ ap (λ (s : NodeState). raised s.told (state_at m.states j)) (sym here);
      others = λ j other away. up-other i x.up holds mid j far away ∙ others j other;
    }
