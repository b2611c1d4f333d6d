-- What the states are of which some are made as they are before they are asked.
use Rattle.std.proofs.Common.{◌≡◌, ℕ, ◌+◌, ◌-◌, ◌<◌, ◌≤◌, List, ◌++◌, take, drop, replicate, length, ◌∙◌, ap, arith}
use Rattle.std.proofs.lemmas.List.{length-append, length-drop, length-replicate, length-take-le, get_or_append_left, get_or-append_right, get_or-take, get_or-drop, get_or-replicate}
use Rattle.term_eval.specs.declared.nodes.NodeState.{NodeState}
use Rattle.term_eval.specs.NodeState.{state_at, unasked}
use Rattle.term_eval.specs.Begin.{unasked_from}

module _ (first n : ℕ) (states : List NodeState) (room : first + n ≤ length states) where
  abbrev front : List NodeState
  front = take first states

  abbrev new : List NodeState
  new = replicate n unasked

  abbrev rest : List NodeState
  rest = drop (first + n) states

  front-len : length front ≡ first
  front-len = length-take-le first states (omega (arith, room))

  new-len : length new ≡ n
  new-len = length-replicate n unasked

  pub cleared-len : length (unasked_from first n states) ≡ length states
  cleared-len = omega (arith, room, length-append front (new ++ rest), length-append new rest, front-len, new-len, length-drop (first + n) states)

  pub cleared-before : (i : ℕ) → i < first → state_at (unasked_from first n states) i ≡ state_at states i
  cleared-before i low = get_or_append_left front (new ++ rest) unasked i (omega (arith, front-len, low)) ∙ get_or-take first states i unasked low

  pub cleared-within : (i : ℕ) → first ≤ i → i < first + n → state_at (unasked_from first n states) i ≡ unasked
  cleared-within i low high =
      get_or-append_right front (new ++ rest) first i unasked front-len low
      ∙ get_or_append_left new rest unasked (i - first) (omega (arith, new-len, low, high))
      ∙ get_or-replicate n (i - first) unasked unasked (omega (arith, low, high))

  pub cleared-behind : (i : ℕ) → first + n ≤ i → state_at (unasked_from first n states) i ≡ state_at states i
  cleared-behind i high =
      let place : first + n + (i - first - n) ≡ i = omega (arith, high) in
      get_or-append_right front (new ++ rest) first i unasked front-len (omega (arith, high))
      ∙ get_or-append_right new rest n (i - first) unasked new-len (omega (arith, high))
      ∙ get_or-drop (first + n) states (i - first - n) unasked ∙ ap (λ j. state_at states j) place
