-- What it comes to that each node of a condition was asked in the first moment.
use Rattle.std.proofs.Common.{◌≡◌, ℕ, ◌+◌, ◌≤◌, false, List, length, inr, refl, sym, ◌∙◌, ap, subst, arith}
use Rattle.ecam_spec.specs.Book.{Tree, Trees, none, more}
use Rattle.ecam_spec.specs.Term.{World}
use Rattle.ecam_spec.specs.TermSize.{nodes, slots, children}
use Rattle.ecam_spec.specs.TermNames.{IsWithin}
use Rattle.term_eval.specs.declared.env.Env.{Env}
use Rattle.term_eval.specs.declared.nodes.NodeState.{NodeState}
use Rattle.term_eval.specs.declared.code.Step.{Step}
use Rattle.term_eval.specs.CellWords.{never}
use Rattle.term_eval.specs.CellState.{Stand}
use Rattle.term_eval.specs.Shown.{Shows}
use Rattle.term_eval.specs.Memory.{Memory}
use Rattle.term_eval.specs.Due.{staying, IsDue}
use Rattle.term_eval.specs.Code.{IsReady}
use Rattle.term_eval.specs.NodeState.{SayTheSame, NodesStand, Within, first_wake}
use Rattle.term_eval.specs.Run.{Run}
use Rattle.term_eval.specs.Begin.{unasked_from, ask_over, AllCanAsk}
use Rattle.term_eval.proofs.Codes.{length-code}
use Rattle.term_eval.proofs.PartLaws.{says-before, said-before}
use Rattle.term_eval.proofs.Dues.{due-of}
use Rattle.term_eval.proofs.FirstWake.{first-most}
use Rattle.term_eval.proofs.Cleared.{cleared-len, cleared-before, cleared-within, cleared-behind}
use Rattle.term_eval.proofs.AskedTree.{Done, After}
use Rattle.term_eval.proofs.AskedCode.{over}
use Rattle.term_eval.proofs.CanAsk.{can, names-of}

-- what is kept before any node was asked
abbrev pub start : ℕ → ℕ → Memory → Run
start first count m = record { states = unasked_from first count m.nodes.states; wakes = m.nodes.wakes; cells = m.slots; due = never }

say-the-same : (w : World) (cs : Trees) (p : ℕ) → SayTheSame w 0 (λ i. false) cs p
unfolding SayTheSame
say-the-same w none p = tt
say-the-same w (more c cs) p = (says-before w 0 (λ i. false) c p (λ i low high. refl), say-the-same w cs (p + nodes c))

module _ (env : Env) (steps : List Step) (m : Memory) (c : Tree) (at first : ℕ) (ready : IsReady steps m c at first) where
  pub length-ready : length steps ≡ nodes c
  length-ready = ap length ready.held.code.is ∙ length-code c at 0

  pub room-ready : first + length steps ≤ length m.nodes.states
  room-ready = omega (arith, length-ready, ready.held.nodes)

  -- what each node asks for is there
  pub can-ready : IsWithin (length env.values.now) (length env.active.now) c → AllCanAsk env (length m.nodes.states) (length m.nodes.wakes) (length m.slots) first steps
  can-ready names =
      subst (AllCanAsk env (length m.nodes.states) (length m.nodes.wakes) (length m.slots) first) (sym ready.held.code.is)
      (can env (length m.nodes.states) (length m.nodes.wakes) (length m.slots) c at first 0
      (record { range = ready.range; slot = ready.held.slots; room = ready.held.nodes; far = omega arith; names = names }))

  pub begun : AllCanAsk env (length m.nodes.states) (length m.nodes.wakes) (length m.slots) first steps →
      After env c at first 0 (start first (length steps) m) (ask_over env first steps (start first (length steps) m))
  begun all =
      let s = start first (length steps) m in
      let len = cleared-len first (length steps) m.nodes.states room-ready in
      let names = names-of env (length m.nodes.states) (length m.nodes.wakes) (length m.slots) c at first 0 (subst (AllCanAsk env (length m.nodes.states) (length m.nodes.wakes) (length m.slots) first) ready.held.code.is all) in
      subst (λ l. After env c at first 0 s (ask_over env first l s)) (sym ready.held.code.is)
      (over env c at first 0 s names
      (record { range = ready.range; slot = ready.held.slots; room = omega (arith, len, ready.held.nodes); small = ready.held.code.small; far = omega arith; due = omega arith }))

  module _ (t : Run) (a : After env c at first 0 (start first (length steps) m) t) where
    pub is-first : t.due ≡ first_wake t.wakes at (slots c)
    is-first = omega (arith, a.due, first-most t.wakes at (slots c))

    pub within : Within first (first + nodes c) at (at + slots c) m.nodes (record { states = t.states; wakes = t.wakes })
    within = record {
      nodes = a.frame.nodes ∙ cleared-len first (length steps) m.nodes.states room-ready;
      slots = a.frame.slots;
      before = λ i low. a.frame.before i low (λ e. absurd (let w : ⊥ = omega (arith, e, low) in w)) ∙ cleared-before first (length steps) m.nodes.states room-ready i low;
      behind = λ i high. a.frame.behind i high ∙ cleared-behind first (length steps) m.nodes.states room-ready i (omega (arith, length-ready, high));
      slots_before = a.frame.wakes_before;
      slots_behind = a.frame.wakes_behind;
    }

    pub done : (w : World) → Shows env w 0 → Stand w 0 c at m.slots → Done w c at first 0 t
    done w shows stands = a.done w (record {
      shows = shows;
      cells = stands;
      fresh = λ i low high. ap (λ (s : NodeState). s.count) (cleared-within first (length steps) m.nodes.states room-ready i low (omega (arith, length-ready, high)));
    })

    pub nodes-stand : (w : World) → Done w c at first 0 t → NodesStand w 0 c at first (record { states = t.states; wakes = t.wakes })
    nodes-stand w d i x heads =
        let is = d.parts.each i x heads in
        record {
          told = is.told ∙ sym (says-before w 0 (λ j. false) x.tree i (λ j low high. refl));
          count = is.count ∙ sym (said-before w 0 (λ j. false) (children x.tree) (i + 1) (λ j low high. refl));
          wake = λ temporal. inr (record { due = is.wake temporal; same = say-the-same w (children x.tree) (i + 1) });
        }

    pub due : (w : World) → Done w c at first 0 t → IsDue (staying w 0) c 0 t.due
    due w d =
        subst (IsDue (staying w 0) c 0) (sym is-first)
        (due-of w 0 c at t.wakes (omega arith) ready.held.code.short (λ i x heads temporal. (d.parts.each i x heads).wake temporal))
