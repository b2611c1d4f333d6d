-- The steps of a condition's code can be linked.
use Rattle.std.proofs.Common.{◌≡◌, ℕ, ◌+◌, ◌-◌, ◌<◌, ◌≤◌, ◌^◌, List, length, sym, ap, subst, arith}
use Rattle.ecam_spec.specs.Book.{Tree, constant, discrete, valid, compared, in_phase, alert, press, computer, negation, all, any, at_least, confirmed, held, risen, latched}
use Rattle.ecam_spec.specs.TermSize.{slots, nodes}
use Rattle.term_eval.specs.declared.code.Step.{Step}
use Rattle.term_eval.specs.Code.{IsCode}
use Rattle.term_eval.specs.Climb.{step_at}
use Rattle.term_eval.specs.Links.{narrowed, IsLinkable}
use Rattle.term_eval.proofs.Codes.{many-nodes}
use Rattle.term_eval.proofs.Inside.{node_at}
use Rattle.term_eval.proofs.PartLaws.{parts-ends, slots-within}
use Rattle.term_eval.proofs.CodeParts.{heads-one, heads-up, heads-node, length-steps}

-- a node has no more children than nodes, and its slot is one of its own
narrow : (at : ℕ) (c : Tree) → nodes c < 2 ^ 32 → at + slots c ≤ 2 ^ 32 → narrowed (node_at at c) < 2 ^ 32
unfolding nodes slots
narrow at (constant b) few low = omega arith
narrow at (discrete x) few low = omega arith
narrow at (valid x) few low = omega arith
narrow at (compared x op n) few low = omega arith
narrow at (in_phase set) few low = omega arith
narrow at (alert a) few low = omega arith
narrow at (press key) few low = omega arith
narrow at (computer n) few low = omega arith
narrow at (negation c) few low = omega arith
narrow at (all cs) few low = omega (arith, many-nodes cs)
narrow at (any cs) few low = omega arith
narrow at (at_least n cs) few low = omega arith
narrow at (confirmed c n) few low = omega arith
narrow at (held c n) few low = omega arith
narrow at (risen c) few low = omega arith
narrow at (latched s r) few low = omega arith

pub linkable : (c : Tree) (at : ℕ) (steps : List Step) → IsCode c at steps → at + slots c ≤ 2 ^ 32 → (i : ℕ) →
    i < length steps → IsLinkable steps i
linkable c at steps is low i within =
    let long = length-steps c at steps is in
    let one = heads-one c at i (omega arith) in
    let own = heads-node c at steps is i one.0 one.1 in
    let up : (step_at steps i).up ≡ one.0.up = ap (λ (s : Step). s.up) own in
    let reach = heads-up c at i one.0 one.1 in
    let small = is.small in
    let above = heads-one c at (i - (step_at steps i).up) (omega arith) in
    let ends = parts-ends at 0 c (i - (step_at steps i).up) above.0 above.1 in
    let high = slots-within at 0 c (i - (step_at steps i).up) above.0 above.1 in
    record {
      within = within;
      above = omega arith;
      up = omega arith;
      number =
          subst (λ (s : Step). narrowed s.node < 2 ^ 32) (sym
          (heads-node c at steps is (i - (step_at steps i).up) above.0 above.1))
          (narrow above.0.at above.0.tree (omega arith) (omega (arith, high.1, low)));
    }
