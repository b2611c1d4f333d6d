-- A node whose operand reads otherwise is told what it says by that.
use Rattle.std.proofs.Common.{◌≡◌, ℕ, suc, ◌+◌, ◌<◌, Bool, List, inl, inr, sym, ◌∙◌, ap, arith, add-one}
use Rattle.ecam_spec.specs.Book.{Tree}
use Rattle.ecam_spec.specs.Term.{World}
use Rattle.ecam_spec.specs.TermSize.{nodes, slots}
use Rattle.term_eval.specs.declared.nodes.NodeState.{NodeState}
use Rattle.term_eval.specs.declared.code.Step.{Step}
use Rattle.term_eval.specs.declared.link.Link.{Link}
use Rattle.term_eval.specs.declared.reading.Reading.{Reading}
use Rattle.term_eval.specs.Memory.{NodeMemory}
use Rattle.term_eval.specs.Woken.{Operand}
use Rattle.term_eval.specs.Asked.{Asks, AreAtoms}
use Rattle.term_eval.specs.Reading.{Reads, atom_says}
use Rattle.term_eval.specs.Code.{code}
use Rattle.term_eval.specs.Linked.{AreLinked}
use Rattle.term_eval.specs.Climb.{climb, step_at}
use Rattle.term_eval.specs.NodeState.{NodesWait, Within, also}
use Rattle.term_eval.proofs.PartLaws.{slots-within}
use Rattle.term_eval.proofs.CodeParts.{heads-one, heads-node}
use Rattle.term_eval.proofs.Asking.{asks-within, asks-part, asks-atom, says-read, atoms-free}
use Rattle.term_eval.proofs.Climbing.{kept_by, climbed}
use Rattle.term_eval.proofs.ClimbLeaves.{climb-leaves}

-- a climb over what was lent of what is kept
pub lent : (links : List Link) (first node : ℕ) (now stirs : Bool) (n new : NodeMemory) (lent_states new_states : List NodeState) (lent_wakes new_wakes : List ℕ) →
    lent_states ≡ n.states → lent_wakes ≡ n.wakes → new.states ≡ new_states → new.wakes ≡ new_wakes →
    record { states = new_states; wakes = new_wakes; stirs = stirs } ≡ climb (node + 1) links first node now lent_states lent_wakes →
    climb (suc node) links first node now n.states n.wakes ≡ record { states = new.states; wakes = new.wakes; stirs = stirs }
lent links first node now stirs n new lent_states new_states lent_wakes new_wakes a b d e is =
    ap (λ k. climb k links first node now n.states n.wakes) (sym (add-one node))
    ∙ ap (λ s. climb (node + 1) links first node now s n.wakes) (sym a)
    ∙ ap (λ v. climb (node + 1) links first node now lent_states v) (sym b)
    ∙ sym is
    ∙ ap (λ s. record { states = s; wakes = new_wakes; stirs = stirs }) (sym d)
    ∙ ap (λ v. record { states = new.states; wakes = v; stirs = stirs }) (sym e)

pub turned-waits : (w : World) (h : ℕ) (updated : ℕ → Bool) (c : Tree) (at first i : ℕ) (x : Operand) (reading : Reading) (n : NodeMemory) (links : List Link) (now : Bool) →
    AreLinked links n c at first → AreAtoms c updated → Asks c i x → Reads w (suc h) x reading →
    now ≡ atom_says (step_at (code at 0 c) i).node reading → NodesWait w h updated c at first n →
    NodesWait w h (also i updated) c at first (kept_by (climb (suc i) links first i now n.states n.wakes))
turned-waits w h updated c at first i x reading n links now ready atoms asks reads is waits =
    let y = heads-one c at i (asks-within c i x asks) in
    let node = heads-node c at (code at 0 c) ready.held.code i y.0 y.1 in
    let does = asks-part c at i y.0 x y.1 asks in
    let atom = asks-atom y.0.tree y.0.at x does in
    let own = waits i y.0 y.1 in
    climbed w h updated c at first i y.0 n links now ready y.1 atom.gate
    (is ∙ ap (λ (s : Step). atom_says s.node reading) node ∙ says-read w (suc h) y.0.tree y.0.at x reading does reads)
    (λ j z before heads temporal. atoms-free c at updated atoms j z heads temporal)
    (record {
      others = λ j z heads apart. waits j z heads;
      told = own.told;
      count = own.count;
      wake = λ temporal. absurd (let none = atom.temporal in let f : ⊥ = cc in f);
    })

pub turned-within : (c : Tree) (at first i : ℕ) (n : NodeMemory) (links : List Link) (now : Bool) → AreLinked links n c at first → i < nodes c →
    Within first (first + nodes c) at (at + slots c) n (kept_by (climb (suc i) links first i now n.states n.wakes))
turned-within c at first i n links now ready within =
    let y = heads-one c at i within in
    let leaves = climb-leaves c at first i y.0 n links now ready y.1 in
    let room = slots-within at 0 c i y.0 y.1 in
    record {
      nodes = leaves.nodes;
      slots = leaves.slots;
      before = λ s low. leaves.states s (inl low);
      behind = λ s high. leaves.states s (inr (omega arith));
      slots_before = λ s low. leaves.wakes s (inl low);
      slots_behind = λ s high. leaves.wakes s (inr (omega (arith, room.1)));
    }
