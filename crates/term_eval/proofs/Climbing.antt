-- A node that was updated is told, and with it those above it that turn: each node of the condition is kept then.
use Rattle.std.proofs.Common.{◌≡◌, ◌≢◌, ℕ, suc, ◌+◌, ◌<◌, Bool, true, false, List, refl, sym, ◌∙◌, ap, subst, arith}
use Rattle.std.specs.Prelude.{slice_index}
use Rattle.std.specs.List.{slice_get}
use Rattle.std.proofs.lemmas.Option.{same_Some}
use Rattle.ecam_spec.specs.Book.{Tree}
use Rattle.ecam_spec.specs.Term.{World, holds}
use Rattle.ecam_spec.specs.TermSize.{children}
use Rattle.term_eval.specs.declared.link.Link.{Link}
use Rattle.term_eval.specs.Memory.{NodeMemory}
use Rattle.term_eval.specs.Linked.{AreLinked}
use Rattle.term_eval.specs.Climb.{Climbed, climb}
use Rattle.term_eval.specs.OwnDue.{own_due}
use Rattle.term_eval.specs.Parts.{Part, parts, Heads, is_temporal}
use Rattle.term_eval.specs.NodeState.{state_at, says, said, IsKept, NodesWait, also}
use Rattle.term_eval.proofs.PartLaws.{parts-ends, slots-within}
use Rattle.term_eval.proofs.NodeKinds.{is_gate, own-slot}
use Rattle.term_eval.proofs.CodeParts.{heads-within}
use Rattle.term_eval.proofs.Linking.{link-up, link-top, link-gate}
use Rattle.term_eval.proofs.TellingParts.{ToTell, Given}
use Rattle.term_eval.proofs.Telling.{told}

-- what is kept of nodes after a climb
abbrev pub kept_by : Climbed → NodeMemory
kept_by done = record { states = done.states; wakes = done.wakes }

-- node i, which heads x, is about to be told: each other is kept, and so is this one, but that it is looked at again when
-- it has to be once it was told
pub record IsToBeTold (w : World) (h : ℕ) (updated : ℕ → Bool) (c : Tree) (at first i : ℕ) (x : Part) (n : NodeMemory) : Type 0 where
  pub others : (j : ℕ) (y : Part) → Heads c at j y → j ≢ i → IsKept w h updated y first j n
  pub told : (state_at n.states (first + i)).told ≡ says w h updated x.tree i
  pub count : (state_at n.states (first + i)).count ≡ said w h updated (children x.tree) (i + 1)
  pub wake : is_temporal x.tree ≡ true → slice_index n.wakes x.at ≡ own_due w x.tree (suc h)

-- once an atom or a temporal node, before which no temporal one has been updated, was told whether it holds in moment h +
-- 1, all wait
pub climbed : (w : World) (h : ℕ) (updated : ℕ → Bool) (c : Tree) (at first i : ℕ) (x : Part) (n : NodeMemory) (links : List Link) (now : Bool) →
    AreLinked links n c at first → Heads c at i x → is_gate x.tree ≡ false → now ≡ holds w x.tree (suc h) →
    ((j : ℕ) (y : Part) → j < i → Heads c at j y → is_temporal y.tree ≡ true → updated j ≡ false) →
    IsToBeTold w h updated c at first i x n →
    NodesWait w h (also i updated) c at first (kept_by (climb (suc i) links first i now n.states n.wakes))
climbed w h updated c at first i x n links now ready heads own is free before j y there =
    let start = climb (suc i) links first i now n.states n.wakes in
    let mine : ToTell w h updated links first i x.at n start x = record {
      told = before.told;
      count = before.count;
      wake = before.wake;
      own = own;
      ends = refl;
      starts = ap (λ b. climb (suc i) links first i b n.states n.wakes) is;
    } in
    let given : (k : ℕ) (z : Part) → Heads c at k z → Given w h updated links first i x.at n start k z = λ k z of_it.
    (record {
      link = link-up c at first n links ready k z of_it;
      top = link-top c at first n links ready k z of_it;
      gate = λ m high up below. link-gate c at first n links ready m k z
          (let w = heads-within c at i x heads in omega arith) of_it up below;
      few = (let ends = parts-ends at 0 c k z of_it in let small = ready.held.code.small in omega arith);
      room = (let ends = parts-ends at 0 c k z of_it in let room = ready.held.nodes in omega arith);
      slot = λ temporal.
          let high = slots-within at 0 c k z of_it in
          let some = own-slot z.tree temporal in
          let room = ready.held.slots in
          omega (arith, high.1);
      free = λ above. free k z above of_it;
      kept = before.others k z of_it;
      own = λ here.
          subst (ToTell w h updated links first i x.at n start)
          (same_Some x z (sym heads ∙ ap (slice_get (parts at 0 c)) (sym here) ∙ of_it)) mine;
    }) in
    subst (λ k. IsKept w h (also i updated) y first k (kept_by start)) (let e : 0 + j ≡ j = omega arith in e)
    (told w h updated links first i x.at n start c at (heads-within c at i x heads)
    (λ k z of_it. subst (λ m. Given w h updated links first i x.at n start m z) (let e : k ≡ 0 + k = omega arith in e) (given k z of_it)) j y there)
