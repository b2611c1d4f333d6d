-- What a pass over the temporal nodes of a condition asks for is there.
use Rattle.std.proofs.Common.{◌≡◌, ℕ, zero, suc, ◌+◌, Bool, true, false, List, [], ◌∷◌, map, cond, length, Some, refl, sym, ◌∙◌, ap, subst, arith}
use Rattle.std.specs.List.{slice_get}
use Rattle.std.proofs.lemmas.Option.{same_Some}
use Rattle.ecam_spec.specs.Book.{Tree}
use Rattle.term_eval.specs.declared.link.Link.{Link}
use Rattle.term_eval.specs.declared.owner.Owner.{Owner}
use Rattle.term_eval.specs.Memory.{Memory}
use Rattle.term_eval.specs.Code.{code, owner_of, owners}
use Rattle.term_eval.specs.Linked.{CanRun}
use Rattle.term_eval.specs.Parts.{Part, parts, Heads, is_temporal}
use Rattle.term_eval.specs.Run.{CanPass}
use Rattle.term_eval.proofs.Inside.{node_at}
use Rattle.term_eval.proofs.NodeKinds.{own-slot}
use Rattle.term_eval.proofs.PartLaws.{step_of, parts-code, parts-ends, slots-within}
use Rattle.term_eval.proofs.Linking.{can-climb, length-links}
use Rattle.term_eval.proofs.RightBelow.{stands-over}
use Rattle.term_eval.proofs.Owned.{Place, place-first, place-heads, place-slot, place-next, behind, has-slot}

-- the nodes that are listed are the temporal ones, slot by slot

record Owns (c : Tree) (at slot : ℕ) (o : Owner) : Type 0 where
  part : Part
  heads : Heads c at o.node part
  temporal : is_temporal part.tree ≡ true
  own : part.at ≡ slot

owns-step : (c : Tree) (at m slot : ℕ) (x : Part) (xs : List Part) (b : Bool) → is_temporal x.tree ≡ b → Place c at m slot (x ∷ xs) →
    ((j : ℕ) (o : Owner) → slice_get (owners (m + 1) (map step_of xs)) j ≡ Some o →
    Owns c at (cond b (suc slot) slot + j) o) →
    (j : ℕ) (o : Owner) → slice_get (cond b (owner_of m (node_at x.at x.tree) ∷ owners (m + 1) (map step_of xs))
    (owners (m + 1) (map step_of xs))) j ≡ Some o → Owns c at (slot + j) o
owns-step c at m slot x xs true temporal place others zero o is =
    let same : owner_of m (node_at x.at x.tree) ≡ o = same_Some (owner_of m (node_at x.at x.tree)) o is in
    subst (Owns c at (slot + 0)) same
    (record { part = x; heads = place-heads c at m slot x xs place; temporal = temporal; own = let own = place-slot c at m slot x xs place in omega (arith, own) })
owns-step c at m slot x xs true temporal place others (suc j) o is =
    let e : suc slot + j ≡ slot + suc j = omega arith in
    subst (λ s. Owns c at s o) e (others j o is)
owns-step c at m slot x xs false temporal place others j o is = others j o is

owns : (c : Tree) (at m slot : ℕ) (xs : List Part) → Place c at m slot xs → (j : ℕ) (o : Owner) →
    slice_get (owners m (map step_of xs)) j ≡ Some o → Owns c at (slot + j) o
unfolding owners
owns c at m slot [] place j o is = absurd (let z : ⊥ = cc in z)
owns c at m slot (x ∷ xs) place j o is =
    owns-step c at m slot x xs (is_temporal x.tree) refl place
    (owns c at (m + 1) (behind x.tree slot) xs (place-next c at m slot x xs place)) j o
    (ap (λ b. slice_get (cond b (owner_of m (node_at x.at x.tree) ∷ owners (m + 1) (map step_of xs))
    (owners (m + 1) (map step_of xs))) j) (sym (has-slot x.tree x.at)) ∙ is)

pub can-pass : (own : List Link) (n : ℕ) (m : Memory) (c : Tree) (at first : ℕ) → CanRun own n m c at first →
    CanPass own first (length m.nodes.states) (length m.nodes.wakes) (length m.slots) (owners 0 (code at 0 c)) at
can-pass own n m c at first can j o is =
    let owned = owns c at 0 at (parts at 0 c) (place-first c at) j o
    (ap (λ l. slice_get (owners 0 l) j) (sym (parts-code at 0 c)) ∙ is) in
    let size = length-links c at own can.linked.links in
    let within = slots-within at 0 c o.node owned.part owned.heads in
    let some = own-slot owned.part.tree owned.temporal in
    record {
      climb = can-climb c at first m.nodes own can.linked;
      within = omega (arith, size, stands-over owned.part.tree owned.temporal, parts-ends at 0 c o.node owned.part owned.heads);
      room = omega (arith, within.1, some, owned.own, can.linked.held.slots);
      has = omega (arith, within.1, some, owned.own, can.range);
    }
