-- The slots of a condition are of its temporal nodes, in the order of its code.
use Rattle.std.proofs.Common.{◌≡◌, ℕ, suc, ◌+◌, ◌≤◌, Bool, true, false, List, [], ◌∷◌, map, take, drop, cond, length, refl, sym, ◌∙◌, ap, subst, arith}
use Rattle.std.proofs.lemmas.List.{length-take-le, length-drop, get_or-take, get_or-drop, ext_get_or}
use Rattle.std.proofs.lemmas.Option.{slice_get-get_or, get_or_from_slice_get}
use Rattle.ecam_spec.specs.Book.{Tree}
use Rattle.ecam_spec.specs.TermSize.{slots}
use Rattle.term_eval.specs.declared.link.Link.{Link}
use Rattle.term_eval.specs.declared.owner.Owner.{Owner}
use Rattle.term_eval.specs.declared.nodes.NodeState.{NodeState}
use Rattle.term_eval.specs.declared.slot.Slot.{Slot}
use Rattle.term_eval.specs.Slots.{owners_of, owner_at, empty}
use Rattle.term_eval.specs.Climb.{CanClimb}
use Rattle.term_eval.specs.Run.{CanPass}
use Rattle.term_eval.specs.Memory.{Memory}
use Rattle.term_eval.specs.Code.{code, owner_of, owners}
use Rattle.term_eval.specs.Linked.{AreOwned, CanRun}
use Rattle.term_eval.specs.Parts.{Part, parts, is_temporal}
use Rattle.term_eval.proofs.Inside.{node_at}
use Rattle.term_eval.proofs.PartLaws.{step_of, parts-code}
use Rattle.term_eval.proofs.Seen.{Seen}
use Rattle.term_eval.proofs.CanPass.{can-pass}
use Rattle.term_eval.proofs.Owned.{temporal_count, many-slots, follow, has-slot}

-- ---- how many they are

counted : (b : Bool) (o : Owner) (os : List Owner) (n : ℕ) → length os ≡ n → length (cond b (o ∷ os) os) ≡ cond b (suc n) n
counted true o os n is = ap suc is
counted false o os n is = is

many-owners : (m : ℕ) (xs : List Part) → length (owners m (map step_of xs)) ≡ temporal_count xs
unfolding owners temporal_count
many-owners m [] = refl
many-owners m (x ∷ xs) =
    let rest = owners (m + 1) (map step_of xs) in
    ap (λ b. length (cond b (owner_of m (node_at x.at x.tree) ∷ rest) rest)) (has-slot x.tree x.at)
    ∙ counted (is_temporal x.tree) (owner_of m (node_at x.at x.tree)) rest (temporal_count xs) (many-owners (m + 1) xs)

pub length-owners : (c : Tree) (at : ℕ) → length (owners 0 (code at 0 c)) ≡ slots c
length-owners c at =
    let many = many-slots at (at + slots c) (parts at 0 c) (follow c at) in
    let each = many-owners 0 (parts at 0 c) in
    ap (λ l. length (owners 0 l)) (parts-code at 0 c) ∙ omega (arith, many, each)

-- ---- where they are

same-owners : (all own : List Owner) (at n : ℕ) → AreOwned all at own → length own ≡ n → at + n ≤ length all → take n (drop at all) ≡ own
same-owners all own at n owned long range =
    let rest = length-drop at all in
    let len : length (take n (drop at all)) ≡ n = length-take-le n (drop at all) (omega (arith, range, rest)) in
    ext_get_or empty.owner (take n (drop at all)) own (omega (arith, len, long)) (λ k less.
    get_or-take n (drop at all) k empty.owner (omega (arith, less, len))
    ∙ get_or-drop at all k empty.owner
    ∙ get_or_from_slice_get all (at + k) (owner_at own k) empty.owner
    (owned k (owner_at own k) (slice_get-get_or own k empty.owner (omega (arith, less, len, long)))))

-- the slots that are lent, and what is asked of them
module _ (own : List Link) (n : ℕ) (m : Memory) (c : Tree) (at first : ℕ) (can : CanRun own n m c at first) (slots : List Slot) (seen : Seen slots m) where
  pub own-slots : take n (drop at (owners_of slots)) ≡ owners 0 (code at 0 c)
  own-slots =
      ap (λ os. take n (drop at os)) seen.owners
      ∙ same-owners m.owners (owners 0 (code at 0 c)) at n can.owners (length-owners c at ∙ sym can.count)
      (omega (arith, can.range, can.count, seen.many_cells, seen.many_owners))

  pub can-pass-lent : (states : List NodeState) → states ≡ m.nodes.states →
      CanPass own first (length states) (length slots) (length slots) (take n (drop at (owners_of slots))) at
  can-pass-lent states are =
      rw (ap length are) (rw own-slots (λ j o is.
      let look = can-pass own n m c at first can j o is in
      record {
        climb = subst (CanClimb own first (length m.nodes.states)) (sym seen.many_wakes) look.climb;
        within = look.within;
        room = omega (arith, look.room, seen.many_wakes);
        has = omega (arith, look.has, seen.many_cells);
      }))
