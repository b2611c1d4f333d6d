use Rattle.std.proofs.Common.{◌≡◌, ◌+◌, ◌-◌, ◌<◌, ◌≤◌, ℕ, suc, List, [], length, take, drop, refl, sym, subst, ◌∙◌, ap, arith, drop_of_length-le, drop-cons}
use Rattle.std.proofs.lemmas.Option.{slice_get-get_or}
use Rattle.term_eval.specs.declared.link.Link.{Link}
use Rattle.std.proofs.lemmas.List.{length-map, length-take-le, length-drop, get_or-take, get_or-drop}
use Rattle.term_eval.specs.declared.slot.Slot.{Slot}
use Rattle.term_eval.specs.declared.owner.Owner.{Owner}
use Rattle.term_eval.specs.CellWords.{never}
use Rattle.term_eval.specs.Slots.{wakes_of, cells_of, owners_of, owner_at, empty}
use Rattle.term_eval.specs.Run.{Run, CanLook, look_or_leave, pass_over}
use Rattle.term_eval.proofs.run.pass.Goals as goal

-- so many of the nodes from a place on are there, and each is the one of its slot
module _ (slots : List Slot) (at count : ℕ) (range : at + count ≤ length slots) where
  abbrev own : List Owner
  own = take count (drop at (owners_of slots))

  own-length : length own ≡ count
  own-length =
      let all = length-map slots (λ (s : Slot). s.owner) in
      length-take-le count (drop at (owners_of slots)) (let rest = length-drop at (owners_of slots) in omega (arith, range, all, rest))

  own-at : (j : ℕ) → j < count → owner_at own j ≡ owner_at (owners_of slots) (at + j)
  own-at j less = get_or-take count (drop at (owners_of slots)) j empty.owner less ∙ get_or-drop at (owners_of slots) j empty.owner

pub loop-slot-init : goal.loop-slot-init
unfolding pass_over
loop-slot-init c =
    let xs = own c.args.slots.now c.args.at c.args.count c.requires.range in
    let long = own-length c.args.slots.now c.args.at c.args.count c.requires.range in
    let none : drop c.args.count xs ≡ [] = drop_of_length-le xs (omega (arith, long)) in
    record { passed = record { range = omega (arith, long); is = rw none refl }; owners = refl }

pub look_or_leave-requires : goal.look_or_leave-requires
look_or_leave-requires c =
    let a = c.args in
    let l = c.loop-slot in
    let j = l.slot - 1 in
    let xs = own a.slots.now a.at a.count c.requires.range in
    let long = own-length a.slots.now a.at a.count c.requires.range in
    let less : j < a.count = omega (arith, l.invariant.passed.range, long) in
    let can = c.requires.can j (owner_at xs j) (slice_get-get_or xs j empty.owner (omega (arith, long, less))) in
    rw l.auto.states (rw l.auto.slots (rw l.invariant.owners
    (subst (λ o. CanLook a.links.now a.first (length a.states.now) (length a.slots.now) (length a.slots.now) o (a.at + j))
    (own-at a.slots.now a.at a.count c.requires.range j less) can)))

-- the first of some nodes is gone through behind all the others
first-last : (k first at j : ℕ) (links : List Link) (xs : List Owner) (s : Run) → j < length xs →
    look_or_leave k links first (owner_at xs j) (at + j)
    (pass_over k links first (drop (suc j) xs) (at + suc j) s) ≡ pass_over k links first (drop j xs) (at + j) s
unfolding pass_over
first-last k first at j links xs s within =
    let next : at + suc j ≡ suc (at + j) = omega arith in
    ap (λ n. look_or_leave k links first (owner_at xs j) (at + j)
    (pass_over k links first (drop (suc j) xs) n s)) next
    ∙ ap (λ l. pass_over k links first l (at + j) s) (sym (drop-cons xs j empty.owner within))

pub loop-slot-preserved : goal.loop-slot-preserved
loop-slot-preserved c =
    let a = c.args in
    let l = c.loop-slot in
    let j = l.slot - 1 in
    let xs = own a.slots.now a.at a.count c.requires.range in
    let long = own-length a.slots.now a.at a.count c.requires.range in
    let start : Run = record { states = a.states.now; wakes = wakes_of a.slots.now; cells = cells_of a.slots.now; due = never } in
    let now : Run = record { states = l.states; wakes = wakes_of l.slots; cells = cells_of l.slots; due = l.due } in
    let back : l.slot ≡ suc j = omega arith in
    let less : j < a.count = omega (arith, l.invariant.passed.range, long) in
    let owner : owner_at (owners_of l.slots) (a.at + j) ≡ owner_at xs j =
    ap (λ os. owner_at os (a.at + j)) l.invariant.owners ∙ sym (own-at a.slots.now a.at a.count c.requires.range j less) in
    record {
      passed = record {
        range = omega (arith, l.invariant.passed.range);
        is =
            c.look_or_leave.ensures.looks
            ∙ ap (λ o. look_or_leave a.now a.links.now a.first o (a.at + j) now) owner
            ∙ ap (look_or_leave a.now a.links.now a.first (owner_at xs j) (a.at + j))
            (l.invariant.passed.is ∙ ap (λ n. pass_over a.now a.links.now a.first (drop n xs) (a.at + n) start) back)
            ∙ first-last a.now a.first a.at j a.links.now xs start (omega (arith, l.invariant.passed.range));
      };
      owners = c.look_or_leave.ensures.owners ∙ l.invariant.owners;
    }

pub returns-clause-passes : goal.returns-clause-passes
returns-clause-passes c =
    let a = c.args in
    let xs = own a.slots.now a.at a.count c.requires.range in
    let start : Run = record { states = a.states.now; wakes = wakes_of a.slots.now; cells = cells_of a.slots.now; due = never } in
    let none : c.loop-slot.slot ≡ 0 = omega arith in
    let place : a.at + c.loop-slot.slot ≡ a.at = omega arith in
    c.loop-slot.invariant.passed.is
    ∙ ap (λ n. pass_over a.now a.links.now a.first (drop c.loop-slot.slot xs) n start) place
    ∙ ap (λ n. pass_over a.now a.links.now a.first (drop n xs) a.at start) none
