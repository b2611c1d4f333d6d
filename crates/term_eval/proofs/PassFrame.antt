-- What a pass over the temporal nodes of a condition leaves as it is, and when it is due.
use Rattle.std.proofs.Common.{◌≡◌, ◌≢◌, ℕ, suc, ◌+◌, ◌<◌, ◌≤◌, ◌⊎◌, min, Bool, true, false, List, [], ◌∷◌, map, cond, length, inl, inr, refl, sym, ◌∙◌, ap, subst, arith}
use Rattle.std.specs.Prelude.{slice_index, slice_set}
use Rattle.std.proofs.lemmas.List.{length-set, get_or-set_same, get_or-set_other}
use Rattle.std.proofs.lemmas.Bool.{cases_lt, lt-ltb, le-ltb}
use Rattle.ecam_spec.specs.Book.{Tree}
use Rattle.ecam_spec.specs.TermSize.{nodes, slots}
use Rattle.term_eval.specs.declared.code.Node.{Node}
use Rattle.term_eval.specs.declared.link.Link.{Link}
use Rattle.term_eval.specs.declared.owner.Owner.{Owner}
use Rattle.term_eval.specs.CellWords.{never, cell_at}
use Rattle.term_eval.specs.Memory.{NodeMemory}
use Rattle.term_eval.specs.Code.{code, owner_of, owners, IsHeld}
use Rattle.term_eval.specs.Links.{links}
use Rattle.term_eval.specs.Linked.{AreLinked}
use Rattle.term_eval.specs.Parts.{Part, Heads, is_temporal}
use Rattle.term_eval.specs.NodeState.{state_at, first_wake}
use Rattle.term_eval.specs.Climb.{climb}
use Rattle.term_eval.specs.Run.{Run, owned, temporal_says, due_after, cells_after, look, look_or_leave, pass_over}
use Rattle.term_eval.proofs.FirstWake.{first-same}
use Rattle.term_eval.proofs.Inside.{node_at}
use Rattle.term_eval.proofs.NodeKinds.{own-slot}
use Rattle.term_eval.proofs.PartLaws.{step_of, parts-ends, slots-within}
use Rattle.term_eval.proofs.ClimbLeaves.{climb-leaves}
use Rattle.term_eval.proofs.Codes.{nodes-some}
use Rattle.term_eval.proofs.Told.{apart}
use Rattle.term_eval.proofs.Owned.{Place, behind, has-slot, owned-is, temporal_count, place-heads, place-slot, place-next}

pub links-held : (n : NodeMemory) (c : Tree) (at first : ℕ) → IsHeld (code at 0 c) n c at first →
    AreLinked (links at c) n c at first
links-held n c at first ready = record { links = refl; held = ready }

-- what is kept of the nodes
abbrev pub nodes_of_run : Run → NodeMemory
nodes_of_run s = record { states = s.states; wakes = s.wakes }

-- a look at a node of this kind
abbrev pub look_by : ℕ → List Link → ℕ → ℕ → ℕ → Node → Run → Run
look_by k links first i slot node s =
    let own = state_at s.states (first + i) in
    let first_child = (state_at s.states (first + i + 1)).told in
    let due = due_after k s.cells own.count node in
    let done = climb (suc i) links first i (temporal_says k s.cells own.count first_child node) s.states
    (slice_set s.wakes slot due) in
    record { states = done.states; wakes = done.wakes; cells = cells_after k s.cells own.count first_child node; due = min s.due due }

-- one that is left
abbrev pub leave : ℕ → Run → Run
leave slot s = record { states = s.states; wakes = s.wakes; cells = s.cells; due = min s.due (slice_index s.wakes slot) }

pub leaves : (k : ℕ) (links : List Link) (first slot : ℕ) (o : Owner) (s : Run) → k < slice_index s.wakes slot →
    look_or_leave k links first o slot s ≡ leave slot s
unfolding look_or_leave
leaves k links first slot o s later = rw (lt-ltb k (slice_index s.wakes slot) later) refl

pub looks : (k : ℕ) (links : List Link) (first i slot : ℕ) (x : Part) (s : Run) → slice_index s.wakes slot ≤ k →
    is_temporal x.tree ≡ true → x.at ≡ slot →
    look_or_leave k links first (owner_of i (node_at x.at x.tree)) slot s
    ≡ look_by k links first i x.at (node_at x.at x.tree) s
unfolding look_or_leave look
looks k links first i slot x s now temporal own =
    rw (le-ltb k (slice_index s.wakes slot) now)
    (ap (λ n. look_by k links first i n (owned (owner_of i (node_at x.at x.tree)) n) s) (sym own)
    ∙ ap (λ node. look_by k links first i x.at node s) (owned-is x.tree x.at i temporal))

-- from one state to another: nothing changed outside the condition's own nodes, slots and cells, and it is due with the
-- first of the wakes from a slot on
pub record Framed (first last at end slot n : ℕ) (old new : Run) : Type 0 where
  pub nodes : length new.states ≡ length old.states
  pub slots : length new.wakes ≡ length old.wakes
  pub len : length new.cells ≡ length old.cells
  pub states : (i : ℕ) → (i < first) ⊎ (last ≤ i) → state_at new.states i ≡ state_at old.states i
  pub wakes : (i : ℕ) → (i < at) ⊎ (end ≤ i) → slice_index new.wakes i ≡ slice_index old.wakes i
  pub cells : (i : ℕ) → (i < at) ⊎ (end ≤ i) → cell_at new.cells i ≡ cell_at old.cells i
  pub due : new.due ≡ first_wake new.wakes slot n

module _ (k first : ℕ) (c : Tree) (at : ℕ) where
  abbrev pub FramedTo : ℕ → ℕ → Run → Run → Type 0
  FramedTo = Framed first (first + nodes c) at (at + slots c)

  -- room for what is kept of the condition
  pub record Room (s : Run) : Type 0 where
    pub nodes : IsHeld (code at 0 c) (nodes_of_run s) c at first
    pub cells : at + slots c ≤ length s.cells

  pub room-still : (slot n : ℕ) (s t : Run) → FramedTo slot n s t → Room s → Room t
  room-still slot n s t f room = record {
    nodes = record { code = room.nodes.code; nodes = omega (arith, f.nodes, room.nodes.nodes); slots = omega (arith, f.slots, room.nodes.slots) };
    cells = omega (arith, f.len, room.cells);
  }

  -- the next node's wake comes to those behind it
  due-next : (slot n due : ℕ) (wakes : List ℕ) → due ≡ first_wake wakes (suc slot) n → min due (slice_index wakes slot) ≡ first_wake wakes slot (suc n)
  unfolding first_wake
  due-next slot n due wakes is =
      let e : suc slot ≡ slot + 1 = omega arith in
      let others = is ∙ ap (λ a. first_wake wakes a n) e in
      omega (arith, others)

  frame-left : (slot n : ℕ) (s t : Run) → FramedTo (suc slot) n s t → FramedTo slot (suc n) s (leave slot t)
  frame-left slot n s t f = record {
    nodes = f.nodes;
    slots = f.slots;
    len = f.len;
    states = f.states;
    wakes = f.wakes;
    cells = f.cells;
    due = due-next slot n t.due t.wakes f.due;
  }

  frame-seen : (i n : ℕ) (x : Part) (s t : Run) → Room t → Heads c at i x → is_temporal x.tree ≡ true → FramedTo (suc x.at) n s t →
      FramedTo x.at (suc n) s (look_by k (links at c) first i x.at (node_at x.at x.tree) t)
  frame-seen i n x s t room heads temporal f =
      let own = state_at t.states (first + i) in
      let set = (state_at t.states (first + i + 1)).told in
      let node = node_at x.at x.tree in
      let due = due_after k t.cells own.count node in
      let mid = slice_set t.wakes x.at due in
      let len : length mid ≡ length t.wakes = length-set t.wakes x.at due in
      let ready : IsHeld (code at 0 c) (record { states = t.states; wakes = mid }) c at first =
      record { code = room.nodes.code; nodes = room.nodes.nodes; slots = omega (arith, len, room.nodes.slots) } in
      let l = climb-leaves c at first i x (record { states = t.states; wakes = mid }) (links at c)
      (temporal_says k t.cells own.count set node) (links-held _ c at first ready) heads in
      let a = apart k x.tree x.at t.cells own.count set in
      let ends = parts-ends at 0 c i x heads in
      let within = slots-within at 0 c i x heads in
      let some = own-slot x.tree temporal in
      let size = nodes-some x.tree in
      let done = climb (suc i) (links at c) first i (temporal_says k t.cells own.count set node) t.states mid in
      let here : slice_index done.wakes x.at ≡ due = l.wakes x.at (inr (omega arith)) ∙ get_or-set_same t.wakes x.at due _ (omega (arith, room.nodes.slots, within.1)) in
      let others : (j : ℕ) → suc x.at ≤ j → slice_index done.wakes j ≡ slice_index t.wakes j =
      λ j low. l.wakes j (inr (omega arith)) ∙ get_or-set_other t.wakes x.at j due _ (λ e. absurd (let z : ⊥ = omega arith in z)) in
      record {
        nodes = l.nodes ∙ f.nodes;
        slots = l.slots ∙ len ∙ f.slots;
        len = a.len ∙ f.len;
        states = λ j away. l.states j (out j away (omega (arith, ends, size))) ∙ f.states j away;
        wakes = λ j away. l.wakes j (beyond j away (omega (arith, within.1))) ∙ get_or-set_other t.wakes x.at j due _ (apart-from j away within.0 (omega (arith, within.1, some))) ∙ f.wakes j away;
        cells = λ j away. a.others j (apart-from j away within.0 (omega (arith, within.1, some))) ∙ f.cells j away;
        due =
            ap (min t.due) (sym here)
            ∙ due-next x.at n t.due done.wakes (f.due ∙ sym (first-same t.wakes done.wakes (suc x.at) n others));
      }
    where
      out : (j : ℕ) → (j < first) ⊎ (first + nodes c ≤ j) → i < nodes c → (j < first) ⊎ (first + i < j)
      out j (inl low) less = inl low
      out j (inr high) less = inr (omega arith)

      beyond : (j : ℕ) → (j < at) ⊎ (at + slots c ≤ j) → x.at ≤ at + slots c → (j < at) ⊎ (x.at ≤ j)
      beyond j (inl low) less = inl low
      beyond j (inr high) less = inr (omega arith)

      apart-from : (j : ℕ) → (j < at) ⊎ (at + slots c ≤ j) → at ≤ x.at → x.at < at + slots c → j ≢ x.at
      apart-from j (inl low) from less = λ e. absurd (let z : ⊥ = omega arith in z)
      apart-from j (inr high) from less = λ e. absurd (let z : ⊥ = omega arith in z)

  frame-one : (i slot n : ℕ) (x : Part) (s t : Run) → Room t → Heads c at i x → is_temporal x.tree ≡ true → x.at ≡ slot → FramedTo (suc slot) n s t →
      FramedTo slot (suc n) s (look_or_leave k (links at c) first (owner_of i (node_at x.at x.tree)) slot t)
  frame-one i slot n x s t room heads temporal own f = elim (cases_lt k (slice_index t.wakes slot)) [
    | inl later ↦ subst (FramedTo slot (suc n) s) (sym (leaves k (links at c) first slot
        (owner_of i (node_at x.at x.tree)) t later)) (frame-left slot n s t f)
    | inr now ↦
        let seen = frame-seen i n x s t room heads temporal (subst (λ p. FramedTo (suc p) n s t) (sym own) f) in
        subst (FramedTo slot (suc n) s) (sym (looks k (links at c) first i slot x t now temporal own))
        (subst (λ p. FramedTo p (suc n) s (look_by k (links at c) first i x.at (node_at x.at x.tree) t)) own seen)
  ]

  abbrev pub over : ℕ → ℕ → List Part → Run → Run
  over m slot xs s = pass_over k (links at c) first (owners m (map step_of xs)) slot s

  -- a part that isn't temporal is passed by, and each other is looked at or left
  pub passes-by : (m slot : ℕ) (x : Part) (xs : List Part) (s : Run) → is_temporal x.tree ≡ false → over m slot (x ∷ xs) s ≡ over (m + 1) slot xs s
  unfolding owners
  passes-by m slot x xs s temporal =
      ap (λ b. pass_over k (links at c) first (cond b (owner_of m (node_at x.at x.tree) ∷ owners (m + 1) (map step_of xs))
      (owners (m + 1) (map step_of xs))) slot s) (has-slot x.tree x.at ∙ temporal)

  pub goes-over : (m slot : ℕ) (x : Part) (xs : List Part) (s : Run) → is_temporal x.tree ≡ true →
      over m slot (x ∷ xs) s ≡ look_or_leave k (links at c) first (owner_of m (node_at x.at x.tree)) slot
      (over (m + 1) (suc slot) xs s)
  unfolding owners pass_over
  goes-over m slot x xs s temporal =
      ap (λ b. pass_over k (links at c) first (cond b (owner_of m (node_at x.at x.tree) ∷ owners (m + 1) (map step_of xs))
      (owners (m + 1) (map step_of xs))) slot s) (has-slot x.tree x.at ∙ temporal)

  frame-step : (m slot : ℕ) (x : Part) (xs : List Part) (s : Run) (b : Bool) → is_temporal x.tree ≡ b → Room s → Heads c at m x → x.at ≡ slot →
      FramedTo (cond b (suc slot) slot) (temporal_count xs) s (over (m + 1) (cond b (suc slot) slot) xs s) →
      FramedTo slot (cond b (suc (temporal_count xs)) (temporal_count xs)) s (over m slot (x ∷ xs) s)
  frame-step m slot x xs s true is room heads own f =
      subst (FramedTo slot (suc (temporal_count xs)) s) (sym (goes-over m slot x xs s is))
      (frame-one m slot (temporal_count xs) x s (over (m + 1) (suc slot) xs s) (room-still (suc slot) (temporal_count xs) s (over (m + 1) (suc slot) xs s) f room) heads is own f)
  frame-step m slot x xs s false is room heads own f = subst (FramedTo slot (temporal_count xs) s) (sym (passes-by m slot x xs s is)) f

  pub framed : (xs : List Part) (m slot : ℕ) (s : Run) → Place c at m slot xs → Room s → s.due ≡ never → FramedTo slot (temporal_count xs) s (over m slot xs s)
  unfolding temporal_count owners pass_over first_wake
  framed [] m slot s place room due = record {
    nodes = refl;
    slots = refl;
    len = refl;
    states = λ i away. refl;
    wakes = λ i away. refl;
    cells = λ i away. refl;
    due = due;
  }
  framed (x ∷ xs) m slot s place room due =
      frame-step m slot x xs s (is_temporal x.tree) refl room (place-heads c at m slot x xs place) (place-slot c at m slot x xs place)
      (framed xs (m + 1) (behind x.tree slot) s (place-next c at m slot x xs place) room due)
