-- A pass over the temporal nodes of a condition, from the last to the first: those that were gone through have been
-- updated, and their cells stand for one moment more.
use Rattle.std.proofs.Common.{◌≡◌, ◌≢◌, ℕ, suc, ◌+◌, ◌-◌, ◌<◌, ◌≤◌, ◌^◌, Bool, true, false, not, ◌||◌, List, [], ◌∷◌, cond, length, inl, inr, Some, None, refl, sym, ◌∙◌, ap, subst, arith}
use Rattle.std.specs.Prelude.{slice_index, slice_set}
use Rattle.std.specs.List.{slice_get}
use Rattle.std.proofs.lemmas.List.{length-set, get_or-set_same, get_or-set_other}
use Rattle.std.proofs.lemmas.Bool.{cases_lt, lt-leb}
use Rattle.ecam_spec.specs.Book.{Tree}
use Rattle.ecam_spec.specs.Term.{World, holds}
use Rattle.ecam_spec.specs.TermSize.{nodes_of, children}
use Rattle.term_eval.specs.declared.memory.Cell.{Cell}
use Rattle.term_eval.specs.CellWords.{never, cell_at}
use Rattle.term_eval.specs.CellState.{Stand}
use Rattle.term_eval.specs.OwnDue.{own_due}
use Rattle.term_eval.specs.Asked.{heard}
use Rattle.term_eval.specs.Woken.{moved}
use Rattle.term_eval.specs.Code.{code, owner_of, owners, IsHeld}
use Rattle.term_eval.specs.Links.{links}
use Rattle.term_eval.specs.Memory.{NodeMemory}
use Rattle.term_eval.specs.Parts.{Part, parts, Heads, is_temporal}
use Rattle.term_eval.specs.NodeState.{state_at, own_says, said, Rests, Wakes, NodesWait, also}
use Rattle.term_eval.specs.Run.{Run, due_after, cells_after, look_or_leave, pass_over}
use Rattle.term_eval.specs.Run as run
use Rattle.term_eval.proofs.Inside.{node_at, OwnCell}
use Rattle.term_eval.proofs.NodeKinds.{no-gate, own-slot, spoken-own}
use Rattle.term_eval.proofs.Settling.{differ-same}
use Rattle.term_eval.proofs.PartLaws.{slots-within, says-after, said-after, says-is}
use Rattle.term_eval.proofs.KeptSame.{also-own, also-other, kept-same}
use Rattle.term_eval.proofs.ClimbSteps.{climb-same}
use Rattle.term_eval.proofs.Climbing.{IsToBeTold, climbed, kept_by}
use Rattle.term_eval.proofs.Left.{left-unturned, left-cell}
use Rattle.term_eval.proofs.Told.{right, FirstHolds, apart}
use Rattle.term_eval.proofs.Owned.{Place, behind, temporal_count, place-heads, place-slot, place-next, slots-apart}
use Rattle.term_eval.proofs.PartCells.{untimed-cell, open-parts}
use Rattle.term_eval.proofs.Short.{short-part}
use Rattle.term_eval.proofs.Hearing.{wait-same}
use Rattle.term_eval.proofs.AskedSoFar.{temporal_at, gone, gone-untimed, gone-through, gone-ahead, start-waits}
use Rattle.term_eval.proofs.RightBelow.{still-truths, set-heads}
use Rattle.term_eval.proofs.PassFrame.{nodes_of_run, links-held, look_by, leave, leaves, looks, Room, room-still, over, passes-by, goes-over, framed}

module _ (w : World) (h : ℕ) (c : Tree) (at first : ℕ) where
  -- ---- from one node to that before it

  pub record Gone (m : ℕ) (s : Run) : Type 0 where
    pub waits : NodesWait w h (gone c at m) c at first (nodes_of_run s)
    pub behind : (i : ℕ) (x : Part) → Heads c at i x → m ≤ i → OwnCell w (suc (suc h)) x.tree (cell_at s.cells x.at)
    pub ahead : (i : ℕ) (x : Part) → Heads c at i x → i < m → OwnCell w (suc h) x.tree (cell_at s.cells x.at)

  -- where node m isn't temporal nothing is to be done
  gone-by : (m : ℕ) (x : Part) (s : Run) → Heads c at m x → is_temporal x.tree ≡ false → Gone (m + 1) s → Gone m s
  gone-by m x s heads untimed g = record {
    waits = wait-same w h (gone c at (m + 1)) (gone c at m) c at first (nodes_of_run s) (λ i y there gate. ap (λ b. own_says w h b y.tree) (same i y there)) (λ i y there temporal. same i y there) g.waits;
    behind = λ i y there reached. elim (cases_lt m i) [
      | inl later ↦ g.behind i y there (omega arith)
      | inr own ↦
          let e : m ≡ i = omega arith in
          let f : x ≡ y = let o : Some x ≡ Some y = sym heads ∙ ap (slice_get (parts at 0 c)) e ∙ there in cc in
          untimed-cell w (suc (suc h)) y.tree (cell_at s.cells y.at) (sym (ap (λ (z : Part). is_temporal z.tree) f) ∙ untimed)
    ];
    ahead = λ i y there less. g.ahead i y there (omega arith);
  } where
    same : (i : ℕ) (y : Part) → Heads c at i y → gone c at m i ≡ gone c at (m + 1) i
    same i y there = elim (cases_lt i m) [
      | inl before ↦ ap (λ b. not (temporal_at c at i) || b) (lt-leb m i before ∙ sym (lt-leb (m + 1) i (omega arith)))
      | inr from ↦ elim (cases_lt m i) [
        | inl later ↦ gone-through c at m i from ∙ sym (gone-through c at (m + 1) i (omega arith))
        | inr own ↦
            let e : m ≡ i = omega arith in
            let f : x ≡ y = let o : Some x ≡ Some y = sym heads ∙ ap (slice_get (parts at 0 c)) e ∙ there in cc in
            let u = sym (ap (λ (z : Part). is_temporal z.tree) f) ∙ untimed in
            gone-untimed c at m i y there u ∙ sym (gone-untimed c at (m + 1) i y there u)
      ]
    ]

  -- a temporal node of which all children were updated is told
  gone-told : (m : ℕ) (x : Part) → Heads c at m x → is_temporal x.tree ≡ true → (s : Run) → NodesWait w h (also m (gone c at (m + 1))) c at first (nodes_of_run s) →
      NodesWait w h (gone c at m) c at first (nodes_of_run s)
  gone-told m x heads temporal s waits =
      wait-same w h (also m (gone c at (m + 1))) (gone c at m) c at first (nodes_of_run s) (λ i y there gate. ap (λ b. own_says w h b y.tree) (same i y there)) (λ i y there temporal. same i y there) waits
    where
      same : (i : ℕ) (y : Part) → Heads c at i y → gone c at m i ≡ also m (gone c at (m + 1)) i
      same i y there = elim (cases_lt i m) [
        | inl before ↦
            ap (λ b. not (temporal_at c at i) || b) (lt-leb m i before ∙ sym (lt-leb (m + 1) i (omega arith)))
            ∙ sym (also-other m (gone c at (m + 1)) i (λ e. absurd (let z : ⊥ = omega arith in z)))
        | inr from ↦ elim (cases_lt m i) [
          | inl later ↦
              gone-through c at m i from ∙ sym (gone-through c at (m + 1) i (omega arith))
              ∙ sym (also-other m (gone c at (m + 1)) i (λ e. absurd (let z : ⊥ = omega arith in z)))
          | inr own ↦
              let e : m ≡ i = omega arith in
              gone-through c at m i from ∙ sym (also-own m (gone c at (m + 1))) ∙ ap (also m (gone c at (m + 1))) e
        ]
      ]

  -- what stands of the cells when node m's own was seen to
  module _ (m slot : ℕ) (x : Part) (xs : List Part) (place : Place c at m slot (x ∷ xs)) (temporal : is_temporal x.tree ≡ true) (s : Run) (g : Gone (m + 1) s) where
    here : Heads c at m x
    here = place-heads c at m slot x xs place

    same-part : (i : ℕ) (y : Part) → Heads c at i y → m ≡ i → x ≡ y
    same-part i y there e = let o : Some x ≡ Some y = sym here ∙ ap (slice_get (parts at 0 c)) e ∙ there in cc

    other-cell : (k : ℕ) (cells : List Cell) → ((i : ℕ) → i ≢ x.at → cell_at cells i ≡ cell_at s.cells i) → (i : ℕ) (y : Part) → Heads c at i y → i ≢ m →
        OwnCell w k y.tree (cell_at s.cells y.at) → OwnCell w k y.tree (cell_at cells y.at)
    other-cell k cells others i y there other own = by (is_temporal y.tree) refl where
      by : (b : Bool) → is_temporal y.tree ≡ b → OwnCell w k y.tree (cell_at cells y.at)
      by true timed = subst (OwnCell w k y.tree) (sym (others y.at (slots-apart c at m i x y here there temporal timed other))) own
      by false untimed = untimed-cell w k y.tree (cell_at cells y.at) untimed

    behind-cells : (cells : List Cell) → ((i : ℕ) → i ≢ x.at → cell_at cells i ≡ cell_at s.cells i) → OwnCell w (suc (suc h)) x.tree (cell_at cells x.at) →
        (i : ℕ) (y : Part) → Heads c at i y → m ≤ i → OwnCell w (suc (suc h)) y.tree (cell_at cells y.at)
    behind-cells cells others own i y there reached = elim (cases_lt m i) [
      | inl later ↦ other-cell (suc (suc h)) cells others i y there (λ e. absurd (let z : ⊥ = omega arith in z)) (g.behind i y there (omega arith))
      | inr now ↦
          let e : m ≡ i = omega arith in
          subst (λ (z : Part). OwnCell w (suc (suc h)) z.tree (cell_at cells z.at)) (same-part i y there e) own
    ]

    ahead-cells : (cells : List Cell) → ((i : ℕ) → i ≢ x.at → cell_at cells i ≡ cell_at s.cells i) →
        (i : ℕ) (y : Part) → Heads c at i y → i < m → OwnCell w (suc h) y.tree (cell_at cells y.at)
    ahead-cells cells others i y there less =
        other-cell (suc h) cells others i y there (λ e. absurd (let z : ⊥ = omega arith in z)) (g.ahead i y there (omega arith))

-- ---- a node that is left, and one that is looked at

module _ (w : World) (h : ℕ) (c : Tree) (at first : ℕ) (small : suc h < 2 ^ 63) where
  -- all that stands below a node has been updated when it is its turn
  below-asked : (m : ℕ) (x : Part) → ((i : ℕ) → m + 1 ≤ i → i < m + 1 + nodes_of (children x.tree) → gone c at (m + 1) i ≡ true)
  below-asked m x i low high = gone-through c at (m + 1) i low

  before-free : (m j : ℕ) (y : Part) → j < m → Heads c at j y → is_temporal y.tree ≡ true → gone c at (m + 1) j ≡ false
  before-free m j y less there timed = gone-ahead c at (m + 1) j y there timed (omega arith)

  own-unasked : (m : ℕ) (x : Part) → Heads c at m x → is_temporal x.tree ≡ true → gone c at (m + 1) m ≡ false
  own-unasked m x heads temporal = gone-ahead c at (m + 1) m x heads temporal (omega arith)

  -- it tells what it said in moment h until then
  said-before-it : (m : ℕ) (x : Part) (s : Run) → Heads c at m x → is_temporal x.tree ≡ true → Gone w h c at first (m + 1) s →
      (state_at s.states (first + m)).told ≡ holds w x.tree h
  said-before-it m x s heads temporal g =
      (g.waits m x heads).told
      ∙ says-is w h (gone c at (m + 1)) x.tree m
      ∙ spoken-own w h (gone c at (m + 1) m) x.tree (said w h (gone c at (m + 1)) (children x.tree) (m + 1)) (no-gate x.tree temporal)
      ∙ ap (λ b. own_says w h b x.tree) (own-unasked m x heads temporal)

  module _ (m slot : ℕ) (x : Part) (xs : List Part) (place : Place c at m slot (x ∷ xs)) (temporal : is_temporal x.tree ≡ true) (s : Run)
      (room : Room (suc h) first c at s) (g : Gone w h c at first (m + 1) s) where
    heads : Heads c at m x
    heads = place-heads c at m slot x xs place

    -- one that isn't due, and over which nothing turned
    rests : (suc h < slice_index s.wakes x.at) → Rests w h (gone c at (m + 1)) x.tree m (slice_index s.wakes x.at)
    rests later =
        elim (subst (Wakes w h (gone c at (m + 1)) x.tree m (slice_index s.wakes x.at)) (own-unasked m x heads temporal) ((g.waits m x heads).wake temporal)) [
          | inl woken ↦ absurd (let z : ⊥ = omega (arith, later, woken) in z)
          | inr rest ↦ rest
        ]

    gone-left : suc h < slice_index s.wakes x.at → Gone w h c at first m (leave x.at s)
    gone-left later =
        let r = rests later in
        let same = still-truths w h (gone c at (m + 1)) (children x.tree) (m + 1) (below-asked m x) r.same in
        let soon : suc h < own_due w x.tree h = omega (arith, later, r.due) in
        let turn = left-unturned w h x.tree temporal small (short-part at 0 c room.nodes.code.short m x heads) same soon in
        let own = g.ahead m x heads (omega arith) in
        let kept = g.waits m x heads in
        let n = nodes_of_run s in
        let now = holds w x.tree (suc h) in
        let told : IsToBeTold w h (gone c at (m + 1)) c at first m x n = record {
          others = λ j y there other. g.waits j y there;
          told = kept.told;
          count = kept.count;
          wake = λ t. r.due ∙ sym turn.due;
        } in
        let still : (state_at s.states (first + m)).told ≡ now = said-before-it m x s heads temporal g ∙ sym turn.truth in
        let waits = climbed w h (gone c at (m + 1)) c at first m x n (links at c) now
        (links-held n c at first room.nodes) heads (no-gate x.tree temporal) refl (before-free m) told in
        let done = climb-same m (links at c) first m now s.states s.wakes
        (differ-same (state_at s.states (first + m)).told now still) in
        record {
          waits = gone-told w h c at first m x heads temporal (leave x.at s) (subst (λ d. NodesWait w h (also m (gone c at (m + 1))) c at first (kept_by d)) done waits);
          behind = behind-cells w h c at first m slot x xs place temporal s g s.cells (λ i other. refl) (left-cell w h x.tree (cell_at s.cells x.at) same own);
          ahead = ahead-cells w h c at first m slot x xs place temporal s g s.cells (λ i other. refl);
        }

    first-holds : FirstHolds w (suc h) x.tree (state_at s.states (first + m + 1)).told
    first-holds a b is =
        let y : Part = record { tree = a; at = x.at + 1; up = 1 } in
        let kept = g.waits (m + 1) y (set-heads c at m x a b heads temporal is) in
        let e : first + m + 1 ≡ first + (m + 1) = omega arith in
        ap (λ i. (state_at s.states i).told) e ∙ kept.told ∙ says-after w h (gone c at (m + 1)) a (m + 1) (λ i low high. gone-through c at (m + 1) i low)

    gone-seen : Gone w h c at first m (look_by (suc h) (links at c) first m x.at (node_at x.at x.tree) s)
    gone-seen =
        let own = g.ahead m x heads (omega arith) in
        let kept = g.waits m x heads in
        let count = (state_at s.states (first + m)).count in
        let set = (state_at s.states (first + m + 1)).told in
        let within = slots-within at 0 c m x heads in
        let some = own-slot x.tree temporal in
        let counts = kept.count ∙ said-after w h (gone c at (m + 1)) (children x.tree) (m + 1) (below-asked m x) in
        let r = right w (suc h) x.tree x.at s.cells count set temporal small (omega (arith, within.1, some, room.cells)) counts first-holds own in
        let a = apart (suc h) x.tree x.at s.cells count set in
        let due = due_after (suc h) s.cells count (node_at x.at x.tree) in
        let mid = slice_set s.wakes x.at due in
        let len : length mid ≡ length s.wakes = length-set s.wakes x.at due in
        let n : NodeMemory = record { states = s.states; wakes = mid } in
        let now = run.temporal_says (suc h) s.cells count set (node_at x.at x.tree) in
        let ready : IsHeld (code at 0 c) n c at first = record {
          code = room.nodes.code;
          nodes = room.nodes.nodes;
          slots =
              omega (arith, len, room.nodes.slots);
        } in
        let set-wake : slice_index mid x.at ≡ due = get_or-set_same s.wakes x.at due _ (omega (arith, within.1, some, room.nodes.slots)) in
        let told : IsToBeTold w h (gone c at (m + 1)) c at first m x n = record {
          others = λ j y there other. kept-same w h (gone c at (m + 1)) y first j (nodes_of_run s) n refl (λ timed. other-slot j y there other timed due) (g.waits j y there);
          told = kept.told;
          count = kept.count;
          wake = λ t. set-wake ∙ r.wake;
        } in
        let waits = climbed w h (gone c at (m + 1)) c at first m x n (links at c) now (links-held n c at first ready) heads
        (no-gate x.tree temporal) r.told (before-free m) told in
        record {
          waits = gone-told w h c at first m x heads temporal
              (look_by (suc h) (links at c) first m x.at (node_at x.at x.tree) s) waits;
          behind = behind-cells w h c at first m slot x xs place temporal s g (cells_after (suc h) s.cells count set (node_at x.at x.tree)) a.others r.cell;
          ahead = ahead-cells w h c at first m slot x xs place temporal s g (cells_after (suc h) s.cells count set (node_at x.at x.tree)) a.others;
        }
      where
        other-slot : (j : ℕ) (y : Part) → Heads c at j y → j ≢ m → is_temporal y.tree ≡ true → (due : ℕ) → slice_index (slice_set s.wakes x.at due) y.at ≡ slice_index s.wakes y.at
        other-slot j y there other timed due = get_or-set_other s.wakes x.at y.at due _ (slots-apart c at m j x y heads there temporal timed other)

    gone-one : x.at ≡ slot → Gone w h c at first m (look_or_leave (suc h) (links at c) first
        (owner_of m (node_at x.at x.tree)) slot s)
    gone-one own = elim (cases_lt (suc h) (slice_index s.wakes slot)) [
      | inl later ↦
          (let there : suc h < slice_index s.wakes x.at = subst (λ p. suc h < slice_index s.wakes p) (sym own) later in
          subst (Gone w h c at first m) (sym (leaves (suc h) (links at c) first slot
          (owner_of m (node_at x.at x.tree)) s later))
          (subst (λ p. Gone w h c at first m (leave p s)) own (gone-left there)))
      | inr now ↦
          subst (Gone w h c at first m)
          (sym (looks (suc h) (links at c) first m slot x s now temporal own)) gone-seen
    ]

  gone-step : (m slot : ℕ) (x : Part) (xs : List Part) (s : Run) (b : Bool) → is_temporal x.tree ≡ b → Place c at m slot (x ∷ xs) →
      (Room (suc h) first c at (over (suc h) first c at (m + 1) (cond b (suc slot) slot) xs s)) →
      Gone w h c at first (m + 1) (over (suc h) first c at (m + 1) (cond b (suc slot) slot) xs s) →
      Gone w h c at first m (over (suc h) first c at m slot (x ∷ xs) s)
  gone-step m slot x xs s true temporal place room g =
      subst (Gone w h c at first m) (sym (goes-over (suc h) first c at m slot x xs s temporal))
      (gone-one m slot x xs place temporal (over (suc h) first c at (m + 1) (suc slot) xs s) room g
      (place-slot c at m slot x xs place))
  gone-step m slot x xs s false untimed place room g =
      subst (Gone w h c at first m) (sym (passes-by (suc h) first c at m slot x xs s untimed))
      (gone-by w h c at first m x (over (suc h) first c at (m + 1) slot xs s) (place-heads c at m slot x xs place) untimed g)

  -- nothing heads a node behind the last
  none-behind : (m slot : ℕ) → Place c at m slot [] → (i : ℕ) (x : Part) → Heads c at i x → i < m
  none-behind m slot place i x there = elim (cases_lt i m) [
    | inl less ↦ less
    | inr from ↦
        (let e : m + (i - m) ≡ i = omega arith in
        let no : slice_get (parts at 0 c) i ≡ None = ap (slice_get (parts at 0 c)) (sym e) ∙ place.here (i - m) in
        absurd (let z : ⊥ = cc in z))
  ]

  pub gone-over : (xs : List Part) (m slot : ℕ) (s : Run) → Place c at m slot xs → Room (suc h) first c at s → s.due ≡ never →
      NodesWait w h (heard (moved w (suc h)) c) c at first (nodes_of_run s) → Stand w (suc h) c at s.cells →
      Gone w h c at first m (over (suc h) first c at m slot xs s)
  unfolding owners pass_over
  gone-over [] m slot s place room due waits stand = record {
    waits = start-waits w h c at first m (nodes_of_run s) (none-behind m slot place) waits;
    behind = λ i x there reached. absurd (let z : ⊥ = let less = none-behind m slot place i x there in omega (arith, less) in z);
    ahead = λ i x there less. open-parts w (suc h) s.cells c at stand i x there;
  }
  gone-over (x ∷ xs) m slot s place room due waits stand =
      let next = place-next c at m slot x xs place in
      let f = framed (suc h) first c at xs (m + 1) (behind x.tree slot) s next room due in
      gone-step m slot x xs s (is_temporal x.tree) refl place
      (room-still (suc h) first c at (behind x.tree slot) (temporal_count xs) s
      (over (suc h) first c at (m + 1) (behind x.tree slot) xs s) f room)
      (gone-over xs (m + 1) (behind x.tree slot) s next room due waits stand)
