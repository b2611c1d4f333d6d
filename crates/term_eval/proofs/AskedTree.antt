-- Each node of a condition is asked in the first moment, children before the node that they stand in.
use Rattle.std.proofs.Common.{◌≡◌, ◌≢◌, ℕ, zero, suc, ◌+◌, ◌<◌, ◌≤◌, ◌^◌, ◌⊎◌, min, Bool, true, false, List, [], ◌∷◌, ◌++◌, length, Some, inl, inr, refl, sym, ◌∙◌, ap, subst, arith}
use Rattle.std.specs.Prelude.{slice_get, slice_index}
use Rattle.std.proofs.lemmas.Option.{get_or_from_slice_get}
use Rattle.std.proofs.lemmas.List.Sums.{count_by-le-length}
use Rattle.ecam_spec.specs.Book.{Tree, Trees, constant, discrete, valid, compared, in_phase, alert, press, computer, negation, all, any, at_least, confirmed, held, risen, latched, none, more}
use Rattle.ecam_spec.specs.Term.{World, holds, truths}
use Rattle.ecam_spec.specs.TermSize.{slots, slots_of, nodes, nodes_of, children}
use Rattle.ecam_spec.specs.TermNames.{IsWithin}
use Rattle.ecam_spec.specs.declared.limits.TheConstants.{TERM_NODES}
use Rattle.term_eval.specs.declared.env.Env.{Env}
use Rattle.term_eval.specs.declared.memory.Cell.{Cell}
use Rattle.term_eval.specs.declared.nodes.NodeState.{NodeState}
use Rattle.term_eval.specs.declared.code.Step.{Step}
use Rattle.term_eval.specs.CellWords.{never, cell_at}
use Rattle.term_eval.specs.CellState.{Stand, StandAll}
use Rattle.term_eval.specs.Shown.{Shows}
use Rattle.term_eval.specs.OwnDue.{own_due}
use Rattle.term_eval.specs.Code.{step, many}
use Rattle.term_eval.specs.NodeState.{state_at, one_if, first_wake}
use Rattle.term_eval.specs.Parts.{Part, parts, parts_of, is_temporal}
use Rattle.term_eval.specs.Run.{Run, due_after}
use Rattle.term_eval.specs.Begin.{raised, ask}
use Rattle.term_eval.proofs.Codes.{many-nodes}
use Rattle.term_eval.proofs.Frames.{Stand-same, StandAll-same}
use Rattle.term_eval.proofs.Members.{how_many, counted, length-many}
use Rattle.term_eval.proofs.Inside.{node_at, inside, nodes-is, slots-is, OwnCell, open-cells, close-cells}
use Rattle.term_eval.proofs.PartLaws.{parts-is, parts-count}
use Rattle.term_eval.proofs.FirstKinds.{FirstHolds, right, Apart, cells-apart, Woken, woken}
use Rattle.term_eval.proofs.FirstWake.{first-same, first-splits}
use Rattle.term_eval.proofs.AskedNode.{Asked, is-asked}

-- what is kept of a part that was asked
pub record IsAsked (w : World) (x : Part) (s : NodeState) (next : ℕ) : Type 0 where
  pub told : s.told ≡ holds w x.tree 0
  pub count : s.count ≡ how_many (truths w (children x.tree) 0)
  pub wake : is_temporal x.tree ≡ true → next ≡ own_due w x.tree 0

-- the same of some parts, whose nodes and slots start at a place
pub record AreAsked (w : World) (at p : ℕ) (xs : List Part) (t : Run) : Type 0 where
  pub low : (i : ℕ) (x : Part) → slice_get xs i ≡ Some x → at ≤ x.at
  pub each : (i : ℕ) (x : Part) → slice_get xs i ≡ Some x → IsAsked w x (state_at t.states (p + i)) (slice_index t.wakes x.at)

-- what the asking rests on in a world, and what it leaves
pub record Known (env : Env) (w : World) (c : Tree) (at p : ℕ) (s : Run) : Type 0 where
  pub shows : Shows env w 0
  pub cells : Stand w 0 c at s.cells
  pub fresh : (i : ℕ) → p ≤ i → i < p + nodes c → (state_at s.states i).count ≡ 0

pub record Done (w : World) (c : Tree) (at p up : ℕ) (t : Run) : Type 0 where
  pub cells : Stand w 1 c at t.cells
  pub told : (state_at t.states p).told ≡ holds w c 0
  pub parts : AreAsked w at p (parts at up c) t

-- the same of some conditions
pub record KnownAll (env : Env) (w : World) (cs : Trees) (at p : ℕ) (s : Run) : Type 0 where
  pub shows : Shows env w 0
  pub cells : StandAll w 0 cs at s.cells
  pub fresh : (i : ℕ) → p ≤ i → i < p + nodes_of cs → (state_at s.states i).count ≡ 0

pub record DoneAll (w : World) (cs : Trees) (at p up : ℕ) (t : Run) : Type 0 where
  pub cells : StandAll w 1 cs at t.cells
  pub first : FirstHolds w cs (state_at t.states p).told
  pub parts : AreAsked w at p (parts_of at up cs) t

-- nothing changes but the slots from one place up to another, the states from one up to another, and that of the parent
pub record Frame (at end p last up : ℕ) (s t : Run) : Type 0 where
  pub nodes : length t.states ≡ length s.states
  pub slots : length t.wakes ≡ length s.wakes
  pub cells : length t.cells ≡ length s.cells
  pub before : (i : ℕ) → i < p → i + up ≢ p → state_at t.states i ≡ state_at s.states i
  pub behind : (i : ℕ) → last ≤ i → state_at t.states i ≡ state_at s.states i
  pub wakes_before : (i : ℕ) → i < at → slice_index t.wakes i ≡ slice_index s.wakes i
  pub wakes_behind : (i : ℕ) → end ≤ i → slice_index t.wakes i ≡ slice_index s.wakes i
  pub cells_before : (i : ℕ) → i < at → cell_at t.cells i ≡ cell_at s.cells i
  pub cells_behind : (i : ℕ) → end ≤ i → cell_at t.cells i ≡ cell_at s.cells i

-- a condition was asked, and its parent counts it where it holds
pub record After (env : Env) (c : Tree) (at p up : ℕ) (s t : Run) : Type 0 where
  pub due : t.due ≡ min s.due (first_wake t.wakes at (slots c))
  pub frame : Frame at (at + slots c) p (p + nodes c) up s t
  pub parent : (i : ℕ) → i + up ≡ p → i < p → state_at t.states i ≡ raised (state_at t.states p).told (state_at s.states i)
  pub done : (w : World) → Known env w c at p s → Done w c at p up t

-- some conditions were asked, and their parent counts those that hold
pub record AfterAll (env : Env) (cs : Trees) (at p up : ℕ) (s t : Run) : Type 0 where
  pub due : t.due ≡ min s.due (first_wake t.wakes at (slots_of cs))
  pub frame : Frame at (at + slots_of cs) p (p + nodes_of cs) up s t
  pub done : (w : World) → KnownAll env w cs at p s → DoneAll w cs at p up t
  pub count : (w : World) → KnownAll env w cs at p s → (i n : ℕ) → i + up ≡ p → i < p → (state_at s.states i).count ≡ n → many cs + n < 2 ^ 8 →
      (state_at t.states i).count ≡ how_many (truths w cs 0) + n

-- ---- several conditions, the last of them first

pub after-none : (env : Env) (at p up : ℕ) (s : Run) → s.due ≤ never → AfterAll env none at p up s s
unfolding StandAll first_wake many holds parts slots nodes
after-none env at p up s most = record {
  due = omega arith;
  frame = record {
    nodes = refl;
    slots = refl;
    cells = refl;
    before = λ i low other. refl;
    behind = λ i high. refl;
    wakes_before = λ i low. refl;
    wakes_behind = λ i high. refl;
    cells_before = λ i low. refl;
    cells_behind = λ i high. refl;
  };
  done = λ w known. record { cells = tt; first = tt; parts = record { low = λ i x is. absurd (let z : ⊥ = cc in z); each = λ i x is. absurd (let z : ⊥ = cc in z) } };
  count = λ w known i n at before is few. is ∙ omega arith;
}

-- what stands in one of two lists that are joined
split : (xs ys : List Part) (i : ℕ) (x : Part) → slice_get (xs ++ ys) i ≡ Some x → (slice_get xs i ≡ Some x) ⊎ ((j : ℕ) × (i ≡ length xs + j) × (slice_get ys j ≡ Some x))
split [] ys i x is = inr (i, omega arith, is)
split (y ∷ xs) ys zero x is = inl is
split (y ∷ xs) ys (suc i) x is = elim (split xs ys i x is) [ inl first ↦ inl first | inr (j, at, rest) ↦ inr (j, omega (arith, at), rest) ]

raised-count : (holds : Bool) (s : NodeState) (n : ℕ) → s.count ≡ n → n + 1 < 2 ^ 8 → (raised holds s).count ≡ one_if holds + n
raised-count true s n is few = omega arith
raised-count false s n is few = omega arith

many-most : (w : World) (cs : Trees) → how_many (truths w cs 0) ≤ many cs
many-most w cs = omega (arith, count_by-le-length (λ b. b) (truths w cs 0), length-many w cs 0)

module _ (env : Env) (c : Tree) (cs : Trees) (at p up : ℕ) (s m t : Run) (some : 1 ≤ up)
    (rest : AfterAll env cs (at + slots c) (p + nodes c) (up + nodes c) s m) (first : After env c at p up m t) where
  away : (i : ℕ) → p ≤ i → i < p + nodes c → state_at m.states i ≡ state_at s.states i
  away i low high = rest.frame.before i high (λ e. absurd (let w : ⊥ = omega (arith, e, low, some) in w))

  known-first : (w : World) → KnownAll env w (more c cs) at p s → Known env w c at p m
  unfolding StandAll nodes
  known-first w known = record {
    shows = known.shows;
    cells = Stand-same w 0 c at s.cells m.cells (record { same = λ i low high. rest.frame.cells_before i high }) known.cells.0;
    fresh = λ i low high. ap (λ (n : NodeState). n.count) (away i low high) ∙ known.fresh i low (omega arith);
  }

  known-rest : (w : World) → KnownAll env w (more c cs) at p s → KnownAll env w cs (at + slots c) (p + nodes c) s
  unfolding StandAll nodes
  known-rest w known = record { shows = known.shows; cells = known.cells.1; fresh = λ i low high. known.fresh i (omega arith) (omega arith) }

  both-asked : (w : World) → AreAsked w at p (parts at up c) t → AreAsked w (at + slots c) (p + nodes c) (parts_of (at + slots c) (up + nodes c) cs) m →
      AreAsked w at p (parts at up c ++ parts_of (at + slots c) (up + nodes c) cs) t
  both-asked w own others = record {
    low = λ i x is. elim (split (parts at up c) (parts_of (at + slots c) (up + nodes c) cs) i x is) [
      | inl mine ↦ own.low i x mine
      | inr (j, here, other) ↦ omega (arith, others.low j x other)
    ];
    each = λ i x is. elim (split (parts at up c) (parts_of (at + slots c) (up + nodes c) cs) i x is) [
      | inl mine ↦ own.each i x mine
      | inr (j, here, other) ↦
          let place : p + nodes c + j ≡ p + i = omega (arith, here, parts-count at up c) in
          let state = ap (λ n. state_at t.states n) (sym place) ∙ first.frame.behind (p + nodes c + j) (omega arith) in
          let wake = first.frame.wakes_behind x.at (others.low j x other) in
          subst (λ n. IsAsked w x n (slice_index t.wakes x.at)) (sym state) (subst (IsAsked w x (state_at m.states (p + nodes c + j))) (sym wake) (others.each j x other))
    ];
  }

  pub after-more : AfterAll env (more c cs) at p up s t
  unfolding StandAll nodes slots many holds parts
  after-more = record {
    due =
        let same = first-same m.wakes t.wakes (at + slots c) (slots_of cs) first.frame.wakes_behind in
        omega (arith, first.due, rest.due, same, first-splits t.wakes at (slots c) (slots_of cs));
    frame = record {
      nodes = first.frame.nodes ∙ rest.frame.nodes;
      slots = first.frame.slots ∙ rest.frame.slots;
      cells = first.frame.cells ∙ rest.frame.cells;
      before = λ i low other. first.frame.before i low other ∙ rest.frame.before i (omega arith) (λ e. other (omega (arith, e)));
      behind = λ i high. first.frame.behind i (omega arith) ∙ rest.frame.behind i (omega arith);
      wakes_before = λ i low. first.frame.wakes_before i low ∙ rest.frame.wakes_before i (omega arith);
      wakes_behind = λ i high. first.frame.wakes_behind i (omega arith) ∙ rest.frame.wakes_behind i (omega arith);
      cells_before = λ i low. first.frame.cells_before i low ∙ rest.frame.cells_before i (omega arith);
      cells_behind = λ i high. first.frame.cells_behind i (omega arith) ∙ rest.frame.cells_behind i (omega arith);
    };
    done = λ w known.
        let own = first.done w (known-first w known) in
        let others = rest.done w (known-rest w known) in
        record {
          cells = (own.cells, StandAll-same w 1 cs (at + slots c) m.cells t.cells (record { same = λ i low high. first.frame.cells_behind i low }) others.cells);
          first = own.told;
          parts = both-asked w own.parts others.parts;
        };
    count = λ w known i n is before was few.
        let mid = rest.count w (known-rest w known) i n (omega (arith, is)) (omega (arith, before)) was (omega (arith, few)) in
        let now = raised-count (holds w c 0) (state_at m.states i) (how_many (truths w cs 0) + n) mid (omega (arith, few, many-most w cs)) in
        ap (λ (k : NodeState). k.count) (first.parent i is before ∙ ap (λ b. raised b (state_at m.states i)) (first.done w (known-first w known)).told)
        ∙ now ∙ omega (arith, counted (holds w c 0) (truths w cs 0));
  }

-- ---- a node above its children

inside-le : (at : ℕ) (c : Tree) → at ≤ inside at c
inside-le at (constant b) = omega arith
inside-le at (discrete x) = omega arith
inside-le at (valid x) = omega arith
inside-le at (compared x op n) = omega arith
inside-le at (in_phase set) = omega arith
inside-le at (alert a) = omega arith
inside-le at (press key) = omega arith
inside-le at (computer n) = omega arith
inside-le at (negation c) = omega arith
inside-le at (all cs) = omega arith
inside-le at (any cs) = omega arith
inside-le at (at_least n cs) = omega arith
inside-le at (confirmed c n) = omega arith
inside-le at (held c n) = omega arith
inside-le at (risen c) = omega arith
inside-le at (latched s r) = omega arith

own-cell : (w : World) (k : ℕ) (c : Tree) (at : ℕ) (old new : List Cell) → ((i : ℕ) → i < inside at c → cell_at new i ≡ cell_at old i) → OwnCell w k c (cell_at old at) → OwnCell w k c (cell_at new at)
own-cell w k (constant b) at old new same is = tt
own-cell w k (discrete x) at old new same is = tt
own-cell w k (valid x) at old new same is = tt
own-cell w k (compared x op n) at old new same is = tt
own-cell w k (in_phase set) at old new same is = tt
own-cell w k (alert a) at old new same is = tt
own-cell w k (press key) at old new same is = tt
own-cell w k (computer n) at old new same is = tt
own-cell w k (negation c) at old new same is = tt
own-cell w k (all cs) at old new same is = tt
own-cell w k (any cs) at old new same is = tt
own-cell w k (at_least n cs) at old new same is = tt
own-cell w k (confirmed c n) at old new same is = same at (omega arith) ∙ is
own-cell w k (held c n) at old new same is = same at (omega arith) ∙ is
own-cell w k (risen c) at old new same is = same at (omega arith) ∙ is
own-cell w k (latched s r) at old new same is = same at (omega arith) ∙ is

-- there is room for a condition's slots and states, and its nodes can be counted
pub record Fits (c : Tree) (at p up : ℕ) (s : Run) : Type 0 where
  pub range : at + slots c ≤ length s.cells
  pub slot : at + slots c ≤ length s.wakes
  pub room : p + nodes c ≤ length s.states
  pub small : nodes c ≤ TERM_NODES
  pub far : up ≤ p
  pub due : s.due ≤ never

module _ (env : Env) (c : Tree) (at p up : ℕ) (s m : Run) (names : IsWithin (length env.values.now) (length env.active.now) c)
    (fits : Fits c at p up s) (a : AfterAll env (children c) (inside at c) (p + 1) 1 s m) where
  abbrev x : Step
  x = step (node_at at c) up

  abbrev t : Run
  t = ask env p x m

  abbrev count : ℕ
  count = (state_at m.states p).count

  abbrev part : Part
  part = record { tree = c; at = at; up = up }

  abbrev below : List Part
  below = parts_of (inside at c) 1 (children c)

  asked : Asked env p x m t
  asked = is-asked env p x m (omega (arith, fits.room, a.frame.nodes, nodes-is c)) fits.far

  cells : Apart at (inside at c) m.cells t.cells
  unfolding ask
  cells = cells-apart c at m.cells count (state_at m.states (p + 1)).told

  wakes : Woken c at m.wakes t.wakes (due_after 0 m.cells count (node_at at c))
  unfolding ask
  wakes = woken c at m.wakes m.cells count (omega (arith, fits.slot, a.frame.slots))

  due : t.due ≡ min m.due (due_after 0 m.cells count (node_at at c))
  unfolding ask
  due = refl

  behind-it : (i : ℕ) → p + 1 ≤ i → state_at t.states i ≡ state_at m.states i
  behind-it i high = asked.others i (λ e. absurd (let w : ⊥ = omega (arith, e, high) in w)) (λ low. absurd (let w : ⊥ = omega (arith, low, high) in w))

  before-it : (i : ℕ) → i < p → state_at m.states i ≡ state_at s.states i
  before-it i low = a.frame.before i (omega (arith, low)) (λ e. absurd (let w : ⊥ = omega (arith, e, low) in w))

  kids : (w : World) → Known env w c at p s → KnownAll env w (children c) (inside at c) (p + 1) s
  kids w known = record {
    shows = known.shows;
    cells = (open-cells w 0 c at s.cells known.cells).1;
    fresh = λ i low high. known.fresh i (omega (arith, low)) (omega (arith, high, nodes-is c));
  }

  is-count : (w : World) → Known env w c at p s → count ≡ how_many (truths w (children c) 0)
  is-count w known =
      let few : many (children c) + 0 < 2 ^ 8 = omega (arith, many-nodes (children c), nodes-is c, fits.small) in
      a.count w (kids w known) p 0 refl (omega arith) (known.fresh p (omega arith) (omega (arith, nodes-is c))) few ∙ omega arith

  own : (w : World) → Known env w c at p s → IsAsked w part (state_at t.states p) (slice_index t.wakes at) × OwnCell w 1 c (cell_at t.cells at)
  unfolding ask
  own w known =
      let r = right env w c at m.cells count (state_at m.states (p + 1)).told known.shows names (omega (arith, fits.range, a.frame.cells)) (is-count w known)
      (a.done w (kids w known)).first (own-cell w 0 c at s.cells m.cells a.frame.cells_before (open-cells w 0 c at s.cells known.cells).0) in
      (record { told = asked.told ∙ r.told; count = asked.count ∙ is-count w known; wake = λ temporal. wakes.own temporal ∙ r.wake }, r.cell)

  low : (w : World) → AreAsked w (inside at c) (p + 1) below m → (i : ℕ) (y : Part) → slice_get (part ∷ below) i ≡ Some y → at ≤ y.at
  low w others zero y is =
      let e : at ≡ y.at = ap (λ (z : Part). z.at) (get_or_from_slice_get (part ∷ below) 0 y part is) in
      omega (arith, e)
  low w others (suc i) y is = omega (arith, inside-le at c, others.low i y is)

  each : (w : World) → IsAsked w part (state_at t.states p) (slice_index t.wakes at) → AreAsked w (inside at c) (p + 1) below m → (i : ℕ) (y : Part) →
      slice_get (part ∷ below) i ≡ Some y → IsAsked w y (state_at t.states (p + i)) (slice_index t.wakes y.at)
  each w mine others zero y is =
      let e : p + 0 ≡ p = omega arith in
      subst (λ (z : Part). IsAsked w z (state_at t.states (p + 0)) (slice_index t.wakes z.at)) (get_or_from_slice_get (part ∷ below) 0 y part is) (rw e mine)
  each w mine others (suc i) y is =
      let place : p + 1 + i ≡ p + suc i = omega arith in
      let state = ap (λ n. state_at t.states n) (sym place) ∙ behind-it (p + 1 + i) (omega arith) in
      let wake = wakes.others y.at (inr (others.low i y is)) in
      subst (λ n. IsAsked w y n (slice_index t.wakes y.at)) (sym state) (subst (IsAsked w y (state_at m.states (p + 1 + i))) (sym wake) (others.each i y is))

  pub after-node : After env c at p up s t
  after-node = record {
    due = omega (arith, due, a.due, wakes.first, first-same m.wakes t.wakes (inside at c) (slots_of (children c)) (λ i low. wakes.others i (inr low)));
    frame = record {
      nodes = asked.nodes ∙ a.frame.nodes;
      slots = wakes.len ∙ a.frame.slots;
      cells = cells.len ∙ a.frame.cells;
      before = λ i low other. asked.others i (λ e. absurd (let w : ⊥ = omega (arith, e, low) in w)) (λ lt. other) ∙ before-it i low;
      behind = λ i high. behind-it i (omega (arith, high, nodes-is c)) ∙ a.frame.behind i (omega (arith, high, nodes-is c));
      wakes_before = λ i low. wakes.others i (inl low) ∙ a.frame.wakes_before i (omega (arith, low, inside-le at c));
      wakes_behind = λ i high. wakes.others i (inr (omega (arith, high, slots-is at c))) ∙ a.frame.wakes_behind i (omega (arith, high, slots-is at c));
      cells_before = λ i low. cells.others i (inl low) ∙ a.frame.cells_before i (omega (arith, low, inside-le at c));
      cells_behind = λ i high. cells.others i (inr (omega (arith, high, slots-is at c))) ∙ a.frame.cells_behind i (omega (arith, high, slots-is at c));
    };
    parent = λ i is before. asked.parent i is before ∙ ap (raised (state_at t.states p).told) (before-it i before);
    done = λ w known.
        let (mine, cell) = own w known in
        let below-it = a.done w (kids w known) in
        record {
          cells = close-cells w 1 c at t.cells cell (StandAll-same w 1 (children c) (inside at c) m.cells t.cells (record { same = λ i low high. cells.others i (inr low) }) below-it.cells);
          told = mine.told;
          parts = subst (λ l. AreAsked w at p l t) (sym (parts-is at up c)) (record { low = low w below-it.parts; each = each w mine below-it.parts });
        };
  }
