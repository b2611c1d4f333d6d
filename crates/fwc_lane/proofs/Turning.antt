-- One node of a list after another is told what the operand reads for which they ask.
use Rattle.std.proofs.Common.{◌≡◌, ◌≢◌, ℕ, zero, suc, ◌+◌, ◌-◌, ◌*◌, ◌^◌, ◌<◌, ◌≤◌, Bool, true, false, ◌&&◌, ◌||◌, eqb, not, cond, min, List, [], ◌∷◌, take, get_or, length, slice_get, None, Some, refl, sym, ap, subst, ◌∙◌, ◌⊎◌, inl, inr, arith}
use mir.Val.{bool_byte}
use Rattle.std.proofs.lemmas.Bool.{cases_eq, eq-eqb, ne_eqb}
use Rattle.std.proofs.lemmas.List.Folds.{list_any_more}
use Rattle.std.proofs.lemmas.Option.{slice_get_within}
use Rattle.std.proofs.Math.Bool.{and-false, and-true, or-false, or-true, or_assoc, or_comm}
use Rattle.ecam_spec.specs.Book.{Book, Tree}
use Rattle.ecam_spec.specs.Term.{World}
use Rattle.ecam_spec.specs.TermSize.{Placed, nodes, slots}
use Rattle.book_model.specs.Conditions.{places}
use Rattle.book_model.proofs.ConditionRanges.{range}
use Rattle.term_eval.specs.Asked.{Asks, AreAtoms, asked}
use Rattle.term_eval.specs.Linked.{AreLinked}
use Rattle.term_eval.specs.Links.{links}
use Rattle.term_eval.specs.declared.link.Link.{Link}
use Rattle.term_eval.proofs.Codes.{length-asked}
use Rattle.term_eval.specs.Memory.{Memory, NodeMemory}
use Rattle.term_eval.specs.NodeState.{state_at, NodesWait, Within, also, first_wake}
use Rattle.term_eval.specs.Reading.{Reads}
use Rattle.term_eval.specs.Woken.{Operand}
use Rattle.term_eval.specs.declared.reading.Reading.{Reading}
use Rattle.wakes.specs.Marks.{is_marked, room}
use Rattle.condition_codes.specs.IsAskers.{IsAsking}
use Rattle.condition_codes.specs.IsCodes.{IsCodes}
use Rattle.condition_codes.specs.Places.{nodes_before}
use Rattle.condition_codes.specs.declared.codes.CodeTable.{CodeTable}
use Rattle.condition_codes.specs.declared.askers.Asker.{Asker}
use Rattle.fwc_lane.specs.TermsFit.{AreWoken}
use Rattle.fwc_lane.specs.Visits.{marked_nodes}
use Rattle.fwc_lane.specs.Waking.{CanTurn, TurnsEach, MarksEach, Kept, is_listed, is_asking}
use Rattle.fwc_lane.proofs.FlagSteps.{left-false, right-false}
use Rattle.fwc_lane.proofs.Askers.{nodes-apart, one-of}
use Rattle.fwc_lane.proofs.Counting.{marked-put, marked-most}
use Rattle.fwc_lane.proofs.Hears.{waits-by}
use Rattle.fwc_lane.proofs.Listing.{listed-at}
use Rattle.fwc_lane.proofs.NodeFrames.{waits-apart, wake-apart, told-apart}

pub turns-none : (b : Book) (reading : Reading) (nodes : NodeMemory) (stirred : List ℕ) → TurnsEach b [] reading nodes stirred nodes stirred
turns-none b reading nodes stirred = record {
  states = refl;
  wakes = refl;
  same = refl;
  turns = λ j p is w h asked atoms so waits. waits;
  calm = λ j p is off. (record { calm = off; told = refl; due = refl });
  due = λ j p is none. refl;
}

taken : {X : Type 0} (n : ℕ) (xs : List X) (k : ℕ) (x : X) → slice_get (take n xs) k ≡ Some x → slice_get xs k ≡ Some x
taken zero xs k x is = absurd (let w : ⊥ = (let clash : None ≡ Some x = is in cc) in w)
taken (suc n) [] k x is = is
taken (suc n) (y ∷ xs) zero x is = is
taken (suc n) (y ∷ xs) (suc k) x is = taken n xs k x is

-- each of the first of them is an atom
pub listed-asks : (b : Book) (n : ℕ) (asking : List Asker) → ((k : ℕ) (a : Asker) → slice_get asking k ≡ Some a → (o : ℕ) × IsAsking b o a)
    → (j : ℕ) (p : Placed) → slice_get (places b) j ≡ Some p → AreAtoms p.tree (is_listed (take n asking) j)
listed-asks b n asking each j p is i listed =
    let found = listed-at (take n asking) j i listed in
    let own = (each found.0 found.1 (taken n asking found.0 found.1 found.2)).1 in
    let place : Some own.place ≡ Some p = sym own.there ∙ ap (slice_get (places b)) found.3 ∙ is in
    let same : own.place ≡ p = cc in
    (own.operand, subst (λ n. Asks p.tree n own.operand) found.4 (subst (λ (q : Placed). Asks q.tree found.1.node own.operand) same own.asks))

-- the condition's nodes and slots are there
pub are-linked : (b : Book) (asking : List Asker) (codes : CodeTable) (old now : NodeMemory) (woken stirred : List ℕ) → CanTurn b asking codes old woken stirred
    → length now.states ≡ length old.states → length now.wakes ≡ length old.wakes
    → (j : ℕ) (p : Placed) (own : List Link) (first : ℕ) → slice_get (places b) j ≡ Some p → own ≡ links p.at p.tree → first ≡ nodes_before (places b) j → AreLinked own now p.tree p.at first
are-linked b asking codes old now woken stirred can states wakes j p own first is linked at =
    let code = can.are.codes.codes j p is in
    record {
      links = linked;
      held = record {
        code = record { is = refl; short = code.short; small = code.small };
        nodes = omega (arith, can.states, states, at, nodes-apart (places b) j (length (places b)) p (slice_get_within (places b) j p is) is);
        slots = omega (arith, can.slots, wakes, range b j p is);
      };
    }

-- a node that asks is one of the condition's
pub asks-within : (c : Tree) (i : ℕ) (x : Operand) → Asks c i x → i < nodes c
asks-within c i x is = omega (arith, slice_get_within (asked c) i (Some x) is, length-asked c)

eqb-turn : (i j : ℕ) → eqb i j ≡ eqb j i
eqb-turn i j = elim (cases_eq i j) [
  | inl e ↦ eq-eqb i j e ∙ sym (eq-eqb j i (sym e))
  | inr ne ↦ ne_eqb i j ne ∙ sym (ne_eqb j i (λ e. ne (sym e)))
]

-- the condition is stirred where the node turned something
pub marks-then : (turned now was : Bool) (j term : ℕ) → turned ≡ true → now ≡ (eqb j term || was) → now ≡ (was || (turned && eqb term j))
marks-then turned now was j term on is = is ∙ ap (λ c. c || was) (eqb-turn j term) ∙ or_comm (eqb term j) was ∙ ap (λ c. was || (c && eqb term j)) (sym on)

pub marks-else : (turned was : Bool) (j term : ℕ) → turned ≡ false → was ≡ (was || (turned && eqb term j))
marks-else turned was j term off = sym (ap (λ c. was || (c && eqb term j)) off ∙ or-false was)

-- one node more
module _ (b : Book) (reading : Reading) (done more : List Asker) (a : Asker) (old mid new : NodeMemory) (were are marks : List ℕ) (turned : Bool)
    (listed : (j i : ℕ) → is_listed more j i ≡ (is_listed done j i || (eqb a.term j && eqb a.node i)))
    (atoms : (j : ℕ) (p : Placed) → slice_get (places b) j ≡ Some p → AreAtoms p.tree (is_listed done j))
    (q : Placed) (x : Operand) (here : slice_get (places b) a.term ≡ Some q) (asks : Asks q.tree a.node x)
    (waits : (w : World) (h : ℕ) (asked : ℕ → Bool) (y : Operand) → AreAtoms q.tree asked → Asks q.tree a.node y → Reads w (suc h) y reading
    → NodesWait w h asked q.tree q.at (nodes_before (places b) a.term) mid → NodesWait w h (also a.node asked) q.tree q.at (nodes_before (places b) a.term) new)
    (within : Within (nodes_before (places b) a.term) (nodes_before (places b) a.term + nodes q.tree) q.at (q.at + slots q.tree) mid new)
    (still : turned ≡ false → new.wakes ≡ mid.wakes)
    (told : turned ≡ false → (state_at new.states (nodes_before (places b) a.term)).told ≡ (state_at mid.states (nodes_before (places b) a.term)).told)
    (rooms : room marks ≡ room are) (marked : (j : ℕ) → is_marked marks j ≡ (is_marked are j || (turned && eqb a.term j)))
    (before : TurnsEach b done reading old were mid are) where
  then-listed : (j i : ℕ) → is_listed done j i ≡ true → is_listed more j i ≡ true
  then-listed j i on = listed j i ∙ ap (λ c. c || (eqb a.term j && eqb a.node i)) on

  own-listed : (j : ℕ) → j ≡ a.term → is_listed more j a.node ≡ true
  own-listed j at =
      listed j a.node ∙ ap (λ c. is_listed done j a.node || (c && eqb a.node a.node)) (eq-eqb a.term j (sym at))
      ∙ ap (λ c. is_listed done j a.node || c) (eq-eqb a.node a.node refl) ∙ or-true (is_listed done j a.node)

  the-one : (j : ℕ) (p : Placed) → j ≡ a.term → slice_get (places b) j ≡ Some p → q ≡ p
  the-one j p at is = let both : Some q ≡ Some p = sym here ∙ ap (slice_get (places b)) (sym at) ∙ is in cc

  -- what the nodes of the condition of the one wait for
  own-asked : (asked : ℕ → Bool) (i : ℕ) → (is_listed more a.term i || asked i) ≡ also a.node (λ n. is_listed done a.term n || asked n) i
  own-asked asked i =
      ap (λ c. c || asked i) (listed a.term i ∙ ap (λ c. is_listed done a.term i || (c && eqb a.node i)) (eq-eqb a.term a.term refl) ∙ ap (λ c. is_listed done a.term i || c) (eqb-turn a.node i))
      ∙ ap (λ c. c || asked i) (or_comm (is_listed done a.term i) (eqb i a.node)) ∙ or_assoc (eqb i a.node) (is_listed done a.term i) (asked i)

  other-listed : (j i : ℕ) → j ≢ a.term → is_listed more j i ≡ is_listed done j i
  other-listed j i ne =
      listed j i ∙ ap (λ c. is_listed done j i || (c && eqb a.node i)) (ne_eqb a.term j (λ e. ne (sym e))) ∙ or-false (is_listed done j i)

  mid-waits : (j : ℕ) (p : Placed) → slice_get (places b) j ≡ Some p → (w : World) (h : ℕ) (asked : ℕ → Bool) → AreAtoms p.tree asked
      → ((i : ℕ) (y : Operand) → Asks p.tree i y → is_listed more j i ≡ true → Reads w (suc h) y reading)
      → NodesWait w h asked p.tree p.at (nodes_before (places b) j) old
      → NodesWait w h (λ i. is_listed done j i || asked i) p.tree p.at (nodes_before (places b) j) mid
  mid-waits j p is w h asked own so was = before.turns j p is w h asked own (λ i y asks on. so i y asks (then-listed j i on)) was

  turns : (j : ℕ) (p : Placed) → slice_get (places b) j ≡ Some p → (w : World) (h : ℕ) (asked : ℕ → Bool) → AreAtoms p.tree asked
      → ((i : ℕ) (y : Operand) → Asks p.tree i y → is_listed more j i ≡ true → Reads w (suc h) y reading)
      → NodesWait w h asked p.tree p.at (nodes_before (places b) j) old
      → NodesWait w h (λ i. is_listed more j i || asked i) p.tree p.at (nodes_before (places b) j) new
  turns j p is w h asked own so was = elim (cases_eq j a.term) [
    | inl at ↦ at-own at
    | inr ne ↦
        waits-by w h (λ i. is_listed done j i || asked i) (λ i. is_listed more j i || asked i) p.tree p.at (nodes_before (places b) j) new (λ i. ap (λ c. c || asked i) (other-listed j i ne))
        (waits-apart b a.term j q p here is ne mid new within w h (λ i. is_listed done j i || asked i) (mid-waits j p is w h asked own so was))
  ] where
    both : (i : ℕ) → (is_listed done j i || asked i) ≡ true → (y : Operand) × Asks p.tree i y
    both i on = elim (one-of (is_listed done j i) (asked i) on) [
      | inl among ↦ atoms j p is i among
      | inr was ↦ own i was
    ]

    at-own : j ≡ a.term → NodesWait w h (λ i. is_listed more j i || asked i) p.tree p.at (nodes_before (places b) j) new
    at-own at =
        let same = the-one j p at is in
        subst (λ n. NodesWait w h (λ i. is_listed more n i || asked i) p.tree p.at (nodes_before (places b) n) new) (sym at)
        (subst (λ (r : Placed). NodesWait w h (λ i. is_listed more a.term i || asked i) r.tree r.at (nodes_before (places b) a.term) new) same
        (waits-by w h (also a.node (λ n. is_listed done a.term n || asked n)) (λ i. is_listed more a.term i || asked i) q.tree q.at (nodes_before (places b) a.term) new (own-asked asked)
        (waits w h (λ n. is_listed done a.term n || asked n) x
        (subst (λ (r : Placed). AreAtoms r.tree (λ n. is_listed done a.term n || asked n)) (sym same) (subst (λ n. AreAtoms p.tree (λ i. is_listed done n i || asked i)) at both))
        asks
        (so a.node x (subst (λ (r : Placed). Asks r.tree a.node x) same asks) (own-listed j at))
        (subst (λ (r : Placed). NodesWait w h (λ i. is_listed done a.term i || asked i) r.tree r.at (nodes_before (places b) a.term) mid) (sym same)
        (subst (λ n. NodesWait w h (λ i. is_listed done n i || asked i) p.tree p.at (nodes_before (places b) n) mid) at (mid-waits j p is w h asked own so was))))))

  calm : (j : ℕ) (p : Placed) → slice_get (places b) j ≡ Some p → is_marked marks j ≡ false → Kept j (nodes_before (places b) j) p old were new
  calm j p is off = by (cases_eq j a.term) where
    none : (is_marked are j || (turned && eqb a.term j)) ≡ false
    none = sym (marked j) ∙ off

    was : Kept j (nodes_before (places b) j) p old were mid
    was = before.calm j p is (left-false (is_marked are j) (turned && eqb a.term j) none)

    same-turn : j ≡ a.term → turned ≡ false
    same-turn at = sym (and-true turned) ∙ ap (λ c. turned && c) (sym (eq-eqb a.term j (sym at))) ∙ right-false (is_marked are j) (turned && eqb a.term j) none

    by : (j ≡ a.term) ⊎ (j ≢ a.term) → Kept j (nodes_before (places b) j) p old were new
    by (inl at) = record {
      calm = was.calm;
      told = subst (λ n. (state_at new.states (nodes_before (places b) n)).told ≡ (state_at mid.states (nodes_before (places b) n)).told) (sym at) (told (same-turn at)) ∙ was.told;
      due = ap (λ ws. first_wake ws p.at (slots p.tree)) (still (same-turn at)) ∙ was.due;
    }
    by (inr ne) = record {
      calm = was.calm;
      told = told-apart b a.term j q p here is ne mid new within ∙ was.told;
      due = wake-apart b a.term j q p here is ne mid new within ∙ was.due;
    }

  due : (j : ℕ) (p : Placed) → slice_get (places b) j ≡ Some p → ((i : ℕ) → is_listed more j i ≡ false)
      → first_wake new.wakes p.at (slots p.tree) ≡ first_wake old.wakes p.at (slots p.tree)
  due j p is none = elim (cases_eq j a.term) [
    | inl at ↦ absurd (let w : ⊥ = (let clash : true ≡ false = sym (own-listed j at) ∙ none a.node in cc) in w)
    | inr ne ↦
        wake-apart b a.term j q p here is ne mid new within ∙ before.due j p is (λ i. left-false (is_listed done j i) (eqb a.term j && eqb a.node i) (sym (listed j i) ∙ none i))
  ]

  pub turns-more : TurnsEach b more reading old were new marks
  turns-more = record {
    states = within.nodes ∙ before.states;
    wakes = within.slots ∙ before.wakes;
    same = rooms ∙ before.same;
    turns = turns;
    calm = calm;
    due = due;
  }

-- ---- their conditions are marked

-- the conditions of some nodes are marked, and those that weren't have so many nodes
pub record AddsEach (b : Book) (asking : List Asker) (woken marks : List ℕ) (fresh : ℕ) : Type 0 where
  pub same : room marks ≡ room woken
  pub marked : (j : ℕ) → is_marked marks j ≡ (is_marked woken j || is_asking asking j)
  pub nodes : marked_nodes (places b) marks (length (places b)) ≡ marked_nodes (places b) woken (length (places b)) + fresh

pub adds-none : (b : Book) (woken : List ℕ) → AddsEach b [] woken woken 0
adds-none b woken = record {
  same = refl;
  marked = λ j. sym (or-false (is_marked woken j));
  nodes = omega arith;
}

-- one more
pub adds-more : (b : Book) (done more : List Asker) (term : ℕ) (woken mid marks : List ℕ) (was own : ℕ)
    → ((j : ℕ) → is_asking more j ≡ (is_asking done j || eqb term j)) → room marks ≡ room mid → ((j : ℕ) → is_marked marks j ≡ (eqb j term || is_marked mid j))
    → marked_nodes (places b) marks (length (places b)) ≡ marked_nodes (places b) mid (length (places b)) + own
    → AddsEach b done woken mid was → AddsEach b more woken marks (was + own)
adds-more b done more term woken mid marks was own listed rooms marked adds before = record {
  same = rooms ∙ before.same;
  marked = λ j.
      marked j ∙ ap (λ c. eqb j term || c) (before.marked j) ∙ or_comm (eqb j term) (is_marked woken j || is_asking done j)
      ∙ or_assoc (is_marked woken j) (is_asking done j) (eqb j term) ∙ ap (λ c. is_marked woken j || (is_asking done j || c)) (eqb-turn j term)
      ∙ ap (λ c. is_marked woken j || c) (sym (listed j));
  nodes = omega (arith, adds, before.nodes);
}

-- its size counts where it is new
times-new : (size n : ℕ) (on : Bool) → n ≡ bool_byte on → size * n ≡ cond on size 0
times-new size n true is = ap (λ m. size * m) is ∙ omega arith
times-new size n false is = ap (λ m. size * m) is ∙ omega arith

-- one of the list more
pub adds-asker : (b : Book) (asking : List Asker) (i o : ℕ) (d : Asker) (woken mid marks : List ℕ) (fresh size n : ℕ) (is_new : Bool) → i < length asking → IsAsking b o (get_or asking i d)
    → size ≡ (get_or asking i d).size → n ≡ bool_byte is_new → is_new ≡ not (is_marked mid (get_or asking i d).term) → room marks ≡ room mid
    → ((j : ℕ) → is_marked marks j ≡ (eqb j (get_or asking i d).term || is_marked mid j))
    → AddsEach b (take i asking) woken mid fresh → AddsEach b (take (i + 1) asking) woken marks (fresh + size * n)
adds-asker b asking i o d woken mid marks fresh size n is_new lt asks sized once is rooms marked before =
    let a = get_or asking i d in
    let nodes_of : (p : Placed) → slice_get (places b) a.term ≡ Some p → size ≡ nodes p.tree = λ p there.
    let both : Some asks.place ≡ Some p = sym asks.there ∙ there in
    let same : asks.place ≡ p = cc in
    sized ∙ asks.size ∙ ap (λ (q : Placed). nodes q.tree) same in
    adds-more b (take i asking) (take (i + 1) asking) a.term woken mid marks fresh (size * n)
    (λ j. list_any_more (λ (x : Asker). eqb x.term j) asking i d lt) rooms marked
    (marked-put (places b) mid marks a.term size is_new (slice_get_within (places b) a.term asks.place asks.there) nodes_of is marked
    ∙ ap (λ m. marked_nodes (places b) mid (length (places b)) + m) (sym (times-new size n is_new once)))
    before

-- so many are no more than there are
pub adds-few : (b : Book) (c : CodeTable) (asking : List Asker) (woken marks : List ℕ) (fresh : ℕ) → IsCodes b c → AddsEach b asking woken marks fresh → fresh ≤ length c.steps.items.items
adds-few b c asking woken marks fresh coded adds =
    omega (
      arith,
      adds.nodes,
      marked-most (places b) marks (length (places b)) (omega arith),
      coded.codes.nodes (length (places b)) (omega arith),
      coded.codes.pieces.ends,
    )

-- and then they are counted
pub marks-all : (b : Book) (asking : List Asker) (woken marks : List ℕ) (fresh : ℕ) (cells after : Memory) → AddsEach b asking woken marks fresh
    → after.slots ≡ cells.slots → after.owners ≡ cells.owners → after.visits ≡ min (cells.visits + fresh) (2 ^ 64 - 1) → MarksEach b asking woken cells marks after
marks-all b asking woken marks fresh cells after adds slots owners visits = record {
  same = adds.same;
  marked = adds.marked;
  slots = slots;
  owners = owners;
  most = λ le. omega (arith, visits);
  counts = λ visited counted. omega (arith, counted, visits, adds.nodes);
}

-- where each that was stirred was woken, so it is when one more is woken and is stirred too or not
pub woken-more : (term : ℕ) (turned : Bool) (woken more stirred marks : List ℕ) → ((j : ℕ) → is_marked more j ≡ (eqb j term || is_marked woken j))
    → ((j : ℕ) → is_marked marks j ≡ (is_marked stirred j || (turned && eqb term j))) → AreWoken woken stirred → AreWoken more marks
woken-more term turned woken more stirred marks wakes stirs were j on = elim (cases_eq j term) [
  | inl e ↦ wakes j ∙ ap (λ c. c || is_marked woken j) (eq-eqb j term e)
  | inr ne ↦
      let off : (turned && eqb term j) ≡ false = ap (λ c. turned && c) (sym (eqb-turn j term) ∙ ne_eqb j term ne) ∙ and-false turned in
      let was : is_marked stirred j ≡ true = sym (stirs j ∙ ap (λ c. is_marked stirred j || c) off ∙ or-false (is_marked stirred j)) ∙ on in
      wakes j ∙ ap (λ c. c || is_marked woken j) (ne_eqb j term ne) ∙ were j was
]
