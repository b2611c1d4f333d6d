-- One condition more is stepped: run where it may turn, and left as it is where it doesn't. The others, whose nodes and slots are
-- their own, are as they were.
use Rattle.std.proofs.Common.{◌≡◌, ◌≢◌, ℕ, zero, suc, ◌+◌, ◌^◌, ◌<◌, ◌≤◌, Bool, true, false, ◌||◌, List, length, slice_get, slice_index, get_or, set, Some, AllPairs, refl, sym, ap, subst, ◌∙◌, inl, inr, arith, eqb}
use Rattle.std.proofs.Math.Nat.{eq-or-lt_of_le}
use Rattle.std.proofs.lemmas.List.{get_or-set_same, get_or-set_other}
use Rattle.std.proofs.lemmas.Option.{slice_get_within}
use Rattle.ecam_spec.specs.Book.{Book}
use Rattle.ecam_spec.specs.Term.{World, holds}
use Rattle.ecam_spec.specs.TermSize.{Placed, EndsBefore, slots, nodes}
use Rattle.book_model.specs.Conditions.{places}
use Rattle.book_model.proofs.ConditionRanges.{range}
use Rattle.term_eval.specs.declared.code.Step.{Step}
use Rattle.term_eval.specs.declared.link.Link.{Link}
use Rattle.term_eval.specs.Code.{IsCode, IsReady, code}
use Rattle.term_eval.specs.Linked.{CanRun}
use Rattle.term_eval.specs.CellWords.{cell_at}
use Rattle.term_eval.specs.CellState.{Stand}
use Rattle.term_eval.specs.NodeState.{NodesWait, NodesStand, Within, first_wake}
use Rattle.term_eval.specs.Asked.{heard}
use Rattle.term_eval.specs.Due.{staying, IsDue}
use Rattle.term_eval.specs.Woken.{Operand, woken, moved}
use Rattle.term_eval.proofs.Frames.{Stand-same}
use Rattle.term_eval.proofs.Later.{woken_is}
use Rattle.term_eval.proofs.Unstirred.{unstirred-truth, unstirred-nodes, unstirred-cells, unstirred-due}
use Rattle.wakes.specs.Marks.{is_marked}
use Rattle.condition_codes.specs.Pieces.{links_of, owners_of}
use Rattle.condition_codes.specs.Places.{nodes_before}
use Rattle.fwc_lane.specs.declared.terms.Terms.{Terms}
use Rattle.fwc_lane.specs.TermsFit.{TermsFit}
use Rattle.fwc_lane.specs.Visits.{IsCounted}
use Rattle.fwc_lane.proofs.Askers.{nodes-apart}
use Rattle.fwc_lane.proofs.Hears.{waits-by, heard-same}
use Rattle.fwc_lane.proofs.NodeFrames.{waits-same, wake-same, ends-before}
use Rattle.fwc_lane.proofs.Owning.{many-owners}
use Rattle.fwc_lane.specs.Conditions.{IsAsked, IsLeft, IsWaiting, HalfStepped, TellsMoved}

-- the code under a condition's number can be run
pub is-ready : (b : Book) (t : Terms) (i : ℕ) (p : Placed) (steps : List Step) (start : ℕ) → TermsFit b t → slice_get (places b) i ≡ Some p
    → IsCode p.tree p.at steps → start ≡ nodes_before (places b) i → IsReady steps t.cells p.tree p.at start
is-ready b t i p steps start fits here code at = record {
  held = record {
    code = code;
    nodes = omega (arith, fits.states, nodes-apart (places b) i (length (places b)) p (slice_get_within (places b) i p here) here, at);
    slots = omega (arith, fits.wakes, range b i p here);
  };
  range = omega (arith, fits.slots, range b i p here);
}

-- and its temporal nodes be gone through
pub can-run : (b : Book) (t : Terms) (i : ℕ) (p : Placed) (own : List Link) (count start at : ℕ) → TermsFit b t → slice_get (places b) i ≡ Some p
    → own ≡ links_of p → count ≡ length (owners_of p) → start ≡ nodes_before (places b) i → at ≡ p.at → CanRun own count t.cells p.tree at start
can-run b t i p own count start at fits here linked many first is =
    let coded = fits.codes.codes.codes i p here in
    let ready = is-ready b t i p (code p.at 0 p.tree) start fits here (record { is = refl; short = coded.short; small = coded.small }) first in
    subst (λ n. CanRun own count t.cells p.tree n start) (sym is) record {
      linked = record { links = linked; held = ready.held };
      count = many ∙ many-owners p.tree p.at;
      owners = fits.owners.each i p (slice_get_within (places b) i p here) here;
      range = ready.range;
    }

-- a condition that is left is marked where the moment wakes it
pub marked-is : (w : World) (hit : Operand → Bool) (k j start : ℕ) (p : Placed) (t : Terms) → k < 2 ^ 63 → TellsMoved hit w k p → IsLeft w hit k j start p t → woken w p.tree k ≡ is_marked t.woken j
marked-is w hit zero j start p t small tells left = sym (left.first refl)
marked-is w hit (suc h) j start p t small tells left =
    let is = left.later h refl in
    woken_is w h p.tree is.due small is.next ∙ ap (λ b. b || eqb is.due (suc h)) (sym tells.any) ∙ sym is.marks

-- of the nodes of a condition that waits, those have been asked whose operand moved
pub moved-asked : (w : World) (hit : Operand → Bool) (k h j start : ℕ) (p : Placed) (t : Terms) → TellsMoved hit w k p → IsWaiting w hit h j start p t
    → NodesWait w h (heard (moved w k) p.tree) p.tree p.at start t.cells.nodes
moved-asked w hit k h j start p t tells is =
    waits-by w h (heard hit p.tree) (heard (moved w k) p.tree) p.tree p.at start t.cells.nodes
    (heard-same (moved w k) hit p.tree (λ i x asks. sym (tells.each i x asks))) is.nodes

-- one that isn't stirred is as it was asked
pub rest-asked : (w : World) (hit : Operand → Bool) (k j start : ℕ) (p : Placed) (t : Terms) → k < 2 ^ 63 → TellsMoved hit w k p → IsLeft w hit k j start p t → is_marked t.stirred j ≡ false
    → IsAsked w k j start p t
rest-asked w hit zero j start p t small tells left off = absurd (let w : ⊥ = (let clash : true ≡ false = sym (left.stirs refl) ∙ off in cc) in w)
rest-asked w hit (suc h) j start p t small tells left off =
    let is = left.later h refl in
    let calm = is.calm off in
    let waits = moved-asked w hit (suc h) h j start p t tells is in
    let later : suc h < first_wake t.cells.nodes.wakes p.at (slots p.tree) = subst (λ n. suc h < n) (sym calm.wakes) calm.later in
    let wakes : slice_index t.dues j ≡ first_wake t.cells.nodes.wakes p.at (slots p.tree) = is.kept off ∙ sym calm.wakes in
    record {
      stands = unstirred-cells w h p.tree p.at start t.cells.nodes small left.short waits later t.cells.slots left.stands;
      nodes = unstirred-nodes w h p.tree p.at start t.cells.nodes small left.short waits later;
      wakes = wakes;
      told = is.told ∙ sym calm.told ∙ sym (unstirred-truth w h p.tree p.at start t.cells.nodes small left.short waits later);
      next = subst (IsDue (staying w (suc h)) p.tree (suc h)) (sym wakes) (unstirred-due w h p.tree p.at start t.cells.nodes small left.short waits later);
    }

-- and holds where it held
pub rest-holds : (w : World) (hit : Operand → Bool) (k h j start : ℕ) (p : Placed) (t : Terms) → k < 2 ^ 63 → k ≡ suc h → TellsMoved hit w k p → IsLeft w hit k j start p t → is_marked t.stirred j ≡ false
    → holds w p.tree h ≡ holds w p.tree k
rest-holds w hit k h j start p t small e tells left off = sym (left.later h e).told ∙ (rest-asked w hit k j start p t small tells left off).told

module _ (ps : List Placed) (worlds : ℕ → World) (k i : ℕ) (p : Placed) (here : slice_get ps i ≡ Some p) where
  own-at : (t : Terms) (j : ℕ) (q : Placed) → j ≡ i → slice_get ps j ≡ Some q → IsAsked (worlds i) k i (nodes_before ps i) p t → IsAsked (worlds j) k j (nodes_before ps j) q t
  own-at t j q at is asked =
      let same : p ≡ q = let both : Some p ≡ Some q = sym here ∙ ap (slice_get ps) (sym at) ∙ is in cc in
      subst (λ n. IsAsked (worlds n) k n (nodes_before ps n) q t) (sym at) (subst (λ r. IsAsked (worlds i) k i (nodes_before ps i) r t) same asked)

  own-mark : (t : Terms) (j : ℕ) (q : Placed) → j ≡ i → slice_get ps j ≡ Some q → is_marked t.woken i ≡ woken (worlds i) p.tree k → is_marked t.woken j ≡ woken (worlds j) q.tree k
  own-mark t j q at is own =
      let same : p ≡ q = let both : Some p ≡ Some q = sym here ∙ ap (slice_get ps) (sym at) ∙ is in cc in
      subst (λ n. is_marked t.woken n ≡ woken (worlds n) q.tree k) (sym at) (subst (λ (r : Placed). is_marked t.woken i ≡ woken (worlds i) r.tree k) same own)

  -- those up to it are marked that the moment wakes
  marks-next : (hit : Operand → Bool) (visited : ℕ) (t : Terms) → k < 2 ^ 63 → TellsMoved hit (worlds i) k p → HalfStepped ps worlds hit k i visited t
      → (j : ℕ) (q : Placed) → j < suc i → slice_get ps j ≡ Some q → is_marked t.woken j ≡ woken (worlds j) q.tree k
  marks-next hit visited t small tells half j q lt is = elim (eq-or-lt_of_le (let le : j ≤ i = omega arith in le)) [
    | inl same ↦ own-mark t j q same is (sym (marked-is (worlds i) hit k i (nodes_before ps i) p t small tells (half.left i p (omega arith) here)))
    | inr less ↦ half.marks j q less is
  ]

  -- what isn't stirred is left alone
  pub half-rest : (hit : Operand → Bool) (visited : ℕ) (t : Terms) → k < 2 ^ 63 → TellsMoved hit (worlds i) k p → is_marked t.stirred i ≡ false → HalfStepped ps worlds hit k i visited t
      → HalfStepped ps worlds hit k (suc i) visited t
  half-rest hit visited t small tells off half = record {
    stepped = λ j q lt is. elim (eq-or-lt_of_le (let le : j ≤ i = omega arith in le)) [
      | inl same ↦ own-at t j q same is (rest-asked (worlds i) hit k i (nodes_before ps i) p t small tells (half.left i p (omega arith) here) off)
      | inr less ↦ half.stepped j q less is
    ];
    marks = marks-next hit visited t small tells half;
    left = λ j q le is. half.left j q (omega arith) is;
    counted = half.counted;
  }

  -- what is run
  module _ (apart : AllPairs EndsBefore ps) (old new : Terms) (truth : Bool) (due : ℕ)
      (before : (j : ℕ) → j < p.at → cell_at new.cells.slots j ≡ cell_at old.cells.slots j)
      (behind : (j : ℕ) → p.at + slots p.tree ≤ j → cell_at new.cells.slots j ≡ cell_at old.cells.slots j)
      (within : Within (nodes_before ps i) (nodes_before ps i + nodes p.tree) p.at (p.at + slots p.tree) old.cells.nodes new.cells.nodes)
      (truths : new.truths.items ≡ set old.truths.items i truth) (dues : new.dues ≡ set old.dues i due) (marks : new.woken ≡ old.woken) (stirs : new.stirred ≡ old.stirred)
      (visits : new.cells.visits ≡ old.cells.visits) where
    truth-other : (j : ℕ) → j ≢ i → get_or new.truths.items j false ≡ get_or old.truths.items j false
    truth-other j ne = ap (λ ys. get_or ys j false) truths ∙ get_or-set_other old.truths.items i j truth false ne

    due-other : (j : ℕ) → j ≢ i → slice_index new.dues j ≡ slice_index old.dues j
    due-other j ne = ap (λ ys. slice_index ys j) dues ∙ get_or-set_other old.dues i j due 0 ne

    earlier : (j : ℕ) (q : Placed) → j < i → slice_get ps j ≡ Some q → IsAsked (worlds j) k j (nodes_before ps j) q old → IsAsked (worlds j) k j (nodes_before ps j) q new
    earlier j q lt is asked =
        let ends : q.at + slots q.tree ≤ p.at = ends-before ps j i q p apart lt is here in
        let below : nodes_before ps j + nodes q.tree ≤ nodes_before ps i = nodes-apart ps j i q lt is in
        let ne : j ≢ i = omega arith in
        let wakes : first_wake new.cells.nodes.wakes q.at (slots q.tree) ≡ first_wake old.cells.nodes.wakes q.at (slots q.tree) =
        wake-same old.cells.nodes.wakes new.cells.nodes.wakes q.at (slots q.tree) (λ s low high. within.slots_before s (omega (arith, high, ends))) in
        record {
          stands = Stand-same (worlds j) (suc k) q.tree q.at old.cells.slots new.cells.slots (record { same = λ n low high. before n (omega arith) }) asked.stands;
          nodes = waits-same (worlds j) k (λ n. false) q.tree q.at (nodes_before ps j) old.cells.nodes new.cells.nodes
              (λ n low high. within.before n (omega (arith, high, below))) (λ s low high. within.slots_before s (omega (arith, high, ends))) asked.nodes;
          wakes = due-other j ne ∙ asked.wakes ∙ sym wakes;
          told = truth-other j ne ∙ asked.told;
          next = subst (IsDue (staying (worlds j) k) q.tree k) (sym (due-other j ne)) asked.next;
        }

    later : (hit : Operand → Bool) (j : ℕ) (q : Placed) → i < j → slice_get ps j ≡ Some q → IsLeft (worlds j) hit k j (nodes_before ps j) q old → IsLeft (worlds j) hit k j (nodes_before ps j) q new
    later hit j q lt is left =
        let ends : p.at + slots p.tree ≤ q.at = ends-before ps i j p q apart lt here is in
        let above : nodes_before ps i + nodes p.tree ≤ nodes_before ps j = nodes-apart ps i j p lt here in
        let ne : j ≢ i = omega arith in
        let same : is_marked new.woken j ≡ is_marked old.woken j = ap (λ ws. is_marked ws j) marks in
        let stays : is_marked new.stirred j ≡ is_marked old.stirred j = ap (λ ws. is_marked ws j) stirs in
        let wakes : first_wake new.cells.nodes.wakes q.at (slots q.tree) ≡ first_wake old.cells.nodes.wakes q.at (slots q.tree) =
        wake-same old.cells.nodes.wakes new.cells.nodes.wakes q.at (slots q.tree) (λ s low high. within.slots_behind s (omega (arith, low, ends))) in
        record {
          short = left.short;
          stands = Stand-same (worlds j) k q.tree q.at old.cells.slots new.cells.slots (record { same = λ n low high. behind n (omega arith) }) left.stands;
          first = λ e. same ∙ left.first e;
          stirs = λ e. stays ∙ left.stirs e;
          later = λ h e.
              let was = left.later h e in (record {
                due = was.due;
                told = truth-other j ne ∙ was.told;
                next = was.next;
                marks = same ∙ was.marks;
                nodes = waits-same (worlds j) h (heard hit q.tree) q.tree q.at (nodes_before ps j) old.cells.nodes new.cells.nodes
                    (λ n low high. within.behind n (omega (arith, low, above))) (λ s low high. within.slots_behind s (omega (arith, low, ends))) was.nodes;
                kept = λ off. due-other j ne ∙ was.kept (sym stays ∙ off);
                calm = λ off.
                    let calm = was.calm (sym stays ∙ off) in (record {
                      later = calm.later;
                      wakes = wakes ∙ calm.wakes;
                      told = ap (λ s. s.told) (within.behind (nodes_before ps j) above) ∙ calm.told;
                    });
              });
        }

    pub half-step : (hit : Operand → Bool) (visited : ℕ) → k < 2 ^ 63 → TellsMoved hit (worlds i) k p → i < length old.truths.items → i < length old.dues
        → Stand (worlds i) (suc k) p.tree p.at new.cells.slots → NodesStand (worlds i) k p.tree p.at (nodes_before ps i) new.cells.nodes → due ≡ first_wake new.cells.nodes.wakes p.at (slots p.tree)
        → truth ≡ holds (worlds i) p.tree k → IsDue (staying (worlds i) k) p.tree k due
        → HalfStepped ps worlds hit k i visited old → HalfStepped ps worlds hit k (suc i) visited new
    half-step hit visited small tells room room' stands kept first told next half =
        let own : slice_index new.dues i ≡ due = ap (λ ys. slice_index ys i) dues ∙ get_or-set_same old.dues i due 0 room' in
        let asked : IsAsked (worlds i) k i (nodes_before ps i) p new = record {
          stands = stands;
          nodes = kept;
          wakes = own ∙ first;
          told = ap (λ ys. get_or ys i false) truths ∙ get_or-set_same old.truths.items i truth false room ∙ told;
          next = subst (IsDue (staying (worlds i) k) p.tree k) (sym own) next;
        } in
        record {
          stepped = λ j q lt is. elim (eq-or-lt_of_le (let le : j ≤ i = omega arith in le)) [
            | inl same ↦ own-at new j q same is asked
            | inr less ↦ earlier j q less is (half.stepped j q less is)
          ];
          marks = λ j q lt is. ap (λ ws. is_marked ws j) marks ∙ marks-next hit visited old small tells half j q lt is;
          left = λ j q le is. later hit j q (omega arith) is (half.left j q (omega arith) is);
          counted = subst (λ ws. IsCounted ps visited ws new.cells.visits) (sym marks) (visits ∙ half.counted);
        }
