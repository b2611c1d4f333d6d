-- What a pass over the temporal nodes of a condition leaves.
use Rattle.std.proofs.Common.{◌≡◌, ℕ, suc, ◌+◌, ◌<◌, ◌^◌, true, false, List, inr, refl, sym, ◌∙◌, ap, subst, arith}
use Rattle.std.specs.Prelude.{slice_index}
use Rattle.std.specs.List.{slice_get}
use Rattle.ecam_spec.specs.Book.{Tree, Trees, none, more}
use Rattle.ecam_spec.specs.Term.{World, holds}
use Rattle.ecam_spec.specs.TermSize.{nodes, slots, children}
use Rattle.term_eval.specs.declared.link.Link.{Link}
use Rattle.term_eval.specs.CellWords.{never}
use Rattle.term_eval.specs.CellState.{Stand}
use Rattle.term_eval.specs.Due.{staying, IsDue}
use Rattle.term_eval.specs.OwnDue.{own_due}
use Rattle.term_eval.specs.Memory.{Memory, NodeMemory}
use Rattle.term_eval.specs.Code.{code, owners}
use Rattle.term_eval.specs.Links.{links}
use Rattle.term_eval.specs.Linked.{CanRun}
use Rattle.term_eval.specs.Asked.{heard}
use Rattle.term_eval.specs.Woken.{moved}
use Rattle.term_eval.specs.Parts.{Part, parts, Heads, is_temporal}
use Rattle.term_eval.specs.NodeState.{state_at, SayTheSame, Wakes, NodesWait, NodesStand}
use Rattle.term_eval.specs.Run.{Run, pass_over}
use Rattle.term_eval.proofs.PartLaws.{parts-is, parts-code, says-before, says-after, said-before, said-after}
use Rattle.term_eval.proofs.Dues.{due-of}
use Rattle.term_eval.proofs.PartCells.{close-parts}
use Rattle.term_eval.proofs.Owned.{place-first, temporal_count, many-slots, follow}
use Rattle.term_eval.proofs.PassFrame.{nodes_of_run, Framed, FramedTo, Room, over, framed}
use Rattle.term_eval.proofs.AskedSoFar.{gone, gone-through}
use Rattle.term_eval.proofs.Over.{Gone, gone-over}

-- what is kept of nodes, and cells, before the first was looked at
abbrev pub fresh : Memory → Run
fresh m = record { states = m.nodes.states; wakes = m.nodes.wakes; cells = m.slots; due = never }

-- ---- the last of them was gone through

module _ (w : World) (h : ℕ) (c : Tree) (at first : ℕ) (n : NodeMemory) (waits : NodesWait w h (gone c at 0) c at first n) where
  all-same : (cs : Trees) (p : ℕ) → SayTheSame w (suc h) (λ i. false) cs p
  unfolding SayTheSame
  all-same none p = tt
  all-same (more d ds) p = (says-before w (suc h) (λ i. false) d p (λ i low high. refl), all-same ds (p + nodes d))

  -- each temporal node is to be looked at in its own due moment
  own-wakes : (i : ℕ) (x : Part) → Heads c at i x → is_temporal x.tree ≡ true → slice_index n.wakes x.at ≡ own_due w x.tree (suc h)
  own-wakes i x heads temporal =
      subst (Wakes w h (gone c at 0) x.tree i (slice_index n.wakes x.at)) (gone-through c at 0 i (omega arith)) ((waits i x heads).wake temporal)

  stand-after : NodesStand w (suc h) c at first n
  stand-after i x heads =
      let kept = waits i x heads in
      record {
        told =
            kept.told ∙ says-after w h (gone c at 0) x.tree i (λ j low high. gone-through c at 0 j (omega arith))
            ∙ sym (says-before w (suc h) (λ j. false) x.tree i (λ j low high. refl));
        count =
            kept.count ∙ said-after w h (gone c at 0) (children x.tree) (i + 1) (λ j low high. gone-through c at 0 j (omega arith))
            ∙ sym (said-before w (suc h) (λ j. false) (children x.tree) (i + 1) (λ j low high. refl));
        wake = λ temporal. inr (record { due = own-wakes i x heads temporal; same = all-same (children x.tree) (i + 1) });
      }

  first-told : (state_at n.states first).told ≡ holds w c (suc h)
  first-told =
      let x : Part = record { tree = c; at = at; up = 0 } in
      let kept = waits 0 x (ap (λ l. slice_get l 0) (parts-is at 0 c)) in
      let e : first ≡ first + 0 = omega arith in
      ap (λ i. (state_at n.states i).told) e ∙ kept.told ∙ says-after w h (gone c at 0) c 0 (λ j low high. gone-through c at 0 j (omega arith))

-- ---- the whole

module _ (k : ℕ) (own : List Link) (n : ℕ) (m : Memory) (c : Tree) (at first : ℕ) (can : CanRun own n m c at first) where
  abbrev pub ran : Run
  ran = pass_over k own first (owners 0 (code at 0 c)) at (fresh m)

  goes : over k first c at 0 at (parts at 0 c) (fresh m) ≡ ran
  goes =
      ap (λ l. pass_over k (links at c) first (owners 0 l) at (fresh m)) (sym (parts-code at 0 c))
      ∙ ap (λ l. pass_over k l first (owners 0 (code at 0 c)) at (fresh m)) (sym can.linked.links)

  room : Room k first c at (fresh m)
  room = record { nodes = can.linked.held; cells = can.range }

  pub ran-frame : Framed first (first + nodes c) at (at + slots c) at (slots c) (fresh m) ran
  ran-frame =
      let many = many-slots at (at + slots c) (parts at 0 c) (follow c at) in
      let e : temporal_count (parts at 0 c) ≡ slots c = omega (arith, many) in
      subst (λ count. FramedTo k first c at at count (fresh m) ran) e
      (subst (FramedTo k first c at at (temporal_count (parts at 0 c)) (fresh m)) goes
      (framed k first c at (parts at 0 c) 0 at (fresh m) (place-first c at) room refl))

-- it tells the condition's truth and when it is due, and all stands for the moment
pub record Done (w : World) (k : ℕ) (c : Tree) (at first : ℕ) (r : Run) : Type 0 where
  pub told : (state_at r.states first).told ≡ holds w c k
  pub due : IsDue (staying w k) c k r.due
  pub stands : Stand w (suc k) c at r.cells
  pub nodes : NodesStand w k c at first (nodes_of_run r)

module _ (own : List Link) (n : ℕ) (m : Memory) (c : Tree) (at first : ℕ) (can : CanRun own n m c at first) (w : World) (h : ℕ) where
  done-next : suc h < 2 ^ 63 → Stand w (suc h) c at m.slots → NodesWait w h (heard (moved w (suc h)) c) c at first m.nodes →
      Done w (suc h) c at first (ran (suc h) own n m c at first can)
  done-next small stand waits =
      let r = ran (suc h) own n m c at first can in
      let g : Gone w h c at first 0 r =
      subst (Gone w h c at first 0) (goes (suc h) own n m c at first can)
      (gone-over w h c at first small (parts at 0 c) 0 at (fresh m) (place-first c at)
      (room (suc h) own n m c at first can) refl waits stand) in
      let f = ran-frame (suc h) own n m c at first can in
      record {
        told = first-told w h c at first (nodes_of_run r) g.waits;
        due =
            subst (IsDue (staying w (suc h)) c (suc h)) (sym f.due)
            (due-of w (suc h) c at r.wakes small can.linked.held.code.short
            (own-wakes w h c at first (nodes_of_run r) g.waits));
        stands = close-parts w (suc (suc h)) r.cells c at (λ i x heads. g.behind i x heads (omega arith));
        nodes = stand-after w h c at first (nodes_of_run r) g.waits;
      }

  pub done : (k : ℕ) → k ≡ suc h → k < 2 ^ 63 → Stand w k c at m.slots → NodesWait w h (heard (moved w k) c) c at first m.nodes →
      Done w k c at first (ran k own n m c at first can)
  done k is =
      subst (λ k. k < 2 ^ 63 → Stand w k c at m.slots → NodesWait w h (heard (moved w k) c) c at first m.nodes →
      Done w k c at first (ran k own n m c at first can))
      (sym is) done-next
