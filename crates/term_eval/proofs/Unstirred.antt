-- A condition of which no temporal node is to be looked at, once each atom was updated whose operand moves, stands for one
-- moment more as it is.
use Rattle.std.proofs.Common.{◌≡◌, ℕ, suc, ◌+◌, ◌<◌, ◌^◌, Bool, true, false, ◌||◌, List, [], ◌∷◌, inl, inr, refl, sym, ◌∙◌, ap, subst, arith}
use Rattle.std.specs.Prelude.{slice_index}
use Rattle.std.specs.List.{list_any}
use Rattle.std.specs.Option.{option_map_or}
use Rattle.ecam_spec.specs.Book.{Tree, Trees, constant, discrete, valid, compared, in_phase, alert, press, computer, negation, all, any, at_least, confirmed, held, risen, latched, none, more}
use Rattle.ecam_spec.specs.Term.{World, holds, truths}
use Rattle.ecam_spec.specs.TermSize.{slots, nodes, children}
use Rattle.term_eval.specs.declared.memory.Cell.{Cell}
use Rattle.term_eval.specs.CellWords.{cell_at}
use Rattle.term_eval.specs.CellState.{Stand}
use Rattle.term_eval.specs.Asked.{node_asks, heard}
use Rattle.term_eval.specs.Woken.{Operand, moved, operands, turns}
use Rattle.term_eval.specs.Woken.Operand.{value, phase, activity, key, health}
use Rattle.term_eval.specs.Due.{staying, IsDue}
use Rattle.term_eval.specs.OwnDue.{own_due}
use Rattle.term_eval.specs.Code.{IsShort, AreShort}
use Rattle.term_eval.specs.Memory.{NodeMemory}
use Rattle.term_eval.specs.NodeState.{one_if, own_says, says, said, state_at, SayTheSame, Wakes, IsKept, NodesWait, NodesStand, first_wake}
use Rattle.term_eval.specs.Parts.{Part, Heads, is_temporal}
use Rattle.term_eval.proofs.Rest.{truth-rests}
use Rattle.term_eval.proofs.Unturned.{Unturned}
use Rattle.term_eval.proofs.Left.{left-unturned, left-cell}
use Rattle.term_eval.proofs.Inside.{node_at, inside, OwnCell}
use Rattle.term_eval.proofs.PartLaws.{for-tree, for-trees, spoken, says-is, says-before, says-after}
use Rattle.term_eval.proofs.Below.{part, Each, EachOf, own, inner, front, rest, whole, of-part}
use Rattle.term_eval.proofs.Short.{shorts, short-part}
use Rattle.term_eval.proofs.Hearing.{heard-is, deaf}
use Rattle.term_eval.proofs.PartCells.{untimed-cell, open-parts, close-parts}
use Rattle.term_eval.proofs.Dues.{due-of, wakes-later}

module _ (w : World) (h : ℕ) (updated : ℕ → Bool) (first : ℕ) (n : NodeMemory) (small : suc h < 2 ^ 63) where
  -- a part whose node has this number is kept, was updated if its operand moves, and wakes later
  record Waits (i : ℕ) (x : Part) : Type 0 where
    kept : IsKept w h updated x first i n
    asks : updated i ≡ option_map_or (moved w (suc h)) (node_asks (node_at x.at x.tree)) false
    later : is_temporal x.tree ≡ true → suc h < slice_index n.wakes x.at

  -- ---- each says what it holds in the next moment

  -- some conditions say it
  abbrev SayNow : Trees → ℕ → Type 0
  SayNow none p = Unit {0}
  SayNow (more c cs) p = (says w h updated c p ≡ holds w c (suc h)) × SayNow cs (p + nodes c)

  said-now : (cs : Trees) (p : ℕ) → SayNow cs p → said w h updated cs p ≡ said w h (λ i. true) cs p
  unfolding said
  said-now none p now = refl
  said-now (more c cs) p now =
      ap (λ b. one_if b + said w h updated cs (p + nodes c)) (now.0 ∙ sym (says-after w h (λ i. true) c p (λ i low high. refl)))
      ∙ ap (λ m. one_if (says w h (λ i. true) c p) + m) (said-now cs (p + nodes c) now.1)

  same-truths : (cs : Trees) (p : ℕ) → SayTheSame w h updated cs p → SayNow cs p → truths w cs (suc h) ≡ truths w cs h
  unfolding SayTheSame holds
  same-truths none p same now = refl
  same-truths (more c cs) p same now =
      ap (λ b. b ∷ truths w cs (suc h)) (sym now.0 ∙ same.0)
      ∙ ap (λ bs. holds w c h ∷ bs) (same-truths cs (p + nodes c) same.1 now.1)

  -- a temporal node that was left
  record Left (c : Tree) (wake : ℕ) : Type 0 where
    same : truths w (children c) (suc h) ≡ truths w (children c) h
    turned : Unturned w h c
    due : wake ≡ own_due w c h

  left : (at up p : ℕ) (c : Tree) → IsShort c → is_temporal c ≡ true → updated p ≡ false → Waits p (part c at up) → SayNow (children c) (p + 1) → Left c (slice_index n.wakes at)
  left at up p c short temporal unasked waits now =
      let later = waits.later temporal in
      elim (subst (Wakes w h updated c p (slice_index n.wakes at)) unasked (waits.kept.wake temporal)) [
        | inl soon ↦ absurd (let z : ⊥ = omega (arith, soon, later) in z)
        | inr rests ↦
            let same = same-truths (children c) (p + 1) rests.same now in
            let soon : suc h < own_due w c h = subst (λ d. suc h < d) rests.due later in
            record { same = same; turned = left-unturned w h c temporal small short same soon; due = rests.due }
      ]

  own-now : (c : Tree) (p : ℕ) → (updated p ≡ false → holds w c (suc h) ≡ holds w c h) → own_says w h (updated p) c ≡ own_says w h true c
  own-now c p same = by (updated p) refl where
    by : (b : Bool) → updated p ≡ b → own_says w h b c ≡ holds w c (suc h)
    by true yes_asked = refl
    by false unasked = sym (same unasked)

  or-none : (b : Bool) → b ≡ false → (b || false) ≡ false
  or-none b e = ap (λ x. x || false) e

  atom-now : (c : Tree) (x : Operand) (p : ℕ) → operands c ≡ x ∷ [] → turns w c (suc h) ≡ false → updated p ≡ moved w (suc h) x → own_says w h (updated p) c ≡ own_says w h true c
  atom-now c x p names quiet asks =
      own-now c p (λ unasked.
      truth-rests w h c (record {
        operands_rest = ap (list_any (moved w (suc h))) names ∙ or-none (moved w (suc h) x) (sym asks ∙ unasked);
        nodes_rest = quiet;
      }))

  left-now : (at up p : ℕ) (c : Tree) → IsShort c → is_temporal c ≡ true → updated p ≡ false → Waits p (part c at up) → SayNow (children c) (p + 1) → own_says w h (updated p) c ≡ own_says w h true c
  left-now at up p c short temporal unasked waits now = own-now c p (λ again. (left at up p c short temporal unasked waits now).turned.truth)

  spoken-now : (at up p : ℕ) (c : Tree) (m : ℕ) → IsShort c → Waits p (part c at up) → SayNow (children c) (p + 1) → spoken w h (updated p) c m ≡ spoken w h true c m
  unfolding operands turns is_temporal holds
  spoken-now at up p (constant b) m short waits now = own-now (constant b) p (λ unasked. refl)
  spoken-now at up p (discrete x) m short waits now = atom-now (discrete x) (value x) p refl refl waits.asks
  spoken-now at up p (valid x) m short waits now = atom-now (valid x) (value x) p refl refl waits.asks
  spoken-now at up p (compared x op l) m short waits now = atom-now (compared x op l) (value x) p refl refl waits.asks
  spoken-now at up p (in_phase set) m short waits now = atom-now (in_phase set) phase p refl refl waits.asks
  spoken-now at up p (alert a) m short waits now = atom-now (alert a) (activity a) p refl refl waits.asks
  spoken-now at up p (press x) m short waits now = atom-now (press x) (key x) p refl refl waits.asks
  spoken-now at up p (computer l) m short waits now = atom-now (computer l) (health l) p refl refl waits.asks
  spoken-now at up p (negation c) m short waits now = refl
  spoken-now at up p (all cs) m short waits now = refl
  spoken-now at up p (any cs) m short waits now = refl
  spoken-now at up p (at_least l cs) m short waits now = refl
  spoken-now at up p (confirmed c l) m short waits now = left-now at up p (confirmed c l) short refl waits.asks waits now
  spoken-now at up p (held c l) m short waits now = left-now at up p (held c l) short refl waits.asks waits now
  spoken-now at up p (risen c) m short waits now = left-now at up p (risen c) short refl waits.asks waits now
  spoken-now at up p (latched s r) m short waits now = left-now at up p (latched s r) short refl waits.asks waits now

  Now : Tree → Type 0
  Now c = (at up p : ℕ) → IsShort c → Each Waits at up c p → says w h updated c p ≡ holds w c (suc h)

  NowAll : Trees → Type 0
  NowAll cs = (at up p : ℕ) → AreShort cs → EachOf Waits at up cs p → SayNow cs p

  now-node : (c : Tree) → NowAll (children c) → Now c
  unfolding Now NowAll
  now-node c below at up p short each =
      let now = below (inside at c) 1 (p + 1) (shorts c short) (inner Waits at up c p each) in
      says-is w h updated c p
      ∙ ap (spoken w h (updated p) c) (said-now (children c) (p + 1) now)
      ∙ spoken-now at up p c (said w h (λ i. true) (children c) (p + 1)) short (own Waits at up c p each) now
      ∙ sym (says-is w h (λ i. true) c p)
      ∙ says-after w h (λ i. true) c p (λ i low high. refl)

  now-none : NowAll none
  unfolding NowAll
  now-none at up p short each = tt

  now-more : (c : Tree) (cs : Trees) → Now c → NowAll cs → NowAll (more c cs)
  unfolding Now NowAll IsShort
  now-more c cs one others at up p short each = (one at up p short.0 (front Waits at up c cs p each), others (at + slots c) (up + nodes c) (p + nodes c) short.1 (rest Waits at up c cs p each))

  now-tree : (c : Tree) → Now c
  now-tree = for-tree Now NowAll now-node now-none now-more

  now-trees : (cs : Trees) → NowAll cs
  now-trees = for-trees Now NowAll now-node now-none now-more

  -- what the children of a node say
  now-below : (at up p : ℕ) (c : Tree) → IsShort c → Each Waits at up c p → SayNow (children c) (p + 1)
  unfolding NowAll
  now-below at up p c short each = now-trees (children c) (inside at c) 1 (p + 1) (shorts c short) (inner Waits at up c p each)

  -- ---- what is kept stands for one moment more

  said-next : (cs : Trees) (p : ℕ) → SayNow cs p → said w h updated cs p ≡ said w (suc h) (λ i. false) cs p
  unfolding said
  said-next none p now = refl
  said-next (more c cs) p now =
      ap (λ b. one_if b + said w h updated cs (p + nodes c)) (now.0 ∙ sym (says-before w (suc h) (λ i. false) c p (λ i low high. refl)))
      ∙ ap (λ m. one_if (says w (suc h) (λ i. false) c p) + m) (said-next cs (p + nodes c) now.1)

  same-next : (cs : Trees) (p : ℕ) → SayTheSame w (suc h) (λ i. false) cs p
  unfolding SayTheSame
  same-next none p = tt
  same-next (more c cs) p = (says-before w (suc h) (λ i. false) c p (λ i low high. refl), same-next cs (p + nodes c))

  unasked : (p : ℕ) (x : Part) → Waits p x → is_temporal x.tree ≡ true → updated p ≡ false
  unasked p x waits temporal = waits.asks ∙ deaf (moved w (suc h)) x.at x.tree temporal

  left-below : (at up p : ℕ) (c : Tree) → IsShort c → Each Waits at up c p → is_temporal c ≡ true → Left c (slice_index n.wakes at)
  left-below at up p c short each temporal =
      let waits = own Waits at up c p each in
      left at up p c short temporal (unasked p (part c at up) waits temporal) waits (now-below at up p c short each)

  kept-next : (p : ℕ) (x : Part) → IsShort x.tree → Each Waits x.at x.up x.tree p → IsKept w (suc h) (λ i. false) x first p n
  unfolding Now
  kept-next p x short each =
      let waits = own Waits x.at x.up x.tree p each in
      record {
        told = waits.kept.told ∙ now-tree x.tree x.at x.up p short each ∙ sym (says-before w (suc h) (λ i. false) x.tree p (λ i low high. refl));
        count = waits.kept.count ∙ said-next (children x.tree) (p + 1) (now-below x.at x.up p x.tree short each);
        wake = λ temporal.
            let l = left-below x.at x.up p x.tree short each temporal in
            inr (record { due = l.due ∙ sym l.turned.due; same = same-next (children x.tree) (p + 1) });
      }

  -- and so does its cell
  cell-next : (p : ℕ) (x : Part) (cell : Cell) → IsShort x.tree → Each Waits x.at x.up x.tree p → OwnCell w (suc h) x.tree cell → OwnCell w (suc (suc h)) x.tree cell
  cell-next p x cell short each stands = by (is_temporal x.tree) refl where
    by : (b : Bool) → is_temporal x.tree ≡ b → OwnCell w (suc (suc h)) x.tree cell
    by true temporal = left-cell w h x.tree cell ((left-below x.at x.up p x.tree short each temporal).same) stands
    by false untimed = untimed-cell w (suc (suc h)) x.tree cell untimed

-- ---- the whole condition

module _ (w : World) (h : ℕ) (c : Tree) (at first : ℕ) (n : NodeMemory) (small : suc h < 2 ^ 63) (short : IsShort c)
    (waits : NodesWait w h (heard (moved w (suc h)) c) c at first n) (later : suc h < first_wake n.wakes at (slots c)) where
  all-wait : (i : ℕ) (x : Part) → Heads c at i x → Waits w h (heard (moved w (suc h)) c) first n small i x
  all-wait i x heads = record {
    kept = waits i x heads;
    asks = heard-is (moved w (suc h)) c at i x heads;
    later = wakes-later (suc h) c at n.wakes later i x heads;
  }

  all-each : Each (Waits w h (heard (moved w (suc h)) c) first n small) at 0 c 0
  all-each = whole (Waits w h (heard (moved w (suc h)) c) first n small) c at all-wait

  pub unstirred-truth : holds w c (suc h) ≡ (state_at n.states first).told
  unfolding Now
  unstirred-truth =
      let here : first + 0 ≡ first = omega arith in
      let own_waits = own (Waits w h (heard (moved w (suc h)) c) first n small) at 0 c 0 all-each in
      sym (now-tree w h (heard (moved w (suc h)) c) first n small c at 0 0 short all-each) ∙ sym own_waits.kept.told ∙ ap (λ i. (state_at n.states i).told) here

  pub unstirred-nodes : NodesStand w (suc h) c at first n
  unstirred-nodes i x heads =
      kept-next w h (heard (moved w (suc h)) c) first n small i x (short-part at 0 c short i x heads)
      (of-part (Waits w h (heard (moved w (suc h)) c) first n small) c at all-wait i x heads)

  pub unstirred-cells : (cells : List Cell) → Stand w (suc h) c at cells → Stand w (suc (suc h)) c at cells
  unstirred-cells cells stands =
      close-parts w (suc (suc h)) cells c at
      (λ i x heads.
      cell-next w h (heard (moved w (suc h)) c) first n small i x (cell_at cells x.at) (short-part at 0 c short i x heads)
      (of-part (Waits w h (heard (moved w (suc h)) c) first n small) c at all-wait i x heads)
      (open-parts w (suc h) cells c at stands i x heads))

  pub unstirred-due : IsDue (staying w (suc h)) c (suc h) (first_wake n.wakes at (slots c))
  unstirred-due =
      due-of w (suc h) c at n.wakes small short
      (λ i x heads temporal.
      let l = left-below w h (heard (moved w (suc h)) c) first n small x.at x.up i x.tree (short-part at 0 c short i x heads)
      (of-part (Waits w h (heard (moved w (suc h)) c) first n small) c at all-wait i x heads) temporal in
      l.due ∙ sym l.turned.due)
