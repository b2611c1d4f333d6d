-- An atom that doesn't hear of an operand that moves says what it said, so it may count as updated.
use Rattle.std.proofs.Common.{◌≡◌, ℕ, suc, ◌+◌, Bool, true, false, ◌||◌, map, inl, inr, Option, Some, option_map, refl, sym, ◌∙◌, ap}
use Rattle.std.specs.Option.{option_map_or}
use Rattle.std.specs.List.{slice_get}
use Rattle.std.proofs.lemmas.Option.{slice_get-map}
use Rattle.ecam_spec.specs.Book.{Tree, Trees, constant, discrete, valid, compared, in_phase, alert, press, computer, negation, all, any, at_least, confirmed, held, risen, latched, none, more}
use Rattle.ecam_spec.specs.Term.{World, holds}
use Rattle.ecam_spec.specs.TermSize.{slots, nodes, children}
use Rattle.term_eval.specs.Memory.{NodeMemory}
use Rattle.term_eval.specs.Asked.{asked, node_asks, heard}
use Rattle.term_eval.specs.Woken.{Operand, moved, operands, turns}
use Rattle.term_eval.specs.Parts.{Part, parts, Heads, is_temporal}
use Rattle.term_eval.specs.NodeState.{one_if, own_says, says, said, SayTheSame, Wakes, NodesWait}
use Rattle.term_eval.proofs.Codes.{code-asks, step_asks}
use Rattle.term_eval.proofs.Rest.{truth-rests}
use Rattle.term_eval.proofs.Inside.{node_at, inside}
use Rattle.term_eval.proofs.PartLaws.{step_of, for-tree, for-trees, parts-code, spoken, says-is}
use Rattle.term_eval.proofs.NodeKinds.{is_gate}
use Rattle.term_eval.proofs.Below.{Each, EachOf, own, inner, front, rest, of-part}

-- ---- what is heard

-- a node hears what its part asks for
pub heard-is : (hit : Operand → Bool) (c : Tree) (at i : ℕ) (x : Part) → Heads c at i x → heard hit c i ≡ option_map_or hit (node_asks (node_at x.at x.tree)) false
heard-is hit c at i x heads =
    let f : Part → Option Operand = λ y. step_asks (step_of y) in
    let all : slice_get (map step_asks (map step_of (parts at 0 c))) i ≡ Some (f x) =
    slice_get-map step_asks (map step_of (parts at 0 c)) i ∙ ap (option_map step_asks) (slice_get-map step_of (parts at 0 c) i ∙ ap (option_map step_of) heads) in
    let got : slice_get (asked c) i ≡ Some (f x) = ap (λ l. slice_get l i) (sym (code-asks c at 0) ∙ ap (map step_asks) (parts-code at 0 c)) ∙ all in
    ap (λ (o : Option (Option Operand)). option_map_or (λ (asks : Option Operand). option_map_or hit asks false) o false) got

-- an atom whose operand doesn't move keeps its truth
pub atom-still : (w : World) (h at : ℕ) (c : Tree) → is_gate c ≡ false → is_temporal c ≡ false → option_map_or (moved w (suc h)) (node_asks (node_at at c)) false ≡ false →
    holds w c (suc h) ≡ holds w c h
unfolding is_gate is_temporal operands turns
atom-still w h at (constant b) gate temporal still = truth-rests w h (constant b) (record { operands_rest = refl; nodes_rest = refl })
atom-still w h at (discrete x) gate temporal still = truth-rests w h (discrete x) (record { operands_rest = ap (λ b. b || false) still; nodes_rest = refl })
atom-still w h at (valid x) gate temporal still = truth-rests w h (valid x) (record { operands_rest = ap (λ b. b || false) still; nodes_rest = refl })
atom-still w h at (compared x op n) gate temporal still = truth-rests w h (compared x op n) (record { operands_rest = ap (λ b. b || false) still; nodes_rest = refl })
atom-still w h at (in_phase set) gate temporal still = truth-rests w h (in_phase set) (record { operands_rest = ap (λ b. b || false) still; nodes_rest = refl })
atom-still w h at (alert a) gate temporal still = truth-rests w h (alert a) (record { operands_rest = ap (λ b. b || false) still; nodes_rest = refl })
atom-still w h at (press key) gate temporal still = truth-rests w h (press key) (record { operands_rest = ap (λ b. b || false) still; nodes_rest = refl })
atom-still w h at (computer n) gate temporal still = truth-rests w h (computer n) (record { operands_rest = ap (λ b. b || false) still; nodes_rest = refl })
atom-still w h at (negation c) gate temporal still = absurd (let z : ⊥ = cc in z)
atom-still w h at (all cs) gate temporal still = absurd (let z : ⊥ = cc in z)
atom-still w h at (any cs) gate temporal still = absurd (let z : ⊥ = cc in z)
atom-still w h at (at_least n cs) gate temporal still = absurd (let z : ⊥ = cc in z)
atom-still w h at (confirmed c n) gate temporal still = absurd (let z : ⊥ = cc in z)
atom-still w h at (held c n) gate temporal still = absurd (let z : ⊥ = cc in z)
atom-still w h at (risen c) gate temporal still = absurd (let z : ⊥ = cc in z)
atom-still w h at (latched s r) gate temporal still = absurd (let z : ⊥ = cc in z)

-- a temporal node hears nothing
pub deaf : (hit : Operand → Bool) (at : ℕ) (c : Tree) → is_temporal c ≡ true → option_map_or hit (node_asks (node_at at c)) false ≡ false
unfolding is_temporal
deaf hit at (constant b) temporal = absurd (let z : ⊥ = cc in z)
deaf hit at (discrete x) temporal = absurd (let z : ⊥ = cc in z)
deaf hit at (valid x) temporal = absurd (let z : ⊥ = cc in z)
deaf hit at (compared x op n) temporal = absurd (let z : ⊥ = cc in z)
deaf hit at (in_phase set) temporal = absurd (let z : ⊥ = cc in z)
deaf hit at (alert a) temporal = absurd (let z : ⊥ = cc in z)
deaf hit at (press key) temporal = absurd (let z : ⊥ = cc in z)
deaf hit at (computer n) temporal = absurd (let z : ⊥ = cc in z)
deaf hit at (negation c) temporal = absurd (let z : ⊥ = cc in z)
deaf hit at (all cs) temporal = absurd (let z : ⊥ = cc in z)
deaf hit at (any cs) temporal = absurd (let z : ⊥ = cc in z)
deaf hit at (at_least n cs) temporal = absurd (let z : ⊥ = cc in z)
deaf hit at (confirmed c n) temporal = refl
deaf hit at (held c n) temporal = refl
deaf hit at (risen c) temporal = refl
deaf hit at (latched s r) temporal = refl

-- ---- two ways to ask by which each node says the same

-- a gate says by its count alone
spoken-same : (w : World) (h : ℕ) (a b : Bool) (c : Tree) (count : ℕ) → (is_gate c ≡ false → own_says w h a c ≡ own_says w h b c) → spoken w h a c count ≡ spoken w h b c count
unfolding is_gate
spoken-same w h a b (constant x) count same = same refl
spoken-same w h a b (discrete x) count same = same refl
spoken-same w h a b (valid x) count same = same refl
spoken-same w h a b (compared x op n) count same = same refl
spoken-same w h a b (in_phase set) count same = same refl
spoken-same w h a b (alert x) count same = same refl
spoken-same w h a b (press key) count same = same refl
spoken-same w h a b (computer n) count same = same refl
spoken-same w h a b (negation c) count same = refl
spoken-same w h a b (all cs) count same = refl
spoken-same w h a b (any cs) count same = refl
spoken-same w h a b (at_least n cs) count same = refl
spoken-same w h a b (confirmed c n) count same = same refl
spoken-same w h a b (held c n) count same = same refl
spoken-same w h a b (risen c) count same = same refl
spoken-same w h a b (latched s r) count same = same refl

module _ (w : World) (h : ℕ) (old new : ℕ → Bool) where
  -- an atom or a temporal node says the same
  abbrev pub AsBefore : ℕ → Part → Type 0
  AsBefore i x = is_gate x.tree ≡ false → own_says w h (new i) x.tree ≡ own_says w h (old i) x.tree

  SameOf : Trees → Type 0
  SameOf cs = (at up p : ℕ) → EachOf AsBefore at up cs p → said w h new cs p ≡ said w h old cs p

  SameIn : Tree → Type 0
  SameIn c = (at up p : ℕ) → Each AsBefore at up c p → says w h new c p ≡ says w h old c p

  same-node : (c : Tree) → SameOf (children c) → SameIn c
  unfolding SameOf SameIn
  same-node c below at up p each =
      says-is w h new c p
      ∙ ap (spoken w h (new p) c) (below (inside at c) 1 (p + 1) (inner AsBefore at up c p each))
      ∙ spoken-same w h (new p) (old p) c (said w h old (children c) (p + 1)) (own AsBefore at up c p each)
      ∙ sym (says-is w h old c p)

  same-none : SameOf none
  unfolding SameOf says
  same-none at up p each = refl

  same-more : (c : Tree) (cs : Trees) → SameIn c → SameOf cs → SameOf (more c cs)
  unfolding SameOf SameIn says
  same-more c cs first others at up p each =
      ap (λ b. one_if b + said w h new cs (p + nodes c)) (first at up p (front AsBefore at up c cs p each))
      ∙ ap (λ n. one_if (says w h old c p) + n) (others (at + slots c) (up + nodes c) (p + nodes c) (rest AsBefore at up c cs p each))

  same-says : (c : Tree) (at up p : ℕ) → Each AsBefore at up c p → says w h new c p ≡ says w h old c p
  unfolding SameIn
  same-says c at up p each = for-tree SameIn SameOf same-node same-none same-more c at up p each

  same-said : (cs : Trees) (at up p : ℕ) → EachOf AsBefore at up cs p → said w h new cs p ≡ said w h old cs p
  unfolding SameOf
  same-said cs at up p each = for-trees SameIn SameOf same-node same-none same-more cs at up p each

  same-still : (cs : Trees) (at up p : ℕ) → EachOf AsBefore at up cs p → SayTheSame w h old cs p → SayTheSame w h new cs p
  unfolding SayTheSame
  same-still none at up p each still = tt
  same-still (more c cs) at up p each still =
      (same-says c at up p (front AsBefore at up c cs p each) ∙ still.0, same-still cs (at + slots c) (up + nodes c) (p + nodes c) (rest AsBefore at up c cs p each) still.1)

  -- so all that waits by the one waits by the other
  pub wait-same : (c : Tree) (at first : ℕ) (n : NodeMemory) → ((i : ℕ) (x : Part) → Heads c at i x → AsBefore i x) →
      ((i : ℕ) (x : Part) → Heads c at i x → is_temporal x.tree ≡ true → new i ≡ old i) → NodesWait w h old c at first n → NodesWait w h new c at first n
  wait-same c at first n as_before temporals waits i x heads =
      let kept = waits i x heads in
      let each = of-part AsBefore c at as_before i x heads in
      let below = inner AsBefore x.at x.up x.tree i each in
      record {
        told = kept.told ∙ sym (same-says x.tree x.at x.up i each);
        count = kept.count ∙ sym (same-said (children x.tree) (inside x.at x.tree) 1 (i + 1) below);
        wake = λ temporal. by (old i) (new i) _ (temporals i x heads temporal) (same-still (children x.tree) (inside x.at x.tree) 1 (i + 1) below) (kept.wake temporal);
      }
    where
      by : (a b : Bool) (wake : ℕ) → b ≡ a → (SayTheSame w h old (children x.tree) (i + 1) → SayTheSame w h new (children x.tree) (i + 1)) →
          Wakes w h old x.tree i wake a → Wakes w h new x.tree i wake b
      by true true wake e still was = was
      by true false wake e still was = absurd (let z : ⊥ = cc in z)
      by false true wake e still was = absurd (let z : ⊥ = cc in z)
      by false false wake e still was = elim was [ inl woken ↦ inl woken | inr rests ↦ inr (record { due = rests.due; same = still rests.same }) ]
