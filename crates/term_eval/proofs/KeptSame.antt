-- What is kept of a node rests on its own state and slot, and on which of the nodes below it were updated.
use Rattle.std.proofs.Common.{◌≡◌, ◌≢◌, ℕ, zero, suc, ◌+◌, ◌<◌, ◌≤◌, Bool, true, false, List, ◌∷◌, ◌++◌, length, eqb, inl, inr, Some, refl, sym, ◌∙◌, ap, subst, arith}
use Rattle.std.specs.Prelude.{slice_index, ◌||◌}
use Rattle.std.specs.List.{slice_get}
use Rattle.std.proofs.lemmas.Option.{slice_get_within, same_Some}
use Rattle.std.proofs.lemmas.Bool.Decides.{nat_tests}
use Rattle.ecam_spec.specs.Book.{Tree, Trees, none, more}
use Rattle.ecam_spec.specs.Term.{World}
use Rattle.ecam_spec.specs.TermSize.{nodes, nodes_of, children}
use Rattle.term_eval.specs.Memory.{NodeMemory}
use Rattle.term_eval.specs.Parts.{Part, parts, parts_of, is_temporal}
use Rattle.term_eval.specs.NodeState.{state_at, IsKept, Wakes, SayTheSame, also}
use Rattle.term_eval.proofs.Inside.{inside, nodes-is}
use Rattle.term_eval.proofs.PartLaws.{parts-is, get-left, get-right, split, says-by, said-by}

pub also-own : (i : ℕ) (updated : ℕ → Bool) → also i updated i ≡ true
also-own i updated = ap (λ b. b || updated i) (let e : eqb i i ≡ true = grind (arith, nat_tests) in e)

pub also-other : (i : ℕ) (updated : ℕ → Bool) (j : ℕ) → j ≢ i → also i updated j ≡ updated j
also-other i updated j other = ap (λ b. b || updated j) (let e : eqb j i ≡ false = grind (arith, nat_tests) in e)

-- ---- by its own state and slot

pub kept-same : (w : World) (h : ℕ) (updated : ℕ → Bool) (x : Part) (first i : ℕ) (old new : NodeMemory) →
    state_at new.states (first + i) ≡ state_at old.states (first + i) → (is_temporal x.tree ≡ true → slice_index new.wakes x.at ≡ slice_index old.wakes x.at) →
    IsKept w h updated x first i old → IsKept w h updated x first i new
kept-same w h updated x first i old new state slot is = record {
  told = ap (λ s. s.told) state ∙ is.told;
  count = ap (λ s. s.count) state ∙ is.count;
  wake = λ temporal. subst (λ wake. Wakes w h updated x.tree i wake (updated i)) (sym (slot temporal)) (is.wake temporal);
}

-- ---- by whom was updated

pub same-by : (w : World) (h : ℕ) (old new : ℕ → Bool) (cs : Trees) (p : ℕ) → ((i : ℕ) → p ≤ i → i < p + nodes_of cs → new i ≡ old i) →
    SayTheSame w h old cs p → SayTheSame w h new cs p
unfolding SayTheSame nodes
same-by w h old new none p same is = tt
same-by w h old new (more c cs) p same is = (
  says-by w h old new c p (λ i low high. same i low (omega arith)) ∙ is.0,
  same-by w h old new cs (p + nodes c) (λ i low high. same i (omega arith) (omega arith)) is.1,
)

pub wakes-by : (w : World) (h : ℕ) (old new : ℕ → Bool) (c : Tree) (p wake : ℕ) (b : Bool) →
    (SayTheSame w h old (children c) (p + 1) → SayTheSame w h new (children c) (p + 1)) → Wakes w h old c p wake b → Wakes w h new c p wake b
wakes-by w h old new c p wake true same is = is
wakes-by w h old new c p wake false same (inl now) = inl now
wakes-by w h old new c p wake false same (inr rests) = inr (record { due = rests.due; same = same rests.same })

pub kept-by : (w : World) (h : ℕ) (old new : ℕ → Bool) (x : Part) (first i : ℕ) (n : NodeMemory) →
    ((j : ℕ) → i ≤ j → j < i + nodes x.tree → new j ≡ old j) → IsKept w h old x first i n → IsKept w h new x first i n
kept-by w h old new x first i n same is =
    let size = nodes-is x.tree in
    let below : (j : ℕ) → i + 1 ≤ j → j < i + 1 + nodes_of (children x.tree) → new j ≡ old j = λ j low high. same j (omega arith) (omega arith) in
    record {
      told = is.told ∙ sym (says-by w h old new x.tree i same);
      count = is.count ∙ sym (said-by w h old new (children x.tree) (i + 1) below);
      wake = λ temporal.
          subst (λ b. Wakes w h new x.tree i (slice_index n.wakes x.at) b) (sym (same i (omega arith) (omega arith)))
          (wakes-by w h old new x.tree i (slice_index n.wakes x.at) (old i) (same-by w h old new (children x.tree) (i + 1) below) (is.wake temporal));
    }

-- ---- of each of some parts, the first of which has this number

abbrev pub Each : (ℕ → Part → Type 0) → ℕ → List Part → Type 0
Each P q xs = (j : ℕ) (x : Part) → slice_get xs j ≡ Some x → P (q + j) x

pub each-left : (P : ℕ → Part → Type 0) (q : ℕ) (xs ys : List Part) → Each P q (xs ++ ys) → Each P q xs
each-left P q xs ys each j x is = each j x (get-left xs ys j (slice_get_within xs j x is) ∙ is)

pub each-right : (P : ℕ → Part → Type 0) (q n : ℕ) (xs ys : List Part) → length xs ≡ n → Each P q (xs ++ ys) → Each P (q + n) ys
each-right P q n xs ys size each j x is =
    subst (λ k. P k x) (let e : q + (length xs + j) ≡ q + n + j = omega arith in e) (each (length xs + j) x (get-right xs ys j ∙ is))

pub each-both : (P : ℕ → Part → Type 0) (q n : ℕ) (xs ys : List Part) → length xs ≡ n → Each P q xs → Each P (q + n) ys → Each P q (xs ++ ys)
each-both P q n xs ys size first second j x is =
    elim (split j (length xs)) [
      | inl h ↦ first j x (sym (get-left xs ys j h) ∙ is)
      | inr h ↦
          subst (λ k. P k x) (let e : q + n + h.0 ≡ q + j = omega (arith, h.1) in e)
          (second h.0 x (sym (get-right xs ys h.0) ∙ ap (slice_get (xs ++ ys)) (sym h.1) ∙ is))
    ]

pub each-head : (P : ℕ → Part → Type 0) (q : ℕ) (x : Part) (xs : List Part) → Each P q (x ∷ xs) → P q x
each-head P q x xs each = subst (λ k. P k x) (let e : q + 0 ≡ q = omega arith in e) (each 0 x refl)

pub each-tail : (P : ℕ → Part → Type 0) (q : ℕ) (x : Part) (xs : List Part) → Each P q (x ∷ xs) → Each P (q + 1) xs
each-tail P q x xs each j y is = subst (λ k. P k y) (let e : q + suc j ≡ q + 1 + j = omega arith in e) (each (suc j) y is)

pub each-more : (P : ℕ → Part → Type 0) (q : ℕ) (x : Part) (xs : List Part) → P q x → Each P (q + 1) xs → Each P q (x ∷ xs)
each-more P q x xs own each zero y is = subst (λ z. P (q + 0) z) (same_Some x y is) (subst (λ k. P k x) (let e : q ≡ q + 0 = omega arith in e) own)
each-more P q x xs own each (suc j) y is = subst (λ k. P k y) (let e : q + 1 + j ≡ q + suc j = omega arith in e) (each j y is)

-- of a node's own part, and of those of its children
pub each-own : (P : ℕ → Part → Type 0) (p at up : ℕ) (c : Tree) → Each P p (parts at up c) → P p (record { tree = c; at = at; up = up })
each-own P p at up c each =
    each-head P p (record { tree = c; at = at; up = up }) (parts_of (inside at c) 1 (children c)) (subst (Each P p) (parts-is at up c) each)

pub each-inner : (P : ℕ → Part → Type 0) (p at up : ℕ) (c : Tree) → Each P p (parts at up c) → Each P (p + 1) (parts_of (inside at c) 1 (children c))
each-inner P p at up c each =
    each-tail P p (record { tree = c; at = at; up = up }) (parts_of (inside at c) 1 (children c)) (subst (Each P p) (parts-is at up c) each)

pub each-whole : (P : ℕ → Part → Type 0) (p at up : ℕ) (c : Tree) → P p (record { tree = c; at = at; up = up }) →
    Each P (p + 1) (parts_of (inside at c) 1 (children c)) → Each P p (parts at up c)
each-whole P p at up c own inner =
    subst (Each P p) (sym (parts-is at up c)) (each-more P p (record { tree = c; at = at; up = up }) (parts_of (inside at c) 1 (children c)) own inner)
