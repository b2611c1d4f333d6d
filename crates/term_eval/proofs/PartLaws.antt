-- The parts of a condition: how they lie in its code, and what says what.
use Rattle.std.proofs.Common.{◌≡◌, ℕ, zero, suc, ◌+◌, ◌<◌, ◌≤◌, ◌⊎◌, Bool, true, false, not, List, [], ◌∷◌, ◌++◌, map, length, eqb, leb, ltb, inl, inr, Some, refl, sym, ◌∙◌, ap, subst, arith, add-one, append-nil}
use Rattle.std.specs.List.{slice_get}
use Rattle.std.proofs.lemmas.List.{length-append, map-append}
use Rattle.std.proofs.lemmas.Bool.Decides.{nat_tests}
use Rattle.ecam_spec.specs.Book.{Tree, Trees, constant, discrete, valid, compared, in_phase, alert, press, computer, negation, all, any, at_least, confirmed, held, risen, latched, none, more}
use Rattle.ecam_spec.specs.Term.{World, holds, truths}
use Rattle.ecam_spec.specs.TermSize.{slots, slots_of, nodes, nodes_of, children}
use Rattle.term_eval.specs.declared.code.Step.{Step}
use Rattle.term_eval.specs.Code.{code, codes, step, many}
use Rattle.term_eval.specs.Parts.{Part, parts, parts_of}
use Rattle.term_eval.specs.NodeState.{one_if, own_says, says, said}
use Rattle.term_eval.proofs.Members.{how_many, counted, all_hold, any_holds, length-many}
use Rattle.term_eval.proofs.Inside.{node_at, inside, code-is, nodes-is, slots-is}

-- what holds of a condition wherever it holds of those that stand in it holds of each
module _ (P : Tree → Type 0) (Q : Trees → Type 0) (node : (c : Tree) → Q (children c) → P c) (no : Q none)
    (with_one : (c : Tree) (cs : Trees) → P c → Q cs → Q (more c cs)) where
  mutual
    unfolding children

    pub for-tree : (c : Tree) → P c
    for-tree (constant b) = node (constant b) no
    for-tree (discrete x) = node (discrete x) no
    for-tree (valid x) = node (valid x) no
    for-tree (compared x op n) = node (compared x op n) no
    for-tree (in_phase set) = node (in_phase set) no
    for-tree (alert a) = node (alert a) no
    for-tree (press key) = node (press key) no
    for-tree (computer n) = node (computer n) no
    for-tree (negation c) = node (negation c) (with_one c none (for-tree c) no)
    for-tree (all cs) = node (all cs) (for-trees cs)
    for-tree (any cs) = node (any cs) (for-trees cs)
    for-tree (at_least n cs) = node (at_least n cs) (for-trees cs)
    for-tree (confirmed c n) = node (confirmed c n) (with_one c none (for-tree c) no)
    for-tree (held c n) = node (held c n) (with_one c none (for-tree c) no)
    for-tree (risen c) = node (risen c) (with_one c none (for-tree c) no)
    for-tree (latched s r) = node (latched s r) (with_one s (more r none) (for-tree s) (with_one r none (for-tree r) no))

    pub for-trees : (cs : Trees) → Q cs
    for-trees none = no
    for-trees (more c cs) = with_one c cs (for-tree c) (for-trees cs)

abbrev pub step_of : Part → Step
step_of x = step (node_at x.at x.tree) x.up

-- parts are a node's own, and those of its children
pub parts-is : (at up : ℕ) (c : Tree) → parts at up c ≡ record { tree = c; at = at; up = up } ∷ parts_of (inside at c) 1 (children c)
unfolding parts children
parts-is at up (constant b) = refl
parts-is at up (discrete x) = refl
parts-is at up (valid x) = refl
parts-is at up (compared x op n) = refl
parts-is at up (in_phase set) = refl
parts-is at up (alert a) = refl
parts-is at up (press key) = refl
parts-is at up (computer n) = refl
parts-is at up (negation c) = ap (λ l. record { tree = negation c; at = at; up = up } ∷ l) (sym (append-nil (parts at 1 c)))
parts-is at up (all cs) = refl
parts-is at up (any cs) = refl
parts-is at up (at_least n cs) = refl
parts-is at up (confirmed c n) = ap (λ l. record { tree = confirmed c n; at = at; up = up } ∷ l) (sym (append-nil (parts (at + 1) 1 c)))
parts-is at up (held c n) = ap (λ l. record { tree = held c n; at = at; up = up } ∷ l) (sym (append-nil (parts (at + 1) 1 c)))
parts-is at up (risen c) = ap (λ l. record { tree = risen c; at = at; up = up } ∷ l) (sym (append-nil (parts (at + 1) 1 c)))
parts-is at up (latched s r) =
    ap (λ l. record { tree = latched s r; at = at; up = up } ∷ (parts (at + 1) 1 s ++ l)) (sym (append-nil (parts (at + 1 + slots s) (1 + nodes s) r)))

-- ---- there is one for each node

CountsOf : Trees → Type 0
CountsOf cs = (at up : ℕ) → length (parts_of at up cs) ≡ nodes_of cs

Counts : Tree → Type 0
Counts c = (at up : ℕ) → length (parts at up c) ≡ nodes c

count-node : (c : Tree) → CountsOf (children c) → Counts c
unfolding Counts CountsOf
count-node c inner at up = ap length (parts-is at up c) ∙ ap suc (inner (inside at c) 1) ∙ sym (add-one (nodes_of (children c))) ∙ sym (nodes-is c)

count-none : CountsOf none
unfolding CountsOf parts nodes
count-none at up = refl

count-more : (c : Tree) (cs : Trees) → Counts c → CountsOf cs → CountsOf (more c cs)
unfolding Counts CountsOf parts nodes
count-more c cs one rest at up =
    length-append (parts at up c) (parts_of (at + slots c) (up + nodes c) cs)
    ∙ ap (λ n. n + length (parts_of (at + slots c) (up + nodes c) cs)) (one at up)
    ∙ ap (λ n. nodes c + n) (rest (at + slots c) (up + nodes c))

pub parts-count : (at up : ℕ) (c : Tree) → length (parts at up c) ≡ nodes c
unfolding Counts
parts-count at up c = for-tree Counts CountsOf count-node count-none count-more c at up

-- ---- the code is made of them

CodesOf : Trees → Type 0
CodesOf cs = (at up : ℕ) → codes at up cs ≡ map step_of (parts_of at up cs)

Codes : Tree → Type 0
Codes c = (at up : ℕ) → code at up c ≡ map step_of (parts at up c)

code-node : (c : Tree) → CodesOf (children c) → Codes c
unfolding Codes CodesOf
code-node c inner at up = code-is at up c ∙ ap (λ l. step (node_at at c) up ∷ l) (inner (inside at c) 1) ∙ sym (ap (map step_of) (parts-is at up c))

code-none : CodesOf none
unfolding CodesOf parts code
code-none at up = refl

code-more : (c : Tree) (cs : Trees) → Codes c → CodesOf cs → CodesOf (more c cs)
unfolding Codes CodesOf parts code
code-more c cs one rest at up =
    ap (λ l. l ++ codes (at + slots c) (up + nodes c) cs) (one at up)
    ∙ ap (λ l. map step_of (parts at up c) ++ l) (rest (at + slots c) (up + nodes c))
    ∙ sym (map-append step_of (parts at up c) (parts_of (at + slots c) (up + nodes c) cs))

pub parts-code : (at up : ℕ) (c : Tree) → code at up c ≡ map step_of (parts at up c)
unfolding Codes
parts-code at up c = for-tree Codes CodesOf code-node code-none code-more c at up

-- ---- how they lie

-- an element of two lists one behind the other is one of the first or of the second
pub get-left : {A : Type 0} (xs ys : List A) (i : ℕ) → i < length xs → slice_get (xs ++ ys) i ≡ slice_get xs i
get-left [] ys i h = absurd (let w : ⊥ = omega arith in w)
get-left (x ∷ xs) ys zero h = refl
get-left (x ∷ xs) ys (suc i) h = get-left xs ys i (omega arith)

pub get-right : {A : Type 0} (xs ys : List A) (i : ℕ) → slice_get (xs ++ ys) (length xs + i) ≡ slice_get ys i
get-right [] ys i = ap (slice_get ys) (omega arith)
get-right (x ∷ xs) ys i = ap (slice_get (x ∷ (xs ++ ys))) (let e : length (x ∷ xs) + i ≡ suc (length xs + i) = omega arith in e) ∙ get-right xs ys i

-- either before a place, or so far behind
pub split : (i n : ℕ) → (i < n) ⊎ ((k : ℕ) × (i ≡ n + k))
split i zero = inr (i, omega arith)
split zero (suc n) = inl (omega arith)
split (suc i) (suc n) = elim (split i n) [ inl h ↦ inl (omega arith) | inr h ↦ inr (h.0, (let e : suc i ≡ suc n + h.0 = omega (arith, h.1) in e)) ]

-- what a part keeps of the whole in which it stands
record Lies (xs : List Part) (i : ℕ) (x : Part) (at n end : ℕ) : Type 0 where
  ends : i + nodes x.tree ≤ n
  low : at ≤ x.at
  high : x.at + slots x.tree ≤ end
  inner : (j : ℕ) → j < nodes x.tree → slice_get xs (i + j) ≡ slice_get (parts x.at x.up x.tree) j

LiesOf : Trees → Type 0
LiesOf cs = (at up i : ℕ) (x : Part) → slice_get (parts_of at up cs) i ≡ Some x → Lies (parts_of at up cs) i x at (nodes_of cs) (at + slots_of cs)

LiesIn : Tree → Type 0
LiesIn c = (at up i : ℕ) (x : Part) → slice_get (parts at up c) i ≡ Some x → Lies (parts at up c) i x at (nodes c) (at + slots c)

pub low-inside : (at : ℕ) (c : Tree) → at ≤ inside at c
low-inside at (constant b) = omega arith
low-inside at (discrete x) = omega arith
low-inside at (valid x) = omega arith
low-inside at (compared x op n) = omega arith
low-inside at (in_phase set) = omega arith
low-inside at (alert a) = omega arith
low-inside at (press key) = omega arith
low-inside at (computer n) = omega arith
low-inside at (negation c) = omega arith
low-inside at (all cs) = omega arith
low-inside at (any cs) = omega arith
low-inside at (at_least n cs) = omega arith
low-inside at (confirmed c n) = omega arith
low-inside at (held c n) = omega arith
low-inside at (risen c) = omega arith
low-inside at (latched s r) = omega arith

lies-own : (at up : ℕ) (c : Tree) (x : Part) → record { tree = c; at = at; up = up } ≡ x → Lies (parts at up c) 0 x at (nodes c) (at + slots c)
lies-own at up c x is = subst (λ y. Lies (parts at up c) 0 y at (nodes c) (at + slots c)) is (record {
  ends = omega arith;
  low = omega arith;
  high = omega arith;
  inner = λ j lt. ap (slice_get (parts at up c)) (omega arith);
})

lies-node : (c : Tree) → LiesOf (children c) → LiesIn c
unfolding LiesOf LiesIn
lies-node c inner at up zero x is =
    let own : Some (record { tree = c; at = at; up = up }) ≡ Some x = sym (ap (λ l. slice_get l 0) (parts-is at up c)) ∙ is in
    lies-own at up c x (cc)
lies-node c inner at up (suc i) x is =
    let below : slice_get (parts_of (inside at c) 1 (children c)) i ≡ Some x = sym (ap (λ l. slice_get l (suc i)) (parts-is at up c)) ∙ is in
    let lies = inner (inside at c) 1 i x below in
    let size = nodes-is c in
    let room = slots-is at c in
    let from = low-inside at c in
    record {
      ends = (let e : suc i + nodes x.tree ≤ nodes c = omega (arith, lies.ends) in e);
      low = (let e : at ≤ x.at = omega (arith, lies.low) in e);
      high = (let e : x.at + slots x.tree ≤ at + slots c = omega (arith, lies.high) in e);
      inner = λ j lt.
          ap (λ l. slice_get l (suc i + j)) (parts-is at up c)
          ∙ ap (slice_get (record { tree = c; at = at; up = up } ∷ parts_of (inside at c) 1 (children c))) (let e : suc i + j ≡ suc (i + j) = omega arith in e)
          ∙ lies.inner j lt;
    }

lies-none : LiesOf none
unfolding LiesOf parts
lies-none at up i x is = absurd (let w : ⊥ = cc in w)

lies-more : (c : Tree) (cs : Trees) → LiesIn c → LiesOf cs → LiesOf (more c cs)
unfolding LiesOf LiesIn parts nodes slots
lies-more c cs one rest at up i x is =
    let xs = parts at up c in
    let ys = parts_of (at + slots c) (up + nodes c) cs in
    let size : length xs ≡ nodes c = parts-count at up c in
    elim (split i (length xs)) [
      | inl h ↦
          (let lies = one at up i x (sym (get-left xs ys i h) ∙ is) in
          record {
            ends = (let e : i + nodes x.tree ≤ nodes c + nodes_of cs = omega (arith, lies.ends) in e);
            low = lies.low;
            high = (let e : x.at + slots x.tree ≤ at + (slots c + slots_of cs) = omega (arith, lies.high) in e);
            inner = λ j lt. get-left xs ys (i + j) (omega (arith, lies.ends)) ∙ lies.inner j lt;
          })
      | inr h ↦
          (let lies = rest (at + slots c) (up + nodes c) h.0 x (sym (get-right xs ys h.0) ∙ ap (slice_get (xs ++ ys)) (sym h.1) ∙ is) in
          record {
            ends = (let e : i + nodes x.tree ≤ nodes c + nodes_of cs = omega (arith, lies.ends, h.1) in e);
            low = (let e : at ≤ x.at = omega (arith, lies.low) in e);
            high = (let e : x.at + slots x.tree ≤ at + (slots c + slots_of cs) = omega (arith, lies.high) in e);
            inner = λ j lt.
                ap (slice_get (xs ++ ys)) (let e : i + j ≡ length xs + (h.0 + j) = omega (arith, h.1) in e) ∙ get-right xs ys (h.0 + j)
                ∙ lies.inner j lt;
          })
    ]

lies : (c : Tree) → LiesIn c
lies c = for-tree LiesIn LiesOf lies-node lies-none lies-more c

-- the parts of a part lie one behind another in those of the whole
pub parts-inner : (at up : ℕ) (c : Tree) (i : ℕ) (x : Part) → slice_get (parts at up c) i ≡ Some x → (j : ℕ) → j < nodes x.tree
    → slice_get (parts at up c) (i + j) ≡ slice_get (parts x.at x.up x.tree) j
unfolding LiesIn
parts-inner at up c i x is j lt = (lies c at up i x is).inner j lt

-- and end within it
pub parts-ends : (at up : ℕ) (c : Tree) (i : ℕ) (x : Part) → slice_get (parts at up c) i ≡ Some x → i + nodes x.tree ≤ nodes c
unfolding LiesIn
parts-ends at up c i x is = (lies c at up i x is).ends

pub slots-within : (at up : ℕ) (c : Tree) (i : ℕ) (x : Part) → slice_get (parts at up c) i ≡ Some x → (at ≤ x.at) × (x.at + slots x.tree ≤ at + slots c)
unfolding LiesIn
slots-within at up c i x is = let l = lies c at up i x is in (l.low, l.high)

pub slots-within_of : (at up : ℕ) (cs : Trees) (i : ℕ) (x : Part) → slice_get (parts_of at up cs) i ≡ Some x →
    (at ≤ x.at) × (x.at + slots x.tree ≤ at + slots_of cs)
unfolding LiesOf
slots-within_of at up cs i x is = let l = for-trees LiesIn LiesOf lies-node lies-none lies-more cs at up i x is in (l.low, l.high)

-- ---- what nodes say

-- what a node says by whether it was updated, and how many of its children say that they hold
abbrev pub spoken : World → ℕ → Bool → Tree → ℕ → Bool
spoken w h was_updated (constant b) count = own_says w h was_updated (constant b)
spoken w h was_updated (discrete x) count = own_says w h was_updated (discrete x)
spoken w h was_updated (valid x) count = own_says w h was_updated (valid x)
spoken w h was_updated (compared x op n) count = own_says w h was_updated (compared x op n)
spoken w h was_updated (in_phase set) count = own_says w h was_updated (in_phase set)
spoken w h was_updated (alert a) count = own_says w h was_updated (alert a)
spoken w h was_updated (press key) count = own_says w h was_updated (press key)
spoken w h was_updated (computer n) count = own_says w h was_updated (computer n)
spoken w h was_updated (negation c) count = eqb count 0
spoken w h was_updated (all cs) count = eqb count (many cs)
spoken w h was_updated (any cs) count = ltb 0 count
spoken w h was_updated (at_least n cs) count = leb n count
spoken w h was_updated (confirmed c n) count = own_says w h was_updated (confirmed c n)
spoken w h was_updated (held c n) count = own_says w h was_updated (held c n)
spoken w h was_updated (risen c) count = own_says w h was_updated (risen c)
spoken w h was_updated (latched s r) count = own_says w h was_updated (latched s r)

pub says-is : (w : World) (h : ℕ) (updated : ℕ → Bool) (c : Tree) (p : ℕ) → says w h updated c p ≡ spoken w h (updated p) c (said w h updated (children c) (p + 1))
unfolding says children
says-is w h updated (constant b) p = refl
says-is w h updated (discrete x) p = refl
says-is w h updated (valid x) p = refl
says-is w h updated (compared x op n) p = refl
says-is w h updated (in_phase set) p = refl
says-is w h updated (alert a) p = refl
says-is w h updated (press key) p = refl
says-is w h updated (computer n) p = refl
says-is w h updated (negation c) p = ap (λ n. eqb n 0) (let e : one_if (says w h updated c (p + 1)) ≡ one_if (says w h updated c (p + 1)) + 0 = omega arith in e)
says-is w h updated (all cs) p = refl
says-is w h updated (any cs) p = refl
says-is w h updated (at_least n cs) p = refl
says-is w h updated (confirmed c n) p = refl
says-is w h updated (held c n) p = refl
says-is w h updated (risen c) p = refl
says-is w h updated (latched s r) p = refl

-- ---- what a condition says rests on which of its own nodes have been updated

module _ (w : World) (h : ℕ) (old new : ℕ → Bool) where
  ByOf : Trees → Type 0
  ByOf cs = (p : ℕ) → ((i : ℕ) → p ≤ i → i < p + nodes_of cs → new i ≡ old i) → said w h new cs p ≡ said w h old cs p

  By : Tree → Type 0
  By c = (p : ℕ) → ((i : ℕ) → p ≤ i → i < p + nodes c → new i ≡ old i) → says w h new c p ≡ says w h old c p

  by-node : (c : Tree) → ByOf (children c) → By c
  unfolding ByOf By
  by-node c inner p same =
      let size = nodes-is c in
      says-is w h new c p
      ∙ ap (λ b. spoken w h b c (said w h new (children c) (p + 1))) (same p (omega arith) (omega arith))
      ∙ ap (λ n. spoken w h (old p) c n) (inner (p + 1) (λ i low high. same i (omega arith) (omega arith)))
      ∙ sym (says-is w h old c p)

  by-none : ByOf none
  unfolding ByOf said
  by-none p same = refl

  by-more : (c : Tree) (cs : Trees) → By c → ByOf cs → ByOf (more c cs)
  unfolding ByOf By said nodes
  by-more c cs one rest p same =
      ap (λ b. one_if b + said w h new cs (p + nodes c)) (one p (λ i low high. same i low (omega arith)))
      ∙ ap (λ n. one_if (says w h old c p) + n) (rest (p + nodes c) (λ i low high. same i (omega arith) (omega arith)))

  by-tree : (c : Tree) → By c
  by-tree c = for-tree By ByOf by-node by-none by-more c

  by-trees : (cs : Trees) → ByOf cs
  by-trees cs = for-trees By ByOf by-node by-none by-more cs

pub says-by : (w : World) (h : ℕ) (old new : ℕ → Bool) (c : Tree) (p : ℕ) → ((i : ℕ) → p ≤ i → i < p + nodes c → new i ≡ old i) → says w h new c p ≡ says w h old c p
unfolding By
says-by w h old new c p same = by-tree w h old new c p same

pub said-by : (w : World) (h : ℕ) (old new : ℕ → Bool) (cs : Trees) (p : ℕ) → ((i : ℕ) → p ≤ i → i < p + nodes_of cs → new i ≡ old i) → said w h new cs p ≡ said w h old cs p
unfolding ByOf
said-by w h old new cs p same = by-trees w h old new cs p same

-- ---- where none was updated it says what it said, and where all were what it holds

none-hold : (b : Bool) → eqb (one_if b + 0) 0 ≡ not b
none-hold true = grind (arith, nat_tests)
none-hold false = grind (arith, nat_tests)

-- a node that goes by its children as they hold in a moment holds in it
spoken-then : (w : World) (h k : ℕ) (was_updated : Bool) (c : Tree) → ((d : Tree) → own_says w h was_updated d ≡ holds w d k) →
    spoken w h was_updated c (how_many (truths w (children c) k)) ≡ holds w c k
unfolding holds children
spoken-then w h k was_updated (constant b) own = own (constant b)
spoken-then w h k was_updated (discrete x) own = own (discrete x)
spoken-then w h k was_updated (valid x) own = own (valid x)
spoken-then w h k was_updated (compared x op n) own = own (compared x op n)
spoken-then w h k was_updated (in_phase set) own = own (in_phase set)
spoken-then w h k was_updated (alert a) own = own (alert a)
spoken-then w h k was_updated (press key) own = own (press key)
spoken-then w h k was_updated (computer n) own = own (computer n)
spoken-then w h k was_updated (negation c) own = ap (λ n. eqb n 0) (counted (holds w c k) []) ∙ none-hold (holds w c k)
spoken-then w h k was_updated (all cs) own = ap (λ n. eqb (how_many (truths w cs k)) n) (sym (length-many w cs k)) ∙ all_hold (truths w cs k)
spoken-then w h k was_updated (any cs) own = any_holds (truths w cs k)
spoken-then w h k was_updated (at_least n cs) own = refl
spoken-then w h k was_updated (confirmed c n) own = own (confirmed c n)
spoken-then w h k was_updated (held c n) own = own (held c n)
spoken-then w h k was_updated (risen c) own = own (risen c)
spoken-then w h k was_updated (latched s r) own = own (latched s r)

module _ (w : World) (h k : ℕ) (was_updated : Bool) (own : (d : Tree) → own_says w h was_updated d ≡ holds w d k) (updated : ℕ → Bool) where
  ThenOf : Trees → Type 0
  ThenOf cs = (p : ℕ) → ((i : ℕ) → p ≤ i → i < p + nodes_of cs → updated i ≡ was_updated) → said w h updated cs p ≡ how_many (truths w cs k)

  Then : Tree → Type 0
  Then c = (p : ℕ) → ((i : ℕ) → p ≤ i → i < p + nodes c → updated i ≡ was_updated) → says w h updated c p ≡ holds w c k

  then-node : (c : Tree) → ThenOf (children c) → Then c
  unfolding ThenOf Then
  then-node c inner p same =
      let size = nodes-is c in
      says-is w h updated c p
      ∙ ap (λ b. spoken w h b c (said w h updated (children c) (p + 1))) (same p (omega arith) (omega arith))
      ∙ ap (λ n. spoken w h was_updated c n) (inner (p + 1) (λ i low high. same i (omega arith) (omega arith)))
      ∙ spoken-then w h k was_updated c own

  then-none : ThenOf none
  unfolding ThenOf said holds
  then-none p same = refl

  then-more : (c : Tree) (cs : Trees) → Then c → ThenOf cs → ThenOf (more c cs)
  unfolding ThenOf Then said nodes holds
  then-more c cs one rest p same =
      ap (λ b. one_if b + said w h updated cs (p + nodes c)) (one p (λ i low high. same i low (omega arith)))
      ∙ ap (λ n. one_if (holds w c k) + n) (rest (p + nodes c) (λ i low high. same i (omega arith) (omega arith)))
      ∙ sym (counted (holds w c k) (truths w cs k))

  then-tree : (c : Tree) → Then c
  then-tree c = for-tree Then ThenOf then-node then-none then-more c

  then-trees : (cs : Trees) → ThenOf cs
  then-trees cs = for-trees Then ThenOf then-node then-none then-more cs

pub says-before : (w : World) (h : ℕ) (updated : ℕ → Bool) (c : Tree) (p : ℕ) → ((i : ℕ) → p ≤ i → i < p + nodes c → updated i ≡ false) → says w h updated c p ≡ holds w c h
unfolding Then
says-before w h updated c p unasked = then-tree w h h false (λ d. refl) updated c p unasked

pub says-after : (w : World) (h : ℕ) (updated : ℕ → Bool) (c : Tree) (p : ℕ) → ((i : ℕ) → p ≤ i → i < p + nodes c → updated i ≡ true) → says w h updated c p ≡ holds w c (suc h)
unfolding Then
says-after w h updated c p each = then-tree w h (suc h) true (λ d. refl) updated c p each

pub said-before : (w : World) (h : ℕ) (updated : ℕ → Bool) (cs : Trees) (p : ℕ) → ((i : ℕ) → p ≤ i → i < p + nodes_of cs → updated i ≡ false) →
    said w h updated cs p ≡ how_many (truths w cs h)
unfolding ThenOf
said-before w h updated cs p unasked = then-trees w h h false (λ d. refl) updated cs p unasked

pub said-after : (w : World) (h : ℕ) (updated : ℕ → Bool) (cs : Trees) (p : ℕ) → ((i : ℕ) → p ≤ i → i < p + nodes_of cs → updated i ≡ true) →
    said w h updated cs p ≡ how_many (truths w cs (suc h))
unfolding ThenOf
said-after w h updated cs p each = then-trees w h (suc h) true (λ d. refl) updated cs p each
