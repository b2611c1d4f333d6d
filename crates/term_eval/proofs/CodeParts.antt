-- The steps of a condition's code by its parts: what stands where.
use Rattle.std.proofs.Common.{◌≡◌, ℕ, zero, suc, ◌+◌, ◌<◌, ◌≤◌, true, List, ◌++◌, length, inl, inr, Some, get_or, refl, sym, ◌∙◌, ap, arith}
use Rattle.std.specs.Option.{option_map}
use Rattle.std.specs.List.{slice_get}
use Rattle.std.proofs.lemmas.Option.{slice_get-map, slice_get-get_or, slice_get_within, get_or_from_slice_get, same_Some}
use Rattle.ecam_spec.specs.Book.{Tree, Trees, none, more}
use Rattle.ecam_spec.specs.TermSize.{nodes, slots, children}
use Rattle.term_eval.specs.declared.code.Step.{Step}
use Rattle.term_eval.specs.Code.{IsCode}
use Rattle.term_eval.specs.Climb.{step_at}
use Rattle.term_eval.specs.Parts.{Part, parts, parts_of, Heads, is_temporal}
use Rattle.term_eval.proofs.Inside.{inside}
use Rattle.term_eval.proofs.PartLaws.{step_of, for-tree, parts-is, parts-count, parts-code, get-left, get-right, split, slots-within, slots-within_of}
use Rattle.term_eval.proofs.Codes.{length-code}
use Rattle.term_eval.proofs.NodeKinds.{own-slot, own-inside}

-- each node heads a part
pub heads-one : (c : Tree) (at j : ℕ) → j < nodes c → (y : Part) × Heads c at j y
heads-one c at j within =
    let size = parts-count at 0 c in
    let none_there : Part = record { tree = c; at = 0; up = 0 } in
    (get_or (parts at 0 c) j none_there, slice_get-get_or (parts at 0 c) j none_there (omega arith))

pub heads-within : (c : Tree) (at j : ℕ) (y : Part) → Heads c at j y → j < nodes c
heads-within c at j y heads =
    let size = parts-count at 0 c in
    let within = slice_get_within (parts at 0 c) j y heads in
    omega arith

pub heads-step : (c : Tree) (at : ℕ) (steps : List Step) → IsCode c at steps → (j : ℕ) (y : Part) → Heads c at j y → slice_get steps j ≡ Some (step_of y)
heads-step c at steps is j y heads =
    ap (λ l. slice_get l j) (is.is ∙ parts-code at 0 c) ∙ slice_get-map step_of (parts at 0 c) j ∙ ap (option_map step_of) heads

pub heads-node : (c : Tree) (at : ℕ) (steps : List Step) → IsCode c at steps → (j : ℕ) (y : Part) → Heads c at j y → step_at steps j ≡ step_of y
heads-node c at steps is j y heads = get_or_from_slice_get steps j (step_of y) _ (heads-step c at steps is j y heads)

-- the slots of temporal nodes rise with their numbers
RiseOf : Trees → Type 0
RiseOf cs = (at up j k : ℕ) (y x : Part) → slice_get (parts_of at up cs) j ≡ Some y → slice_get (parts_of at up cs) k ≡ Some x → j < k → is_temporal y.tree ≡ true → y.at < x.at

RiseIn : Tree → Type 0
RiseIn c = (at up j k : ℕ) (y x : Part) → slice_get (parts at up c) j ≡ Some y → slice_get (parts at up c) k ≡ Some x → j < k → is_temporal y.tree ≡ true → y.at < x.at

rise-node : (c : Tree) → RiseOf (children c) → RiseIn c
unfolding RiseOf RiseIn
rise-node c inner at up j zero y x one other before temporal = absurd (let f : ⊥ = omega arith in f)
rise-node c inner at up zero (suc k) y x one other before temporal =
    let is : record { tree = c; at = at; up = up } ≡ y = same_Some (record { tree = c; at = at; up = up }) y (sym (ap (λ l. slice_get l 0) (parts-is at up c)) ∙ one) in
    let own : is_temporal c ≡ true = ap (λ (z : Part). is_temporal z.tree) is ∙ temporal in
    let from : inside at c ≡ at + 1 = own-inside c at own in
    let place : at ≡ y.at = ap (λ (z : Part). z.at) is in
    let low = slots-within_of (inside at c) 1 (children c) k x (sym (ap (λ l. slice_get l (suc k)) (parts-is at up c)) ∙ other) in
    omega (arith, low.0)
rise-node c inner at up (suc j) (suc k) y x one other before temporal =
    inner (inside at c) 1 j k y x (sym (ap (λ l. slice_get l (suc j)) (parts-is at up c)) ∙ one)
    (sym (ap (λ l. slice_get l (suc k)) (parts-is at up c)) ∙ other) (omega arith) temporal

rise-none : RiseOf none
unfolding RiseOf parts
rise-none at up j k y x one other before temporal = absurd (let f : ⊥ = cc in f)

rise-more : (c : Tree) (cs : Trees) → RiseIn c → RiseOf cs → RiseOf (more c cs)
unfolding RiseOf RiseIn parts
rise-more c cs first rest at up j k y x one other before temporal =
    let xs = parts at up c in
    let ys = parts_of (at + slots c) (up + nodes c) cs in
    elim (split k (length xs)) [
      | inl h ↦ first at up j k y x (sym (get-left xs ys j (omega arith)) ∙ one) (sym (get-left xs ys k h) ∙ other) before temporal
      | inr h ↦
          (let later = sym (get-right xs ys h.0) ∙ ap (slice_get (xs ++ ys)) (sym h.1) ∙ other in
          elim (split j (length xs)) [
            | inl g ↦
                (let high = slots-within at up c j y (sym (get-left xs ys j g) ∙ one) in
                let low = slots-within_of (at + slots c) (up + nodes c) cs h.0 x later in
                let own = own-slot y.tree temporal in
                (let e : y.at < x.at = omega (arith, high.1, low.0) in e))
            | inr g ↦
                rest (at + slots c) (up + nodes c) g.0 h.0 y x (sym (get-right xs ys g.0) ∙ ap (slice_get (xs ++ ys)) (sym g.1) ∙ one) later
                (omega (arith, g.1, h.1)) temporal
          ])
    ]

pub slots-rise : (c : Tree) (at j k : ℕ) (y x : Part) → Heads c at j y → Heads c at k x → j < k → is_temporal y.tree ≡ true → y.at < x.at
unfolding RiseIn
slots-rise c at j k y x one other before temporal = for-tree RiseIn RiseOf rise-node rise-none rise-more c at 0 j k y x one other before temporal

-- no node stands farther behind its parent than the first of all
UpOf : Trees → Type 0
UpOf cs = (at up j : ℕ) (y : Part) → slice_get (parts_of at up cs) j ≡ Some y → y.up ≤ up + j

UpIn : Tree → Type 0
UpIn c = (at up j : ℕ) (y : Part) → slice_get (parts at up c) j ≡ Some y → y.up ≤ up + j

up-node : (c : Tree) → UpOf (children c) → UpIn c
unfolding UpOf UpIn
up-node c inner at up zero y is =
    let own : record { tree = c; at = at; up = up } ≡ y = same_Some (record { tree = c; at = at; up = up }) y (sym (ap (λ l. slice_get l 0) (parts-is at up c)) ∙ is) in
    let place : up ≡ y.up = ap (λ (z : Part). z.up) own in
    omega arith
up-node c inner at up (suc j) y is =
    let far = inner (inside at c) 1 j y (sym (ap (λ l. slice_get l (suc j)) (parts-is at up c)) ∙ is) in
    omega arith

up-none : UpOf none
unfolding UpOf parts
up-none at up j y is = absurd (let f : ⊥ = cc in f)

up-more : (c : Tree) (cs : Trees) → UpIn c → UpOf cs → UpOf (more c cs)
unfolding UpOf UpIn parts
up-more c cs one rest at up j y is =
    let xs = parts at up c in
    let ys = parts_of (at + slots c) (up + nodes c) cs in
    let size = parts-count at up c in
    elim (split j (length xs)) [
      | inl h ↦ one at up j y (sym (get-left xs ys j h) ∙ is)
      | inr h ↦
          (let far = rest (at + slots c) (up + nodes c) h.0 y (sym (get-right xs ys h.0) ∙ ap (slice_get (xs ++ ys)) (sym h.1) ∙ is) in
          (let e : y.up ≤ up + j = omega (arith, h.1) in e))
    ]

pub heads-up : (c : Tree) (at j : ℕ) (y : Part) → Heads c at j y → y.up ≤ j
unfolding UpIn
heads-up c at j y heads = let far = for-tree UpIn UpOf up-node up-none up-more c at 0 j y heads in omega arith

-- each node but the first stands behind another
AloneOf : Trees → Type 0
AloneOf cs = (at up j : ℕ) (y : Part) → 0 < up → slice_get (parts_of at up cs) j ≡ Some y → 0 < y.up

AloneIn : Tree → Type 0
AloneIn c = (at up j : ℕ) (y : Part) → slice_get (parts at up c) (suc j) ≡ Some y → 0 < y.up

alone-node : (c : Tree) → AloneOf (children c) → AloneIn c
unfolding AloneOf AloneIn
alone-node c inner at up j y is = inner (inside at c) 1 j y (omega arith)
    (sym (ap (λ l. slice_get l (suc j)) (parts-is at up c)) ∙ is)

alone-none : AloneOf none
unfolding AloneOf parts
alone-none at up j y some is = absurd (let f : ⊥ = cc in f)

alone-first : (c : Tree) → AloneIn c → (at up j : ℕ) (y : Part) → 0 < up → slice_get (parts at up c) j ≡ Some y → 0 < y.up
unfolding AloneIn
alone-first c one at up zero y some is =
    let own : record { tree = c; at = at; up = up } ≡ y =
    same_Some (record { tree = c; at = at; up = up }) y (sym (ap (λ l. slice_get l 0) (parts-is at up c)) ∙ is) in
    let place : up ≡ y.up = ap (λ (z : Part). z.up) own in
    omega arith
alone-first c one at up (suc j) y some is = one at up j y is

alone-more : (c : Tree) (cs : Trees) → AloneIn c → AloneOf cs → AloneOf (more c cs)
unfolding AloneOf parts
alone-more c cs one rest at up j y some is =
    let xs = parts at up c in
    let ys = parts_of (at + slots c) (up + nodes c) cs in
    elim (split j (length xs)) [
      | inl h ↦ alone-first c one at up j y some (sym (get-left xs ys j h) ∙ is)
      | inr h ↦
          rest (at + slots c) (up + nodes c) h.0 y (omega arith)
          (sym (get-right xs ys h.0) ∙ ap (slice_get (xs ++ ys)) (sym h.1) ∙ is)
    ]

pub heads-alone : (c : Tree) (at j : ℕ) (y : Part) → Heads c at j y → y.up ≡ 0 → j ≡ 0
unfolding AloneIn
heads-alone c at zero y heads top = refl
heads-alone c at (suc j) y heads top =
    let some = for-tree AloneIn AloneOf alone-node alone-none alone-more c at 0 j y heads in
    absurd (let f : ⊥ = omega arith in f)

-- there is a step for each node
pub length-steps : (c : Tree) (at : ℕ) (steps : List Step) → IsCode c at steps → length steps ≡ nodes c
length-steps c at steps is = ap length is.is ∙ length-code c at 0
