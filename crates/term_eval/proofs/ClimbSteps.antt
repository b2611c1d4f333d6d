-- One step of a climb, by what it comes to.
use Rattle.std.proofs.Common.{◌≡◌, ◌≢◌, ℕ, suc, ◌+◌, ◌-◌, ◌<◌, ◌^◌, Bool, true, false, not, List, Err, refl, ap, arith}
use Rattle.std.proofs.Math.Bool.{beq}
use Rattle.std.specs.Prelude.{slice_set}
use Rattle.term_eval.specs.declared.nodes.NodeState.{NodeState}
use Rattle.term_eval.specs.declared.link.Link.{Link}
use Rattle.term_eval.specs.declared.link.Gate.{Gate}
use Rattle.term_eval.specs.declared.link.Gate.TheVariants.{AtLeast, Fewer, Temporal, Top}
use Rattle.term_eval.specs.Climb.{climb, count_with, gate_says, is_top, go_on, link_at, told_as, counted}
use Rattle.term_eval.specs.NodeState.{state_at, one_if}
use Rattle.term_eval.specs.Woken.{differ}

-- the states once node i said so, and once the node above counted it
abbrev pub told_in : ℕ → ℕ → Bool → List NodeState → List NodeState
told_in first i holds states = slice_set states (first + i) (told_as holds (state_at states (first + i)))

abbrev pub counted_in : ℕ → ℕ → ℕ → Bool → List NodeState → List NodeState
counted_in first i above holds states =
    let own = told_in first i holds states in
    slice_set own (first + above) (counted (count_with (state_at own (first + above)).count holds) (state_at own (first + above)))

pub climb-same : (n : ℕ) (links : List Link) (first i : ℕ) (holds : Bool) (states : List NodeState) (wakes : List ℕ) →
    differ (state_at states (first + i)).told holds ≡ false →
    climb (suc n) links first i holds states wakes ≡ record { states = states; wakes = wakes; stirs = false }
unfolding climb
climb-same n links first i holds states wakes same = rw same refl

pub climb-first : (n : ℕ) (links : List Link) (first i : ℕ) (holds : Bool) (states : List NodeState) (wakes : List ℕ) →
    differ (state_at states (first + i)).told holds ≡ true → is_top (link_at links i).gate ≡ true →
    climb (suc n) links first i holds states wakes ≡ record { states = told_in first i holds states; wakes = wakes; stirs = true }
unfolding climb
climb-first n links first i holds states wakes turns top = rw turns (rw top refl)

pub climb-above : (n : ℕ) (links : List Link) (first i above : ℕ) (holds : Bool) (states : List NodeState) (wakes : List ℕ) →
    differ (state_at states (first + i)).told holds ≡ true → is_top (link_at links i).gate ≡ false →
    (link_at links i).up + above ≡ i →
    climb (suc n) links first i holds states wakes
    ≡ go_on (gate_says (link_at links i).gate (link_at links i).number
    (count_with (state_at (told_in first i holds states) (first + above)).count holds))
    (λ says. climb n links first above says (counted_in first i above holds states) wakes)
    (λ slot. record { states = counted_in first i above holds states; wakes = slice_set wakes slot 0; stirs = true })
unfolding climb
climb-above n links first i above holds states wakes turns below up =
    let is : i - (link_at links i).up ≡ above = omega arith in
    rw turns (rw below (rw is refl))

-- one child more or less is counted, while there are few
pub counts-one : (before now : Bool) (old new : ℕ) → differ before now ≡ true → new + one_if before ≡ old + one_if now → new < 2 ^ 8 → count_with old now ≡ new
counts-one true true old new turns is few = absurd (let e : ⊥ = cc in e)
counts-one false false old new turns is few = absurd (let e : ⊥ = cc in e)
counts-one true false old new turns is few = omega arith
counts-one false true old new turns is few = omega arith

pub same-truth : (before now : Bool) → differ before now ≡ false → before ≡ now
same-truth true true same = refl
same-truth false false same = refl
same-truth true false same = absurd (let e : ⊥ = cc in e)
same-truth false true same = absurd (let e : ⊥ = cc in e)

pub turns-by : (told holds same : Bool) → beq told holds ≡ same → differ told holds ≡ not same
turns-by true true same is = ap not is
turns-by true false same is = ap not is
turns-by false true same is = ap not is
turns-by false false same is = ap not is

-- where a climb stops, a temporal node has the slot
pub stops-at : (gate : Gate) (number count slot : ℕ) → gate_says gate number count ≡ Err slot → (gate ≡ Temporal) × (number ≡ slot)
stops-at AtLeast number count slot is = absurd (let f : ⊥ = cc in f)
stops-at Fewer number count slot is = absurd (let f : ⊥ = cc in f)
stops-at Top number count slot is = absurd (let f : ⊥ = cc in f)
stops-at Temporal number count slot is = (refl, (cc))

-- what is no first node has one above
pub no-top : (gate : Gate) → gate ≢ Top → is_top gate ≡ false
no-top AtLeast some = refl
no-top Fewer some = refl
no-top Temporal some = refl
no-top Top some = absurd (some refl)

pub has-top : (gate : Gate) → is_top gate ≡ false → gate ≢ Top
has-top AtLeast some e = (let f : ⊥ = cc in f)
has-top Fewer some e = (let f : ⊥ = cc in f)
has-top Temporal some e = (let f : ⊥ = cc in f)
has-top Top some e = (let f : ⊥ = cc in f)
