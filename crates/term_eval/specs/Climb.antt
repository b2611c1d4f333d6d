-- How a node that turned is told to those above it.
use Rattle.std.specs.Prelude.{ℕ, zero, suc, ◌+◌, ◌-◌, ◌^◌, ◌<◌, ◌≤◌, ◌%◌, not, nat_le, Bool, true, false, List, length, slice_get, slice_index_or, slice_set, Result, Ok, Err, Some, ◌≡◌, ◌≢◌, if◌then◌else◌}
use Rattle.term_eval.specs.declared.nodes.NodeState.{NodeState}
use Rattle.term_eval.specs.declared.code.Step.{Step}
use Rattle.term_eval.specs.declared.code.Node.TheVariants.{Const}
use Rattle.term_eval.specs.declared.link.Link.{Link}
use Rattle.term_eval.specs.declared.link.Gate.{Gate}
use Rattle.term_eval.specs.declared.link.Gate.TheVariants.{AtLeast, Fewer, Temporal, Top}
use Rattle.term_eval.specs.NodeState.{state_at}
use Rattle.term_eval.specs.Woken.{differ}

-- what is kept of the nodes, and whether a temporal one is to be looked at, or the first turned
pub record Climbed : Type 0 where
  pub states : List NodeState
  pub wakes : List ℕ
  pub stirs : Bool

-- how many children hold where one turned, modulo 256
abbrev pub count_with : ℕ → Bool → ℕ
count_with count holds = (count + (if holds then 1 else 255)) % 2 ^ 8

-- what a gate says that asks for so many, of whose children so many hold; of a temporal node its slot. Where there is no
-- node above, nothing says anything
abbrev pub gate_says : Gate → ℕ → ℕ → Result Bool ℕ
gate_says AtLeast n count = Ok (nat_le n count)
gate_says Fewer n count = Ok (not (nat_le n count))
gate_says Temporal slot count = Err slot
gate_says Top n count = Ok false

-- there is no node above
abbrev pub is_top : Gate → Bool
is_top AtLeast = false
is_top Fewer = false
is_top Temporal = false
is_top Top = true

-- step i, or behind the last one that says nothing
abbrev pub step_at : List Step → ℕ → Step
step_at steps i = slice_index_or steps i (record { node = Const false; up = 0 })

-- link i, or behind the last one that asks for no child
abbrev pub link_at : List Link → ℕ → Link
link_at links i = slice_index_or links i (record { number = 0; up = 0; gate = AtLeast })

-- the node says so from now on
abbrev pub told_as : Bool → NodeState → NodeState
told_as holds s = record { count = s.count; told = holds }

-- so many of its children hold
abbrev pub counted : ℕ → NodeState → NodeState
counted count s = record { count = count; told = s.told }

-- what a gate says is told on, and a temporal node is stopped at
abbrev pub go_on : Result Bool ℕ → (Bool → Climbed) → (ℕ → Climbed) → Climbed
go_on (Ok says) next stop = next says
go_on (Err slot) next stop = stop slot

-- node i of those from a place on says so, and those above it are told, for at most so many of them
unfoldable pub climb : ℕ → List Link → ℕ → ℕ → Bool → List NodeState → List ℕ → Climbed
climb zero links first i holds states wakes = record { states = states; wakes = wakes; stirs = false }
climb (suc n) links first i holds states wakes =
    let own = slice_set states (first + i) (told_as holds (state_at states (first + i))) in
    let link = link_at links i in
    let above = i - link.up in
    let count = count_with (state_at own (first + above)).count holds in
    let after = slice_set own (first + above) (counted count (state_at own (first + above))) in
    if not (differ (state_at states (first + i)).told holds)
    then (record { states = states; wakes = wakes; stirs = false })
    else (if is_top link.gate
    then (record { states = own; wakes = wakes; stirs = true })
    else (go_on (gate_says link.gate link.number count) (λ says. climb n links first above says after wakes)
    (λ slot. record { states = after; wakes = slice_set wakes slot 0; stirs = true })))

-- there is a state for each link, each says how far before it within the code the node above stands, if there is one, and
-- there is each temporal one's slot
pub record CanClimb (links : List Link) (first nodes slots : ℕ) : Type 0 where
  pub room : first + length links ≤ nodes
  pub ups : (i : ℕ) (l : Link) → slice_get links i ≡ Some l → l.up ≤ i
  pub above : (i : ℕ) (l : Link) → slice_get links i ≡ Some l → l.gate ≢ Top → 0 < l.up
  pub held : (i : ℕ) (l : Link) → slice_get links i ≡ Some l → l.gate ≡ Temporal → l.number < slots
