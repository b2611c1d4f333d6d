-- What is read of a node where it turns: where the node above it stands, and how that goes by its children.
use Rattle.std.specs.Prelude.{ℕ, ◌-◌, ◌<◌, ◌≤◌, ◌==◌, ◌^◌, List, map, length, if◌then◌else◌}
use Rattle.std.specs.List.{range_with_len}
use Rattle.ecam_spec.specs.Book.{Tree}
use Rattle.term_eval.specs.declared.code.Step.{Step}
use Rattle.term_eval.specs.declared.code.Node.{Node}
use Rattle.term_eval.specs.declared.code.Node.TheVariants as node
use Rattle.term_eval.specs.declared.link.Link.{Link}
use Rattle.term_eval.specs.declared.link.Gate.{Gate}
use Rattle.term_eval.specs.declared.link.Gate.TheVariants.{AtLeast, Fewer, Temporal, Top}
use Rattle.term_eval.specs.Code.{code}
use Rattle.term_eval.specs.Climb.{step_at}

-- how a node goes by its children. An atom has none
abbrev pub gate_of : Node → Gate
gate_of node.Not = Fewer
gate_of (node.Conf n slot) = Temporal
gate_of (node.Hold n slot) = Temporal
gate_of (node.Rise slot) = Temporal
gate_of (node.Latch slot) = Temporal
gate_of _ = AtLeast

-- how many of its children it asks for, or its slot
abbrev pub number_of : Node → ℕ
number_of (node.All m) = m
number_of (node.AtLeast n) = n
number_of (node.Conf n slot) = slot
number_of (node.Hold n slot) = slot
number_of (node.Rise slot) = slot
number_of (node.Latch slot) = slot
number_of _ = 1

-- the link of a node that stands so far behind this one, or of one that stands below none
abbrev pub link_below : ℕ → Node → Link
link_below up above =
    if up == 0
    then (record { number = 0; up = 0; gate = Top })
    else (record { number = number_of above; up = up; gate = gate_of above })

-- the link of node i of code
abbrev pub link_from : List Step → ℕ → Link
link_from steps i = link_below (step_at steps i).up (step_at steps (i - (step_at steps i).up)).node

-- those of all its nodes
abbrev pub links_from : List Step → List Link
links_from steps = map (link_from steps) (range_with_len 0 (length steps))

-- the links of a condition's code
abbrev pub links : ℕ → Tree → List Link
links at c = links_from (code at 0 c)

-- what of a node's is wider than in a link: how many children it has, or its slot
abbrev pub narrowed : Node → ℕ
narrowed (node.All m) = m
narrowed (node.Conf n slot) = slot
narrowed (node.Hold n slot) = slot
narrowed (node.Rise slot) = slot
narrowed (node.Latch slot) = slot
narrowed _ = 0

-- node i is one of the code's, the node above it stands within the code, and the numbers are small enough for its link
pub record IsLinkable (steps : List Step) (i : ℕ) : Type 0 where
  pub within : i < length steps
  pub above : (step_at steps i).up ≤ i
  pub up : (step_at steps i).up < 2 ^ 8
  pub number : narrowed (step_at steps (i - (step_at steps i).up)).node < 2 ^ 32
