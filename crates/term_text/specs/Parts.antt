-- The conditions that the program has read, and how they stand to the grammar's.
use Rattle.std.specs.Prelude.{◌≡◌, ⊤, ℕ, bit_or, ◌≤◌, ◌-◌, ◌^◌, min, List, [], ◌∷◌, length, reverse, Option, None}
use Rattle.ecam_spec.specs.declared.terms.Span.{Span}
use Rattle.ecam_spec.specs.declared.term_steps.Step.{Step}
use Rattle.ecam_spec.specs.declared.term_steps.Step.TheVariants.{Named}
use Rattle.ecam_spec.specs.declared.limits.TheConstants.{TERM_DEPTH, TERM_NODES}
use Rattle.ecam_spec.specs.Book.{Text, Tree, in_phase}
use Rattle.ecam_spec.specs.Grammar.{Form, Forms, name_of, how_many}
use Rattle.ecam_spec.specs.TermSize.{nodes, nodes_of, depth, depth_of}
use Rattle.ecam_spec.specs.TermText.{TermNames, Flaw, earliest, flaws, flaws_of_all, tree_of_form, trees_of_forms}
use Rattle.ecam_spec.specs.TermNumber.{one_phase}
use Rattle.term_tree.specs.declared.cond.Cond.{Cond}
use Rattle.term_tree.specs.View.{tree_of, trees_of}
use Rattle.term_text.specs.declared.part.Part.{Part}
use Rattle.term_text.specs.declared.members.Members.{Members}
use Rattle.term_text.specs.declared.parts.Parts.{Parts}
use Rattle.term_text.specs.Flaws.{flaw_in}

-- the greatest number of the machine
abbrev pub most : ℕ
most = 2 ^ 64 - 1

-- the measures of a tree, and a condition that is this tree unless that is refused
pub record Measures (wrong : Option Flaw) (deep large : ℕ) (c : Cond) (tree : Tree) : Type 0 where
  pub depth_is : deep ≡ min (depth tree) most
  pub size_is : large ≡ min (nodes tree) most
  pub tree_is : wrong ≡ None → depth tree ≤ TERM_DEPTH → nodes tree ≤ TERM_NODES → tree_of c ≡ tree

-- what is kept of a condition: what is wrong first with its names and numbers, and its tree
pub record Judges (p : Part) (wrong : Option Flaw) (tree : Tree) : Type 0 where
  pub wrong_is : flaw_in p.flaw ≡ wrong
  pub tree_is : Measures wrong p.depth p.size p.cond tree

-- the last name by itself, after a step
abbrev pub last_name : Step → Span → Span
last_name (Named n) before = n
last_name _ before = before

-- where the condition that was read last is a name by itself, it is this name
abbrev pub IsLastName : Span → List Form → Type 0
IsLastName name (name_of n ∷ older) = name ≡ n
IsLastName name _ = ⊤

-- one more phase
abbrev pub with_phase : ℕ → Tree → Tree
with_phase p (in_phase set) = in_phase (bit_or set (one_phase p))
with_phase p t = t

module _ (names : TermNames) (text : Text) where
  -- what is kept of a condition is that of a form
  abbrev pub JudgesForm : Part → Form → Type 0
  JudgesForm p f = Judges p (earliest (flaws names text f)) (tree_of_form names text f)

  -- conditions stand for forms, one for one
  abbrev pub StandFor : List Part → List Form → Type 0
  StandFor [] [] = ⊤
  StandFor (p ∷ ps) (f ∷ fs) = JudgesForm p f × StandFor ps fs
  StandFor _ _ = ⊥

  -- what is kept of the conditions of a list is that of some forms
  pub record JudgesForms (m : Members) (fs : Forms) : Type 0 where
    pub wrong_is : flaw_in m.flaw ≡ earliest (flaws_of_all names text fs)
    pub depth_is : m.depth ≡ min (depth_of (trees_of_forms names text fs)) most
    pub size_is : m.size ≡ min (nodes_of (trees_of_forms names text fs)) most
    pub count_is : length m.conds.items ≡ how_many fs
    pub trees_is : earliest (flaws_of_all names text fs) ≡ None → depth_of (trees_of_forms names text fs) ≤ TERM_DEPTH → nodes_of (trees_of_forms names text fs) ≤ TERM_NODES
        → trees_of (reverse m.conds.items) ≡ trees_of_forms names text fs

-- the conditions that were read, the last first
abbrev pub parts : Parts → List Part
parts p = reverse p.stack.items
