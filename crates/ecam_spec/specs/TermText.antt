-- What a condition's text means: its tree, or the fault for which it is refused. The language of conditions is
-- this project's own.
use Rattle.std.specs.Prelude.{ℕ, suc, true, false, nat_le, nat_lt, List, [], ◌∷◌, ◌++◌, length, map, fold, slice_get, Option, Some, None, option_map, option_and_then, unwrap_or, is_some, bit_or, ℤ, pos, neg_ℤ}
use Rattle.std.specs.List.{flat_map}
use Rattle.std.specs.Option.{option_or}
use Rattle.ecam_spec.specs.declared.limits.TheConstants.{NAME, TERM_DEPTH, TERM_NODES, NUMBER, WAIT}
use Rattle.ecam_spec.specs.declared.terms.Span.{Span}
use Rattle.ecam_spec.specs.Bytes.{place_of}
use Rattle.ecam_spec.specs.Book.{Text, Tree, Trees, NamedTerm, constant, discrete, valid, compared, in_phase, alert, press, computer, negation, all, any, at_least, confirmed, held, risen, latched, none, more}
use Rattle.ecam_spec.specs.TermSize.{nodes, depth}
use Rattle.ecam_spec.specs.Token.{bytes_of}
use Rattle.ecam_spec.specs.Grammar.{Form, Forms, truth, name_of, compare_of, valid_of, phase_of, alert_of, press_of, fwc_of, not_of, rise_of, all_of, any_of, at_least_of, conf_of, hold_of, latch_of, no_more, and_then, how_many}
use Rattle.ecam_spec.specs.TermNumber.{magnitude, value, is_within, one_phase}

-- the names that a text may use
pub record TermNames : Type 0 where
  pub parameters : List Text
  pub alerts : List Text
  pub terms : List NamedTerm

-- where a name stands in a list, first; one that is longer than a name may be is unknown
unfoldable pub name_place : List Text → Text → Option ℕ
name_place names name = elim (nat_le (length name) NAME) [ true ↦ place_of names name | false ↦ None ]

-- the tree of the first condition of this name
unfoldable pub tree_named : List NamedTerm → Text → Option Tree
tree_named terms name = option_and_then (slice_get (map (λ t. t.tree) terms)) (name_place (map (λ t. t.name) terms) name)

-- what is wrong with a name or a number, and where
pub data Flaw : Type 0 where
  unknown_name : ℕ → Flaw
  out_of_range : ℕ → Flaw

abbrev pub flaw_place : Flaw → ℕ
flaw_place (unknown_name at) = at
flaw_place (out_of_range at) = at

-- the one that stands first
unfoldable pub earlier : Flaw → Option Flaw → Flaw
earlier a None = a
earlier a (Some b) = elim (nat_le (flaw_place a) (flaw_place b)) [ true ↦ a | false ↦ b ]

abbrev pub earliest : List Flaw → Option Flaw
earliest [] = None
earliest (a ∷ later) = Some (earlier a (earliest later))

-- what a text is answered with
pub data Outcome : Type 0 where
  syntax_error : ℕ → Outcome
  unknown : ℕ → Outcome
  number_error : ℕ → Outcome
  too_deep : Outcome
  too_large : Outcome
  means : Tree → Outcome

module _ (names : TermNames) (text : Text) where
  -- a name's place among the parameters, and among the alerts, or 0
  abbrev pub parameter_of : Span → ℕ
  parameter_of n = unwrap_or (name_place names.parameters (bytes_of text n)) 0

  abbrev pub alert_place : Span → ℕ
  alert_place n = unwrap_or (name_place names.alerts (bytes_of text n)) 0

  -- what a name stands for that is a condition by itself: that the parameter of this name is 1, and where there is
  -- none, the whole condition of this name
  unfoldable pub tree_of_name : Span → Option Tree
  tree_of_name n = option_or (option_map (λ p. discrete p) (name_place names.parameters (bytes_of text n))) (tree_named names.terms (bytes_of text n))

  abbrev pub amount : Span → ℕ
  amount n = magnitude (bytes_of text n)

  -- a name that isn't known
  unfoldable pub name_flaw : List Text → Span → List Flaw
  name_flaw list n = elim (is_some (name_place list (bytes_of text n))) [ true ↦ [] | false ↦ unknown_name n.at ∷ [] ]

  -- a name by itself that stands for nothing
  unfoldable pub lone_flaw : Span → List Flaw
  lone_flaw n = elim (is_some (tree_of_name n)) [ true ↦ [] | false ↦ unknown_name n.at ∷ [] ]

  -- a number that is out of its range
  unfoldable pub number_flaw : ℤ → ℤ → Span → List Flaw
  number_flaw low high n = elim (is_within low high (value (bytes_of text n))) [ true ↦ [] | false ↦ out_of_range n.at ∷ [] ]

  abbrev pub phase_flaw : Span → List Flaw
  phase_flaw n = number_flaw (pos 1) (pos 10) n

  abbrev pub moments_flaw : Span → List Flaw
  moments_flaw n = number_flaw (pos 0) (pos WAIT) n

  abbrev pub compared_flaw : Span → List Flaw
  compared_flaw n = number_flaw (neg_ℤ (pos NUMBER)) (pos NUMBER) n

  -- what is wrong with the names and the numbers of a condition
  unfoldable mutual
    pub flaws : Form → List Flaw
    flaws (truth b) = []
    flaws (name_of n) = lone_flaw n
    flaws (compare_of n op x) = name_flaw names.parameters n ++ compared_flaw x
    flaws (valid_of n) = name_flaw names.parameters n
    flaws (phase_of n ns) = phase_flaw n ++ flat_map phase_flaw ns
    flaws (alert_of n) = name_flaw names.alerts n
    flaws (press_of key) = []
    flaws (fwc_of n) = number_flaw (pos 1) (pos 2) n
    flaws (not_of f) = flaws f
    flaws (rise_of f) = flaws f
    flaws (all_of f fs) = flaws f ++ flaws_of_all fs
    flaws (any_of f fs) = flaws f ++ flaws_of_all fs
    flaws (at_least_of n f fs) = flaws f ++ flaws_of_all fs ++ number_flaw (pos 1) (pos (suc (how_many fs))) n
    flaws (conf_of f n) = flaws f ++ moments_flaw n
    flaws (hold_of f n) = flaws f ++ moments_flaw n
    flaws (latch_of s r) = flaws s ++ flaws r

    pub flaws_of_all : Forms → List Flaw
    flaws_of_all no_more = []
    flaws_of_all (and_then f fs) = flaws f ++ flaws_of_all fs

  -- the condition's tree, where no name and no number is wrong
  unfoldable mutual
    pub tree_of_form : Form → Tree
    tree_of_form (truth b) = constant b
    tree_of_form (name_of n) = unwrap_or (tree_of_name n) (constant false)
    tree_of_form (compare_of n op x) = compared (parameter_of n) op (value (bytes_of text x))
    tree_of_form (valid_of n) = valid (parameter_of n)
    tree_of_form (phase_of n ns) = in_phase (fold (λ set p. bit_or set (one_phase (amount p))) (one_phase (amount n)) ns)
    tree_of_form (alert_of n) = alert (alert_place n)
    tree_of_form (press_of key) = press key
    tree_of_form (fwc_of n) = computer (amount n)
    tree_of_form (not_of f) = negation (tree_of_form f)
    tree_of_form (rise_of f) = risen (tree_of_form f)
    tree_of_form (all_of f fs) = all (more (tree_of_form f) (trees_of_forms fs))
    tree_of_form (any_of f fs) = any (more (tree_of_form f) (trees_of_forms fs))
    tree_of_form (at_least_of n f fs) = at_least (amount n) (more (tree_of_form f) (trees_of_forms fs))
    tree_of_form (conf_of f n) = confirmed (tree_of_form f) (amount n)
    tree_of_form (hold_of f n) = held (tree_of_form f) (amount n)
    tree_of_form (latch_of s r) = latched (tree_of_form s) (tree_of_form r)

    pub trees_of_forms : Forms → Trees
    trees_of_forms no_more = none
    trees_of_forms (and_then f fs) = more (tree_of_form f) (trees_of_forms fs)

  -- the first flaw is told; without one, a tree may be so deep and have so many nodes
  abbrev pub judged_tree : Option Flaw → Tree → Outcome
  judged_tree (Some (unknown_name at)) t = unknown at
  judged_tree (Some (out_of_range at)) t = number_error at
  judged_tree None t =
      elim (nat_lt TERM_DEPTH (depth t)) [
        | true ↦ too_deep
        | false ↦ elim (nat_lt TERM_NODES (nodes t)) [ true ↦ too_large | false ↦ means t ]
      ]

  unfoldable pub judged : Form → Outcome
  judged f = judged_tree (earliest (flaws f)) (tree_of_form f)
