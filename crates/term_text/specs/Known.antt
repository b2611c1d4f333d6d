-- The names that a condition's text may use, as the definitions see them.
use Rattle.std.specs.Prelude.{List, map, find, Option, option_map}
use Rattle.arrayvec.specs.ArrayString.{ArrayString}
use Rattle.ecam_spec.specs.Book.{Text}
use Rattle.ecam_spec.specs.Bytes.{same_text}
use Rattle.ecam_spec.specs.TermText.{TermNames}
use Rattle.term_tree.specs.declared.cond.Cond.{Cond}
use Rattle.term_tree.specs.declared.named_term.NamedTerm.{NamedTerm}
use Rattle.term_tree.specs.View.{named_terms}
use Rattle.term_text.specs.declared.names.Names.{Names}

-- the texts of some names
abbrev pub texts_of : List ArrayString → List Text
texts_of names = map (λ n. n.bytes) names

-- the first condition of this name
abbrev pub first_named : List NamedTerm → Text → Option Cond
first_named terms name = option_map (λ t. t.cond) (find (λ t. same_text name t.name.bytes) terms)

-- the lists of names
abbrev pub known_names : Names → TermNames
known_names n = record { parameters = texts_of n.params.now; alerts = texts_of n.alerts.now; terms = named_terms n.terms.now }
