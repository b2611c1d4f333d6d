use Rattle.std.proofs.Common.{Option, Some, None, refl, sym, ap, ◌∙◌, arith, ◌≡◌}
use Rattle.std.specs.Prelude.{option_map}
use Rattle.std.specs.Borrow.{Bor}
use Rattle.term_tree.specs.declared.cond.Cond.{Cond}
use Rattle.term_tree.specs.View.{tree_of}
use Rattle.term_text.proofs.NamedTerms.{named_tree_found, long_name_unknown}
use Rattle.term_text.proofs.names.term_of.Goals as goal

of_reference : (r : Option (Bor Cond)) → option_map (λ c. tree_of c.now) r ≡ option_map tree_of (option_map (λ c. c.now) r)
of_reference None = refl
of_reference (Some c) = refl

pub returns-then-name-gt-NAME : goal.returns-then-name-gt-NAME
returns-then-name-gt-NAME c = sym (long_name_unknown c.args.terms.now c.args.name.now (omega arith))

pub returns : goal.returns
returns c =
    of_reference c.first_of.result
    ∙ ap (option_map tree_of) c.first_of.ensures
    ∙ sym (named_tree_found c.args.terms.now c.args.name.now (omega arith))
