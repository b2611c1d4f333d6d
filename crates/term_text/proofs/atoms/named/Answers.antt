use Rattle.std.proofs.Common.{refl, sym, ap, ◌∙◌}
use Rattle.std.specs.Prelude.{option_map}
use Rattle.std.proofs.lemmas.Result.{IfOk-weaker}
use Rattle.ecam_spec.specs.Book.{discrete, constant}
use Rattle.ecam_spec.specs.Grammar.{name_of}
use Rattle.ecam_spec.specs.TermSize.{nodes, depth}
use Rattle.ecam_spec.specs.TermText.{name_place, tree_named}
use Rattle.term_tree.specs.View.{tree_of}
use Rattle.term_tree.proofs.Views.{tree_of-Disc, tree_of-Const}
use Rattle.term_text.specs.Parts.{Judges, JudgesForm}
use Rattle.term_text.proofs.NamesAlone.{stands_for_parameter, stands_for_term, known_judged, unknown_judged}
use Rattle.term_text.proofs.atoms.named.Goals as goal

pub returns-in-Some : goal.returns-in-Some
unfolding depth nodes
returns-in-Some g c =
    let names = g.D.Dictionary.known c.args.names.now in
    let text = c.args.text.now in
    let p = c.in-Some.param in
    let place = ap (name_place names.parameters) (sym c.bytes_of-word.ensures) ∙ sym c.param.ensures ∙ c.in-Some.is in
    known_judged names text c.args.name c.atom.result (discrete p) (stands_for_parameter names text c.args.name p place)
    (c.atom.ensures (discrete p) refl refl (λ none. tree_of-Disc p))

pub returns-in-Some-term : goal.returns-in-Some-term
returns-in-Some-term g c =
    let names = g.D.Dictionary.known c.args.names.now in
    let text = c.args.text.now in
    let n = c.args.name in
    let tree = tree_of c.in-Some-term.cond.now in
    let place = ap (name_place names.parameters) (sym c.bytes_of-word.ensures) ∙ sym c.param.ensures ∙ c.in_default.is in
    let found = ap (tree_named names.terms) (sym c.bytes_of-word.ensures) ∙ sym c.term.ensures ∙ ap (option_map (λ x. tree_of x.now)) c.in-Some-term.is in
    IfOk-weaker c.copy_of.result (λ p. Judges p _ tree) (λ p. JudgesForm names text p (name_of n))
    (λ p h. known_judged names text n p tree (stands_for_term names text n place _ found) h) c.copy_of.ensures

pub returns-in-None : goal.returns-in-None
unfolding depth nodes
returns-in-None g c =
    let names = g.D.Dictionary.known c.args.names.now in
    let text = c.args.text.now in
    let n = c.args.name in
    let place = ap (name_place names.parameters) (sym c.bytes_of-word.ensures) ∙ sym c.param.ensures ∙ c.in_default.is in
    let found = ap (tree_named names.terms) (sym c.bytes_of-word.ensures) ∙ sym c.term.ensures ∙ ap (option_map (λ x. tree_of x.now)) c.in-None.is in
    unknown_judged names text n c.atom-in-None.result (stands_for_term names text n place _ found)
    (c.atom-in-None.ensures (constant _) refl refl (λ none. tree_of-Const _))
